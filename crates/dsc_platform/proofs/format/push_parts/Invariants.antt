use Rattle.std.proofs.Common.{◌≡◌, ◌++◌}
use Rattle.dsc_platform.proofs.format.push_parts.Given as goal

abbrev pub invariant-loop-part : goal.invariant-loop-part
invariant-loop-part l = l.parts.items ≡ l.fn.parts.items ++ l.yielded
