use Rattle.std.proofs.Common.{◌≡◌, ◌++◌, map, length}
use Rattle.std.specs.Char.{to_ascii_uppercase}
use Rattle.output_steps.proofs.outputs.push_name.Given as goal

abbrev pub invariant-loop-left : goal.invariant-loop-left
invariant-loop-left l = l.text.items ++ map to_ascii_uppercase l.left ≡ l.fn.text.items ++ map to_ascii_uppercase l.name

abbrev pub decreases-loop-left : goal.decreases-loop-left
decreases-loop-left l = length l.left
