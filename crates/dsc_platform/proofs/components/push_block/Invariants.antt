use Rattle.std.proofs.Common.{◌≡◌, ◌++◌, drop}
use Rattle.dsc_platform.specs.Cutting.{built}
use Rattle.dsc_platform.proofs.components.push_block.Given as goal

abbrev pub invariant-loop-part : goal.invariant-loop-part
invariant-loop-part l = l.components ++ built (drop l.part-index l.first) l.rest ≡ l.fn.components ++ built l.first l.rest
