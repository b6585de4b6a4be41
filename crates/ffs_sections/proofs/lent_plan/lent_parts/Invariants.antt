use Rattle.std.proofs.Common.{◌≡◌, take}
use Rattle.ffs_sections.proofs.lent_plan.lent_parts.Given as goal

abbrev pub invariant-loop-part : goal.invariant-loop-part
invariant-loop-part l = l.lent ≡ take l.part-index l.parts
