use Rattle.std.proofs.Common.{◌≡◌, take}
use Rattle.ffs_sections.specs.File.{greatest}
use Rattle.ffs_sections.proofs.file.greatest.Given as goal

abbrev pub invariant-loop-part : goal.invariant-loop-part
invariant-loop-part l = l.most ≡ greatest l.align (take l.part-index l.parts)
