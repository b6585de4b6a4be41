use Rattle.std.proofs.Common.{◌≡◌, ◌<◌, ◌^◌, drop}
use Rattle.ffs_sections.specs.Sizes.{parts_end}
use Rattle.ffs_sections.proofs.sections.parts_end.Given as goal

abbrev pub invariant-loop-part : goal.invariant-loop-part
invariant-loop-part l =
    (parts_end l.ffs3 l.place 0 l.parts ≡ parts_end l.ffs3 l.place l.end (drop l.part-index l.parts)) × (l.end < 2 ^ 63)
