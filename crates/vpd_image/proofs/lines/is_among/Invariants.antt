use Rattle.std.proofs.Common.{◌≡◌, drop}
use Rattle.std.specs.List.{list_any}
use Rattle.vpd_image.specs.Entries.{same_arch}
use Rattle.vpd_image.proofs.lines.is_among.Given as goal

abbrev pub invariant-loop-other : goal.invariant-loop-other
invariant-loop-other l = list_any (same_arch l.arch) (drop l.other-index l.arches) ≡ list_any (same_arch l.arch) l.arches
