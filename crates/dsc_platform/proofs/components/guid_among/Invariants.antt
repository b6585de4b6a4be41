use Rattle.std.proofs.Common.{◌≡◌, drop}
use Rattle.std.specs.List.{flat_map}
use Rattle.doc_reading.specs.Reading.{last_or, last_of}
use Rattle.dsc_platform.specs.Cutting.{guid_for}
use Rattle.dsc_platform.proofs.components.guid_among.Given as goal

abbrev pub invariant-loop-part : goal.invariant-loop-part
invariant-loop-part l = last_or l.found (flat_map (guid_for l.arch) (drop l.part-index l.rest)) ≡ last_of (flat_map (guid_for l.arch) l.rest)
