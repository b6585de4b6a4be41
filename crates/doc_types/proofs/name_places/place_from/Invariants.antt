use Rattle.std.proofs.Common.{◌≡◌, ◌<◌, fold, drop}
use Rattle.doc_types.specs.NamePlaces.{step}
use Rattle.doc_types.proofs.name_places.place_from.Given as goal

abbrev pub invariant-loop-byte : goal.invariant-loop-byte
invariant-loop-byte l = record {
  below : l.place < 2048;
  left : fold step l.place (drop l.byte-index l.bytes) ≡ fold step l.start l.bytes;
}
