use Rattle.std.proofs.Common.{◌≡◌, ◌++◌, true, take}
use Rattle.std.specs.List.{list_all}
use Rattle.packed_values.specs.Parts.{encodings}
use Rattle.packed_values.proofs.parts.RowsEncode.encode.Given as goal

abbrev pub invariant-loop-item : goal.invariant-loop-item
invariant-loop-item g l = record {
  bytes : l.out.items ≡ l.initial.out.items ++ encodings g.T.Encode.encoding (take l.item-index l.item-items);
  values : list_all (g.T.Encode.encoding).is_value (take l.item-index l.item-items) ≡ true;
}
