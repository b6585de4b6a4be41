use Rattle.std.proofs.Common.{◌≡◌, ◌++◌, true, length}
use Rattle.std.specs.List.{list_all}
use Rattle.packed_values.specs.Parts.{encodings}
use Rattle.packed_values.proofs.parts.RowsEncode.decode.Given as goal

abbrev pub invariant-loop-at : goal.invariant-loop-at
invariant-loop-at g l = record {
  bytes : l.initial.input ≡ encodings g.T.Encode.encoding l.rows ++ l.input;
  values : list_all (g.T.Encode.encoding).is_value l.rows ≡ true;
  count : length l.rows ≡ l._at;
}
