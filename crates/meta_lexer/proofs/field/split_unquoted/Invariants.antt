use Rattle.std.proofs.Common.{◌≡◌, ◌≤◌, ◌++◌, take, drop, fold}
use Rattle.std.specs.List.{All}
use Rattle.meta_lexer.specs.Fields.{spans, pieces_outside, after, nothing_open, open_view, IsWithin}
use Rattle.meta_lexer.proofs.FieldLemmas.{spans_from}
use Rattle.meta_lexer.proofs.field.split_unquoted.Given as goal

abbrev pub invariant-loop-i : goal.invariant-loop-i
invariant-loop-i l = record {
  state : open_view l.open ≡ fold (after l.nests) nothing_open (take l.i l.text);
  few : l.open.depth ≤ l.i;
  started : l.start ≤ l.i;
  within : All (IsWithin l.text) l.found.items;
  so_far : l.found.items ++ spans_from l.start l.i (pieces_outside l.nests l.mark (open_view l.open) (drop l.i l.text)) ≡ spans 0 (pieces_outside l.nests l.mark nothing_open l.text);
}
