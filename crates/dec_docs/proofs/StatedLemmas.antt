-- What is stated with more rows.
use Rattle.std.proofs.Common.{◌≡◌, ◌∙◌, List, [], ◌++◌, Option, refl, sym, ap, append_assoc, append-nil}
use Rattle.std.specs.List.{flat_map}
use Rattle.std.proofs.lemmas.Grind.{flat_map-append}
use Rattle.doc_reading.specs.Reading.{last_or}
use Rattle.doc_reading.proofs.Turns.{last_or-append}
use Rattle.dec_docs.specs.declared.package.Stated.{Stated}
use Rattle.dec_docs.specs.declared.rows.DecRow.{DecRow}
use Rattle.dec_docs.specs.Package.{name_in, guid_in, row_said, with_rows}

last_join : {R : Type 0} (f : DecRow → List R) (o : Option R) (xs ys : List DecRow) → last_or (last_or o (flat_map f xs)) (flat_map f ys) ≡ last_or o (flat_map f (xs ++ ys))
last_join f o xs ys = sym (ap (last_or o) (flat_map-append f xs ys) ∙ last_or-append o (flat_map f xs) (flat_map f ys))

list_join : {R : Type 0} (f : DecRow → List R) (old : List R) (xs ys : List DecRow) → (old ++ flat_map f xs) ++ flat_map f ys ≡ old ++ flat_map f (xs ++ ys)
list_join f old xs ys = append_assoc old (flat_map f xs) (flat_map f ys) ∙ ap (λ zs. old ++ zs) (sym (flat_map-append f xs ys))

-- some rows, and then others
pub rows_join : (s : Stated) (xs ys : List DecRow) → with_rows (with_rows s xs) ys ≡ with_rows s (xs ++ ys)
unfolding with_rows
rows_join s xs ys = rw (last_join name_in s.name xs ys, last_join guid_in s.guid xs ys, list_join row_said s.rows xs ys) refl

-- no rows
pub rows_none : (s : Stated) → s ≡ with_rows s []
unfolding with_rows
rows_none s = rw (append-nil s.rows) refl
