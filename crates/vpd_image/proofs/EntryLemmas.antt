-- Tables of rows, from the last one on, and of the rows that lines leave.
use Rattle.std.proofs.Common.{arith, ◌≡◌, ◌∙◌, ℕ, ◌+◌, ◌<◌, Bool, true, false, cond, List, [], ◌∷◌, ◌++◌, length, drop, get_or, reverse, Option, Some, None, refl, sym, ap}
use Rattle.std.specs.Prelude.{find}
use Rattle.std.specs.Global.{Vec}
use Rattle.std.specs.HashMap.{HashMap, get}
use Rattle.std.proofs.lemmas.Option.{slice_get-get_or}
use Rattle.std.proofs.lemmas.List.{drop_all, reverse-append}
use Rattle.build_base.proofs.Steps.{head_drop}
use Rattle.doc_types.specs.declared.arch.Arch.{Arch}
use Rattle.doc_types.specs.declared.platform.PcdLine.{PcdLine}
use Rattle.doc_types.specs.declared.values.PcdRow.{PcdRow}
use Rattle.vpd_image.specs.Entries.{Entry, is_row_of, counts, line_label, row_left, with_row, entry_in, entries}
use Rattle.vpd_image.specs.Tables.{same_key, row_at, IsTableFrom, IsLeft}

found_here : {X : Type 0} (p : X → Bool) (x : X) (xs rest : List X) (i : ℕ) (held : Option ℕ) (b : Bool) → p x ≡ b → row_at xs (Some i) ≡ Some x → row_at xs held ≡ find p rest
    → row_at xs (cond b (Some i) held) ≡ find p (x ∷ rest)
found_here p x xs rest i held true e here h = here ∙ sym (ap (λ b. cond b (Some x) (find p rest)) e)
found_here p x xs rest i held false e here h = h ∙ sym (ap (λ b. cond b (Some x) (find p rest)) e)

-- one row more before them
pub table_more : {S : Type 0} (rows : List PcdRow) (n m : ℕ) (row : PcdRow) (old new : HashMap (Vec ℕ) ℕ S) → m ≡ n + 1 → n < length rows → row ≡ get_or rows n row
    → ((key : Vec ℕ) → get same_key new key ≡ cond (is_row_of key.items row) (Some n) (get same_key old key)) → IsTableFrom rows m old → IsTableFrom rows n new
table_more rows n m row old new e h is put table = λ key.
    ap (row_at rows) (put key)
    ∙ found_here (is_row_of key.items) row rows (drop (n + 1) rows) n (get same_key old key) (is_row_of key.items row) refl
    (slice_get-get_or rows n row h ∙ ap (λ (r : PcdRow). Some r) (sym is)) (table key ∙ ap (λ k. find (is_row_of key.items) (drop k rows)) e)
    ∙ sym (ap (find (is_row_of key.items)) (head_drop rows n row h is))

one_reversed : (arches : List Arch) (rows : List PcdRow) (below : List PcdLine) (line : PcdLine) → reverse (entry_in arches rows below line) ≡ entry_in arches rows below line
unfolding entry_in
one_reversed arches rows below line = by_count (counts arches line) (row_left arches rows below (line_label line))
  where
    by_count : (b : Bool) (row : Option PcdRow) → reverse (cond b (with_row line row) []) ≡ cond b (with_row line row) []
    by_count false row = refl
    by_count true None = refl
    by_count true (Some r) = refl

-- the entries from the last line on
pub entries_more : (arches : List Arch) (rows : List PcdRow) (lines : List PcdLine) (n m : ℕ) (line : PcdLine) (old : List Entry) → m ≡ n + 1 → n < length lines → line ≡ get_or lines n line
    → old ≡ reverse (entries arches rows (drop m lines)) → old ++ entry_in arches rows (drop m lines) line ≡ reverse (entries arches rows (drop n lines))
unfolding entries
entries_more arches rows lines n m line old e h is o =
    ap (λ z. z ++ entry_in arches rows (drop m lines) line) o
    ∙ ap (λ z. reverse (entries arches rows (drop m lines)) ++ z) (sym (one_reversed arches rows (drop m lines) line))
    ∙ sym (reverse-append (entry_in arches rows (drop m lines) line) (entries arches rows (drop m lines)))
    ∙ ap (λ k. reverse (entry_in arches rows (drop k lines) line ++ entries arches rows (drop k lines))) e
    ∙ ap (λ z. reverse (entries arches rows z)) (sym (head_drop lines n line h is))

pub left_drop : {S : Type 0} (arches : List Arch) (rows : List PcdRow) (lines : List PcdLine) (n m : ℕ) (line : PcdLine) (table : HashMap (Vec ℕ) ℕ S) → m ≡ n + 1 → n < length lines → line ≡ get_or lines n line
    → IsLeft arches rows (line ∷ drop m lines) table → IsLeft arches rows (drop n lines) table
left_drop arches rows lines n m line table e h is left = λ key.
    left key ∙ ap (λ k. row_left arches rows (line ∷ drop k lines) key.items) e ∙ ap (λ z. row_left arches rows z key.items) (sym (head_drop lines n line h is))

-- below the last line each name has its first row, and there are no entries
pub left_none : {S : Type 0} (arches : List Arch) (rows : List PcdRow) (lines : List PcdLine) (table : HashMap (Vec ℕ) ℕ S) → IsTableFrom rows 0 table → IsLeft arches rows (drop (length lines) lines) table
left_none arches rows lines table h = λ key. h key ∙ ap (λ z. row_left arches rows z key.items) (sym (drop_all (length lines) lines (omega arith)))

pub entries_none : (arches : List Arch) (rows : List PcdRow) (lines : List PcdLine) → [] ≡ reverse (entries arches rows (drop (length lines) lines))
unfolding entries
entries_none arches rows lines = ap (λ z. reverse (entries arches rows z)) (sym (drop_all (length lines) lines (omega arith)))
