-- What stands open, with one line more.
use Rattle.std.proofs.Common.{◌≡◌, ◌∙◌, Bool, false, List, [], ◌∷◌, ◌++◌, fold, refl, sym, ap, append-nil}
use Rattle.std.specs.List.{flat_map}
use Rattle.std.proofs.lemmas.Grind.{flat_map-append}
use Rattle.build_base.specs.declared.fault.Place.{Place}
use Rattle.doc_reading.specs.Grammar.{Read, entered, gave}
use Rattle.fdf_words.specs.declared.rows.Row.{Row}
use Rattle.fdf_words.specs.declared.rows.Scope.{Scope}
use Rattle.fdf_words.specs.declared.marks.Marks.{Marks}
use Rattle.fdf_words.specs.declared.marks.Open.{Open}
use Rattle.fdf_words.specs.declared.marks.Waiting.{Waiting}
use Rattle.fdf_lines.specs.Standing.{last_mark, marks_in, left_by, open_marks, waiting_marks, pair_marks, unfiled_marks, open_begun, waiting_begun, pair_begun, has_rule, has_volume, no_marks, volume_below, marks_below, marks_begun, marks_with}

last_join : {M : Type 0} (mark : M) (xs ys : List M) → last_mark mark (xs ++ ys) ≡ last_mark (last_mark mark xs) ys
last_join mark [] ys = refl
last_join mark (x ∷ xs) ys = last_join x xs ys

-- heads leave one mark
left_begun : {M : Type 0} (first : M) (begun : List Scope → M) (marks : Row → List M) (above : List (Read Scope Row)) (at : Place) (scopes : List Scope)
    → left_by first begun marks (above ++ entered at scopes ∷ []) ≡ begun scopes
left_begun first begun marks above at scopes =
    ap (last_mark first) (flat_map-append (marks_in begun marks) above (entered at scopes ∷ []))
    ∙ last_join first (flat_map (marks_in begun marks) above) (begun scopes ∷ [])

-- rows leave those that they tell
left_more : {M : Type 0} (first : M) (begun : List Scope → M) (marks : Row → List M) (above : List (Read Scope Row)) (rows : List Row)
    → left_by first begun marks (above ++ gave rows ∷ []) ≡ last_mark (left_by first begun marks above) (flat_map marks rows)
left_more first begun marks above rows =
    ap (last_mark first) (flat_map-append (marks_in begun marks) above (gave rows ∷ []))
    ∙ ap (λ ms. last_mark first (flat_map (marks_in begun marks) above ++ ms)) (append-nil (flat_map marks rows))
    ∙ last_join first (flat_map (marks_in begun marks) above) (flat_map marks rows)

abbrev marks_of : Open → Waiting → Bool → Bool → Marks
marks_of braces waiting pair unfiled = record { braces = braces; waiting = waiting; pair = pair; unfiled = unfiled }

same_marks : (a b : Open) (c d : Waiting) (e f g h : Bool) → a ≡ b → c ≡ d → e ≡ f → g ≡ h → marks_of a c e g ≡ marks_of b d f h
same_marks a b c d e f g h p q r s = rw p (rw q (rw r (rw s refl)))

pub marks_begin : (above : List (Read Scope Row)) (at : Place) (scopes : List Scope) → marks_below (above ++ entered at scopes ∷ []) ≡ marks_begun scopes
marks_begin above at scopes =
    same_marks _ _ _ _ _ _ _ _
    (left_begun _ open_begun open_marks above at scopes)
    (left_begun _ waiting_begun waiting_marks above at scopes)
    (left_begun _ pair_begun pair_marks above at scopes)
    (left_begun _ has_rule unfiled_marks above at scopes)

open_fold : (marks : Marks) (rows : List Row) → (fold marks_with marks rows).braces ≡ last_mark marks.braces (flat_map open_marks rows)
open_fold marks [] = refl
open_fold marks (r ∷ rows) = open_fold (marks_with marks r) rows ∙ sym (last_join marks.braces (open_marks r) (flat_map open_marks rows))

waiting_fold : (marks : Marks) (rows : List Row) → (fold marks_with marks rows).waiting ≡ last_mark marks.waiting (flat_map waiting_marks rows)
waiting_fold marks [] = refl
waiting_fold marks (r ∷ rows) = waiting_fold (marks_with marks r) rows ∙ sym (last_join marks.waiting (waiting_marks r) (flat_map waiting_marks rows))

pair_fold : (marks : Marks) (rows : List Row) → (fold marks_with marks rows).pair ≡ last_mark marks.pair (flat_map pair_marks rows)
pair_fold marks [] = refl
pair_fold marks (r ∷ rows) = pair_fold (marks_with marks r) rows ∙ sym (last_join marks.pair (pair_marks r) (flat_map pair_marks rows))

unfiled_fold : (marks : Marks) (rows : List Row) → (fold marks_with marks rows).unfiled ≡ last_mark marks.unfiled (flat_map unfiled_marks rows)
unfiled_fold marks [] = refl
unfiled_fold marks (r ∷ rows) = unfiled_fold (marks_with marks r) rows ∙ sym (last_join marks.unfiled (unfiled_marks r) (flat_map unfiled_marks rows))

of_fields : (marks : Marks) → marks_of marks.braces marks.waiting marks.pair marks.unfiled ≡ marks
of_fields marks = refl

pub marks_more : (above : List (Read Scope Row)) (rows : List Row) → marks_below (above ++ gave rows ∷ []) ≡ fold marks_with (marks_below above) rows
marks_more above rows =
    let old = marks_below above in
    same_marks _ _ _ _ _ _ _ _
    (left_more _ open_begun open_marks above rows ∙ sym (open_fold old rows))
    (left_more _ waiting_begun waiting_marks above rows ∙ sym (waiting_fold old rows))
    (left_more _ pair_begun pair_marks above rows ∙ sym (pair_fold old rows))
    (left_more _ has_rule unfiled_marks above rows ∙ sym (unfiled_fold old rows))
    ∙ of_fields (fold marks_with old rows)

pub volume_begin : (above : List (Read Scope Row)) (at : Place) (scopes : List Scope) → volume_below (above ++ entered at scopes ∷ []) ≡ has_volume scopes
volume_begin above at scopes = left_begun false has_volume no_marks above at scopes

no_marks_left : (mark : Bool) (rows : List Row) → last_mark mark (flat_map no_marks rows) ≡ mark
no_marks_left mark [] = refl
no_marks_left mark (r ∷ rows) = no_marks_left mark rows

pub volume_more : (above : List (Read Scope Row)) (rows : List Row) → volume_below (above ++ gave rows ∷ []) ≡ volume_below above
volume_more above rows = left_more false has_volume no_marks above rows ∙ no_marks_left (volume_below above) rows
