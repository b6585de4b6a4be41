-- One line more.
use Rattle.std.proofs.Common.{◌≡◌, ◌∙◌, List, [], ◌∷◌, ◌++◌, Some, None, Result, Ok, sym, ap, subst, append-nil}
use Rattle.std.specs.List.{flat_map}
use Rattle.std.proofs.lemmas.Grind.{flat_map-append}
use Rattle.build_base.specs.declared.fault.Fault.{Fault}
use Rattle.build_base.specs.declared.lines.Taken.{Taken}
use Rattle.doc_reading.specs.Reading.{last_of}
use Rattle.doc_reading.proofs.Turns.{last_or-append}
use Rattle.doc_reading.specs.declared.document.Document.{Document}
use Rattle.doc_reading.specs.Grammar.{Read, entered, gave, scopes_in, scopes_above, rows_in, rows_of, entry_read}
use Rattle.doc_reading.specs.Holding.{Held}

scopes_more : {S R : Type 0} (above : List (Read S R)) (one : Read S R) → flat_map scopes_in (above ++ one ∷ []) ≡ flat_map scopes_in above ++ scopes_in one
scopes_more above one = flat_map-append scopes_in above (one ∷ []) ∙ ap (λ xs. flat_map scopes_in above ++ xs) (append-nil (scopes_in one))

-- the scopes are those of the heads
pub scopes_begun : {S R : Type 0} (above : List (Read S R)) (at : _) (scopes : List S) → scopes_above {R = R} (above ++ entered at scopes ∷ []) ≡ Some scopes
scopes_begun above at scopes = ap last_of (scopes_more above (entered at scopes)) ∙ last_or-append None (flat_map scopes_in above) (scopes ∷ [])

-- with the rows of one line more
pub rows_more : {S R : Type 0} (above : List (Read S R)) (rows : List R) → rows_of {S = S} (above ++ gave rows ∷ []) ≡ rows_of above ++ rows
rows_more above rows = flat_map-append rows_in above (gave rows ∷ []) ∙ ap (λ xs. flat_map rows_in above ++ xs) (append-nil rows)

-- heads give none
pub rows_same : {S R : Type 0} (above : List (Read S R)) (at : _) (scopes : List S) → rows_of {R = R} (above ++ entered at scopes ∷ []) ≡ rows_of above
rows_same above at scopes = flat_map-append rows_in above (entered at scopes ∷ []) ∙ append-nil (flat_map rows_in above)

-- what a document holds below heads
pub held_begun : {S R F : Type 0} (holds : List (Read S R) → F → Type 0) (above : List (Read S R)) (line : Taken) (outcome : Result (List S) Fault) (scopes : List S) (new : Document S F)
    → outcome ≡ Ok scopes → new.scopes ≡ Some scopes → holds (above ++ entered line.at scopes ∷ []) new.format → Held holds (above ++ entry_read line outcome) new
held_begun holds above line outcome scopes new o s h =
    subst (λ z. Held holds (above ++ entry_read line z) new) (sym o)
    (record { scopes = s ∙ sym (scopes_begun above line.at scopes); format = h })
