-- What holds of each row of a line without a fault holds of all rows of a document.
use Rattle.std.specs.List.{AllByRecursion, flat_map}
use Rattle.std.proofs.Common.{◌≡◌, List, [], ◌∷◌, ◌++◌, fold, map, Option, Some, None, Result, Ok, Err, refl, sym, subst}
use Rattle.std.proofs.lemmas.Grind.{flat_map-append}
use Rattle.build_base.specs.First.{unless}
use Rattle.build_base.specs.declared.fault.Fault.{Fault}
use Rattle.build_base.specs.declared.lines.Taken.{Taken}
use Rattle.doc_reading.specs.declared.form.LineForm.{LineForm}
use Rattle.doc_reading.specs.declared.form.LineForm.TheVariants.{Blank, Heads, OpenHead, BadHead, Body}
use Rattle.doc_reading.specs.Forms.{form_of}
use Rattle.doc_reading.specs.Gathering.{given_in, least_in}
use Rattle.doc_reading.specs.Grammar.{Grammar, Read, rows_of, rows_in, outcome_of, heads_entered, body_given, entry_read, body_read, form_read, more_read, read_of, scopes_above}
use Rattle.doc_reading.specs.Least.{least_of}
use Rattle.doc_reading.specs.Reading.{last_or}
use Rattle.module_faults.proofs.PartLemmas.{Holds}
use Rattle.job_fields.proofs.LineLemmas.{both_all}

pub front_all : {X : Type 0} (P : X → Type 0) (xs ys : List X) → AllByRecursion P (xs ++ ys) → AllByRecursion P xs
front_all P [] ys h = tt
front_all P (x ∷ xs) ys h = (h.0, front_all P xs ys h.1)

pub behind_all : {X : Type 0} (P : X → Type 0) (xs ys : List X) → AllByRecursion P (xs ++ ys) → AllByRecursion P ys
behind_all P [] ys h = h
behind_all P (x ∷ xs) ys h = behind_all P xs ys h.1

-- of what each item gives
pub mapped_all : {X Y : Type 0} (P : X → Type 0) (Q : Y → Type 0) (f : X → List Y) → ((x : X) → P x → AllByRecursion Q (f x)) → (xs : List X) → AllByRecursion P xs → AllByRecursion Q (flat_map f xs)
mapped_all P Q f n [] h = tt
mapped_all P Q f n (x ∷ xs) h = both_all Q (f x) (flat_map f xs) (n x h.0) (mapped_all P Q f n xs h.1)

-- the last of some
pub last_holds : {X : Type 0} (P : X → Type 0) (o : Option X) (xs : List X) → Holds P o → AllByRecursion P xs → Holds P (last_or o xs)
last_holds P o [] h all = h
last_holds P o (x ∷ xs) h all = last_holds P (Some x) xs all.0 all.1

-- what a grammar's rows have, where their lines have no fault
abbrev pub RowsHave : {S R : Type 0} → Grammar S R → (R → Type 0) → Type 0
RowsHave {S} {R} g P = (above : List (Read S R)) (line : Taken) (scope : S) → least_of (g.faults above line scope) ≡ None → Holds P (g.row_of above line scope)

one_has : {S R : Type 0} (g : Grammar S R) (P : R → Type 0) → RowsHave g P → (above : List (Read S R)) (line : Taken) (scope : S) → AllByRecursion P (given_in (outcome_of g above line scope))
one_has {S} {R} g P n above line scope = by (least_of (g.faults above line scope)) (g.row_of above line scope) (n above line scope)
  where
    by : (fault : Option Fault) (row : Option R) → (fault ≡ None → Holds P row) → AllByRecursion P (given_in (unless fault row))
    by None None h = tt
    by None (Some row) h = (h refl, tt)
    by (Some fault) row h = tt

scopes_have : {S R : Type 0} (g : Grammar S R) (P : R → Type 0) → RowsHave g P → (above : List (Read S R)) (line : Taken) (scopes : List S) → AllByRecursion P (flat_map given_in (map (outcome_of g above line) scopes))
scopes_have g P n above line [] = tt
scopes_have g P n above line (scope ∷ scopes) =
    both_all P (given_in (outcome_of g above line scope)) (flat_map given_in (map (outcome_of g above line) scopes)) (one_has g P n above line scope) (scopes_have g P n above line scopes)

rows_with : (S : Type 0) {R : Type 0} (P : R → Type 0) (fault : Option Fault) (rows : List R) → AllByRecursion P rows → AllByRecursion P (rows_of (body_read {S = S} (unless fault rows)))
rows_with S P None rows h = both_all P rows [] h tt
rows_with S P (Some fault) rows h = tt

body_has : {S R : Type 0} (g : Grammar S R) (P : R → Type 0) → RowsHave g P → (above : List (Read S R)) (line : Taken) (scopes : Option (List S)) → AllByRecursion P (rows_of (body_read {S = S} (body_given g above line scopes)))
body_has g P n above line None = tt
body_has {S} g P n above line (Some scopes) =
    rows_with S P (least_in (map (outcome_of g above line) scopes)) (flat_map given_in (map (outcome_of g above line) scopes)) (scopes_have g P n above line scopes)

heads_have : {S R : Type 0} (P : R → Type 0) (line : Taken) (scopes : Result (List S) Fault) → AllByRecursion P (rows_of (entry_read {S = S} {R = R} line scopes))
heads_have P line (Ok scopes) = tt
heads_have P line (Err fault) = tt

form_has : {S R : Type 0} (g : Grammar S R) (P : R → Type 0) → RowsHave g P → (above : List (Read S R)) (line : Taken) (form : LineForm) → AllByRecursion P (rows_of (form_read g above line form))
form_has g P n above line Blank = tt
form_has g P n above line (Heads heads) = heads_have P line (heads_entered g line heads)
form_has g P n above line OpenHead = tt
form_has g P n above line BadHead = tt
form_has g P n above line Body = body_has g P n above line (scopes_above above)

more_have : {S R : Type 0} (g : Grammar S R) (P : R → Type 0) → RowsHave g P → (above : List (Read S R)) (lines : List Taken) → AllByRecursion P (rows_of above) → AllByRecursion P (rows_of (fold (more_read g) above lines))
more_have g P n above [] h = h
more_have g P n above (line ∷ lines) h =
    let here = form_read g above line (form_of line.text) in
    more_have g P n (above ++ here) lines
    (subst (AllByRecursion P) (sym (flat_map-append rows_in above here)) (both_all P (rows_of above) (rows_of here) h (form_has g P n above line (form_of line.text))))

-- so all rows have it
pub rows_have : {S R : Type 0} (g : Grammar S R) (P : R → Type 0) → RowsHave g P → (lines : List Taken) → AllByRecursion P (rows_of (read_of g lines))
rows_have g P n lines = more_have g P n [] lines tt
