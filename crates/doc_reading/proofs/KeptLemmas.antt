-- What holds of all that lines come to, where each line keeps it.
use Rattle.std.proofs.Common.{◌≡◌, ◌∙◌, Bool, true, false, if◌then◌else◌, List, [], ◌∷◌, ◌++◌, fold, Option, Some, None, Result, Ok, Err, refl, sym, ap, subst, append-nil, append_assoc}
use Rattle.build_base.specs.First.{or_else, unless}
use Rattle.build_base.specs.declared.fault.Fault.{Fault}
use Rattle.build_base.specs.declared.lines.Taken.{Taken}
use Rattle.meta_lexer.specs.declared.head.Head.{Head}
use Rattle.doc_reading.specs.declared.form.LineForm.{LineForm}
use Rattle.doc_reading.specs.declared.form.LineForm.TheVariants.{Blank, Heads, OpenHead, BadHead, Body}
use Rattle.doc_reading.specs.Forms.{form_of}
use Rattle.doc_reading.specs.Grammar.{Grammar, Read, entered, gave, scopes_above, heads_entered, rows_given, body_given, entry_read, body_read, form_read, more_read, read_of, form_fault, open_fault, end_fault, fault_as, line_fault, first_fault}
use Rattle.doc_reading.specs.Least.{lesser, fault_in}
use Rattle.doc_reading.specs.Reading.{is_empty, lines_fault}
use Rattle.doc_reading.proofs.FaultlessLemmas.{both_none}

-- a property of what lines come to, and that each line keeps it
pub record Keeps {S R : Type 0} (g : Grammar S R) (holds : List (Read S R) → Type 0) : Type 0 where
  pub none : holds []
  pub heads : (above : List (Read S R)) (line : Taken) (heads : List Head) (scopes : List S) → holds above → g.at_heads above line heads ≡ None
      → heads_entered g line heads ≡ Ok scopes → holds (above ++ entered line.at scopes ∷ [])
  pub rows : (above : List (Read S R)) (line : Taken) (scopes : List S) (rows : List R) → holds above → rows_given g above line scopes ≡ Ok rows
      → holds (above ++ gave rows ∷ [])

same_after : {S R : Type 0} (holds : List (Read S R) → Type 0) (above : List (Read S R)) → holds above → holds (above ++ [])
same_after holds above h = subst holds (sym (append-nil above)) h

with_heads : {S R : Type 0} (g : Grammar S R) (holds : List (Read S R) → Type 0) (k : Keeps g holds) (above : List (Read S R)) (line : Taken) (heads : List Head)
    (outcome : Result (List S) Fault) → holds above → g.at_heads above line heads ≡ None → heads_entered g line heads ≡ outcome → fault_in outcome ≡ None
    → holds (above ++ entry_read line outcome)
with_heads g holds k above line heads (Ok scopes) h a o f = k.heads above line heads scopes h a o
with_heads g holds k above line heads (Err fault) h a o f = absurd cc

with_rows : {S R : Type 0} (g : Grammar S R) (holds : List (Read S R) → Type 0) (k : Keeps g holds) (above : List (Read S R)) (line : Taken) (scopes : List S)
    (outcome : Result (List R) Fault) → holds above → rows_given g above line scopes ≡ outcome → fault_in outcome ≡ None → holds (above ++ body_read outcome)
with_rows g holds k above line scopes (Ok rows) h o f = k.rows above line scopes rows h o
with_rows g holds k above line scopes (Err fault) h o f = absurd cc

with_body : {S R : Type 0} (g : Grammar S R) (holds : List (Read S R) → Type 0) (k : Keeps g holds) (above : List (Read S R)) (line : Taken) (scopes : Option (List S))
    → holds above → fault_in (body_given g above line scopes) ≡ None → holds (above ++ body_read (body_given g above line scopes))
with_body g holds k above line None h f = absurd cc
with_body g holds k above line (Some scopes) h f = with_rows g holds k above line scopes (rows_given g above line scopes) h refl f

with_form : {S R : Type 0} (g : Grammar S R) (holds : List (Read S R) → Type 0) (k : Keeps g holds) (above : List (Read S R)) (line : Taken) (last : Bool) (form : LineForm)
    → holds above → fault_as g above line last form ≡ None → holds (above ++ form_read g above line form)
with_form g holds k above line last Blank h f = same_after holds above h
with_form g holds k above line last (Heads heads) h f =
    let apart = both_none (form_fault g above line (Heads heads)) (open_fault g above line last (Heads heads)) f in
    let end = end_fault g (above ++ form_read g above line (Heads heads)) line last in
    with_heads g holds k above line heads (heads_entered g line heads) h (both_none (g.at_heads above line heads) end apart.1).0 refl apart.0
with_form g holds k above line last OpenHead h f = same_after holds above h
with_form g holds k above line last BadHead h f = same_after holds above h
with_form g holds k above line last Body h f =
    with_body g holds k above line (scopes_above above) h (both_none (form_fault g above line Body) (open_fault g above line last Body) f).0

first_none : {T : Type 0} (first second : Option T) → or_else first second ≡ None → first ≡ None
first_none None second e = refl
first_none (Some x) second e = absurd cc

second_none : {T : Type 0} (first second : Option T) → or_else first second ≡ None → second ≡ None
second_none None second e = e
second_none (Some x) second e = absurd cc

read_more : {S R : Type 0} (g : Grammar S R) (start : List (Read S R)) (above : List Taken) (line : Taken)
    → fold (more_read g) start (above ++ line ∷ []) ≡ more_read g (fold (more_read g) start above) line
read_more g start [] line = refl
read_more g start (l ∷ above) line = read_more g (more_read g start l) above line

kept_below : {S R : Type 0} (g : Grammar S R) (holds : List (Read S R) → Type 0) (k : Keeps g holds) (above lines : List Taken) → holds (read_of g above)
    → lines_fault (line_fault g) above lines ≡ None → holds (read_of g (above ++ lines))
kept_below g holds k above [] h f = subst (λ ls. holds (read_of g ls)) (sym (append-nil above)) h
kept_below g holds k above (line ∷ lines) h f =
    let here = line_fault g above line (is_empty lines) in
    let below = lines_fault (line_fault g) (above ++ line ∷ []) lines in
    subst (λ ls. holds (read_of g ls)) (append_assoc above (line ∷ []) lines)
    (kept_below g holds k (above ++ line ∷ []) lines
    (subst holds (sym (read_more g [] above line)) (with_form g holds k (read_of g above) line (is_empty lines) (form_of line.text) h (first_none here below f)))
    (second_none here below f))

-- what each line keeps holds of what all lines come to, where none has a fault
pub kept_of : {S R : Type 0} (g : Grammar S R) (holds : List (Read S R) → Type 0) → Keeps g holds → (lines : List Taken) → first_fault g lines ≡ None
    → holds (read_of g lines)
kept_of g holds k lines e = kept_below g holds k [] lines k.none e

-- the value of an outcome without a fault
pub unless_value : {T : Type 0} (fault : Option Fault) (value result : T) → unless fault value ≡ Ok result → value ≡ result
unless_value None value result e = cc
unless_value (Some fault) value result e = absurd cc
