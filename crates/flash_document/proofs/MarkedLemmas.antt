-- The first fault of parts, each with a mark: the step of a loop over both lists, and its end.
use Rattle.std.proofs.Common.{◌≡◌, ◌<◌, ◌-◌, Bool, true, false, List, [], ◌∷◌, length, get_or, take, drop, Option, Some, None, Result, Ok, Err, refl, sym, ◌∙◌, ap, arith}
use Rattle.std.proofs.lemmas.List.{take_all}
use Rattle.std.specs.Result.{is_err}
use Rattle.build_base.specs.Answer.{Checks, Finds}
use Rattle.build_base.specs.First.{or_else}
use Rattle.build_base.specs.declared.fault.Fault.{Fault}
use Rattle.build_base.specs.declared.refusal.Refusal.{Refusal}
use Rattle.build_base.specs.declared.refusal.Refusal.TheVariants.{Bad, WantOfMemory}
use Rattle.flash_document.specs.declared.stated.FdfSection.{FdfSection}
use Rattle.flash_document.specs.Whole.{first_marked}

none_passed : (o rest : Option Fault) → o ≡ None → or_else o rest ≡ rest
none_passed None rest e = refl
none_passed (Some fault) rest e = absurd (cc)

some_stops : (o rest : Option Fault) (fault : Fault) → o ≡ Some fault → or_else o rest ≡ Some fault
some_stops None rest fault e = absurd (cc)
some_stops (Some found) rest fault e = e

rest_of : {A : Type 0} (x : A) (xs : List A) → take (length (x ∷ xs) - 1) (drop 1 (x ∷ xs)) ≡ xs
rest_of x xs = take_all (length (x ∷ xs) - 1) xs (omega arith)

-- a part without a fault is passed
pub marked_passed : (f : Bool → FdfSection → Option Fault) (left : List FdfSection) (marks : List Bool) (part : FdfSection) (all : Option Fault) → 0 < length left → 0 < length marks → part ≡ get_or left 0 part → f (get_or marks 0 false) part ≡ None → first_marked f left marks ≡ all
    → first_marked f (take (length left - 1) (drop 1 left)) (take (length marks - 1) (drop 1 marks)) ≡ all
marked_passed f [] marks part all l m is none whole = absurd (omega arith)
marked_passed f (p ∷ ps) [] part all l m is none whole = absurd (omega arith)
marked_passed f (p ∷ ps) (b ∷ bs) part all l m is none whole =
    ap (λ z. first_marked f z (take (length (b ∷ bs) - 1) (drop 1 (b ∷ bs)))) (rest_of p ps) ∙ ap (first_marked f ps) (rest_of b bs)
    ∙ sym (none_passed (f b p) (first_marked f ps bs) (ap (f b) (sym is) ∙ none)) ∙ whole

finds_first : (e : Refusal) (o rest all : Option Fault) → Finds e o → or_else o rest ≡ all → Finds e all
finds_first (Bad fault) o rest all h whole = sym whole ∙ some_stops o rest fault h
finds_first WantOfMemory o rest all h whole = tt

checks_first : (r : Result (Unit {0}) Refusal) (o rest all : Option Fault) → is_err r ≡ true → Checks r o → or_else o rest ≡ all → Checks r all
checks_first (Ok x) o rest all err h whole = absurd (cc)
checks_first (Err e) o rest all err h whole = finds_first e o rest all h whole

-- the first fault that is found is that of the whole
pub marked_stops : (f : Bool → FdfSection → Option Fault) (left : List FdfSection) (marks : List Bool) (part : FdfSection) (all : Option Fault) (r : Result (Unit {0}) Refusal) → 0 < length left → 0 < length marks → part ≡ get_or left 0 part → is_err r ≡ true → Checks r (f (get_or marks 0 false) part) → first_marked f left marks ≡ all → Checks r all
marked_stops f [] marks part all r l m is err h whole = absurd (omega arith)
marked_stops f (p ∷ ps) [] part all r l m is err h whole = absurd (omega arith)
marked_stops f (p ∷ ps) (b ∷ bs) part all r l m is err h whole = checks_first r (f b p) (first_marked f ps bs) all err (rw (sym is) h) whole
