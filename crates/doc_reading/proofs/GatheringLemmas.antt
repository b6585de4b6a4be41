-- One outcome more.
use Rattle.std.proofs.Common.{◌≡◌, ◌∙◌, ℕ, List, [], ◌∷◌, ◌++◌, length, take, map, ◌≤◌, Option, Result, Ok, Err, sym, ap, append-nil, subst}
use Rattle.std.specs.List.{flat_map}
use Rattle.std.specs.Global.{Vec}
use Rattle.std.proofs.lemmas.Grind.{flat_map-append}
use Rattle.std.proofs.lemmas.List.{map-append, take_all}
use Rattle.build_base.specs.Answer.{AnswersAs, Checks, Finds, Refused}
use Rattle.build_base.specs.declared.fault.Fault.{Fault}
use Rattle.build_base.specs.declared.refusal.Refusal.{Refusal}
use Rattle.build_base.specs.declared.refusal.Refusal.TheVariants.{Bad, WantOfMemory}
use Rattle.doc_reading.specs.Least.{fault_in, lesser, least_of}
use Rattle.doc_reading.specs.declared.gathered.LineResult.{LineResult}
use Rattle.doc_reading.specs.Gathering.{given_in, least_in, gathered, Found, Gathers}
use Rattle.doc_reading.proofs.LeastLemmas.{lesser_none, least_push}

least_more : {T : Type 0} (above : List (Result (Option T) Fault)) (one : Result (Option T) Fault) → least_in (above ++ one ∷ []) ≡ lesser (least_in above) (fault_in one)
least_more above one = ap least_of (map-append fault_in above (one ∷ [])) ∙ least_push (map fault_in above) (fault_in one)

given_more : {T : Type 0} (above : List (Result (Option T) Fault)) (one : Result (Option T) Fault) → flat_map given_in (above ++ one ∷ []) ≡ flat_map given_in above ++ given_in one
given_more above one = flat_map-append given_in above (one ∷ []) ∙ ap (λ xs. flat_map given_in above ++ xs) (append-nil (given_in one))

no_more : {T : Type 0} (above : List (Result (Option T) Fault)) (value : Option T) → least_in (above ++ Ok value ∷ []) ≡ least_in above
no_more above value = least_more above (Ok value) ∙ lesser_none (least_in above)

with_value : {T : Type 0} (found : Result (Unit {0}) Refusal) (rows new : List T) (above : List (Result (Option T) Fault)) (value : Option T)
    → Found found (least_in above) (rows ≡ flat_map given_in above) → new ≡ rows ++ given_in (Ok value)
    → Found found (least_in (above ++ Ok value ∷ [])) (new ≡ flat_map given_in (above ++ Ok value ∷ []))
with_value (Ok x) rows new above value h n =
    (no_more above value ∙ h.0, n ∙ ap (λ xs. xs ++ given_in (Ok value)) h.1 ∙ sym (given_more above (Ok value)))
with_value (Err (Bad fault)) rows new above value h n = no_more above value ∙ h
with_value (Err WantOfMemory) rows new above value h n = tt

-- with an outcome that has no fault
pub gathers_value : {T : Type 0} (old new : LineResult T) (above : List (Result (Option T) Fault)) (one : Result (Option T) Fault) (value : Option T)
    → Gathers old above → one ≡ Ok value → new.found ≡ old.found → new.rows.items ≡ old.rows.items ++ given_in (Ok value) → Gathers new (above ++ one ∷ [])
gathers_value old new above one value h o f n =
    subst (λ z. Gathers new (above ++ z ∷ [])) (sym o)
    (subst (λ found. Found found (least_in (above ++ Ok value ∷ [])) (new.rows.items ≡ flat_map given_in (above ++ Ok value ∷ []))) (sym f)
    (with_value old.found old.rows.items new.rows.items above value h n))

found_checks : (found : Result (Unit {0}) Refusal) (least : Option Fault) (gives : Type 0) → Found found least gives → Checks found least
found_checks (Ok x) least gives h = h.0
found_checks (Err refusal) least gives h = h

refused_finds : {T : Type 0} (refusal : Refusal) (one : Result T Fault) → Refused refusal one → Finds refusal (fault_in one)
refused_finds (Bad fault) one h = ap fault_in h
refused_finds WantOfMemory one h = tt

-- with one that has
pub gathers_fault : {T : Type 0} (old : LineResult T) (refusal least : Refusal) (above : List (Result (Option T) Fault)) (one : Result (Option T) Fault)
    → ((fault other : Option Fault) → Checks old.found fault → Finds refusal other → Finds least (lesser fault other))
    → Gathers old above → Refused refusal one → Finds least (least_in (above ++ one ∷ []))
gathers_fault old refusal least above one joined h r =
    subst (λ fault. Finds least fault) (sym (least_more above one))
    (joined (least_in above) (fault_in one) (found_checks old.found (least_in above) (old.rows.items ≡ flat_map given_in above) h) (refused_finds refusal one r))

-- the outcomes of all items
pub all_gathered : {X T : Type 0} (f : X → Result (Option T) Fault) (xs : List X) (i : ℕ) (result : Result (Vec T) Refusal) → length xs ≤ i
    → AnswersAs (λ rows. rows.items) result (gathered (map f (take i xs))) → AnswersAs (λ rows. rows.items) result (gathered (map f xs))
all_gathered f xs i result l h = subst (λ ys. AnswersAs (λ rows. rows.items) result (gathered (map f ys))) (take_all i xs l) h
