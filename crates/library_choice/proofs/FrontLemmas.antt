-- The front of a queue.
use Rattle.std.proofs.Common.{◌≡◌, ◌∙◌, ℕ, ◌+◌, ◌<◌, ◌≤◌, suc, Bool, true, false, cond, List, [], ◌∷◌, ◌++◌, None, length, take, drop, get_or, refl, sym, ap, subst, arith}
use Rattle.std.specs.Prelude.{filter}
use Rattle.std.specs.List.{All}
use Rattle.std.proofs.lemmas.List.{take-append-drop}
use Rattle.std.proofs.lemmas.List.Elements.{All-more, filter-append}
use Rattle.library_choice.specs.Found.{add}
use Rattle.library_choice.specs.Fronts.{Agrees, StandsFixed, PassedKnown}
use Rattle.library_choice.specs.Search.{Same, Prefix, Stands, Passed, First, Finds}
use Rattle.library_choice.proofs.BothLemmas.{many-nulls}
use Rattle.library_choice.proofs.FoundLemmas.{take-Prefix, add-grows}
use Rattle.library_choice.proofs.SearchLemmas.{Going-start, Going-step, first-ended, first-many}

pub agrees-self : {X : Type 0} (fixed : X → Bool) (next : X → List X) → Agrees fixed next next
agrees-self fixed next x e = refl

-- with more that is fixed
abbrev pub Grows : {X : Type 0} → (X → Bool) → (X → Bool) → Type 0
Grows {X} fixed more = (x : X) → fixed x ≡ true → more x ≡ true

agrees-more : {X : Type 0} (fixed more : X → Bool) (next new other : X → List X) → Grows fixed more → Agrees fixed next new → Agrees more new other → Agrees fixed next other
agrees-more fixed more next new other g a b x e = b x (g x e) ∙ a x e

pub stands-more : {X : Type 0} (eq : X → X → Bool) (fixed more : X → Bool) (next new : X → List X) (starts found : List X) (at : ℕ) → Grows fixed more → Agrees fixed next new
    → StandsFixed eq fixed next starts found at → StandsFixed eq more new starts found at
stands-more eq fixed more next new starts found at g a h other c = h other (agrees-more fixed more next new other g a c)

-- nothing is passed
pub front-begins : {X : Type 0} (eq : X → X → Bool) (fixed : X → Bool) (next : X → List X) (starts found : List X) → found ≡ add eq [] starts → StandsFixed eq fixed next starts found 0
front-begins eq fixed next starts found e other a =
    subst (λ l. Stands eq other [] starts l 0) (sym e) (record { going = Going-start eq other [] starts tt; early = omega arith })

-- one that is fixed is passed
fixed-step : {X : Type 0} (eq : X → X → Bool) → Same eq → (fixed : X → Bool) (next : X → List X) (starts found : List X) (at : ℕ) (d : X)
    → StandsFixed eq fixed next starts found at → at < length found → length found ≤ 1024 → fixed (get_or found at d) ≡ true → StandsFixed eq fixed next starts (add eq found (next (get_or found at d))) (at + 1)
fixed-step eq s fixed next starts found at d h inside few f other a =
    subst (λ l. Stands eq other [] starts (add eq found l) (at + 1)) (a (get_or found at d) f)
    (record { going = Going-step eq s other [] starts found at d tt (h other a).going inside; early = omega (arith, inside, few) })

known-step : {X : Type 0} (eq : X → X → Bool) (fixed : X → Bool) (found xs : List X) (at : ℕ) (d : X) → at < length found → fixed (get_or found at d) ≡ true → All (λ x. fixed x ≡ true) (take at found) → All (λ x. fixed x ≡ true) (take (at + 1) (add eq found xs))
known-step eq fixed found xs at d inside f h =
    let same : take (at + 1) (add eq found xs) ≡ take (at + 1) found = take-Prefix (at + 1) found (add eq found xs) (add-grows eq found xs) (omega (arith, inside)) in
    subst (All (λ x. fixed x ≡ true)) (sym same) (All-more (λ x. fixed x ≡ true) found at d inside h f)

pub passed-step : {X : Type 0} (eq : X → X → Bool) → Same eq → (fixed : X → Bool) (next : X → List X) (old found : List X) (from at : ℕ) (d : X) → PassedKnown eq fixed next old from found at
    → at < length found → length found ≤ 1024 → fixed (get_or found at d) ≡ true → PassedKnown eq fixed next old from (add eq found (next (get_or found at d))) (at + 1)
passed-step eq s fixed next old found from at d p inside few f = record {
  stands = λ starts h. fixed-step eq s fixed next starts found at d (p.stands starts h) inside few f;
  known = λ h. known-step eq fixed found (next (get_or found at d)) at d inside f (p.known h);
}

-- a front stands within what is found
pub front-within : {X : Type 0} (eq : X → X → Bool) (fixed : X → Bool) (next : X → List X) (starts found : List X) (at : ℕ) → StandsFixed eq fixed next starts found at → at ≤ length found
front-within eq fixed next starts found at h = (h next (agrees-self fixed next)).going.within

-- what the rest of a queue comes to

pub rest-few : {X : Type 0} (eq : X → X → Bool) → Same eq → (fixed : X → Bool) (next : X → List X) (starts found new : List X) (at : ℕ) (few : Bool)
    → Passed eq next found at new few → few ≡ true → StandsFixed eq fixed next starts found at → First eq next starts new
rest-few eq s fixed next starts found new at few p f h = first-ended eq s next starts new few (p [] starts tt (h next (agrees-self fixed next))) f

pub rest-many : {X : Type 0} (eq : X → X → Bool) → Same eq → (fixed : X → Bool) (next : X → List X) (classes nulls found new : List X) (at : ℕ) (few : Bool)
    → Passed eq next found at new few → few ≡ false → StandsFixed eq fixed next classes found at → Finds eq next classes nulls None
rest-many eq s fixed next classes nulls found new at few p f h = first-many eq s next classes nulls new few (p [] classes tt (h next (agrees-self fixed next))) f

pub rest-many-nulls : {X : Type 0} (eq : X → X → Bool) → Same eq → (fixed : X → Bool) (next : X → List X) (classes nulls found new : List X) (at : ℕ) (few : Bool)
    → Passed eq next found at new few → few ≡ false → StandsFixed eq fixed next nulls found at → Finds eq next classes nulls None
rest-many-nulls eq s fixed next classes nulls found new at few p f h = many-nulls eq s next classes nulls new few (p [] nulls tt (h next (agrees-self fixed next))) f

-- of what is known nothing is wanted
none-left : {X : Type 0} (fixed unknown : X → Bool) → ((x : X) → fixed x ≡ true → unknown x ≡ false) → (xs : List X) → All (λ x. fixed x ≡ true) xs → filter unknown xs ≡ []
none-left fixed unknown f [] h = refl
none-left {X} fixed unknown f (x ∷ xs) h =
    ap (λ b. cond b (x ∷ filter unknown xs) (filter unknown xs)) (f x (h 0 x (omega arith)))
    ∙ none-left fixed unknown f xs (λ k d l. h (suc k) d (omega (arith, l)))

pub wanted-behind : {X : Type 0} (fixed unknown : X → Bool) (found new : List X) (at : ℕ) → ((x : X) → fixed x ≡ true → unknown x ≡ false) → Prefix found new → at ≤ length found → All (λ x. fixed x ≡ true) (take at found)
    → filter unknown new ≡ filter unknown (drop at new)
wanted-behind {X} fixed unknown found new at f p l h =
    ap (filter unknown) (sym (take-append-drop at new)) ∙ filter-append unknown (take at new) (drop at new)
    ∙ ap (λ (front : List X). front ++ filter unknown (drop at new)) (ap (filter unknown) (take-Prefix at found new p l) ∙ none-left fixed unknown f (take at found) h)
