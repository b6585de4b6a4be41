-- Where few are reached, walks of 1,025 steps reach all that longer ones do.
use Rattle.std.proofs.Common.{◌≡◌, ◌∙◌, ◌⊎◌, inl, inr, ⊎_elim, ℕ, zero, suc, ◌+◌, ◌-◌, ◌<◌, ◌≤◌, Bool, List, [], ◌++◌, length, append-nil, length-append, sym, ap, subst, arith}
use Rattle.std.proofs.lemmas.Bool.{cases_lt}
use Rattle.std.proofs.lemmas.List.{nil_from_length}
use Rattle.library_choice.specs.Found.{add, ends}
use Rattle.library_choice.specs.Search.{Same, Prefix, grown}
use Rattle.library_choice.proofs.FoundLemmas.{ends-grown, ends-up}

abbrev pub reached : {X : Type 0} → (X → X → Bool) → (X → List X) → List X → ℕ → List X
reached eq next starts n = add eq [] (ends next starts n)

up-one : {X : Type 0} (eq : X → X → Bool) → Same eq → (next : X → List X) (starts : List X) (n : ℕ) → Prefix (reached eq next starts n) (reached eq next starts (suc n))
up-one eq s next starts n = ends-up eq s next [] starts tt n 1 (suc n) (omega arith)

prefix-same : {X : Type 0} (a b : List X) → Prefix a b → length b ≤ length a → b ≡ a
prefix-same a b p h =
    let none : p.more ≡ [] = nil_from_length p.more (omega (arith, h, ap length p.is, length-append a p.more)) in
    p.is ∙ ap (λ m. a ++ m) none ∙ append-nil a

-- once a step adds nothing, no later one does
still : {X : Type 0} (eq : X → X → Bool) → Same eq → (next : X → List X) (starts : List X) (k : ℕ) → reached eq next starts (suc k) ≡ reached eq next starts k → (d : ℕ) → reached eq next starts (k + d) ≡ reached eq next starts k
still eq s next starts k e zero = let z : k + 0 ≡ k = omega arith in ap (reached eq next starts) z
still eq s next starts k e (suc d) =
    let z : k + suc d ≡ suc (k + d) = omega arith in
    ap (reached eq next starts) z ∙ ends-grown eq s next [] starts tt (k + d) ∙ ap (grown eq next [] starts) (still eq s next starts k e d) ∙ sym (ends-grown eq s next [] starts tt k) ∙ e

abbrev pub Stopped : {X : Type 0} → (X → X → Bool) → (X → List X) → List X → ℕ → Type 0
Stopped eq next starts n = (k : ℕ) × (k < n) × (reached eq next starts (suc k) ≡ reached eq next starts k)

stops : {X : Type 0} (eq : X → X → Bool) → Same eq → (next : X → List X) (starts : List X) (n : ℕ) → Stopped eq next starts n ⊎ (n ≤ length (reached eq next starts n))
stops eq s next starts zero = inr (omega arith)
stops eq s next starts (suc n) =
    ⊎_elim (λ (t : Stopped eq next starts n). inl (t.0, omega (arith, t.1), t.2))
    (λ (h : n ≤ length (reached eq next starts n)).
    ⊎_elim (λ (more : length (reached eq next starts n) < length (reached eq next starts (suc n))). inr (omega (arith, h, more)))
    (λ (none : length (reached eq next starts (suc n)) ≤ length (reached eq next starts n)).
    inl (n, omega arith, prefix-same (reached eq next starts n) (reached eq next starts (suc n)) (up-one eq s next starts n) none))
    (cases_lt (length (reached eq next starts n)) (length (reached eq next starts (suc n)))))
    (stops eq s next starts n)

pub saturated : {X : Type 0} (eq : X → X → Bool) → Same eq → (next : X → List X) (starts : List X) → ((n : ℕ) → length (reached eq next starts n) ≤ 1024) → (n : ℕ) → 1025 ≤ n → reached eq next starts n ≡ reached eq next starts 1025
saturated eq s next starts few n h =
    ⊎_elim (λ (t : Stopped eq next starts 1025).
    let a : t.0 + (n - t.0) ≡ n = omega (arith, t.1, h) in
    let b : t.0 + (1025 - t.0) ≡ 1025 = omega (arith, t.1) in
    subst (λ m. reached eq next starts m ≡ reached eq next starts t.0) a (still eq s next starts t.0 t.2 (n - t.0))
    ∙ sym (subst (λ m. reached eq next starts m ≡ reached eq next starts t.0) b (still eq s next starts t.0 t.2 (1025 - t.0))))
    (λ (many : 1025 ≤ length (reached eq next starts 1025)). absurd (omega (arith, many, few 1025)))
    (stops eq s next starts 1025)
