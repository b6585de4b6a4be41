-- What is found has all that it leads to, so nothing that it leads to is longer.
use Rattle.std.proofs.Common.{◌≡◌, ◌∙◌, ⊎_elim, ℕ, zero, suc, ◌≤◌, Bool, true, List, [], ◌∷◌, length, sym, subst}
use Rattle.std.specs.List.{flat_map}
use Rattle.library_choice.specs.Found.{is_in, add, ends}
use Rattle.library_choice.specs.Search.{Same, AllIn, Closed}
use Rattle.library_choice.proofs.CountLemmas.{distinct-add, no-more}
use Rattle.library_choice.proofs.LedLemmas.{in-add}
use Rattle.library_choice.proofs.ReachLemmas.{or-left, or-right, or-cases, in-flat, from-flat, parts-of, none-in}

pub allin-in : {X : Type 0} (eq : X → X → Bool) → Same eq → (b xs : List X) (x : X) → AllIn eq b xs → is_in eq xs x ≡ true → is_in eq b x ≡ true
allin-in eq s b [] x all h = absurd (cc)
allin-in eq s b (y ∷ ys) x all h =
    ⊎_elim (λ (e : eq y x ≡ true). subst (λ z. is_in eq b z ≡ true) (s.same y x e) all.0) (λ (g : is_in eq ys x ≡ true). allin-in eq s b ys x all.1 g)
    (or-cases (eq y x) (is_in eq ys x) h)

pub all-by : {X : Type 0} (eq : X → X → Bool) → Same eq → (b xs : List X) → ((x : X) → is_in eq xs x ≡ true → is_in eq b x ≡ true) → AllIn eq b xs
all-by eq s b [] f = tt
all-by eq s b (y ∷ ys) f = (f y (or-left (eq y y) (is_in eq ys y) (s.itself y)), all-by eq s b ys (λ x h. f x (or-right (eq y x) (is_in eq ys x) h)))

pub closed-in : {X : Type 0} (eq : X → X → Bool) → Same eq → (next : X → List X) (found : List X) (x z : X) → Closed eq next found → is_in eq found x ≡ true → is_in eq (next x) z ≡ true → is_in eq found z ≡ true
closed-in eq s next found x z k h g = allin-in eq s found (flat_map next found) z k (in-flat eq s next found x z h g)

pub ends-inside : {X : Type 0} (eq : X → X → Bool) → Same eq → (next : X → List X) (found starts : List X) → Closed eq next found → ((x : X) → is_in eq starts x ≡ true → is_in eq found x ≡ true)
    → (n : ℕ) (x : X) → is_in eq (ends next starts n) x ≡ true → is_in eq found x ≡ true
ends-inside eq s next found starts k f zero x h = absurd (none-in eq next starts x h)
ends-inside eq s next found starts k f (suc n) x h =
    ⊎_elim (λ (g : is_in eq starts x ≡ true). f x g)
    (λ (g : is_in eq (flat_map next (ends next starts n)) x ≡ true).
    let r = from-flat eq s next (ends next starts n) x g in
    closed-in eq s next found r.from x k (ends-inside eq s next found starts k f n r.from r.there) r.on)
    (parts-of eq next starts n x h)

-- what one of the found leads to is no more than the found
pub led-few : {X : Type 0} (eq : X → X → Bool) → Same eq → (next : X → List X) (found : List X) (y : X) → Closed eq next found → is_in eq found y ≡ true → (n : ℕ) → length (add eq [] (ends next (next y) n)) ≤ length found
led-few eq s next found y k h n =
    no-more eq s found (add eq [] (ends next (next y) n)) (distinct-add eq s [] (ends next (next y) n) tt)
    (all-by eq s found (add eq [] (ends next (next y) n))
    (λ x g. ends-inside eq s next found (next y) k (λ z there. closed-in eq s next found y z k h there) n x (sym (in-add eq s [] (ends next (next y) n) x) ∙ g)))
