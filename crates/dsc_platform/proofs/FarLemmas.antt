-- Tables of far places.
use Rattle.std.proofs.Common.{◌≡◌, ◌∙◌, ◌<◌, ◌+◌, ◌==◌, ◌||◌, ℕ, zero, suc, Bool, true, false, List, [], ◌∷◌, map, length, get_or, set, take, slice_get, Option, Some, None, option_map, refl, sym, ap, subst, arith}
use Rattle.std.specs.List.{All}
use Rattle.std.proofs.lemmas.List.Elements.{All-more, All-weaker}
use Rattle.std.proofs.lemmas.Bool.Decides.{nat_tests}
use Rattle.std.proofs.lemmas.Option.{slice_get-map, slice_get_within, get_or_from_slice_get}
use Rattle.dsc_platform.specs.FarPlaces.{behind, walked, IsFar, IsMarked, with_mark, Unlooped}
use Rattle.dsc_platform.proofs.PlaceWalks.{none_some, walked_none}
use Rattle.dsc_platform.specs.SkuWalks.{joined, next_of, comes_by, is_loop}

walked_add : (parents : List (Option ℕ)) (a b : ℕ) (place : Option ℕ) → walked parents (a + b) place ≡ walked parents b (walked parents a place)
walked_add parents zero b place = let same : 0 + b ≡ b = omega arith in ap (λ n. walked parents n place) same
walked_add parents (suc a) b place =
    let same : suc a + b ≡ suc (a + b) = omega arith in
    ap (λ n. walked parents n place) same ∙ walked_add parents a b (behind parents place)

-- one step
pub far_first : (parents : List (Option ℕ)) → IsFar parents parents
far_first parents = record { steps = 1; leads = λ place. refl }

next_mapped : (far : List (Option ℕ)) (place : ℕ) → next_of (map (behind far) far) place ≡ behind far (next_of far place)
next_mapped far place = ap joined (slice_get-map (behind far) far place) ∙ at (slice_get far place)
  where
    at : (o : Option (Option ℕ)) → joined (option_map (behind far) o) ≡ behind far (joined o)
    at None = refl
    at (Some next) = refl

-- twice as many
pub far_twice : (parents far : List (Option ℕ)) → IsFar parents far → IsFar parents (map (behind far) far)
far_twice parents far h =
    record {
      steps = h.steps + h.steps;
      leads = λ place. next_mapped far place ∙ ap (behind far) (h.leads place) ∙ again (walked parents h.steps (Some place)) ∙ sym (walked_add parents h.steps h.steps (Some place));
    }
  where
    again : (o : Option ℕ) → behind far o ≡ walked parents h.steps o
    again None = sym (walked_none parents h.steps)
    again (Some place) = h.leads place

-- a walk that comes by a place is there after some steps
record Reaches (parents : List (Option ℕ)) (target : ℕ) (place : Option ℕ) : Type 0 where
  steps : ℕ
  there : walked parents steps place ≡ Some target

reaches : (parents : List (Option ℕ)) (target n : ℕ) (place : Option ℕ) → comes_by parents target n place ≡ true → Reaches parents target place
unfolding comes_by
reaches parents target zero place e = absurd cc
reaches parents target (suc n) None e = absurd cc
reaches parents target (suc n) (Some place) e = at (place == target) refl e (λ f. reaches parents target n (next_of parents place) f)
  where
    at : (t : Bool) → place == target ≡ t → (t || comes_by parents target n (next_of parents place)) ≡ true
        → (comes_by parents target n (next_of parents place) ≡ true → Reaches parents target (next_of parents place)) → Reaches parents target (Some place)
    at true t f rest = let same : place ≡ target = grind (arith, nat_tests) in record { steps = 0; there = ap (λ k. Some k) same }
    at false t f rest = let found = rest f in record { steps = suc found.steps; there = found.there }

-- on a circle there is for each number a place from which so many steps lead here
record From (parents : List (Option ℕ)) (target more : ℕ) : Type 0 where
  steps : ℕ
  there : walked parents (steps + more) (Some target) ≡ Some target

from_step : (parents : List (Option ℕ)) (target k more : ℕ) → walked parents (suc k) (Some target) ≡ Some target → (b : ℕ) → walked parents (b + more) (Some target) ≡ Some target
    → From parents target (suc more)
from_step parents target k more round zero e =
    let same : k + suc more ≡ suc k + more = omega arith in
    let plain : 0 + more ≡ more = omega arith in
    record {
      steps = k;
      there =
          ap (λ n. walked parents n (Some target)) same ∙ walked_add parents (suc k) more (Some target) ∙ ap (walked parents more) round
          ∙ sym (ap (λ n. walked parents n (Some target)) plain) ∙ e;
    }
from_step parents target k more round (suc b) e =
    let same : b + suc more ≡ suc b + more = omega arith in
    record { steps = b; there = ap (λ n. walked parents n (Some target)) same ∙ e }

from : (parents : List (Option ℕ)) (target k : ℕ) → walked parents (suc k) (Some target) ≡ Some target → (more : ℕ) → From parents target more
from parents target k round zero = record { steps = 0; there = refl }
from parents target k round (suc more) = let before = from parents target k round more in from_step parents target k more round before.steps before.there

-- where a table leads is marked
found : (far : List (Option ℕ)) (marks : List Bool) (first place : ℕ) → All (IsMarked marks) far → next_of far first ≡ Some place → slice_get marks place ≡ Some false → ⊥
found far marks first place m e off = at (slice_get far first) refl e
  where
    at : (o : Option (Option ℕ)) → slice_get far first ≡ o → joined o ≡ Some place → ⊥
    at None s j = cc
    at (Some None) s j = cc
    at (Some (Some k)) s j =
        let same : k ≡ place = cc in
        let marked : IsMarked marks (Some k) = subst (IsMarked marks) (get_or_from_slice_get far first (Some k) (Some k) s) (m first (Some k) (slice_get_within far first (Some k) s)) in
        marked (ap (slice_get marks) same ∙ off)

-- a mark stays, and one more is there
set_false : (marks : List Bool) (k place : ℕ) → slice_get (set marks k true) place ≡ Some false → slice_get marks place ≡ Some false
set_false [] k place e = absurd cc
set_false (mark ∷ marks) zero zero e = absurd cc
set_false (mark ∷ marks) zero (suc place) e = e
set_false (mark ∷ marks) (suc k) zero e = e
set_false (mark ∷ marks) (suc k) (suc place) e = set_false marks k place e

set_there : (marks : List Bool) (k : ℕ) → slice_get (set marks k true) k ≡ Some false → ⊥
set_there [] k e = cc
set_there (mark ∷ marks) zero e = cc
set_there (mark ∷ marks) (suc k) e = set_there marks k e

kept : (marks : List Bool) (one : Option ℕ) (other : Option ℕ) → IsMarked marks other → IsMarked (with_mark marks one) other
kept marks None other h = h
kept marks (Some k) None h = tt
kept marks (Some k) (Some place) h = λ e. h (set_false marks k place e)

there : (marks : List Bool) (one : Option ℕ) → IsMarked (with_mark marks one) one
there marks None = tt
there marks (Some k) = set_there marks k

-- the marks of one place more
pub marked_more : (far : List (Option ℕ)) (i : ℕ) (d : Option ℕ) (old new : List Bool) → i < length far → new ≡ with_mark old (get_or far i d)
    → All (IsMarked old) (take i far) → All (IsMarked new) (take (i + 1) far)
marked_more far i d old new h n all =
    let one = get_or far i d in
    subst (λ marks. All (IsMarked marks) (take (i + 1) far)) (sym n)
    (All-more (IsMarked (with_mark old one)) far i d h
    (All-weaker (IsMarked old) (IsMarked (with_mark old one)) (λ x m. kept old one x m) (take i far) all)
    (there old one))

-- a place on a circle is marked
pub unmarked : (parents far : List (Option ℕ)) (marks : List Bool) → IsFar parents far → All (IsMarked marks) far → Unlooped parents marks
unmarked parents far marks h m place off = at (is_loop parents place) refl
  where
    led : (start : Option ℕ) → walked parents h.steps start ≡ Some place → ⊥
    led None e = none_some place (sym (walked_none parents h.steps) ∙ e)
    led (Some first) e = found far marks first place m (h.leads first ∙ e) off

    at : (t : Bool) → is_loop parents place ≡ t → is_loop parents place ≡ false
    at false e = e
    at true e =
        let round = reaches parents place (length parents) (next_of parents place) e in
        let back = from parents place round.steps round.there h.steps in
        absurd (led (walked parents back.steps (Some place)) (sym (walked_add parents back.steps h.steps (Some place)) ∙ back.there))
