-- The slots at home, as numbers are drawn.
use Rattle.std.proofs.Common.{◌<◌, ◌≡◌, ℕ, zero, suc, ◌≤◌, List, [], ◌∷◌, map, length, set, sym, refl, ap, arith, Option, Some, None}
use Rattle.std.proofs.lemmas.Option.{none-some}
use mathlib.Core.Option.{none, some}
use mathlib.Core.Option as maybe
use lib.ListN.{get_elem?}
use Rattle.std.specs.Prelude.{slice_get}
use Rattle.drawn_waves.specs.Drawing.{at_home}

module _ {I : Type 0} where
  pub at_home_here : (items : List I) (k : ℕ) (x : I) → slice_get items k ≡ Some x → get_elem? (at_home k items) k ≡ some (some (Some x))
  unfolding at_home
  at_home_here [] k x e = absurd (none-some x e)
  at_home_here (y ∷ ys) zero x e = ap (λ (o : Option I). some (some o)) e
  at_home_here (y ∷ ys) (suc k) x e = at_home_here ys k x e

  pub at_home_more : (items : List I) (k : ℕ) (x : I) → slice_get items k ≡ Some x → set (at_home k items) k none ≡ at_home (suc k) items
  unfolding at_home
  at_home_more [] k x e = absurd (none-some x e)
  at_home_more (y ∷ ys) zero x e = refl
  at_home_more (y ∷ ys) (suc k) x e = ap (λ (hs : List (maybe.Option (Option I))). none ∷ hs) (at_home_more ys k x e)

  pub at_home_past : (items : List I) (k : ℕ) → slice_get items k ≡ None → at_home k items ≡ at_home (suc k) items
  unfolding at_home
  at_home_past [] zero e = refl
  at_home_past [] (suc k) e = refl
  at_home_past (y ∷ ys) zero e = absurd (none-some y (sym e))
  at_home_past (y ∷ ys) (suc k) e = ap (λ (hs : List (maybe.Option (Option I))). none ∷ hs) (at_home_past ys k e)

  pub at_home_first : (items : List I) → map some (map Some items) ≡ at_home 0 items
  unfolding at_home
  at_home_first [] = refl
  at_home_first (y ∷ ys) = ap (λ (hs : List (maybe.Option (Option I))). some (Some y) ∷ hs) (at_home_first ys)

  pub get_past : (items : List I) (k : ℕ) → slice_get items k ≡ None → length items ≤ k
  get_past [] k e = omega arith
  get_past (y ∷ ys) zero e = absurd (none-some y (sym e))
  get_past (y ∷ ys) (suc k) e = let l = get_past ys k e in omega arith

  pub get_there : (items : List I) (k : ℕ) → k < length items → (x : I) × (slice_get items k ≡ Some x)
  get_there [] k l = absurd (omega arith)
  get_there (y ∷ ys) zero l = (y, refl)
  get_there (y ∷ ys) (suc k) l = get_there ys k (omega arith)

  abbrev first_value : Option I → List (ℕ × Option I) → Option I
  first_value d [] = d
  first_value d (x ∷ xs) = x.1

  -- two ways to say which slot was taken last
  pub one_slot : (k j : ℕ) (o p : Option I) (xs ys : List (ℕ × Option I)) → (k, o) ∷ xs ≡ (j, p) ∷ ys → o ≡ p
  one_slot k j o p xs ys e = ap (first_value o) e
