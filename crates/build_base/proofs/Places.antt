-- Lists made from a function of the place.
use Rattle.std.proofs.Common.{◌≡◌, ℕ, ◌+◌, ◌<◌, List, ◌∷◌, ◌++◌, length, map, get_or, replicate, refl, ap, sym, ◌∙◌, arith, zero, suc}
use Rattle.std.specs.List.{range_with_len}
use Rattle.std.proofs.lemmas.List.{ext_get_or, get_or-replicate, length-replicate}
use Rattle.std.proofs.lemmas.List.FromFn.{length-map-range_with_len, get_or-map-range_with_len}

-- the places from a on, in two parts
pub places-append : {X : Type 0} (f : ℕ → X) (a n m : ℕ) → map f (range_with_len a (n + m)) ≡ map f (range_with_len a n) ++ map f (range_with_len (a + n) m)
places-append f a zero m = ap (λ k. map f (range_with_len a k)) (omega arith) ∙ ap (λ k. map f (range_with_len k m)) (omega arith)
places-append f a (suc n) m =
    let e : suc n + m ≡ suc (n + m) = omega arith in
    let s : (a + 1) + n ≡ a + suc n = omega arith in
    rw e (ap (λ z. f a ∷ z) (places-append f (a + 1) n m ∙ ap (λ k. map f (range_with_len (a + 1) n) ++ map f (range_with_len k m)) s))

-- a list whose elements are those of its places
pub places_of : {X : Type 0} (f : ℕ → X) (a n : ℕ) (d : X) (xs : List X) → length xs ≡ n → ((i : ℕ) → i < n → get_or xs i d ≡ f (a + i)) → xs ≡ map f (range_with_len a n)
places_of f a n d xs l h =
    ext_get_or d xs (map f (range_with_len a n)) (l ∙ sym (length-map-range_with_len f a n))
    (λ i b. let lt : i < n = omega arith in h i lt ∙ sym (get_or-map-range_with_len f a n i (a + i) d lt refl))

pub places_same : {X : Type 0} (f g : ℕ → X) (a n : ℕ) (d : X) → ((i : ℕ) → i < n → f (a + i) ≡ g (a + i)) → map f (range_with_len a n) ≡ map g (range_with_len a n)
places_same f g a n d h =
    places_of g a n d (map f (range_with_len a n)) (length-map-range_with_len f a n) (λ i lt. get_or-map-range_with_len f a n i (a + i) d lt refl ∙ h i lt)

pub places_one : {X : Type 0} (f : ℕ → X) (a n : ℕ) (x : X) → ((i : ℕ) → i < n → f (a + i) ≡ x) → replicate n x ≡ map f (range_with_len a n)
places_one f a n x h = places_of f a n x (replicate n x) (length-replicate n x) (λ i lt. get_or-replicate n i x x lt ∙ sym (h i lt))

pub places_join : {X : Type 0} (f : ℕ → X) (a n b m k : ℕ) → a + n ≡ b → n + m ≡ k → map f (range_with_len a k) ≡ map f (range_with_len a n) ++ map f (range_with_len b m)
places_join f a n b m k e t = rw (← t) (places-append f a n m ∙ ap (λ z. map f (range_with_len a n) ++ map f (range_with_len z m)) e)
