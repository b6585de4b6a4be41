-- The numbers of volumes.
use Rattle.std.proofs.Common.{◌≡◌, ℕ, ◌+◌, ◌<◌, ◌≤◌, Bool, true, false, if◌then◌else◌, List, [], ◌∷◌, ◌++◌, length, Option, Some, None, arith, zero, suc}
use Rattle.std.specs.List.{All, find, range_with_len}
use Rattle.std.specs.Option.{IfSome}
use Rattle.std.proofs.lemmas.List.{length-append}
use Rattle.std.proofs.lemmas.List.Elements.{All-nil, All-push}
use Rattle.volume_nesting.specs.Numbering.{may_come, next_in, given, turns, topological_order}

find_below : (test : ℕ → Bool) (a n : ℕ) → IfSome (find test (range_with_len a n)) (λ p. p < a + n)
find_below test a zero = tt
find_below test a (suc n) =
    elim (test a) as (λ b. IfSome (if b then Some a else find test (range_with_len (a + 1) n)) (λ p. p < a + suc n)) [
      | true ↦ omega arith
      | false ↦ later (find test (range_with_len (a + 1) n)) (find_below test (a + 1) n)
    ]
  where
    later : (o : Option ℕ) → IfSome o (λ p. p < a + 1 + n) → IfSome o (λ p. p < a + suc n)
    later None h = tt
    later (Some p) h = omega (arith, h)

next_below : (nests : List (List ℕ)) (order : List ℕ) → IfSome (next_in nests order) (λ p. p < length nests)
unfolding next_in
next_below nests order = first (find (may_come nests order) (range_with_len 0 (length nests))) (find_below (may_come nests order) 0 (length nests))
  where
    first : (o : Option ℕ) → IfSome o (λ p. p < 0 + length nests) → IfSome o (λ p. p < length nests)
    first None h = tt
    first (Some p) h = omega (arith, h)

given_all : (P : ℕ → Type 0) (more : List ℕ → List ℕ) (order : List ℕ) (next : Option ℕ) → ((longer : List ℕ) → All P longer → All P (more longer)) → All P order → IfSome next P
    → All P (given more order next)
given_all P more order None later all h = all
given_all P more order (Some p) later all h = later (order ++ p ∷ []) (All-push P order p all h)

turns_below : (nests ns : List (List ℕ)) (order : List ℕ) → All (λ p. p < length nests) order → All (λ p. p < length nests) (turns nests ns order)
unfolding turns
turns_below nests [] order all = all
turns_below nests (n ∷ ns) order all =
    given_all (λ p. p < length nests) (turns nests ns) order (next_in nests order) (λ longer more. turns_below nests ns longer more) all (next_below nests order)

-- each is the place of a volume
pub order_below : (nests : List (List ℕ)) → All (λ p. p < length nests) (topological_order nests)
order_below nests = turns_below nests nests [] (All-nil (λ p. p < length nests))

-- no more numbers than volumes
given_few : (more : List ℕ → List ℕ) (n : ℕ) (order : List ℕ) (next : Option ℕ) → ((longer : List ℕ) → length (more longer) ≤ n + length longer)
    → length (given more order next) ≤ suc n + length order
given_few more n order None later = omega arith
given_few more n order (Some p) later =
    let l : length (more (order ++ p ∷ [])) ≤ n + length (order ++ p ∷ []) = later (order ++ p ∷ []) in
    let e : length (order ++ p ∷ []) ≡ length order + 1 = length-append order (p ∷ []) in
    omega (arith, l, e)

turns_few : (nests ns : List (List ℕ)) (order : List ℕ) → length (turns nests ns order) ≤ length ns + length order
unfolding turns
turns_few nests [] order = omega arith
turns_few nests (n ∷ ns) order = given_few (turns nests ns) (length ns) order (next_in nests order) (turns_few nests ns)

pub order_few : (nests : List (List ℕ)) → length (topological_order nests) ≤ length nests
order_few nests =
    let l : length (turns nests nests []) ≤ length nests + 0 = turns_few nests nests [] in
    omega (arith, l)
