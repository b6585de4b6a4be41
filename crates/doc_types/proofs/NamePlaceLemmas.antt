-- Places of names.
use Rattle.std.proofs.Common.{◌≡◌, ◌∙◌, ◌+◌, ◌-◌, ◌≤◌, ◌<◌, ◌++◌, ℕ, zero, suc, List, [], ◌∷◌, length, drop, sym, ap, arith}
use Rattle.std.specs.Prelude.{fold}
use Rattle.std.proofs.lemmas.List.{length-append, drop-append-le}
use Rattle.std.proofs.lemmas.List.Sums.{fold-append}
use Rattle.doc_types.specs.NamePlaces.{place_of, step, tail_of}

step_below : (place byte : ℕ) → step place byte < 2048
step_below place byte = omega arith

steps_below : (start : ℕ) (bytes : List ℕ) → start < 2048 → fold step start bytes < 2048
steps_below start [] h = h
steps_below start (byte ∷ bytes) h = steps_below (step start byte) bytes (step_below start byte)

pub place_below : (name : List ℕ) → place_of name < 2048
unfolding place_of
place_below name = steps_below 0 (tail_of name) (omega arith)

dropped : (front name : List ℕ) (k n : ℕ) → n ≡ length front + k → drop n (front ++ name) ≡ drop k name
dropped [] name k n e = let same : n ≡ k = omega (arith, e) in ap (λ m. drop m name) same
dropped (x ∷ front) name k zero e = absurd (omega (arith, e))
dropped (x ∷ front) name k (suc n) e = let below : n ≡ length front + k = omega (arith, e) in dropped front name k n below

tail_same : (front name : List ℕ) → 8 ≤ length name → tail_of (front ++ name) ≡ tail_of name
tail_same front name h =
    dropped front name (length name - 8) (length (front ++ name) - 8)
    (let both : length (front ++ name) ≡ length front + length name = length-append front name in omega (arith, both, h))

-- the place of a name that ends in another one of eight bytes or more
pub place_by_end : (front name : List ℕ) → 8 ≤ length name → place_of (front ++ name) ≡ place_of name
unfolding place_of
place_by_end front name h = ap (fold step 0) (tail_same front name h)

tail_of_parts : (space name : List ℕ) → length name < 8
    → tail_of (space ++ 46 ∷ name) ≡ drop (length space - (7 - length name)) space ++ 46 ∷ name
tail_of_parts space name h =
    let both : length (space ++ 46 ∷ name) ≡ length space + length (46 ∷ name) = length-append space (46 ∷ name) in
    let at : length (space ++ 46 ∷ name) - 8 ≡ length space - (7 - length name) = omega (arith, both, h) in
    ap (λ n. drop n (space ++ 46 ∷ name)) at
    ∙ drop-append-le (length space - (7 - length name)) space (46 ∷ name) (omega arith)

-- the place of a name by its two parts
pub place_of_parts : (space name : List ℕ) → length name < 8
    → fold step (fold step (fold step 0 (drop (length space - (7 - length name)) space)) (46 ∷ [])) name ≡ place_of (space ++ 46 ∷ name)
unfolding place_of
place_of_parts space name h =
    sym (ap (fold step 0) (tail_of_parts space name h) ∙ fold-append step 0 (drop (length space - (7 - length name)) space) (46 ∷ name))
