-- What the workers of a wave come to.
use Rattle.std.specs.Prelude.{◌≡◌, ℕ, ◌<◌, ◌≤◌, ltb, List, [], ◌++◌, ◌∷◌, length, map, filter, slice_get, slice_set, Option, Some, None, Result, Ok, fold, replicate, sum_by, All}
use Rattle.drawn_waves.specs.Drawing.{upto, count_past}
use Rattle.drawn_waves.specs.declared.pieces.Piece.{Piece}

abbrev pub number_of : {R : Type 0} → Piece R → ℕ
number_of piece = piece.number

-- behind the numbers before are those of the pieces, and then one at or past the wave's length
abbrev pub Ends : ℕ → List ℕ → List ℕ → List ℕ → Type 0
Ends length before pieces after = (last : ℕ) × (length ≤ last)
    × (after ≡ before ++ (pieces ++ last ∷ []))

-- each number is less than all behind it
abbrev pub Rising : List ℕ → Type 0
Rising [] = Unit {0}
Rising (x ∷ xs) = All (λ y. x < y) xs × Rising xs

-- the piece's result is one that the work may answer for the item of its number
abbrev pub IsPiece : {F I R E : Type 0} → (F → I → Result R E → Type 0) → F → List I → Piece R
    → Type 0
IsPiece {I = I} post work items piece = (item : I) × (slice_get items piece.number ≡ Some item)
    × post work item (Ok piece.result)

-- the numbers below the wave's length
abbrev pub below : ℕ → List ℕ → List ℕ
below length numbers = filter (λ number. ltb number length) numbers

-- one more result, which the work may answer for the item
abbrev pub WorkedOn : {F I R E : Type 0} → (F → I → Result R E → Type 0) → F → ℕ → I
    → List (Piece R) → List (Piece R) → Type 0
WorkedOn {R = R} post work number item before after = (result : R)
    × (after ≡ before ++ record { number = number; result = result } ∷ [])
    × post work item (Ok result)

-- a worker's pieces are its numbers below the wave's length, and it drew one at or past it
pub record AreDrawn {R : Type 0} (length : ℕ) (numbers : List ℕ) (pieces : List (Piece R))
    : Type 0 where
  pub pieces_are : map number_of pieces ≡ below length numbers
  pub ended : 0 < count_past length numbers

-- and the work may answer the result of each for its item
abbrev pub HasDrawn : {F I R E : Type 0} → (F → I → Result R E → Type 0) → F → List I → List ℕ
    → List (Piece R) → Type 0
HasDrawn post work items numbers pieces = AreDrawn (length items) numbers pieces
    × All (IsPiece post work items) pieces

-- the numbers below the wave's length, each once: however numbers are weighed, these weigh what
-- those weigh
abbrev pub AreAll : ℕ → List ℕ → Type 0
AreAll length numbers = (weight : ℕ → ℕ) → sum_by weight numbers ≡ sum_by weight (upto length)

-- the items of both
abbrev pub Both : {X Y E : Type 0} → (Y → List X) → Result Y E → Result Y E → List X → Type 0
Both {Y = Y} items first second all = (x : Y) × (y : Y) × (first ≡ Ok x) × (second ≡ Ok y)
    × (all ≡ items x ++ items y)

-- the results in the places of their numbers
abbrev pub put : {R : Type 0} → List (Option R) → Piece R → List (Option R)
put places piece = slice_set places piece.number (Some piece.result)

abbrev pub placed : {R : Type 0} → ℕ → List (Piece R) → List (Option R)
placed count pieces = fold put (replicate count None) pieces
