-- Bytes given piece by piece.
use Rattle.std.specs.Prelude.{◌≡◌, ◌≤◌, ◌<◌, ◌++◌, ℕ, List, [], length, Option, Some, None}
use denote.Ref.{Bor}

-- A call gives the first piece of the bytes that are left, 1 to 65,536 of them, and leaves the
-- rest; or no bytes are left.
abbrev pub GivesPiece : List ℕ → Option (Bor (List ℕ)) → List ℕ → Type 0
GivesPiece left None rest = (left ≡ []) × (rest ≡ [])
GivesPiece left (Some piece) rest = (left ≡ piece.now ++ rest) × (0 < length piece.now)
    × (length piece.now ≤ 65536)
