-- The place to which the name of a PCD comes, of 2,048. Two names may come to one place. The rule is
-- this project's own.
use Rattle.std.specs.Prelude.{ℕ, ◌+◌, ◌-◌, ◌*◌, ◌%◌, List, length, drop, fold}

-- the last bytes of a name
abbrev pub tail_of : List ℕ → List ℕ
tail_of name = drop (length name - 8) name

abbrev pub step : ℕ → ℕ → ℕ
step place byte = (place * 31 + byte) % 2048

-- the place to which a name comes, by its last bytes
unfoldable pub place_of : List ℕ → ℕ
place_of name = fold step 0 (tail_of name)
