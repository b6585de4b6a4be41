-- The head of a cache's text: `EDKSTEPS`, the edition in four bytes, and the length of the whole text
-- in eight. The rule is this project's own.
use Rattle.std.specs.Prelude.{◌++◌, ◌+◌, ◌&&◌, ℕ, Bool, List, slice_index_or, codes, nat_le}
use Rattle.packed_values.specs.Plain.{number_encoding}

-- the edition of the texts that are written, and the oldest of those that are read
abbrev pub newest : ℕ
newest = 5

abbrev pub oldest : ℕ
oldest = 2

abbrev pub is_edition : ℕ → Bool
is_edition edition = nat_le oldest edition && nat_le edition newest

-- what stands before a body of so many bytes
abbrev pub head_of : ℕ → ℕ → List ℕ
head_of edition count = codes "EDKSTEPS" ++ (number_encoding 4).encode edition
    ++ (number_encoding 8).encode (20 + count)

-- the edition that a head states, if one that is read
abbrev pub edition_in : List ℕ → ℕ
edition_in bytes = slice_index_or bytes 8 0
