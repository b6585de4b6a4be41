-- Bytes that are written over others.
use Rattle.std.specs.Prelude.{ℕ, ◌+◌, List, [], ◌∷◌, slice_set}
use Rattle.byteorder.specs.Endian.{little_bytes}

-- bytes with these in place of those from a place on; none is written past the end
unfoldable pub with_bytes : ℕ → List ℕ → List ℕ → List ℕ
with_bytes at [] bytes = bytes
with_bytes at (new ∷ more) bytes = with_bytes (at + 1) more (slice_set bytes at new)

-- bytes with a little-endian number of this size at a place
abbrev pub with_number : ℕ → ℕ → ℕ → List ℕ → List ℕ
with_number size at number bytes = with_bytes at (little_bytes size number) bytes
