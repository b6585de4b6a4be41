-- Alignments of sections and of files.
use Rattle.std.specs.Prelude.{◌≡◌, ℕ, ◌+◌, ◌-◌, ◌*◌, ◌%◌, ◌^◌, ◌==◌, ◌&&◌, Bool, nat_le, nat_lt, if◌then◌else◌, List, [], ◌∷◌, map, Option, position, unwrap_or, Contains}
use Rattle.std.specs.List.{range_with_len, find, list_any}

-- whether an alignment is a power of two of at most 16M
unfoldable pub is_section_alignment : ℕ → Bool
is_section_alignment align =
    list_any (λ power. power == align) (map (λ k. 2 ^ k) (range_with_len 0 25))

-- a pad of this size makes the alignment of what stands at a place, less a shift, hold
abbrev pub is_pad : ℕ → ℕ → ℕ → ℕ → Bool
is_pad place align shift size = size % 4 == 0 && (place + size) % align == shift % align

-- the same as two facts
pub record IsPad (place align shift size : ℕ) : Type 0 where
  pub four : size % 4 ≡ 0
  pub holds : (place + size) % align ≡ shift % align

-- the size of the least pad; sizes from the alignment on make no other remainders
unfoldable pub pad_of : ℕ → ℕ → ℕ → Option ℕ
pad_of place align shift = find (is_pad place align shift) (range_with_len 0 align)

-- the alignments that a file's header can state
abbrev pub alignments : List ℕ
alignments =
    1 ∷ 16 ∷ 128 ∷ 512 ∷ 1024 ∷ 4096 ∷ 32768 ∷ 65536 ∷ 131072 ∷ 262144 ∷ 524288 ∷ 1048576 ∷ 2097152
    ∷ 4194304 ∷ 8388608 ∷ 16777216 ∷ []

abbrev pub is_alignment : ℕ → Bool
is_alignment align = list_any (λ stated. stated == align) alignments

-- the same as a fact
abbrev pub IsAlignment : ℕ → Type 0
IsAlignment align = Contains alignments align

-- the index of the least of them that is at least this
unfoldable pub alignment_index : ℕ → ℕ
alignment_index align = unwrap_or (position (λ stated. nat_le align stated) alignments) 15

-- its bits in the attributes: 0x38, and 0x02 from 128K on
abbrev pub step_bits : ℕ → ℕ
step_bits step = if nat_lt step 8 then 8 * step else 8 * (step - 8) + 2
