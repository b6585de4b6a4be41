-- Where a file of a volume stands (UEFI PI specification, volume 3, section 3.2.3).
use Rattle.std.specs.Prelude.{◌≡◌, ℕ, ◌+◌, ◌-◌, ◌*◌, ◌%◌, ◌/◌, ◌≤◌, ◌⊎◌, ◌==◌, if◌then◌else◌}

-- a multiple of a unit that is at least `at`
pub record IsUp (unit at n : ℕ) : Type 0 where
  pub whole : n % unit ≡ 0
  pub after : at ≤ n

-- the least of them
unfoldable pub align_up : ℕ → ℕ → ℕ
align_up unit at = ((at + (unit - 1)) / unit) * unit

-- where a file of this alignment, with a header so long, may start after an end: its body is
-- aligned, and the space before it is nothing or can hold a pad file
pub record IsStart (at align head start : ℕ) : Type 0 where
  pub eight : start % 8 ≡ 0
  pub after : align_up 8 at ≤ start
  pub aligned : (start + head) % align ≡ 0
  pub pad : (start ≡ align_up 8 at) ⊎ (align_up 8 at + 24 ≤ start)

-- the least of them
unfoldable pub start_of : ℕ → ℕ → ℕ → ℕ
start_of at align head =
    if (align_up 8 at + head) % align == 0 then align_up 8 at
    else align_up align (align_up 8 at + 24 + head) - head

-- a header has 24 bytes, that of a large file 32
abbrev pub IsHead : ℕ → Type 0
IsHead head = (head ≡ 24) ⊎ (head ≡ 32)
