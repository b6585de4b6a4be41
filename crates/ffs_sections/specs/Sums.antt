-- The checksums of a firmware file (UEFI PI specification, volume 3, section 3.2.3).
use Rattle.std.specs.Prelude.{ℕ, ◌-◌, ◌%◌, List, sum, slice_set}

-- the byte that makes the sum of these and it zero modulo 256
unfoldable pub zero_byte : List ℕ → ℕ
zero_byte bytes = (256 - sum bytes % 256) % 256

-- a header with its two checksums and its state taken as 0
abbrev pub blank_head : List ℕ → List ℕ
blank_head head = slice_set (slice_set (slice_set head 16 0) 17 0) 23 0

-- a header's own checksum
abbrev pub header_sum : List ℕ → ℕ
header_sum head = zero_byte (blank_head head)

-- a header with its own checksum
abbrev pub summed : List ℕ → List ℕ
summed head = slice_set head 16 (header_sum head)
