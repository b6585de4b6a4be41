-- Plain numbers.
use Rattle.std.specs.Prelude.{ℕ, ◌+◌, ◌-◌, ◌*◌, ◌^◌, Bool, ◌&&◌, nat_lt, nat_le, ◌==◌, if◌then◌else◌, List, length, drop, slice_index, fold, Option, Some, None}
use Rattle.std.specs.List.{list_all}

-- what a digit of any base up to 16 stands for; 16 for any other byte
abbrev pub digit : ℕ → ℕ
digit b =
    if nat_le 48 b && nat_le b 57 then b - 48
    else if nat_le 97 b && nat_le b 102 then b - 87
    else if nat_le 65 b && nat_le b 70 then b - 55
    else 16

abbrev pub is_digit : ℕ → ℕ → Bool
is_digit base b = nat_lt (digit b) base

-- the value of digits, the first being the greatest
abbrev pub value_in : ℕ → List ℕ → ℕ
value_in base ds = fold (λ a b. a * base + digit b) 0 ds

-- the digits are there, are of the base, and stand for a number of 64 bits
unfoldable pub number_in : ℕ → List ℕ → Option ℕ
number_in base ds =
    if nat_lt 0 (length ds) && list_all (is_digit base) ds && nat_lt (value_in base ds) (2 ^ 64)
    then Some (value_in base ds) else None

-- `0x` and digits of base 16, or digits of base 10
unfoldable pub number_of : List ℕ → Option ℕ
number_of xs =
    if nat_le 2 (length xs) && (slice_index xs 0 == 48) && (slice_index xs 1 == 120)
    then number_in 16 (drop 2 xs) else number_in 10 xs
