-- How many modules a selftest has. The rule is this project's own.
use Rattle.std.specs.Prelude.{ℕ, ◌+◌, ◌-◌, ◌*◌, ◌&&◌, nat_eq, Bool, List, [], ◌∷◌, Option, Some, None, codes, if◌then◌else◌}
use Rattle.std.specs.Cmp.Lexicographic.{pointwise}
use Rattle.build_base.specs.Path.{is_between}

abbrev pub is_leading : ℕ → Bool
is_leading byte = is_between 49 57 byte

abbrev pub is_digit : ℕ → Bool
is_digit byte = is_between 48 57 byte

-- a decimal number from 1 to 1,000, without a leading zero
unfoldable pub count_of : List ℕ → Option ℕ
count_of (a ∷ []) = if is_leading a then Some (a - 48) else None
count_of (a ∷ b ∷ []) = if is_leading a && is_digit b then Some (10 * (a - 48) + (b - 48)) else None
count_of (a ∷ b ∷ c ∷ []) =
    if is_leading a && is_digit b && is_digit c
    then Some (100 * (a - 48) + 10 * (b - 48) + (c - 48)) else None
count_of text = if pointwise nat_eq text (codes "1000") then Some 1000 else None
