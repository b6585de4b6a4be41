-- Words, identifiers, pairs around a mark, and uses of macros.
use Rattle.std.specs.Prelude.{ℕ, ◌+◌, Bool, false, ◌&&◌, ◌||◌, not, nat_lt, nat_le, nat_eq, ◌==◌, if◌then◌else◌, List, [], ◌∷◌, length, take, drop, slice_index, map, Option, Some, None}
use Rattle.std.specs.List.{list_all, position_or_len}
use Rattle.std.specs.Cmp.Lexicographic.{pointwise}
use Rattle.std.specs.Char.{to_ascii_lowercase}
use Rattle.meta_lexer.specs.Lines.{without_blanks}
use Rattle.meta_lexer.specs.Tokens.{is_word_byte}

-- the same word, without regard to ASCII case
unfoldable pub same_word : List ℕ → List ℕ → Bool
same_word xs ys = pointwise nat_eq (map to_ascii_lowercase xs) (map to_ascii_lowercase ys)

abbrev pub begins_with_digit : List ℕ → Bool
begins_with_digit xs = nat_le 48 (slice_index xs 0) && nat_le (slice_index xs 0) 57

-- 1 to 64 letters, digits and `_`, the first no digit
unfoldable pub is_identifier : List ℕ → Bool
is_identifier xs = nat_lt 0 (length xs) && nat_le (length xs) 64 && list_all is_word_byte xs
    && not (begins_with_digit xs)

-- two texts around the first mark, without their outer blanks
unfoldable pub split_once : ℕ → List ℕ → Option (List ℕ × List ℕ)
split_once mark xs =
    let i = position_or_len (λ b. b == mark) xs in
    if nat_lt i (length xs) then Some (without_blanks (take i xs), without_blanks (drop (i + 1) xs))
    else None

-- whether `$(` stands in a text
unfoldable pub has_macro_use : List ℕ → Bool
has_macro_use [] = false
has_macro_use (x ∷ xs) = ((x == 36) && (slice_index xs 0 == 40)) || has_macro_use xs
