-- GUIDs as numbers in braces: `{ u32, u16, u16, { eight bytes } }`.
use Rattle.std.specs.Prelude.{ℕ, zero, suc, ◌^◌, ◌++◌, nat_lt, List, [], ◌∷◌, Option, Some, None, if◌then◌else◌}
use Rattle.std.specs.Option.{option_map, option_and_then}
use Rattle.std.specs.Int.{w16, w32, to_le_bytes}
use Rattle.build_base.specs.declared.guid.Guid.{Guid}
use Rattle.meta_lexer.specs.Heads.{inner, stands_between}
use Rattle.meta_lexer.specs.Lines.{without_blanks}
use Rattle.meta_lexer.specs.Numbers.{number_of}
use Rattle.meta_lexer.specs.Words.{split_once}

-- a number below a limit, without the blanks around it
unfoldable pub number_below : ℕ → List ℕ → Option ℕ
number_below limit text = option_and_then (λ n. if nat_lt n limit then Some n else None)
    (number_of (without_blanks text))

-- the number before the first comma, and what follows the comma
unfoldable pub first_below : ℕ → List ℕ → Option (ℕ × List ℕ)
first_below limit text = option_and_then (λ p. option_map (λ n. (n, p.1)) (number_below limit p.0))
    (split_once 44 text)

-- what stands in braces, without the blanks around them
unfoldable pub in_braces : List ℕ → Option (List ℕ)
in_braces text = if stands_between 123 125 (without_blanks text)
    then Some (inner (without_blanks text)) else None

-- so many numbers below 256, with a comma between two
unfoldable pub bytes_listed : ℕ → List ℕ → Option (List ℕ)
bytes_listed zero text = None
bytes_listed (suc zero) text = option_map (λ b. b ∷ []) (number_below 256 text)
bytes_listed (suc (suc n)) text =
    option_and_then (λ p. option_map (λ bs. p.0 ∷ bs) (bytes_listed (suc n) p.1))
    (first_below 256 text)

-- the GUID of its four fields, the numbers little-endian
abbrev pub guid_of_fields : ℕ → ℕ → ℕ → List ℕ → Guid
guid_of_fields a b c last =
    record { 0 = to_le_bytes w32 a ++ to_le_bytes w16 b ++ to_le_bytes w16 c ++ last }

unfoldable pub guid_of_braces : List ℕ → Option Guid
guid_of_braces text =
    option_and_then (λ fields.
    option_and_then (λ a.
    option_and_then (λ b.
    option_and_then (λ c.
    option_and_then (λ braced.
    option_map (guid_of_fields a.0 b.0 c.0) (bytes_listed 8 braced))
    (in_braces c.1))
    (first_below (2 ^ 16) b.1))
    (first_below (2 ^ 16) a.1))
    (first_below (2 ^ 32) fields))
    (in_braces text)
