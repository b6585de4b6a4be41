-- Bytes as they are listed in braces.
use Rattle.std.specs.Prelude.{ℕ, nat_lt, false, List, [], ◌∷◌, Option, Some, None, if◌then◌else◌}
use Rattle.std.specs.Option.{option_map, option_and_then}
use Rattle.meta_lexer.specs.Fields.{parts_of, bytes_at}
use Rattle.meta_lexer.specs.Heads.{inner, stands_between}
use Rattle.meta_lexer.specs.Lines.{without_blanks}
use Rattle.meta_lexer.specs.Numbers.{number_of}
use Rattle.meta_lexer.specs.declared.field.Span.{Span}

-- a number below 256
abbrev pub byte_field : List ℕ → Option ℕ
byte_field text = option_and_then (λ n. if nat_lt n 256 then Some n else None)
    (number_of (without_blanks text))

-- the bytes of these parts of a text, where each is one
unfoldable pub byte_list : List ℕ → List Span → Option (List ℕ)
byte_list text [] = Some []
byte_list text (span ∷ spans) =
    option_and_then (λ byte. option_map (λ bytes. byte ∷ bytes) (byte_list text spans))
    (byte_field (bytes_at text span))

-- `{ number, number }`
unfoldable pub data_of : List ℕ → Option (List ℕ)
data_of text = if stands_between 123 125 text
    then byte_list (inner text) (parts_of false 44 (inner text)) else None
