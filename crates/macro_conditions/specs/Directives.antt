-- Directives and definitions, by the first word of a line (EDK II DSC specification, conditional
-- directive statements, `!include` and `DEFINE`).
use Rattle.std.specs.Prelude.{ℕ, ◌+◌, Bool, ◌&&◌, ◌||◌, ◌==◌, if◌then◌else◌, List, [], ◌∷◌, length, take, drop, slice_index, codes, Option, Some, None, unwrap_or}
use Rattle.meta_lexer.specs.Lines.{without_blanks}
use Rattle.meta_lexer.specs.Tokens.{word_size}
use Rattle.meta_lexer.specs.Lookup.{lookup}
use Rattle.meta_lexer.specs.Words.{same_word, is_identifier, split_once}
use Rattle.macro_expressions.specs.Macros.{use_at}
use Rattle.macro_conditions.specs.declared.directive.Directive.{Directive}
use Rattle.macro_conditions.specs.declared.directive.Directive.TheVariants.{Act, If, Elseif, Else, Endif}

-- the word at the front of a text, and what follows it
abbrev pub first_word : List ℕ → List ℕ
first_word text = take (word_size text) text

abbrev pub after_word : List ℕ → List ℕ
after_word text = without_blanks (drop (word_size text) text)

abbrev pub is_directive : List ℕ → Bool
is_directive text = slice_index text 0 == 33

-- the word after `!`, and what follows it
unfoldable pub directive_word : List ℕ → List ℕ
directive_word text = first_word (drop 1 text)

unfoldable pub directive_rest : List ℕ → List ℕ
directive_rest text = after_word (drop 1 text)

-- the directives of conditionals; their words count without regard to case
abbrev pub directives : List (List ℕ × Directive)
directives =
    (codes "if", If) ∷ (codes "ifdef", If) ∷ (codes "ifndef", If) ∷ (codes "elseif", Elseif) ∷
    (codes "else", Else) ∷ (codes "endif", Endif) ∷ []

-- what a directive does to the conditionals
unfoldable pub kind_by : List ℕ → Directive
kind_by word = unwrap_or (lookup directives word) Act

-- what a line does to the conditionals
unfoldable pub kind_of : List ℕ → Directive
kind_of text = if is_directive text then kind_by (directive_word text) else Act

-- `!include`
unfoldable pub is_include : List ℕ → Bool
is_include text = is_directive text && same_word (directive_word text) (codes "include")

-- a line that begins with the word DEFINE or EDK_GLOBAL
unfoldable pub is_definition : List ℕ → Bool
is_definition text = same_word (first_word text) (codes "DEFINE")
    || same_word (first_word text) (codes "EDK_GLOBAL")

abbrev pub named : Option (List ℕ × List ℕ) → Option (List ℕ × List ℕ)
named None = None
named (Some pair) = if is_identifier pair.0 then Some pair else None

-- the name and the value of a definition, around the first `=`
unfoldable pub definition_of : List ℕ → Option (List ℕ × List ℕ)
definition_of text = named (split_once 61 (after_word text))

abbrev pub whole_use : List ℕ → Option ℕ → Option (List ℕ)
whole_use text None = None
whole_use text (Some n) = if n + 3 == length text then Some (take n (drop 2 text)) else None

-- the macro that is named as `NAME` or `$(NAME)`
unfoldable pub macro_named : List ℕ → Option (List ℕ)
macro_named text = if is_identifier text then Some text else whole_use text (use_at text)
