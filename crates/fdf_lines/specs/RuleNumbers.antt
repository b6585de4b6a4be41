-- The build number of a rule's section (EDK II FDF specification, section 3.8).
use Rattle.std.specs.Prelude.{ℕ, Bool, false, ◌&&◌, ◌||◌, not, nat_le, nat_eq, if◌then◌else◌, List, [], ◌∷◌, Result, Ok, Err, codes}
use Rattle.std.specs.List.{starts_with}
use Rattle.build_base.specs.FaultText.{fault_of}
use Rattle.build_base.specs.declared.fault.Fault.{Fault}
use Rattle.build_base.specs.declared.lines.Taken.{Taken}
use Rattle.macro_expressions.specs.declared.expression.Value.{Value}
use Rattle.macro_expressions.specs.declared.expression.Value.TheVariants.{Number, Word}
use Rattle.macro_expressions.specs.Expressions.{evaluation}
use Rattle.meta_lexer.specs.Fields.{ends_quoted}
use Rattle.fdf_words.specs.Numbers.{bad_line}
use Rattle.build_base.specs.FaultCodes.{BAD_EXPRESSION, BAD_RULE, UNDEFINED_MACRO}

-- `$(` that doesn't begin `$(BUILD_NUMBER)`
abbrev pub begins_another : List ℕ → Bool
begins_another text = starts_with nat_eq text (codes "$(")
    && not (starts_with nat_eq text (codes "$(BUILD_NUMBER)"))

-- whether another macro stands in a text
unfoldable pub holds_another : List ℕ → Bool
holds_another [] = false
holds_another (x ∷ xs) = begins_another (x ∷ xs) || holds_another xs

-- a number of at most 16 bits, which needs every other macro of its field
abbrev pub within_word : Taken → List ℕ → ℕ → Result ℕ Fault
within_word line word n =
    if holds_another word then Err (bad_line UNDEFINED_MACRO line)
    else if nat_le n 65535 then Ok n else Err (bad_line BAD_RULE line)

abbrev pub number_found : Taken → List ℕ → Result Value Fault → Result ℕ Fault
number_found line word (Ok (Number n)) = within_word line word n
number_found line word (Ok (Word text)) = Err (fault_of BAD_EXPRESSION line.at word)
number_found line word (Err fault) = Err fault

-- A numeric field of one word: an expression, in which `$(BUILD_NUMBER)` is 0. Another macro counts
-- as 0 until the expression is judged.
unfoldable pub build_number : Taken → List ℕ → Result ℕ Fault
build_number line word = if ends_quoted word then Err (fault_of BAD_EXPRESSION line.at word)
    else number_found line word (evaluation line.at word [])

-- 0 where none is stated
abbrev pub stated_number : Taken → Bool → List ℕ → Result ℕ Fault
stated_number line stated word = if stated then build_number line word else Ok 0
