-- The fields of a line that need a value.
use Rattle.std.specs.Prelude.{ℕ, if◌then◌else◌, List, [], Option, Some, None, Result, Ok, Err, codes}
use Rattle.build_base.specs.declared.fault.Fault.{Fault}
use Rattle.build_base.specs.declared.fault.Place.{Place}
use Rattle.build_base.specs.declared.guid.Guid.{Guid}
use Rattle.build_base.specs.First.{or_fault, unless}
use Rattle.build_base.specs.FaultText.{fault_of}
use Rattle.build_base.specs.Guid.{guid_of}
use Rattle.build_base.specs.Path.{path_field}
use Rattle.meta_lexer.specs.Fields.{ends_quoted}
use Rattle.meta_lexer.specs.Words.{has_macro_use}
use Rattle.macro_expressions.specs.declared.expression.Value.{Value}
use Rattle.macro_expressions.specs.declared.expression.Value.TheVariants.{Number, Word}
use Rattle.macro_expressions.specs.Expressions.{evaluation}
use Rattle.macro_expressions.specs.Macros.{without_workspace}
use Rattle.build_base.specs.FaultCodes.{BAD_EXPRESSION, BAD_PATH, OPEN_QUOTE, UNDEFINED_MACRO}

-- `$(` that is left in a text: its macro isn't defined
abbrev pub undefined_macro : Place → List ℕ → Option Fault
undefined_macro at text =
    if has_macro_use text then Some (fault_of UNDEFINED_MACRO at text) else None

-- a double quote that isn't closed
abbrev pub open_quote : Place → List ℕ → Option Fault
open_quote at text = if ends_quoted text then Some (fault_of OPEN_QUOTE at (codes "\"")) else None

abbrev pub guid_found : ℕ → Place → List ℕ → Option Guid → Result Guid Fault
guid_found code at text (Some guid) = Ok guid
guid_found code at text None = Err (fault_of code at text)

-- a GUID in registry form; a macro that isn't defined comes before a text that is none, whose code
-- is given
unfoldable pub guid_value : ℕ → Place → List ℕ → Result Guid Fault
guid_value code at text = or_fault (undefined_macro at text)
    (guid_found code at text (guid_of text))

-- kept as written
unfoldable pub text_value : Place → List ℕ → Result (List ℕ) Fault
text_value at text = unless (undefined_macro at text) text

-- a text is no number, and a number needs every macro of its field
abbrev pub number_found : Place → List ℕ → Result Value Fault → Result ℕ Fault
number_found at text (Ok (Number n)) = if has_macro_use text
    then Err (fault_of UNDEFINED_MACRO at text) else Ok n
number_found at text (Ok (Word word)) = Err (fault_of BAD_EXPRESSION at text)
number_found at text (Err fault) = Err fault

-- a numeric field: an expression, in which a macro that isn't defined counts as 0 until the
-- expression is judged
unfoldable pub number_value : Place → List ℕ → Result ℕ Fault
number_value at text = number_found at text (evaluation at text [])

abbrev pub path_found : Place → List ℕ → Option (List ℕ) → Result (List ℕ) Fault
path_found at text (Some path) = Ok path
path_found at text None = Err (fault_of BAD_PATH at text)

-- a path field, without `$(WORKSPACE)/` at its front
unfoldable pub path_value : Place → List ℕ → Result (List ℕ) Fault
path_value at text = path_found at text (path_field (without_workspace text))
