-- The fault of a line's field has a name.
use Rattle.std.proofs.Common.{ℕ, List, [], ◌∷◌, Option, Some, None, Result, Ok, Err, codes}
use Rattle.build_base.specs.FaultText.{fault_of}
use Rattle.build_base.specs.FaultCodes.{BAD_PATH, OPEN_QUOTE, UNDEFINED_MACRO}
use Rattle.build_base.specs.Path.{path_field}
use Rattle.build_base.specs.declared.fault.Fault.{Fault}
use Rattle.build_base.specs.declared.fault.Place.{Place}
use Rattle.build_base.specs.declared.lines.Taken.{Taken}
use Rattle.meta_lexer.specs.Fields.{ends_quoted}
use Rattle.meta_lexer.specs.Words.{has_macro_use}
use Rattle.meta_lexer.specs.declared.head.Head.{Head}
use Rattle.macro_expressions.specs.declared.expression.Value.{Value}
use Rattle.macro_expressions.specs.declared.expression.Value.TheVariants.{Number, Word}
use Rattle.macro_expressions.specs.Expressions.{evaluation}
use Rattle.macro_expressions.specs.Macros.{without_workspace}
use Rattle.doc_reading.specs.declared.meaning.Meaning.{Meaning}
use Rattle.doc_reading.specs.declared.meaning.Meaning.TheVariants.{Section, Ignored, BadQualifier, Unknown}
use Rattle.doc_reading.specs.Meanings.{meaning_faults}
use Rattle.doc_reading.specs.SegmentNames.{is_segment_name, segment_name}
use Rattle.doc_reading.specs.ValueFields.{undefined_macro, text_value, number_found, number_value, path_found, path_value}
use Rattle.doc_reading.specs.Values.{require, of_read_line}
use Rattle.named_faults.specs.Named.{IsNameCode, HasName, IsNamed, FailsByName}
use Rattle.named_faults.proofs.NamedLemmas.{if_holds, if_named, if_fails, AreNamed, unless_fails}
use Rattle.named_faults.proofs.CodeLemmas.{bad_expression_named, bad_path_named, bad_section_named, open_quote_named, undefined_macro_named}
use Rattle.text_faults.proofs.ExpressionLemmas.{evaluation_fails}

-- Conditions.

pub require_named : {T : Type 0} (value : Option T) (fault : Fault) → HasName fault → IsNamed (require value fault)
require_named (Some value) fault n = tt
require_named None fault n = n

pub read_line_named : (line : Taken) (faults : List (Option Fault)) → AreNamed faults → AreNamed (of_read_line line faults)
read_line_named line faults n = if_holds AreNamed (ends_quoted line.text) (Some (fault_of OPEN_QUOTE line.at (codes "\"")) ∷ []) faults (open_quote_named, tt) n

pub macros_named : (at : Place) (text : List ℕ) → IsNamed (undefined_macro at text)
macros_named at text = if_named (has_macro_use text) (Some (fault_of UNDEFINED_MACRO at text)) None undefined_macro_named tt

-- Values.

pub text_value_fails : (at : Place) (text : List ℕ) → FailsByName (text_value at text)
unfolding text_value
text_value_fails at text = unless_fails (undefined_macro at text) text (macros_named at text)

number_found_fails : (at : Place) (text : List ℕ) (value : Result Value Fault) → FailsByName value → FailsByName (number_found at text value)
number_found_fails at text (Ok (Number n)) v = if_fails (has_macro_use text) (Err (fault_of UNDEFINED_MACRO at text)) (Ok n) undefined_macro_named tt
number_found_fails at text (Ok (Word word)) v = bad_expression_named
number_found_fails at text (Err fault) v = v

pub number_value_fails : (at : Place) (text : List ℕ) → FailsByName (number_value at text)
unfolding number_value
number_value_fails at text = number_found_fails at text (evaluation at text []) (evaluation_fails at text [])

path_found_fails : (at : Place) (text : List ℕ) (path : Option (List ℕ)) → FailsByName (path_found at text path)
path_found_fails at text (Some path) = tt
path_found_fails at text None = bad_path_named

pub path_value_fails : (at : Place) (text : List ℕ) → FailsByName (path_value at text)
unfolding path_value
path_value_fails at text = path_found_fails at text (path_field (without_workspace text))

pub segment_name_fails : (at : Place) (text : List ℕ) → FailsByName (segment_name at text)
segment_name_fails at text = if_fails (is_segment_name text) (Ok text) (Err (fault_of BAD_PATH at text)) tt bad_path_named

-- Heads.

pub meaning_named : {S : Type 0} (code : ℕ) (line : Taken) (head : Head) (meaning : Meaning S) → IsNameCode code → AreNamed (meaning_faults code line head meaning)
meaning_named code line head BadQualifier n = (bad_section_named, tt)
meaning_named code line head Unknown n = (n, tt)
meaning_named code line head Ignored n = tt
meaning_named code line head (Section scope) n = tt
