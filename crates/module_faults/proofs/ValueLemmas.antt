-- The bytes of a value fail by names.
use Rattle.std.proofs.Common.{ℕ, nat_lt, List, length, Option, Some, None, Result, Ok, Err}
use Rattle.build_base.specs.declared.fault.Place.{Place}
use Rattle.meta_lexer.specs.Words.{has_macro_use}
use Rattle.macro_expressions.specs.declared.expression.Value.{Value}
use Rattle.macro_expressions.specs.declared.expression.Value.TheVariants.{Number, Word}
use Rattle.macro_expressions.specs.Expressions.{value_of_text}
use Rattle.doc_types.specs.declared.pcd.Datum.{Datum}
use Rattle.doc_types.specs.declared.pcd.Datum.TheVariants.{U8, U16, U32, U64, Boolean, Void}
use Rattle.pcd_values.specs.Parsing.{bytes_of, fitting, number_bytes, number_value, void_found, void_value, parsed}
use Rattle.pcd_values.specs.Texts.{void_bytes}
use Rattle.named_faults.specs.Named.{FailsByName}
use Rattle.named_faults.proofs.NamedLemmas.{if_fails}
use Rattle.named_faults.proofs.CodeLemmas.{bad_value_named, does_not_fit_named, text_too_long_named}

fitting_fails : (at : Place) (text : List ℕ) (bytes : Option (List ℕ)) → FailsByName (fitting at text bytes)
fitting_fails at text (Some bytes) = record {}
fitting_fails at text None = does_not_fit_named

number_fails : (at : Place) (text : List ℕ) (datum : Datum) (value : Result Value ℕ) → FailsByName (number_bytes at text datum value)
number_fails at text datum (Ok (Number n)) = fitting_fails at text (bytes_of datum n)
number_fails at text datum (Ok (Word w)) = bad_value_named
number_fails at text datum (Err code) = bad_value_named

numbered_fails : (at : Place) (text : List ℕ) (datum : Datum) → FailsByName (number_value at text datum)
unfolding number_value
numbered_fails at text datum = if_fails (has_macro_use text) _ _ bad_value_named (number_fails at text datum (value_of_text text))

found_fails : (at : Place) (text : List ℕ) (bytes : Option (List ℕ)) → FailsByName (void_found at text bytes)
found_fails at text None = bad_value_named
found_fails at text (Some bytes) = if_fails (nat_lt 65535 (length bytes)) _ _ text_too_long_named (record {})

void_fails : (at : Place) (text : List ℕ) → FailsByName (void_value at text)
unfolding void_value
void_fails at text = found_fails at text (void_bytes text)

pub parsed_fails : (at : Place) (text : List ℕ) (datum : Datum) → FailsByName (parsed at text datum)
unfolding parsed
parsed_fails at text Void = void_fails at text
parsed_fails at text U8 = numbered_fails at text U8
parsed_fails at text U16 = numbered_fails at text U16
parsed_fails at text U32 = numbered_fails at text U32
parsed_fails at text U64 = numbered_fails at text U64
parsed_fails at text Boolean = numbered_fails at text Boolean
