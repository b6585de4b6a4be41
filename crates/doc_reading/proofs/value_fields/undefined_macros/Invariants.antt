use Rattle.std.proofs.Common.{◌≡◌, drop}
use Rattle.meta_lexer.specs.Faults.{first_fault}
use Rattle.doc_reading.specs.ValueFields.{undefined_macro}
use Rattle.doc_reading.proofs.value_fields.undefined_macros.Given as goal

abbrev pub invariant-loop-field : goal.invariant-loop-field
invariant-loop-field l = first_fault (undefined_macro l.at) (drop l.field-index l.fields) ≡ first_fault (undefined_macro l.at) l.fields
