-- The architectures that a platform supports.
use Rattle.std.specs.Prelude.{ℕ, Bool, true, false, List, map, Option, Some, None, Result, Ok, Err, if◌then◌else◌}
use Rattle.build_base.specs.First.{or_fault, all_ok}
use Rattle.build_base.specs.FaultText.{fault_of}
use Rattle.build_base.specs.declared.fault.Fault.{Fault}
use Rattle.build_base.specs.declared.fault.Place.{Place}
use Rattle.meta_lexer.specs.Faults.{first_fault}
use Rattle.meta_lexer.specs.Parts.{field_texts}
use Rattle.doc_reading.specs.ValueFields.{undefined_macro}
use Rattle.doc_types.specs.Arches.{arch_named}
use Rattle.doc_types.specs.declared.arch.Arch.{Arch}
use Rattle.doc_types.specs.declared.arch.Arch.TheVariants.{Common}
use Rattle.build_base.specs.FaultCodes.{BAD_ARCH}

abbrev pub is_common : Arch → Bool
is_common Common = true
is_common arch = false

abbrev pub arch_found : Place → List ℕ → Option Arch → Result Arch Fault
arch_found at word (Some arch) = if is_common arch then Err (fault_of BAD_ARCH at word) else Ok arch
arch_found at word None = Err (fault_of BAD_ARCH at word)

unfoldable pub arch_value : Place → List ℕ → Result Arch Fault
arch_value at word = arch_found at word (arch_named word)

-- a macro that isn't defined comes before a word that is no architecture
unfoldable pub arches_value : Place → List ℕ → Result (List Arch) Fault
arches_value at text = or_fault (first_fault (undefined_macro at) (field_texts text))
    (all_ok (map (arch_value at) (field_texts text)))
