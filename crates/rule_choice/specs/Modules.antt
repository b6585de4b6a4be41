-- The architecture of a module in a volume (EDK II FDF specification, INF statements).
use Rattle.std.specs.Prelude.{ℕ, Bool, not, find, if◌then◌else◌, List, [], ◌∷◌, Option, Some, None, Result, Ok, Err}
use Rattle.std.specs.List.{list_any, flat_map}
use Rattle.std.specs.Option.{is_some}
use Rattle.build_base.specs.FaultText.{fault_of}
use Rattle.build_base.specs.declared.fault.Fault.{Fault}
use Rattle.doc_types.specs.declared.arch.Arch.{Arch}
use Rattle.doc_types.specs.declared.platform.Component.{Component}
use Rattle.doc_types.specs.declared.volume.InfLine.{InfLine}
use Rattle.doc_types.specs.Components.{is_component}
use Rattle.rule_choice.specs.Rules.{same_arch}
use Rattle.build_base.specs.FaultCodes.{ARCH_AMBIGUOUS, NOT_A_COMPONENT}

abbrev pub has_component : List Component → List ℕ → Arch → Bool
has_component components inf arch = is_some (find (is_component inf arch) components)

abbrev pub having_one : List Component → List ℕ → Arch → List Arch
having_one components inf arch = if has_component components inf arch then arch ∷ [] else []

-- the built architectures that have the component
abbrev pub having : List Component → List ℕ → List Arch → List Arch
having components inf arches = flat_map (having_one components inf) arches

abbrev pub other_arch : Arch → List Arch → Bool
other_arch arch arches = list_any (λ a. not (same_arch a arch)) arches

abbrev pub no_component : InfLine → Fault
no_component line = fault_of NOT_A_COMPONENT line.at line.inf

abbrev pub is_among : Arch → List Arch → Bool
is_among arch arches = list_any (λ a. same_arch a arch) arches

-- the only one
abbrev pub only_arch : InfLine → List Arch → Result Arch Fault
only_arch line [] = Err (no_component line)
only_arch line (arch ∷ arches) = if other_arch arch arches
    then Err (fault_of ARCH_AMBIGUOUS line.at line.inf)
    else Ok arch

-- that of USE, where it has the component
abbrev pub arch_among : InfLine → List Arch → Option Arch → Result Arch Fault
arch_among line arches None = only_arch line arches
arch_among line arches (Some arch) = if is_among arch arches then Ok arch
    else Err (no_component line)

-- the architecture of a line, among the components of a platform and the built architectures
abbrev pub inf_arch : InfLine → List Component → List Arch → Result Arch Fault
inf_arch line components arches = arch_among line (having components line.inf arches) line.arch
