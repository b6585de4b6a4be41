-- That each module stands once for an architecture. This is the project's own rule.
use Rattle.std.specs.Prelude.{◌≡◌, ℕ, Bool, ◌&&◌, if◌then◌else◌, List, [], ◌∷◌, Option, Some, None, unwrap_or}
use Rattle.std.specs.List.{flat_map, list_any}
use Rattle.std.specs.Str.{bytes_eq}
use Rattle.std.specs.Global.{Vec}
use Rattle.std.specs.HashMap.{HashMap, get}
use Rattle.build_base.specs.FaultText.{fault_of}
use Rattle.build_base.specs.declared.fault.Fault.{Fault}
use Rattle.doc_reading.specs.Reading.{lines_fault}
use Rattle.doc_types.specs.declared.arch.Arch.{Arch}
use Rattle.doc_types.specs.declared.platform.Component.{Component}
use Rattle.dsc_lines.specs.SkuNames.{same_key}
use Rattle.build_base.specs.FaultCodes.{DUPLICATE_COMPONENT}
unfoldable pub use Rattle.doc_types.specs.Arches.{archs_overlap}

-- one module, for one architecture
abbrev pub repeats : Component → Component → Bool
repeats old component = bytes_eq old.inf component.inf && archs_overlap old.arch component.arch

abbrev pub repeat_fault : List Component → Component → Option Fault
repeat_fault above component = if list_any (λ old. repeats old component) above
    then Some (fault_of DUPLICATE_COMPONENT component.at component.inf) else None

-- the first that repeats one above it
unfoldable pub repeats_fault : List Component → Option Fault
repeats_fault components = lines_fault (λ above component last. repeat_fault above component) []
    components

abbrev pub arch_at : List ℕ → Component → List Arch
arch_at inf component = if bytes_eq component.inf inf then component.arch ∷ [] else []

-- a table gives the architectures of each module above
abbrev pub Arched : {S : Type 0} → List Component → HashMap (Vec ℕ) (List Arch) S → Type 0
Arched above table = (key : Vec ℕ) → unwrap_or (get same_key table key) []
    ≡ flat_map (arch_at key.items) above
