-- The rule for a module (EDK II FDF specification, [Rule] sections).
use Rattle.std.specs.Prelude.{ℕ, Bool, ◌&&◌, List, ◌++◌, Option, Some, None, Result, Ok, Err, codes}
use Rattle.std.specs.List.{position}
use Rattle.build_base.specs.FaultText.{fault_of}
use Rattle.build_base.specs.First.{or_else}
use Rattle.build_base.specs.declared.fault.Fault.{Fault}
use Rattle.build_base.specs.declared.fault.Place.{Place}
use Rattle.meta_lexer.specs.Words.{same_word}
use Rattle.doc_types.specs.declared.arch.Arch.{Arch}
use Rattle.doc_types.specs.declared.arch.Arch.TheVariants as arch
use Rattle.doc_types.specs.declared.module_type.ModuleType.{ModuleType}
use Rattle.doc_types.specs.declared.module_type.ModuleType.TheVariants as kind
use Rattle.doc_types.specs.declared.volume.InfLine.{InfLine}
use Rattle.doc_types.specs.declared.volume.RuleDoc.{RuleDoc}
use Rattle.build_base.specs.FaultCodes.{RULE_ABSENT}
unfoldable pub use Rattle.doc_types.specs.Arches.{same_arch}

abbrev pub arch_text : Arch → List ℕ
arch_text arch.Common = codes "COMMON"
arch_text arch.Ia32 = codes "IA32"
arch_text arch.X64 = codes "X64"
arch_text arch.Arm = codes "ARM"
arch_text arch.Aarch64 = codes "AARCH64"
arch_text arch.Riscv64 = codes "RISCV64"
arch_text arch.Loongarch64 = codes "LOONGARCH64"
arch_text arch.Ebc = codes "EBC"

abbrev pub type_text : ModuleType → List ℕ
type_text kind.Base = codes "BASE"
type_text kind.Sec = codes "SEC"
type_text kind.PeiCore = codes "PEI_CORE"
type_text kind.Peim = codes "PEIM"
type_text kind.DxeCore = codes "DXE_CORE"
type_text kind.DxeDriver = codes "DXE_DRIVER"
type_text kind.DxeRuntimeDriver = codes "DXE_RUNTIME_DRIVER"
type_text kind.DxeSalDriver = codes "DXE_SAL_DRIVER"
type_text kind.DxeSmmDriver = codes "DXE_SMM_DRIVER"
type_text kind.SmmCore = codes "SMM_CORE"
type_text kind.MmStandalone = codes "MM_STANDALONE"
type_text kind.MmCoreStandalone = codes "MM_CORE_STANDALONE"
type_text kind.UefiDriver = codes "UEFI_DRIVER"
type_text kind.UefiApplication = codes "UEFI_APPLICATION"
type_text kind.UserDefined = codes "USER_DEFINED"
type_text kind.HostApplication = codes "HOST_APPLICATION"

-- a rule is for this architecture and type, with this template
abbrev pub is_for : Arch → ModuleType → List ℕ → RuleDoc → Bool
is_for wanted module_type template rule =
    same_arch rule.arch wanted && same_word (type_text rule.module_type) (type_text module_type)
    && same_word rule.template template

-- the module's own architecture goes before every one
abbrev pub rule_place : List RuleDoc → Arch → ModuleType → List ℕ → Option ℕ
rule_place rules wanted module_type template =
    or_else (position (is_for wanted module_type template) rules)
    (position (is_for arch.Common module_type template) rules)

-- `ARCH.TYPE.TEMPLATE`
abbrev pub rule_name : Arch → ModuleType → List ℕ → List ℕ
rule_name wanted module_type template =
    arch_text wanted ++ codes "." ++ type_text module_type ++ codes "." ++ template

abbrev pub placed : Place → List ℕ → Option ℕ → Result ℕ Fault
placed at name (Some place) = Ok place
placed at name None = Err (fault_of RULE_ABSENT at name)

-- the number of the rule for a module that a line names
abbrev pub rule_of : List RuleDoc → InfLine → Arch → ModuleType → Result ℕ Fault
rule_of rules line wanted module_type =
    placed line.at (rule_name wanted module_type line.template)
    (rule_place rules wanted module_type line.template)
