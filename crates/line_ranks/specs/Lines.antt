-- How much a line counts that gives a library class its instance (EDK II DSC specification, [LibraryClasses] and
-- <LibraryClasses>).
use Rattle.std.specs.Prelude.{ℕ, Bool, true, false, ◌&&◌, nat_eq, if◌then◌else◌, List, Option, Some, None}
use Rattle.std.specs.Option.{is_some}
use Rattle.std.specs.Cmp.Lexicographic.{pointwise}
use Rattle.doc_types.specs.declared.arch.Arch.{Arch}
use Rattle.doc_types.specs.declared.arch.Arch.TheVariants.{Common}
use Rattle.doc_types.specs.declared.module_type.ModuleType.{ModuleType}
use Rattle.doc_types.specs.declared.module_type.ModuleType.TheVariants.{Base, Sec, PeiCore, Peim, DxeCore, DxeDriver, DxeRuntimeDriver, DxeSalDriver, DxeSmmDriver, SmmCore, MmStandalone, MmCoreStandalone, UefiDriver, UefiApplication, UserDefined, HostApplication}
use Rattle.doc_types.specs.declared.platform.LibraryLine.{LibraryLine}
use Rattle.line_ranks.specs.declared.user.Consumer.{Consumer}
unfoldable pub use Rattle.doc_types.specs.Arches.{covers}

unfoldable pub same_type : ModuleType → ModuleType → Bool
same_type Base Base = true
same_type Sec Sec = true
same_type PeiCore PeiCore = true
same_type Peim Peim = true
same_type DxeCore DxeCore = true
same_type DxeDriver DxeDriver = true
same_type DxeRuntimeDriver DxeRuntimeDriver = true
same_type DxeSalDriver DxeSalDriver = true
same_type DxeSmmDriver DxeSmmDriver = true
same_type SmmCore SmmCore = true
same_type MmStandalone MmStandalone = true
same_type MmCoreStandalone MmCoreStandalone = true
same_type UefiDriver UefiDriver = true
same_type UefiApplication UefiApplication = true
same_type UserDefined UserDefined = true
same_type HostApplication HostApplication = true
same_type stated own = false

abbrev pub type_covers : Option ModuleType → ModuleType → Bool
type_covers None own = true
type_covers (Some stated) own = same_type stated own

-- a line of a section for this architecture or for all, and for this type or for all
unfoldable pub applies : Consumer → LibraryLine → Bool
applies user line = covers line.arch user.arch && type_covers line.kind user.kind

abbrev pub is_common : Arch → Bool
is_common Common = true
is_common own = false

-- of the sections: for an architecture and a type, for a type, for an architecture, for all
unfoldable pub section_rank : LibraryLine → ℕ
section_rank line =
    if is_some line.kind then (if is_common line.arch then 3 else 4)
    else (if is_common line.arch then 1 else 2)

-- a line of the module's own braces goes before all of those; 0 where it doesn't apply
unfoldable pub rank : Consumer → Bool → LibraryLine → ℕ
rank user own line =
    if applies user line then (if own then 5 else section_rank line) else 0

abbrev pub weight : Consumer → Bool → List ℕ → LibraryLine → ℕ
weight user own class line = if pointwise nat_eq line.class class then rank user own line else 0
