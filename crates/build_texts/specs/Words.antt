-- The words of the texts: of architectures, and of kinds, types and sources of PCDs (EDK II DSC,
-- DEC and INF specifications). The words of sources are this project's own.
use Rattle.std.specs.Prelude.{ℕ, ◌==◌, if◌then◌else◌, List, [], codes}
use Rattle.doc_types.specs.declared.arch.Arch.{Arch}
use Rattle.doc_types.specs.declared.arch.Arch.TheVariants.{Common, Ia32, X64, Arm, Aarch64, Riscv64, Loongarch64, Ebc}
use Rattle.doc_types.specs.declared.pcd.Datum.{Datum}
use Rattle.doc_types.specs.declared.pcd.Datum.TheVariants.{U8, U16, U32, U64, Boolean, Void}
use Rattle.doc_types.specs.declared.pcd.Kind.{Kind}
use Rattle.doc_types.specs.declared.pcd.Kind.TheVariants.{FixedAtBuild, PatchableInModule, FeatureFlag, Dynamic, DynamicEx}

abbrev pub arch_word : Arch → List ℕ
arch_word Common = codes "COMMON"
arch_word Ia32 = codes "IA32"
arch_word X64 = codes "X64"
arch_word Arm = codes "ARM"
arch_word Aarch64 = codes "AARCH64"
arch_word Riscv64 = codes "RISCV64"
arch_word Loongarch64 = codes "LOONGARCH64"
arch_word Ebc = codes "EBC"

abbrev pub kind_word : Kind → List ℕ
kind_word FixedAtBuild = codes "FixedAtBuild"
kind_word PatchableInModule = codes "PatchableInModule"
kind_word FeatureFlag = codes "FeatureFlag"
kind_word Dynamic = codes "Dynamic"
kind_word DynamicEx = codes "DynamicEx"

abbrev pub datum_word : Datum → List ℕ
datum_word U8 = codes "UINT8"
datum_word U16 = codes "UINT16"
datum_word U32 = codes "UINT32"
datum_word U64 = codes "UINT64"
datum_word Boolean = codes "BOOLEAN"
datum_word Void = codes "VOID*"

-- What stated a value, by its rank: the build's words, a component, what a device's keys and
-- regions give by themselves, SET below a device, a volume or a rule, SET in [Defines], the
-- platform, a module, a package. No other rank is one.
abbrev pub source_word : ℕ → List ℕ
source_word rank =
    if rank == 1 then codes "COMMAND"
    else if rank == 2 then codes "COMPONENT"
    else if rank == 3 then codes "REGION"
    else if rank == 4 then codes "SET"
    else if rank == 5 then codes "SETDEF"
    else if rank == 6 then codes "DSC"
    else if rank == 7 then codes "INF"
    else if rank == 8 then codes "DEC"
    else []
