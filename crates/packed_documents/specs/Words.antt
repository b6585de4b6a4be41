-- The encoding of enums without fields: the number of the variant, in the order of declaration. The
-- rule is this project's own.
use Rattle.std.specs.Prelude.{◌≡◌, ℕ, ◌==◌, if◌then◌else◌, refl}
use Rattle.doc_types.specs.declared.arch.Arch.{Arch}
use Rattle.doc_types.specs.declared.pcd.Asked.{Asked}
use Rattle.doc_types.specs.declared.pcd.Datum.{Datum}
use Rattle.doc_types.specs.declared.pcd.Kind.{Kind}
use Rattle.doc_types.specs.declared.module_type.ModuleType.{ModuleType}
use Rattle.doc_types.specs.declared.arch.Arch.TheVariants as arch
use Rattle.doc_types.specs.declared.module_type.ModuleType.TheVariants as module_type
use Rattle.doc_types.specs.declared.pcd.Kind.TheVariants as kind
use Rattle.doc_types.specs.declared.pcd.Datum.TheVariants as datum
use Rattle.doc_types.specs.declared.pcd.Asked.TheVariants as asked
use Rattle.packed_values.specs.Encoding.{Encoding}
use Rattle.packed_values.specs.Plain.{byte_encoding}
use Rattle.packed_values.specs.Parts.{encoding_by}

abbrev pub arch_number : Arch → ℕ
arch_number arch.Common = 0
arch_number arch.Ia32 = 1
arch_number arch.X64 = 2
arch_number arch.Arm = 3
arch_number arch.Aarch64 = 4
arch_number arch.Riscv64 = 5
arch_number arch.Loongarch64 = 6
arch_number arch.Ebc = 7

abbrev pub arch_of : ℕ → Arch
arch_of n =
    if n == 0 then arch.Common else if n == 1 then arch.Ia32 else if n == 2 then arch.X64
    else if n == 3 then arch.Arm else if n == 4 then arch.Aarch64 else if n == 5
    then arch.Riscv64 else if n == 6 then arch.Loongarch64 else arch.Ebc

pub arch_back : (x : Arch) → arch_of (arch_number x) ≡ x
arch_back arch.Common = refl
arch_back arch.Ia32 = refl
arch_back arch.X64 = refl
arch_back arch.Arm = refl
arch_back arch.Aarch64 = refl
arch_back arch.Riscv64 = refl
arch_back arch.Loongarch64 = refl
arch_back arch.Ebc = refl

unfoldable pub arch_encoding : Encoding Arch
arch_encoding = encoding_by arch_number arch_of arch_back byte_encoding

abbrev pub module_type_number : ModuleType → ℕ
module_type_number module_type.Base = 0
module_type_number module_type.Sec = 1
module_type_number module_type.PeiCore = 2
module_type_number module_type.Peim = 3
module_type_number module_type.DxeCore = 4
module_type_number module_type.DxeDriver = 5
module_type_number module_type.DxeRuntimeDriver = 6
module_type_number module_type.DxeSalDriver = 7
module_type_number module_type.DxeSmmDriver = 8
module_type_number module_type.SmmCore = 9
module_type_number module_type.MmStandalone = 10
module_type_number module_type.MmCoreStandalone = 11
module_type_number module_type.UefiDriver = 12
module_type_number module_type.UefiApplication = 13
module_type_number module_type.UserDefined = 14
module_type_number module_type.HostApplication = 15

abbrev pub module_type_of : ℕ → ModuleType
module_type_of n =
    if n == 0 then module_type.Base else if n == 1 then module_type.Sec else if n == 2
    then module_type.PeiCore else if n == 3 then module_type.Peim else if n == 4
    then module_type.DxeCore else if n == 5 then module_type.DxeDriver else if n == 6
    then module_type.DxeRuntimeDriver else if n == 7 then module_type.DxeSalDriver
    else if n == 8 then module_type.DxeSmmDriver else if n == 9 then module_type.SmmCore
    else if n == 10 then module_type.MmStandalone else if n == 11
    then module_type.MmCoreStandalone else if n == 12 then module_type.UefiDriver
    else if n == 13 then module_type.UefiApplication else if n == 14
    then module_type.UserDefined else module_type.HostApplication

pub module_type_back : (x : ModuleType) → module_type_of (module_type_number x) ≡ x
module_type_back module_type.Base = refl
module_type_back module_type.Sec = refl
module_type_back module_type.PeiCore = refl
module_type_back module_type.Peim = refl
module_type_back module_type.DxeCore = refl
module_type_back module_type.DxeDriver = refl
module_type_back module_type.DxeRuntimeDriver = refl
module_type_back module_type.DxeSalDriver = refl
module_type_back module_type.DxeSmmDriver = refl
module_type_back module_type.SmmCore = refl
module_type_back module_type.MmStandalone = refl
module_type_back module_type.MmCoreStandalone = refl
module_type_back module_type.UefiDriver = refl
module_type_back module_type.UefiApplication = refl
module_type_back module_type.UserDefined = refl
module_type_back module_type.HostApplication = refl

unfoldable pub module_type_encoding : Encoding ModuleType
module_type_encoding = encoding_by module_type_number module_type_of module_type_back byte_encoding

abbrev pub kind_number : Kind → ℕ
kind_number kind.FixedAtBuild = 0
kind_number kind.PatchableInModule = 1
kind_number kind.FeatureFlag = 2
kind_number kind.Dynamic = 3
kind_number kind.DynamicEx = 4

abbrev pub kind_of : ℕ → Kind
kind_of n =
    if n == 0 then kind.FixedAtBuild else if n == 1 then kind.PatchableInModule else if n == 2
    then kind.FeatureFlag else if n == 3 then kind.Dynamic else kind.DynamicEx

pub kind_back : (x : Kind) → kind_of (kind_number x) ≡ x
kind_back kind.FixedAtBuild = refl
kind_back kind.PatchableInModule = refl
kind_back kind.FeatureFlag = refl
kind_back kind.Dynamic = refl
kind_back kind.DynamicEx = refl

unfoldable pub kind_encoding : Encoding Kind
kind_encoding = encoding_by kind_number kind_of kind_back byte_encoding

abbrev pub datum_number : Datum → ℕ
datum_number datum.U8 = 0
datum_number datum.U16 = 1
datum_number datum.U32 = 2
datum_number datum.U64 = 3
datum_number datum.Boolean = 4
datum_number datum.Void = 5

abbrev pub datum_of : ℕ → Datum
datum_of n =
    if n == 0 then datum.U8 else if n == 1 then datum.U16 else if n == 2 then datum.U32
    else if n == 3 then datum.U64 else if n == 4 then datum.Boolean else datum.Void

pub datum_back : (x : Datum) → datum_of (datum_number x) ≡ x
datum_back datum.U8 = refl
datum_back datum.U16 = refl
datum_back datum.U32 = refl
datum_back datum.U64 = refl
datum_back datum.Boolean = refl
datum_back datum.Void = refl

unfoldable pub datum_encoding : Encoding Datum
datum_encoding = encoding_by datum_number datum_of datum_back byte_encoding

abbrev pub asked_number : Asked → ℕ
asked_number asked.Fixed = 0
asked_number asked.Feature = 1
asked_number asked.Patch = 2
asked_number asked.Any = 3
asked_number asked.Ex = 4

abbrev pub asked_of : ℕ → Asked
asked_of n =
    if n == 0 then asked.Fixed else if n == 1 then asked.Feature else if n == 2 then asked.Patch
    else if n == 3 then asked.Any else asked.Ex

pub asked_back : (x : Asked) → asked_of (asked_number x) ≡ x
asked_back asked.Fixed = refl
asked_back asked.Feature = refl
asked_back asked.Patch = refl
asked_back asked.Any = refl
asked_back asked.Ex = refl

unfoldable pub asked_encoding : Encoding Asked
asked_encoding = encoding_by asked_number asked_of asked_back byte_encoding
