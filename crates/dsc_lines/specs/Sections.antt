-- The sections of a DSC file, their qualifiers, and what their heads enter (EDK II DSC
-- specification, sections 2.2 and 3).
use Rattle.std.specs.Prelude.{ℕ, nat_lt, if◌then◌else◌, List, [], ◌∷◌, length, Option, Some, None, codes}
use Rattle.std.specs.Option.{option_map}
use Rattle.build_base.specs.FaultText.{fault_of}
use Rattle.build_base.specs.declared.fault.Fault.{Fault}
use Rattle.build_base.specs.declared.lines.Taken.{Taken}
use Rattle.meta_lexer.specs.Lookup.{lookup}
use Rattle.meta_lexer.specs.Parts.{first_text}
use Rattle.meta_lexer.specs.declared.head.Head.{Head}
use Rattle.doc_reading.specs.Values.{require}
use Rattle.doc_types.specs.Arches.{arch_named}
use Rattle.doc_types.specs.ModuleTypes.{module_type_named}
use Rattle.doc_types.specs.declared.arch.Arch.{Arch}
use Rattle.doc_types.specs.declared.arch.Arch.TheVariants.{Common}
use Rattle.doc_types.specs.declared.module_type.ModuleType.{ModuleType}
use Rattle.doc_types.specs.declared.pcd.Kind.{Kind}
use Rattle.doc_types.specs.declared.pcd.Kind.TheVariants.{FixedAtBuild, PatchableInModule, FeatureFlag, Dynamic, DynamicEx}
use Rattle.dsc_lines.specs.declared.section.StoreKind.{StoreKind}
use Rattle.dsc_lines.specs.declared.section.StoreKind.TheVariants.{Plain, Hii, Vpd}
use Rattle.dsc_lines.specs.declared.section.Section.{Section}
use Rattle.dsc_lines.specs.declared.section.Section.TheVariants.{Defines, SkuIds, Libraries, Components, Pcds}
use Rattle.dsc_lines.specs.declared.section.Scope.{Scope}
use Rattle.dsc_lines.specs.declared.section.Scope.TheVariants as scope
use Rattle.build_base.specs.FaultCodes.{BAD_ARCH, BAD_SECTION, DSC_UNKNOWN_SECTION}

-- a section that stands for None is read past
abbrev pub sections : List (List ℕ × Option Section)
sections =
    (codes "Defines", Some Defines) ∷ (codes "SkuIds", Some SkuIds)
    ∷ (codes "LibraryClasses", Some Libraries) ∷ (codes "Components", Some Components) ∷
    (codes "PcdsFeatureFlag", Some (Pcds FeatureFlag Plain))
    ∷ (codes "PcdsFixedAtBuild", Some (Pcds FixedAtBuild Plain)) ∷
    (codes "PcdsPatchableInModule", Some (Pcds PatchableInModule Plain)) ∷
    (codes "PcdsDynamicDefault", Some (Pcds Dynamic Plain))
    ∷ (codes "PcdsDynamicHii", Some (Pcds Dynamic Hii))
    ∷ (codes "PcdsDynamicVpd", Some (Pcds Dynamic Vpd)) ∷
    (codes "PcdsDynamicExDefault", Some (Pcds DynamicEx Plain))
    ∷ (codes "PcdsDynamicExHii", Some (Pcds DynamicEx Hii)) ∷
    (codes "PcdsDynamicExVpd", Some (Pcds DynamicEx Vpd)) ∷
    (codes "BuildOptions", None) ∷ (codes "UserExtensions", None) ∷ (codes "DefaultStores", None)
    ∷ (codes "Packages", None) ∷ []

unfoldable pub section_named : List ℕ → Option (Option Section)
section_named name = lookup sections name

-- the architecture that the first qualifier names; without one all of them
abbrev pub arch_word : List (List ℕ) → Option Arch
arch_word [] = Some Common
arch_word (word ∷ words) = arch_named word

-- the type of modules that the second qualifier names, where there is one
abbrev pub type_word : List (List ℕ) → Option (Option ModuleType)
type_word (arch ∷ word ∷ words) = option_map Some (module_type_named word)
type_word (arch ∷ []) = Some None
type_word [] = Some None

-- the SKU that the second qualifier names
abbrev pub sku_word : List (List ℕ) → List ℕ
sku_word (arch ∷ word ∷ words) = word
sku_word (arch ∷ []) = codes "DEFAULT"
sku_word [] = codes "DEFAULT"

-- a qualifier too many
abbrev pub qualifiers_fault : Taken → ℕ → List (List ℕ) → Option Fault
qualifiers_fault line most qualifiers = if nat_lt most (length qualifiers)
    then Some (fault_of BAD_SECTION line.at line.text) else None

abbrev pub arch_fault : Taken → List (List ℕ) → Option Arch → Option Fault
arch_fault line qualifiers arch = require arch (fault_of BAD_ARCH line.at (first_text qualifiers))

abbrev pub type_fault : Taken → Option (Option ModuleType) → Option Fault
type_fault line kind = require kind (fault_of BAD_SECTION line.at line.text)

-- the faults of a section's qualifiers, one for each code
abbrev pub section_faults : Taken → Section → List (List ℕ) → List (Option Fault)
section_faults line Defines qualifiers = qualifiers_fault line 0 qualifiers ∷ []
section_faults line SkuIds qualifiers = qualifiers_fault line 0 qualifiers ∷ []
section_faults line Libraries qualifiers =
    qualifiers_fault line 2 qualifiers ∷ type_fault line (type_word qualifiers)
    ∷ arch_fault line qualifiers (arch_word qualifiers) ∷ []
section_faults line Components qualifiers =
    qualifiers_fault line 1 qualifiers ∷ arch_fault line qualifiers (arch_word qualifiers) ∷ []
section_faults line (Pcds kind store) qualifiers =
    qualifiers_fault line 2 qualifiers ∷ arch_fault line qualifiers (arch_word qualifiers) ∷ []

abbrev pub libraries_scope : Option Arch → Option (Option ModuleType) → Option Scope
libraries_scope (Some arch) (Some kind) = Some (scope.Libraries arch kind)
libraries_scope (Some arch) None = None
libraries_scope None kind = None

abbrev pub components_scope : Option Arch → Option Scope
components_scope (Some arch) = Some (scope.Components arch)
components_scope None = None

abbrev pub pcds_scope : Kind → StoreKind → Option Arch → List ℕ → Option Scope
pcds_scope kind store (Some arch) sku =
    Some (scope.Pcds (record { kind = kind; store = store; arch = arch; sku = sku }))
pcds_scope kind store None sku = None

abbrev pub section_scope : Section → List (List ℕ) → Option Scope
section_scope Defines qualifiers = Some scope.Defines
section_scope SkuIds qualifiers = Some scope.SkuIds
section_scope Libraries qualifiers = libraries_scope (arch_word qualifiers) (type_word qualifiers)
section_scope Components qualifiers = components_scope (arch_word qualifiers)
section_scope (Pcds kind store) qualifiers =
    pcds_scope kind store (arch_word qualifiers) (sku_word qualifiers)

abbrev pub named_faults : Taken → Option (Option Section) → List ℕ → List (List ℕ)
    → List (Option Fault)
named_faults line (Some (Some section)) name qualifiers = section_faults line section qualifiers
named_faults line (Some None) name qualifiers = []
named_faults line None name qualifiers = Some (fault_of DSC_UNKNOWN_SECTION line.at name) ∷ []

abbrev pub named_scope : Option (Option Section) → List (List ℕ) → Option Scope
named_scope (Some (Some section)) qualifiers = section_scope section qualifiers
named_scope (Some None) qualifiers = None
named_scope None qualifiers = None

abbrev pub parts_faults : Taken → List (List ℕ) → List (Option Fault)
parts_faults line (name ∷ qualifiers) = named_faults line (section_named name) name qualifiers
parts_faults line [] = []

abbrev pub parts_scope : List (List ℕ) → Option Scope
parts_scope (name ∷ qualifiers) = named_scope (section_named name) qualifiers
parts_scope [] = None

-- the faults of a head, one for each code
unfoldable pub head_faults : Taken → Head → List (Option Fault)
head_faults line head = parts_faults line head.parts

-- what it enters, none where its section is read past
unfoldable pub scope_of : Head → Option Scope
scope_of head = parts_scope head.parts
