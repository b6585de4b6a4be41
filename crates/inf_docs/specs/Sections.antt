-- The sections of an INF file, and what their heads stand for (EDK II INF specification, section
-- heads).
use Rattle.std.specs.Prelude.{ℕ, List, [], ◌∷◌, Option, Some, None, codes}
use Rattle.doc_reading.specs.declared.meaning.Meaning.{Meaning}
use Rattle.doc_reading.specs.declared.meaning.Meaning.TheVariants.{Section, Ignored, BadQualifier, Unknown}
use Rattle.doc_types.specs.Arches.{arch_named}
use Rattle.doc_types.specs.ModuleTypes.{module_type_named}
use Rattle.doc_types.specs.declared.arch.Arch.{Arch}
use Rattle.doc_types.specs.declared.arch.Arch.TheVariants.{Common}
use Rattle.doc_types.specs.declared.module_type.ModuleType.{ModuleType}
use Rattle.doc_types.specs.declared.pcd.Asked.TheVariants.{Fixed, Feature, Patch, Any, Ex}
use Rattle.meta_lexer.specs.Lookup.{lookup}
use Rattle.meta_lexer.specs.declared.head.Head.{Head}
use Rattle.inf_docs.specs.declared.section.SectionKind.{SectionKind}
use Rattle.inf_docs.specs.declared.section.SectionKind.TheVariants.{Defines, Packages, Classes, GuidNames, Pcds, Depex}
use Rattle.inf_docs.specs.declared.section.Scope.{Scope}

-- the sections; the last eight are read past
abbrev pub sections : List (List ℕ × Option SectionKind)
sections =
    (codes "Defines", Some Defines) ∷ (codes "Packages", Some Packages) ∷
    (codes "LibraryClasses", Some Classes) ∷ (codes "Depex", Some Depex) ∷
    (codes "Guids", Some GuidNames) ∷ (codes "Protocols", Some GuidNames) ∷
    (codes "Ppis", Some GuidNames) ∷ (codes "FixedPcd", Some (Pcds Fixed)) ∷
    (codes "FeaturePcd", Some (Pcds Feature)) ∷ (codes "PatchPcd", Some (Pcds Patch)) ∷
    (codes "Pcd", Some (Pcds Any)) ∷ (codes "PcdEx", Some (Pcds Ex)) ∷
    (codes "Sources", None) ∷ (codes "Includes", None) ∷ (codes "BuildOptions", None) ∷
    (codes "UserExtensions", None) ∷ (codes "Binaries", None) ∷ (codes "Hob", None) ∷
    (codes "Event", None) ∷ (codes "BootMode", None) ∷ []

unfoldable pub section_named : List ℕ → Option (Option SectionKind)
section_named name = lookup sections name

abbrev pub scope_for : SectionKind → Arch → Option ModuleType → Meaning Scope
scope_for kind arch for_type = Section (record { kind = kind; arch = arch; for_type = for_type })

-- without a qualifier
abbrev pub for_all : SectionKind → Meaning Scope
for_all kind = scope_for kind Common None

-- a qualifier is an architecture
abbrev pub with_arch : SectionKind → Option Arch → Meaning Scope
with_arch kind (Some arch) = scope_for kind arch None
with_arch kind None = BadQualifier

-- and behind it in [Depex] a type of modules
abbrev pub with_type : Option Arch → Option ModuleType → Meaning Scope
with_type (Some arch) (Some found) = scope_for Depex arch (Some found)
with_type (Some arch) None = BadQualifier
with_type None found = BadQualifier

-- no qualifier in [Defines], at most one elsewhere, two in [Depex]
abbrev pub qualified_section : SectionKind → List (List ℕ) → Meaning Scope
qualified_section kind [] = for_all kind
qualified_section Defines (word ∷ words) = BadQualifier
qualified_section Packages (word ∷ []) = with_arch Packages (arch_named word)
qualified_section Classes (word ∷ []) = with_arch Classes (arch_named word)
qualified_section GuidNames (word ∷ []) = with_arch GuidNames (arch_named word)
qualified_section (Pcds asked) (word ∷ []) = with_arch (Pcds asked) (arch_named word)
qualified_section Depex (word ∷ []) = with_arch Depex (arch_named word)
qualified_section Depex (word ∷ next ∷ []) = with_type (arch_named word) (module_type_named next)
qualified_section kind (word ∷ next ∷ words) = BadQualifier

-- a section that is read past takes any
abbrev pub meaning_of : Option (Option SectionKind) → List (List ℕ) → Meaning Scope
meaning_of (Some (Some kind)) qualifiers = qualified_section kind qualifiers
meaning_of (Some None) qualifiers = Ignored
meaning_of None qualifiers = Unknown

abbrev pub parts_meaning : List (List ℕ) → Meaning Scope
parts_meaning (name ∷ qualifiers) = meaning_of (section_named name) qualifiers
parts_meaning [] = Unknown

unfoldable pub head_meaning : Head → Meaning Scope
head_meaning head = parts_meaning head.parts
