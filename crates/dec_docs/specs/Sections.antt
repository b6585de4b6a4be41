-- The sections of a DEC file, and what their heads stand for.
use Rattle.std.specs.Prelude.{ℕ, List, [], ◌∷◌, Option, Some, None, codes}
use Rattle.meta_lexer.specs.declared.head.Head.{Head}
use Rattle.meta_lexer.specs.Lookup.{lookup}
use Rattle.doc_reading.specs.declared.meaning.Meaning.{Meaning}
use Rattle.doc_reading.specs.declared.meaning.Meaning.TheVariants.{Section, Ignored, BadQualifier, Unknown}
use Rattle.doc_types.specs.Arches.{arch_named}
use Rattle.doc_types.specs.declared.arch.Arch.{Arch}
use Rattle.doc_types.specs.declared.arch.Arch.TheVariants.{Common}
use Rattle.doc_types.specs.declared.pcd.Kind.TheVariants.{FeatureFlag, FixedAtBuild, PatchableInModule, Dynamic, DynamicEx}
use Rattle.dec_docs.specs.declared.section.DecSection.{DecSection}
use Rattle.dec_docs.specs.declared.section.DecSection.TheVariants.{Defines, Guids, Pcds}
use Rattle.dec_docs.specs.declared.section.Entry.{Entry}

-- the sections; the last four are read past
abbrev pub sections : List (List ℕ × Option DecSection)
sections =
    (codes "Defines", Some Defines) ∷ (codes "Guids", Some Guids) ∷ (codes "Protocols", Some Guids)
    ∷ (codes "Ppis", Some Guids) ∷
    (codes "PcdsFeatureFlag", Some (Pcds FeatureFlag))
    ∷ (codes "PcdsFixedAtBuild", Some (Pcds FixedAtBuild)) ∷
    (codes "PcdsPatchableInModule", Some (Pcds PatchableInModule))
    ∷ (codes "PcdsDynamic", Some (Pcds Dynamic)) ∷
    (codes "PcdsDynamicEx", Some (Pcds DynamicEx)) ∷
    (codes "Includes", None) ∷ (codes "LibraryClasses", None) ∷ (codes "Packages", None)
    ∷ (codes "UserExtensions", None) ∷ []

unfoldable pub section_named : List ℕ → Option (Option DecSection)
section_named name = lookup sections name

-- without a qualifier
abbrev pub for_all : DecSection → Meaning Entry
for_all section = Section (record { section = section; arch = Common })

-- a qualifier is an architecture
abbrev pub with_arch : DecSection → Option Arch → Meaning Entry
with_arch section (Some arch) = Section (record { section = section; arch = arch })
with_arch section None = BadQualifier

-- at most one qualifier, and in [Defines] none
abbrev pub qualified_section : DecSection → List (List ℕ) → Meaning Entry
qualified_section section [] = for_all section
qualified_section Defines (word ∷ words) = BadQualifier
qualified_section Guids (word ∷ []) = with_arch Guids (arch_named word)
qualified_section (Pcds kind) (word ∷ []) = with_arch (Pcds kind) (arch_named word)
qualified_section section (word ∷ other ∷ words) = BadQualifier

-- a section that is read past takes any
abbrev pub meaning_of : Option (Option DecSection) → List (List ℕ) → Meaning Entry
meaning_of (Some (Some section)) qualifiers = qualified_section section qualifiers
meaning_of (Some None) qualifiers = Ignored
meaning_of None qualifiers = Unknown

abbrev pub parts_meaning : List (List ℕ) → Meaning Entry
parts_meaning (name ∷ qualifiers) = meaning_of (section_named name) qualifiers
parts_meaning [] = Unknown

unfoldable pub head_meaning : Head → Meaning Entry
head_meaning head = parts_meaning head.parts
