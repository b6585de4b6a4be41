-- The heads of sections (EDK II FDF specification, section 3).
use Rattle.std.specs.Prelude.{ℕ, Bool, true, ◌&&◌, ◌||◌, nat_lt, nat_le, ◌==◌, if◌then◌else◌, List, [], ◌∷◌, ◌++◌, length, Option, Some, None, codes}
use Rattle.std.specs.List.{list_all}
use Rattle.build_base.specs.FaultText.{fault_of}
use Rattle.build_base.specs.declared.fault.Fault.{Fault}
use Rattle.build_base.specs.declared.lines.Taken.{Taken}
use Rattle.meta_lexer.specs.Lookup.{lookup}
use Rattle.meta_lexer.specs.Parts.{first_text}
use Rattle.meta_lexer.specs.Words.{is_identifier}
use Rattle.meta_lexer.specs.declared.head.Head.{Head}
use Rattle.doc_types.specs.Arches.{arch_named}
use Rattle.doc_types.specs.ModuleTypes.{module_type_named}
use Rattle.doc_types.specs.declared.arch.Arch.{Arch}
use Rattle.doc_types.specs.declared.module_type.ModuleType.{ModuleType}
use Rattle.fdf_words.specs.declared.rows.Scope.{Scope}
use Rattle.fdf_words.specs.declared.rows.Scope.TheVariants as scope
use Rattle.fdf_lines.specs.declared.section.FlashSection.{FlashSection}
use Rattle.fdf_lines.specs.declared.section.FlashSection.TheVariants.{Defines, Device, Volume, Rule}
use Rattle.fdf_lines.specs.declared.section.HeadMeaning.{HeadMeaning}
use Rattle.fdf_lines.specs.declared.section.HeadMeaning.TheVariants.{Section, Ignored, BadQualifier, BadRule, Unknown}
use Rattle.build_base.specs.FaultCodes.{BAD_KEY, BAD_RULE, BAD_SECTION}

-- the sections that there are, without regard to case; those with None are read past
abbrev pub sections : List (List ℕ × Option FlashSection)
sections =
    (codes "Defines", Some Defines) ∷ (codes "FD", Some Device) ∷ (codes "FV", Some Volume)
    ∷ (codes "Rule", Some Rule)
    ∷ (codes "VTF", None) ∷ (codes "OptionRom", None) ∷ (codes "Capsule", None)
    ∷ (codes "FmpPayload", None)
    ∷ (codes "UserExtensions", None) ∷ (codes "DefaultStores", None) ∷ []

unfoldable pub section_named : List ℕ → Option (Option FlashSection)
section_named word = lookup sections word

-- letters, digits, `_` and `-`
abbrev pub is_name_byte : ℕ → Bool
is_name_byte b = (nat_le 97 b && nat_le b 122) || (nat_le 65 b && nat_le b 90)
    || (nat_le 48 b && nat_le b 57) || (b == 95) || (b == 45)

-- the name of a device or a volume
unfoldable pub is_image_name : List ℕ → Bool
is_image_name text = nat_lt 0 (length text) && nat_le (length text) 64 && list_all is_name_byte text

abbrev pub plain_meaning : List (List ℕ) → HeadMeaning
plain_meaning [] = Section scope.Settings
plain_meaning (qualifier ∷ qualifiers) = BadQualifier

-- one qualifier, which is a name
abbrev pub device_meaning : List (List ℕ) → HeadMeaning
device_meaning (name ∷ []) = if is_image_name name then Section (scope.Device name) else BadQualifier
device_meaning qualifiers = BadQualifier

abbrev pub volume_meaning : List (List ℕ) → HeadMeaning
volume_meaning (name ∷ []) = if is_image_name name then Section (scope.Volume name) else BadQualifier
volume_meaning qualifiers = BadQualifier

abbrev pub rule_scope : Option Arch → Option ModuleType → Bool → List ℕ → List ℕ → HeadMeaning
rule_scope (Some arch) (Some kind) named template name =
    if named
    then Section
    (scope.Rule (record { arch = arch; module_type = kind; template = template; name = name }))
    else BadRule
rule_scope (Some arch) None named template name = BadRule
rule_scope None kind named template name = BadRule

-- an architecture, a type of modules and maybe a template
abbrev pub rule_meaning : List (List ℕ) → HeadMeaning
rule_meaning (arch ∷ kind ∷ []) =
    rule_scope (arch_named arch) (module_type_named kind) true [] (arch ++ codes "." ++ kind)
rule_meaning (arch ∷ kind ∷ template ∷ []) =
    rule_scope (arch_named arch) (module_type_named kind) (is_identifier template) template
    (arch ++ codes "." ++ kind ++ codes "." ++ template)
rule_meaning qualifiers = BadRule

abbrev pub meaning_of : Option (Option FlashSection) → List (List ℕ) → HeadMeaning
meaning_of (Some (Some Defines)) qualifiers = plain_meaning qualifiers
meaning_of (Some (Some Device)) qualifiers = device_meaning qualifiers
meaning_of (Some (Some Volume)) qualifiers = volume_meaning qualifiers
meaning_of (Some (Some Rule)) qualifiers = rule_meaning qualifiers
meaning_of (Some None) qualifiers = Ignored
meaning_of None qualifiers = Unknown

abbrev pub parts_meaning : List (List ℕ) → HeadMeaning
parts_meaning [] = Unknown
parts_meaning (section ∷ qualifiers) = meaning_of (section_named section) qualifiers

-- what a head stands for
unfoldable pub head_meaning : Head → HeadMeaning
head_meaning head = parts_meaning head.parts

abbrev pub meaning_faults : Taken → Head → HeadMeaning → List (Option Fault)
meaning_faults line head BadQualifier = Some (fault_of BAD_SECTION line.at line.text) ∷ []
meaning_faults line head BadRule = Some (fault_of BAD_RULE line.at line.text) ∷ []
meaning_faults line head Unknown = Some (fault_of BAD_KEY line.at (first_text head.parts)) ∷ []
meaning_faults line head (Section scope) = []
meaning_faults line head Ignored = []

abbrev pub meaning_scope : HeadMeaning → Option Scope
meaning_scope (Section scope) = Some scope
meaning_scope Ignored = None
meaning_scope BadQualifier = None
meaning_scope BadRule = None
meaning_scope Unknown = None
