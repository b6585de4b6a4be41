-- What the makers of files take for granted of the sections of statements and of rules. The rule is
-- this project's own.
use Rattle.std.specs.Prelude.{◌≡◌, ◌==◌, true, All, is_some}
use Rattle.doc_types.specs.Standard.{EFI_SECTION_FREEFORM_SUBTYPE_GUID}
use Rattle.doc_types.specs.declared.flash.FlashDoc.{FlashDoc}
use Rattle.doc_types.specs.declared.volume.Item.{Item}
use Rattle.doc_types.specs.declared.volume.Item.TheVariants as item
use Rattle.doc_types.specs.declared.volume.RuleDoc.{RuleDoc}
use Rattle.doc_types.specs.declared.volume.SectionPlan.{SectionPlan}
use Rattle.doc_types.specs.declared.volume.SectionSource.{SectionSource}
use Rattle.doc_types.specs.declared.volume.SectionSource.TheVariants as source
use Rattle.doc_types.specs.declared.volume.VolumePlan.{VolumePlan}

-- a section has a GUID exactly where it is a SUBTYPE_GUID section
abbrev pub GuidStands : SectionPlan → Type 0
GuidStands section = is_some section.guid ≡ (section.kind == EFI_SECTION_FREEFORM_SUBTYPE_GUID)

-- a section of a FILE statement holds a file, a volume or a text
abbrev pub ServesStatementFrom : SectionPlan → SectionSource → Type 0
ServesStatementFrom section (source.Tree path) = GuidStands section
ServesStatementFrom section (source.Template text) = ⊥
ServesStatementFrom section (source.Volume n) = GuidStands section
ServesStatementFrom section (source.Words text) = GuidStands section
ServesStatementFrom section (source.Refused text) = ⊥

abbrev pub ServesStatement : SectionPlan → Type 0
ServesStatement section = ServesStatementFrom section section.source

-- a section of a rule holds a path with names to fill in, or a text, or its line may not be used
abbrev pub ServesRuleFrom : SectionPlan → SectionSource → Type 0
ServesRuleFrom section (source.Tree path) = ⊥
ServesRuleFrom section (source.Template text) = GuidStands section
ServesRuleFrom section (source.Volume n) = ⊥
ServesRuleFrom section (source.Words text) = GuidStands section
ServesRuleFrom section (source.Refused text) = Unit {0}

abbrev pub ServesRule : SectionPlan → Type 0
ServesRule section = ServesRuleFrom section section.source

-- all sections of a rule are such
abbrev pub Serves : RuleDoc → Type 0
Serves rule = All ServesRule rule.file.sections

-- a section of a module's file holds a file or a text
abbrev pub IsPlannedFrom : SectionPlan → SectionSource → Type 0
IsPlannedFrom section (source.Tree path) = GuidStands section
IsPlannedFrom section (source.Template text) = ⊥
IsPlannedFrom section (source.Volume n) = ⊥
IsPlannedFrom section (source.Words text) = GuidStands section
IsPlannedFrom section (source.Refused text) = ⊥

abbrev pub IsPlanned : SectionPlan → Type 0
IsPlanned section = IsPlannedFrom section section.source

-- an item of a volume: a FILE statement has a name and such sections
abbrev pub ItemStands : Item → Type 0
ItemStands (item.File plan) = All ServesStatement plan.sections × (is_some plan.guid ≡ true)
ItemStands (item.Apriori at pei members) = Unit {0}
ItemStands (item.Inf line) = Unit {0}

abbrev pub VolumeStands : VolumePlan → Type 0
VolumeStands plan = All ItemStands plan.items

-- the rules and the volumes of a flash description
pub record FlashStands (flash : FlashDoc) : Type 0 where
  pub rules : All Serves flash.rule_list
  pub volumes : All VolumeStands flash.volumes
