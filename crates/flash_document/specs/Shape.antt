-- What the makers of images may take for granted of a flash description.
use Rattle.std.specs.Prelude.{◌≡◌, ℕ, ◌+◌, true, ◌<◌, ◌≤◌, ◌==◌, if◌then◌else◌, List, [], ◌∷◌, length, is_some, bit_and, IsTrue}
use Rattle.std.specs.List.{All}
use Rattle.doc_types.specs.Standard.{EFI_SECTION_FREEFORM_SUBTYPE_GUID}
use Rattle.doc_types.specs.declared.flash.FlashDoc.{FlashDoc}
use Rattle.doc_types.specs.declared.flash.DevicePlan.{DevicePlan}
use Rattle.doc_types.specs.declared.flash.Region.{Region}
use Rattle.doc_types.specs.declared.flash.RegionKind.{RegionKind}
use Rattle.doc_types.specs.declared.flash.RegionKind.TheVariants.{Empty, Bytes, Tree, Volume}
use Rattle.doc_types.specs.declared.volume.FilePlan.{FilePlan}
use Rattle.doc_types.specs.declared.volume.Item.{Item}
use Rattle.doc_types.specs.declared.volume.Item.TheVariants as item
use Rattle.doc_types.specs.declared.volume.RuleDoc.{RuleDoc}
use Rattle.doc_types.specs.declared.volume.SectionPlan.{SectionPlan}
use Rattle.doc_types.specs.declared.volume.SectionSource.{SectionSource}
use Rattle.doc_types.specs.declared.volume.SectionSource.TheVariants as source
use Rattle.doc_types.specs.declared.volume.VolumePlan.{VolumePlan}
use Rattle.doc_types.specs.declared.volume_head.VolumeHead.{VolumeHead}
use Rattle.doc_types.specs.Volumes as volumes
use Rattle.fdf_lines.specs.Sections.{is_image_name}

-- its head is that of a volume that can be made
abbrev pub HeadFits : VolumePlan → Type 0
HeadFits plan = volumes.HasShape plan.head

-- a volume in a region is one of those that there are
abbrev pub KindFits : ℕ → RegionKind → Type 0
KindFits count Empty = Unit {0}
KindFits count (Bytes bytes) = Unit {0}
KindFits count (Tree path) = Unit {0}
KindFits count (Volume n) = n < count

abbrev pub RegionFits : ℕ → Region → Type 0
RegionFits count region = KindFits count region.kind

abbrev pub DeviceFits : ℕ → DevicePlan → Type 0
DeviceFits count device = All (RegionFits count) device.regions

-- a section names volumes below its own alone
abbrev pub SourceFits : ℕ → SectionSource → Type 0
SourceFits v (source.Volume n) = n < v
SourceFits v (source.Tree path) = Unit {0}
SourceFits v (source.Template text) = Unit {0}
SourceFits v (source.Words text) = Unit {0}
SourceFits v (source.Refused text) = Unit {0}

-- a section has a GUID exactly where it is a SUBTYPE_GUID section, unless its line may not be used
abbrev pub GuidFits : SectionPlan → SectionSource → Type 0
GuidFits section (source.Refused text) = Unit {0}
GuidFits section (source.Volume n) = is_some section.guid
    ≡ (section.kind == EFI_SECTION_FREEFORM_SUBTYPE_GUID)
GuidFits section (source.Tree path) = is_some section.guid
    ≡ (section.kind == EFI_SECTION_FREEFORM_SUBTYPE_GUID)
GuidFits section (source.Template text) =
    is_some section.guid ≡ (section.kind == EFI_SECTION_FREEFORM_SUBTYPE_GUID)
GuidFits section (source.Words text) = is_some section.guid
    ≡ (section.kind == EFI_SECTION_FREEFORM_SUBTYPE_GUID)

pub record SectionFits (v : ℕ) (section : SectionPlan) : Type 0 where
  pub nested : SourceFits v section.source
  pub guid : GuidFits section section.source

-- a section of a FILE statement is a file of the tree, a volume, or a text of its line
abbrev pub IsStated : SectionSource → Type 0
IsStated (source.Tree path) = Unit {0}
IsStated (source.Volume n) = Unit {0}
IsStated (source.Words text) = Unit {0}
IsStated (source.Template text) = ⊥
IsStated (source.Refused text) = ⊥

-- a section of a rule is a path with names to be filled in, a text of its line, or may not be used
abbrev pub IsRuled : SectionSource → Type 0
IsRuled (source.Template text) = Unit {0}
IsRuled (source.Words text) = Unit {0}
IsRuled (source.Refused text) = Unit {0}
IsRuled (source.Tree path) = ⊥
IsRuled (source.Volume n) = ⊥

abbrev pub FileFits : ℕ → FilePlan → Type 0
FileFits v file = All (SectionFits v) file.sections

abbrev pub ItemFits : ℕ → Item → Type 0
ItemFits v (item.File file) = FileFits v file
ItemFits v (item.Apriori at pei members) = Unit {0}
ItemFits v (item.Inf line) = Unit {0}

-- a FILE statement has the name of its file
pub record FileIsStated (file : FilePlan) : Type 0 where
  pub guid : is_some file.guid ≡ true
  pub sources : All (λ section. IsStated section.source) file.sections

abbrev pub ItemIsStated : Item → Type 0
ItemIsStated (item.File file) = FileIsStated file
ItemIsStated (item.Apriori at pei members) = Unit {0}
ItemIsStated (item.Inf line) = Unit {0}

abbrev pub ItemsAreStated : VolumePlan → Type 0
ItemsAreStated plan = All ItemIsStated plan.items

-- EFI_FVB2_ERASE_POLARITY is set exactly where the polarity isn't 0
abbrev pub ErasedFits : VolumeHead → Type 0
ErasedFits head = bit_and head.attributes 2048 ≡ (if head.erase == 0 then 0 else 2048)

-- the volume of a number, whose name is that of a file
pub record VolumeFits (v : ℕ) (plan : VolumePlan) : Type 0 where
  pub erased : ErasedFits plan.head
  pub name : IsTrue (is_image_name plan.head.name)
  pub items : All (ItemFits v) plan.items

-- a device has the name of a file
abbrev pub NameFits : DevicePlan → Type 0
NameFits device = IsTrue (is_image_name device.name)

-- volumes from a number on
abbrev pub VolumesFit : ℕ → List VolumePlan → Type 0
VolumesFit v [] = Unit {0}
VolumesFit v (plan ∷ plans) = VolumeFits v plan × VolumesFit (v + 1) plans

-- a rule names no volume
abbrev pub RuleFits : RuleDoc → Type 0
RuleFits rule = FileFits 0 rule.file

abbrev pub SectionsAreRuled : RuleDoc → Type 0
SectionsAreRuled rule = All (λ section. IsRuled section.source) rule.file.sections

-- a volume has no more statements than its section may have
abbrev pub FewItems : VolumePlan → Type 0
FewItems plan = length plan.items ≤ 65535

pub record HasShape (flash : FlashDoc) : Type 0 where
  pub volumes : All HeadFits flash.volumes
  pub regions : All (DeviceFits (length flash.volumes)) flash.devices
  pub nested : VolumesFit 0 flash.volumes
  pub names : All NameFits flash.devices
  pub rules : All RuleFits flash.rule_list
  pub device_count : length flash.devices ≤ 65535
  pub volume_count : length flash.volumes ≤ 65535
  pub rule_count : length flash.rule_list ≤ 65535
  pub items : All FewItems flash.volumes
  pub files : All ItemsAreStated flash.volumes
  pub rule_sources : All SectionsAreRuled flash.rule_list
