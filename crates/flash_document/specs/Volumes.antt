-- A volume as its section states it (EDK II FDF specification, [FV] sections), and a rule.
use Rattle.std.specs.Prelude.{ℕ, Bool, true, false, ◌==◌, if◌then◌else◌, List, [], ◌∷◌, ◌++◌, fold, Option, Some, None, unwrap_or, bit_or}
use Rattle.doc_reading.specs.Reading.{last_of}
use Rattle.build_base.specs.declared.fault.Place.{Place}
use Rattle.build_base.specs.declared.guid.Guid.{Guid}
use Rattle.doc_types.specs.declared.volume.FilePlan.{FilePlan}
use Rattle.doc_types.specs.declared.volume.Member.{Member}
use Rattle.doc_types.specs.declared.volume.SectionPlan.{SectionPlan}
use Rattle.fdf_words.specs.declared.rows.LineRead.{LineRead}
use Rattle.fdf_words.specs.declared.rows.Row.{Row}
use Rattle.fdf_words.specs.declared.rows.Row.TheVariants as row
use Rattle.fdf_words.specs.declared.rows.VolumeKey.{VolumeKey}
use Rattle.fdf_words.specs.declared.rows.VolumeKey.TheVariants.{BlockSize, NumBlocks, FvBaseAddress, FvAlignment, ErasePolarity}
use Rattle.fdf_words.specs.declared.rows.VolumeSetting.{VolumeSetting}
use Rattle.fdf_words.specs.declared.rows.VolumeSetting.TheVariants.{Number, Attribute, ForceRebase, NameGuid, FileSystem}
use Rattle.fdf_words.specs.declared.rows.FileHead.{FileHead}
use Rattle.fdf_words.specs.declared.rows.RuleScope.{RuleScope}
use Rattle.fdf_words.specs.declared.rows.SectionLine.{SectionLine}
use Rattle.flash_document.specs.declared.stated.StatedVolume.{StatedVolume}
use Rattle.flash_document.specs.declared.stated.FdfStatement.{FdfStatement}
use Rattle.flash_document.specs.declared.stated.FdfStatement.TheVariants as item
use Rattle.flash_document.specs.declared.stated.StatedFile.{StatedFile}
use Rattle.flash_document.specs.declared.stated.FdfSection.{FdfSection}
use Rattle.flash_document.specs.declared.stated.FdfSection.TheVariants as stated
use Rattle.flash_document.specs.Columns.{row_at, column}

-- the setting of a row
abbrev pub setting_of : Option Row → Option VolumeSetting
setting_of (Some (row.Setting setting)) = Some setting
setting_of row = None

abbrev pub settings_in : {T : Type 0} → (VolumeSetting → List T) → Row → List T
settings_in says (row.Setting setting) = says setting
settings_in says row = []

-- the last line that says it holds
abbrev pub last_setting : {T : Type 0} → (VolumeSetting → List T) → ℕ → List LineRead → Option T
last_setting says k lines = last_of (column (settings_in says) k lines)

abbrev pub is_key : VolumeKey → VolumeKey → Bool
is_key BlockSize BlockSize = true
is_key NumBlocks NumBlocks = true
is_key FvBaseAddress FvBaseAddress = true
is_key FvAlignment FvAlignment = true
is_key ErasePolarity ErasePolarity = true
is_key key other = false

abbrev pub numbers : VolumeKey → VolumeSetting → List ℕ
numbers key (Number other n) = if is_key other key then n ∷ [] else []
numbers key setting = []

abbrev pub switches : ℕ → VolumeSetting → List Bool
switches bits (Attribute other on) = if other == bits then on ∷ [] else []
switches bits setting = []

abbrev pub rebases : VolumeSetting → List Bool
rebases (ForceRebase on) = on ∷ []
rebases setting = []

abbrev pub names : VolumeSetting → List Guid
names (NameGuid guid) = guid ∷ []
names setting = []

abbrev pub systems : VolumeSetting → List Bool
systems (FileSystem ffs3) = ffs3 ∷ []
systems setting = []

-- The attributes that an FDF file may state (UEFI PI specification, volume 3,
-- EFI_FVB_ATTRIBUTES_2): READ_DISABLED_CAP, READ_ENABLED_CAP, READ_STATUS, WRITE_DISABLED_CAP,
-- WRITE_ENABLED_CAP, WRITE_STATUS, LOCK_CAP, LOCK_STATUS, STICKY_WRITE, MEMORY_MAPPED,
-- READ_LOCK_CAP, READ_LOCK_STATUS, WRITE_LOCK_CAP, WRITE_LOCK_STATUS, WEAK_ALIGNMENT.
abbrev pub attributes : List ℕ
attributes =
    0x1 ∷ 0x2 ∷ 0x4 ∷ 0x8 ∷ 0x10 ∷ 0x20 ∷ 0x40 ∷ 0x80 ∷ 0x200 ∷ 0x400 ∷ 0x1000 ∷ 0x2000 ∷ 0x4000
    ∷ 0x8000 ∷ 0x80000000 ∷ []

abbrev pub is_on : ℕ → List LineRead → ℕ → Bool
is_on k lines bits = unwrap_or (last_setting (switches bits) k lines) false

abbrev pub with_flag : ℕ → List LineRead → ℕ → ℕ → ℕ
with_flag k lines flags bits = if is_on k lines bits then bit_or flags bits else flags

-- each is set where its last line says TRUE
abbrev pub flags_of : ℕ → List LineRead → ℕ
flags_of k lines = fold (with_flag k lines) 0 attributes

abbrev pub member_then : Option Row → List Member → List Member
member_then (Some row.Closes) later = []
member_then (Some (row.Member member)) later = member ∷ later
member_then row later = later

-- the members down to the closing brace
abbrev pub members_in : ℕ → List LineRead → List Member
members_in k [] = []
members_in k (line ∷ lines) = member_then (row_at k line) (members_in k lines)

abbrev pub section_then : Option Row → List SectionLine → List SectionLine
section_then (Some row.Closes) later = []
section_then (Some (row.Section section)) later = section ∷ later
section_then row later = later

-- the sections down to the closing brace
abbrev pub sections_in : ℕ → List LineRead → List SectionLine
sections_in k [] = []
sections_in k (line ∷ lines) = section_then (row_at k line) (sections_in k lines)

abbrev pub whole_or : Option Row → Option (List ℕ) → Option (List ℕ)
whole_or (Some row.Closes) later = None
whole_or (Some (row.Whole path)) later = Some path
whole_or row later = later

-- the path that stands before the closing brace
abbrev pub whole_in : ℕ → List LineRead → Option (List ℕ)
whole_in k [] = None
whole_in k (line ∷ lines) = whole_or (row_at k line) (whole_in k lines)

abbrev pub file_with : FileHead → ℕ → List LineRead → StatedFile
file_with head k lines =
    record { head = head; whole = whole_in k lines; sections = sections_in k lines }

abbrev pub item_at : Option Row → ℕ → List LineRead → List FdfStatement
item_at (Some (row.Apriori head)) k lines = item.Apriori head.at head.pei (members_in k lines) ∷ []
item_at (Some (row.File head)) k lines = item.File (file_with head k lines) ∷ []
item_at (Some (row.Inf line)) k lines = item.Inf line ∷ []
item_at row k lines = []

-- the statements, each with what stands in its braces
abbrev pub items_of : ℕ → List LineRead → List FdfStatement
items_of k [] = []
items_of k (line ∷ lines) = item_at (row_at k line) k lines ++ items_of k lines

unfoldable pub volume_of : Place → List ℕ → ℕ → List LineRead → StatedVolume
volume_of at name k lines = record {
  at = at;
  name = name;
  block_size = last_setting (numbers BlockSize) k lines;
  blocks = last_setting (numbers NumBlocks) k lines;
  erase = last_setting (numbers ErasePolarity) k lines;
  alignment = last_setting (numbers FvAlignment) k lines;
  base = last_setting (numbers FvBaseAddress) k lines;
  flags = flags_of k lines;
  name_guid = last_setting names k lines;
  force = unwrap_or (last_setting rebases k lines) false;
  ffs3 = unwrap_or (last_setting systems k lines) false;
  items = items_of k lines;
}

abbrev pub rule_sections : Row → List SectionPlan
rule_sections (row.RuleSection section) = section ∷ []
rule_sections row = []

abbrev pub rule_or : Option Row → Option FileHead → Option FileHead
rule_or (Some (row.RuleFile head)) later = Some head
rule_or row later = later

-- a rule's file
abbrev pub rule_head : ℕ → List LineRead → Option FileHead
rule_head k [] = None
rule_head k (line ∷ lines) = rule_or (row_at k line) (rule_head k lines)

abbrev pub plan_of : FileHead → List SectionPlan → FilePlan
plan_of head sections = record {
  at = head.at;
  file_type = head.file_type;
  guid = head.guid;
  fixed = head.fixed;
  checksum = head.checksum;
  align = head.align;
  whole = None;
  sections = sections;
}

abbrev pub rule_with : Place → RuleScope → List SectionPlan → Option FileHead → FdfSection
rule_with at scope sections None = stated.Settings
rule_with at scope sections (Some head) = stated.Rule (record {
  name = scope.name;
  rule =
      record {
        at = at;
        arch = scope.arch;
        module_type = scope.module_type;
        template =
            scope.template;
        file = plan_of head sections;
      };
})

-- a rule's sections are all that stand below its head
unfoldable pub rule_of_lines : Place → RuleScope → ℕ → List LineRead → FdfSection
rule_of_lines at scope k lines =
    rule_with at scope (column rule_sections k lines) (rule_head k lines)
