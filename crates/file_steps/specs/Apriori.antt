-- A priori files, which name the files that are to be dispatched first (UEFI PI specification,
-- volume 1, section 10.3; volume 2, section 10.3; EDK II FDF specification, APRIORI).
use Rattle.std.specs.Prelude.{ℕ, Bool, false, if◌then◌else◌, List, [], ◌∷◌, map, None, Result, Ok}
use Rattle.std.specs.List.{flat_map}
use Rattle.build_base.specs.declared.fault.Fault.{Fault}
use Rattle.build_base.specs.declared.fault.Place.{Place}
use Rattle.build_base.specs.declared.guid.Guid.{Guid}
use Rattle.build_base.specs.First.{and_then, all_ok}
use Rattle.step_engine.specs.declared.talk.Pair.{Pair}
use Rattle.step_pack.specs.declared.key.Key.{Key}
use Rattle.step_pack.specs.declared.out.Out.{Out}
use Rattle.doc_types.specs.Standard.{EFI_FV_FILETYPE_FREEFORM, EFI_SECTION_RAW}
use Rattle.doc_types.specs.declared.image.Body.TheVariants as body
use Rattle.doc_types.specs.declared.image.FileImage.{FileImage}
use Rattle.doc_types.specs.declared.image.ImagePlan.{ImagePlan}
use Rattle.doc_types.specs.declared.image.Part.{Part}
use Rattle.doc_types.specs.declared.module.InfDoc.{InfDoc}
use Rattle.doc_types.specs.declared.platform.PlatformDoc.{PlatformDoc}
use Rattle.doc_types.specs.declared.volume.InfLine.{InfLine}
use Rattle.doc_types.specs.declared.volume.Member.{Member}
use Rattle.doc_types.specs.declared.volume.Member.TheVariants as member
use Rattle.doc_types.specs.declared.volume_head.VolumeHead.{VolumeHead}
use Rattle.ffs_sections.specs.File.{file_of}
use Rattle.rule_choice.specs.Modules.{inf_arch}
use Rattle.step_answers.specs.Readers.{inf_in, platform_in}
use Rattle.step_answers.specs.Settings.{arches_built_in}
use Rattle.file_steps.specs.Names.{module_guid}
use Rattle.file_steps.specs.Plans.{module_of}

-- PEI_APRIORI_FILE_NAME_GUID, 1b45cc0a-156a-428a-af62-49864da0e6e6
abbrev pub PEI_APRIORI_FILE_NAME_GUID : List ℕ
PEI_APRIORI_FILE_NAME_GUID = 0x0A ∷ 0xCC ∷ 0x45 ∷ 0x1B ∷ 0x6A ∷ 0x15 ∷ 0x8A ∷ 0x42 ∷ 0xAF ∷ 0x62
    ∷ 0x49 ∷ 0x86 ∷ 0x4D ∷ 0xA0 ∷ 0xE6 ∷ 0xE6 ∷ []

-- EFI_APRIORI_GUID, fc510ee7-ffdc-11d4-bd41-0080c73c8881
abbrev pub EFI_APRIORI_GUID : List ℕ
EFI_APRIORI_GUID = 0xE7 ∷ 0x0E ∷ 0x51 ∷ 0xFC ∷ 0xDC ∷ 0xFF ∷ 0xD4 ∷ 0x11 ∷ 0xBD ∷ 0x41 ∷ 0x00 ∷ 0x80
    ∷ 0xC7 ∷ 0x3C ∷ 0x88 ∷ 0x81 ∷ []

-- the name of the file of the PEI phase, or of the DXE phase
abbrev pub apriori_name : Bool → Guid
apriori_name pei = record { 0 = if pei then PEI_APRIORI_FILE_NAME_GUID else EFI_APRIORI_GUID }

-- the name of the file of a statement's module, by the architectures
unfoldable pub name_described : List (Pair Key Out) → InfLine → PlatformDoc → InfDoc
    → Result Guid Fault
name_described given line platform inf =
    and_then (arches_built_in platform given) (λ arches.
    and_then (inf_arch line platform.components arches)
    (λ arch. Ok (module_guid platform (module_of line arch) inf)))

-- by the module's description before it
unfoldable pub name_below : List (Pair Key Out) → InfLine → PlatformDoc → Result Guid Fault
name_below given line platform =
    and_then (inf_in given line.inf) (name_described given line platform)

-- by what the statement asks, the platform first
unfoldable pub line_name : List (Pair Key Out) → InfLine → Result Guid Fault
line_name given line = and_then (platform_in given) (name_below given line)

abbrev pub member_name : List (Pair Key Out) → Member → Result Guid Fault
member_name given (member.Inf line) = line_name given line
member_name given (member.File name) = Ok name

abbrev pub names_given : List (Pair Key Out) → List Member → Result (List Guid) Fault
names_given given members = all_ok (map (member_name given) members)

-- one section of the names
abbrev pub names_part : List Guid → Part
names_part names =
    record {
      kind = EFI_SECTION_RAW;
      guid = None;
      align = 1;
      shift = 0;
      bytes =
          flat_map (λ name. name.0) names;
    }

abbrev pub apriori_plan : VolumeHead → Place → Bool → List Guid → ImagePlan
apriori_plan head at pei names = record {
  at = at;
  file_type = EFI_FV_FILETYPE_FREEFORM;
  guid = apriori_name pei;
  fixed = false;
  checksum = false;
  align = 1;
  erase = head.erase;
  ffs3 = head.ffs3;
  body = body.Sections (names_part names ∷ []);
}

-- the a priori file of a statement in a volume with this head
unfoldable pub apriori_given : VolumeHead → Place → Bool → List Member → List (Pair Key Out)
    → Result FileImage Fault
apriori_given head at pei members given =
    and_then (names_given given members) (λ names. file_of (apriori_plan head at pei names))
