-- The values of the steps of files, volumes and devices in a world: what their sections, items and
-- regions hold, by the files of the world and by the values of other steps (EDK II FDF
-- specification; UEFI PI specification, volume 3).
use Rattle.std.specs.Prelude.{◌≡◌, ℕ, Bool, true, false, if◌then◌else◌, List, [], map, slice_get, Option, Some, None, Result, Ok, Err}
use Rattle.std.specs.List.{filter_map}
use Rattle.std.specs.Result.{result_err}
use Rattle.build_base.specs.First.{and_then, or_else, first_of, or_fault, all_ok}
use Rattle.build_base.specs.World.{World, got, field}
use Rattle.build_base.specs.declared.fault.Fault.{Fault}
use Rattle.build_base.specs.declared.fault.Place.{Place}
use Rattle.build_base.specs.declared.guid.Guid.{Guid}
use Rattle.build_base.specs.declared.outside.Got.{Got}
use Rattle.build_base.specs.declared.outside.Got.TheVariants.{File, Absent, TooLong}
use Rattle.doc_types.specs.declared.flash.DevicePlan.{DevicePlan}
use Rattle.doc_types.specs.declared.flash.FlashDoc.{FlashDoc}
use Rattle.doc_types.specs.declared.flash.RegionKind.{RegionKind}
use Rattle.doc_types.specs.declared.flash.RegionKind.TheVariants as kind
use Rattle.doc_types.specs.declared.image.Body.{Body}
use Rattle.doc_types.specs.declared.image.Body.TheVariants as body
use Rattle.doc_types.specs.declared.image.FileImage.{FileImage}
use Rattle.doc_types.specs.declared.image.Part.{Part}
use Rattle.doc_types.specs.declared.platform.PlatformDoc.{PlatformDoc}
use Rattle.doc_types.specs.declared.volume.FilePlan.{FilePlan}
use Rattle.doc_types.specs.declared.volume.InfLine.{InfLine}
use Rattle.doc_types.specs.declared.volume.Item.{Item}
use Rattle.doc_types.specs.declared.volume.Item.TheVariants as item
use Rattle.doc_types.specs.declared.volume.Member.{Member}
use Rattle.doc_types.specs.declared.volume.Member.TheVariants as member
use Rattle.doc_types.specs.declared.volume.SectionPlan.{SectionPlan}
use Rattle.doc_types.specs.declared.volume.SectionSource.{SectionSource}
use Rattle.doc_types.specs.declared.volume.SectionSource.TheVariants as source
use Rattle.doc_types.specs.declared.volume.VolumePlan.{VolumePlan}
use Rattle.doc_types.specs.declared.volume_head.VolumeHead.{VolumeHead}
use Rattle.fd_regions.specs.Device.{device_of}
use Rattle.ffs_sections.specs.File.{file_of}
use Rattle.step_engine.specs.declared.talk.Outcome.{Outcome}
use Rattle.step_engine.specs.declared.talk.Outcome.TheVariants.{Good, Bad}
use Rattle.build_stages.specs.Stages.{outcome_of, impossible_answer}
use Rattle.step_pack.specs.declared.key.Key.TheVariants as key
use Rattle.step_pack.specs.declared.out.Out.{Out}
use Rattle.step_pack.specs.declared.out.Out.TheVariants as out
use Rattle.rule_choice.specs.Modules.{inf_arch}
use Rattle.step_answers.specs.Settings.{arches_built}
use Rattle.step_answers.specs.Volumes.{is_based, volume_step, volume_at}
use Rattle.volume_steps.specs.Asks.{file_order, is_vpd}
use Rattle.step_answers.specs.Contents.{file_absent, section_absent, volume_given}
use Rattle.file_steps.specs.Words.{words_bytes}
use Rattle.file_steps.specs.Files.{file_name, image_plan}
use Rattle.file_steps.specs.Parts.{as_is, file_shaped, header_guid, part_with}
use Rattle.volume_steps.specs.Volumes.{composed_volume}
use Rattle.file_steps.specs.declared.parts.Shaped.{Shaped}
use Rattle.volume_steps.specs.Based.{rebased_image}
use Rattle.file_steps.specs.FileTrees.{item_at}
use Rattle.volume_steps.specs.VolumeTrees.{device_at, vpd_path}
use Rattle.file_steps.specs.declared.plans.ModulePlan.{ModulePlan}
use Rattle.file_steps.specs.Apriori.{apriori_plan}
use Rattle.file_steps.specs.ModuleAsks.{is_path_of, takes_depex}
use Rattle.file_steps.specs.Names.{module_guid}
use Rattle.step_answers.specs.Folders.{build_folder}
use Rattle.file_steps.specs.Plans.{module_of, module_plan}
use Rattle.file_steps.specs.Sections.{absent_fault, too_long, expression_fault, some_part, file_part, absent_part, expression_part, words_part}
use Rattle.step_answers.specs.Readers.{given_as}
use Rattle.build_rules.specs.Rules.{value_in}
use Rattle.build_rules.specs.Values.{inf_value, platform_value, flash_value}
use Rattle.build_laws.specs.TextValues.{depex_value}
use Rattle.build_laws.specs.VpdValues.{vpd_value}
use Rattle.job_fields.specs.Fields.{ARCHES, TARGET, TAG}

-- Files that must be there.

-- the bytes of a file, by what is got of it
abbrev pub bytes_got : Fault → List ℕ → Got → Result (List ℕ) Fault
bytes_got absent path (File bytes) = Ok bytes
bytes_got absent path Absent = Err absent
bytes_got absent path TooLong = Err (too_long path)

-- those of a path of the world, where this is the fault that it is absent
abbrev pub file_bytes : World → Fault → List ℕ → Result (List ℕ) Fault
file_bytes w absent path = bytes_got absent path (got w path)

-- FILE statements.

-- the image that the step of a volume gives, or its fault
abbrev pub image_of : Outcome Out → Result (List ℕ) Fault
image_of (Good given) = volume_given given
image_of (Bad fault) = Err fault

-- what the step of a volume of this number gives, which is moved where it is to be
abbrev pub nested_image : World → List VolumePlan → ℕ → Result (List ℕ) Fault
nested_image w volumes n = image_of (value_in w (volume_step volumes n))

-- the fault of the volume that a section holds
abbrev pub nested_fault : World → List VolumePlan → SectionSource → Option Fault
nested_fault w volumes (source.Tree path) = None
nested_fault w volumes (source.Template text) = None
nested_fault w volumes (source.Volume n) = result_err (nested_image w volumes n)
nested_fault w volumes (source.Words text) = None
nested_fault w volumes (source.Refused text) = None

-- the fault of the file that a section holds
abbrev pub held_fault : World → Place → SectionSource → Option Fault
held_fault w at (source.Tree path) = result_err (file_bytes w (section_absent at path) path)
held_fault w at (source.Template text) = None
held_fault w at (source.Volume n) = None
held_fault w at (source.Words text) = None
held_fault w at (source.Refused text) = None

-- what a section holds; the other forms stand in rules alone
abbrev pub section_content : World → List VolumePlan → SectionPlan → SectionSource
    → Result Shaped Fault
section_content w volumes section (source.Tree path) =
    and_then (file_bytes w (section_absent section.at path) path) (file_shaped section.kind path)
section_content w volumes section (source.Template text) = Err impossible_answer
section_content w volumes section (source.Volume n) =
    and_then (nested_image w volumes n) (λ image. Ok (as_is image))
section_content w volumes section (source.Words text) =
    Ok (as_is (words_bytes section.kind section.number text))
section_content w volumes section (source.Refused text) = Err impossible_answer

-- a section with its content
abbrev pub section_part : World → FlashDoc → SectionPlan → Result Part Fault
section_part w flash section =
    and_then (section_content w flash.volumes section section.source) (λ content.
    and_then (header_guid section.kind section.guid)
    (λ guid. Ok (part_with flash section content guid)))

-- The sections of a file. First each volume has to be made, then each file has to be there, and
-- then one is looked into.
abbrev pub sections_value : World → FlashDoc → List SectionPlan → Result (List Part) Fault
sections_value w flash sections =
    or_fault (first_of (map (λ section. nested_fault w flash.volumes section.source) sections))
    (or_fault (first_of (map (λ section. held_fault w section.at section.source) sections))
    (all_ok (map (section_part w flash) sections)))

-- the file that is the whole body, or else the sections
abbrev pub body_value : World → FlashDoc → List SectionPlan → Option (List ℕ) → Result Body Fault
body_value w flash sections (Some path) =
    and_then (file_bytes w (file_absent path) path) (λ bytes. Ok (body.Whole bytes))
body_value w flash sections None =
    and_then (sections_value w flash sections) (λ parts. Ok (body.Sections parts))

abbrev pub statement_value : World → FlashDoc → VolumeHead → FilePlan → Result FileImage Fault
statement_value w flash head plan =
    and_then (body_value w flash plan.sections plan.whole) (λ content.
    and_then (file_name plan.guid) (λ name. file_of (image_plan head plan name content)))

-- INF statements.

-- the file of a statement's module by its rule, whose names are filled in
abbrev pub plan_value : World → FlashDoc → InfLine → Result ModulePlan Fault
plan_value w flash line =
    and_then (platform_value w) (λ platform.
    and_then (inf_value w line.inf) (λ inf.
    and_then (arches_built platform (field w ARCHES)) (λ arches.
    module_plan flash line platform arches inf
    (build_folder platform.output (field w TARGET) (field w TAG)))))

-- the module's own expression, where a section holds it
abbrev pub own_value : World → ModulePlan → Result (List ℕ) Fault
own_value w plan =
    if takes_depex plan.depex plan.file.sections then depex_value w plan.«module» else Ok []

-- the fault of a file, which any of some sections may require
abbrev pub got_fault : List SectionPlan → List ℕ → Got → Option Fault
got_fault sections path (File bytes) = None
got_fault sections path Absent = absent_fault sections path
got_fault sections path TooLong = Some (too_long path)

-- that of the file that a section holds
abbrev pub required_fault : World → List ℕ → List SectionPlan → SectionSource → Option Fault
required_fault w depex sections (source.Tree path) =
    if is_path_of depex path then None else got_fault sections path (got w path)
required_fault w depex sections (source.Template text) = None
required_fault w depex sections (source.Volume n) = None
required_fault w depex sections (source.Words text) = None
required_fault w depex sections (source.Refused text) = None

-- the section of a file, unless it is left out
abbrev pub part_got : SectionPlan → List ℕ → Got → Result (Option Part) Fault
part_got section path (File bytes) = some_part (file_part section path bytes)
part_got section path Absent = absent_part section path
part_got section path TooLong = Err (too_long path)

-- a section of a rule, unless it is left out
abbrev pub rule_part : World → List ℕ → List ℕ → SectionPlan → SectionSource
    → Result (Option Part) Fault
rule_part w depex expression section (source.Tree path) =
    if is_path_of depex path then expression_part section path expression
    else part_got section path (got w path)
rule_part w depex expression section (source.Template text) = Err impossible_answer
rule_part w depex expression section (source.Volume n) = Err impossible_answer
rule_part w depex expression section (source.Words text) = words_part section text
rule_part w depex expression section (source.Refused text) = Err impossible_answer

-- The sections of a rule that are there. First each file and then the expression has to be there,
-- where it is required, and then one is looked into.
abbrev pub rule_parts : World → List ℕ → List SectionPlan → List ℕ → Result (List Part) Fault
rule_parts w depex sections expression =
    or_fault (first_of (map (λ section. required_fault w depex sections section.source) sections))
    (or_fault (expression_fault depex sections expression)
    (and_then
    (all_ok (map (λ section. rule_part w depex expression section section.source) sections))
    (λ parts. Ok (filter_map (λ part. part) parts))))

-- the file of a module, by its plan
abbrev pub planned_file : World → VolumeHead → ModulePlan → Result FileImage Fault
planned_file w head plan =
    and_then (own_value w plan) (λ expression.
    and_then (rule_parts w plan.depex plan.file.sections expression) (λ parts.
    file_of (image_plan head plan.file plan.name (body.Sections parts))))

-- APRIORI statements.

-- the fault of the platform or of a member's description
abbrev pub member_fault : World → Member → Option Fault
member_fault w (member.Inf line) =
    or_else (result_err (platform_value w)) (result_err (inf_value w line.inf))
member_fault w (member.File name) = None

-- the name of a member's file
abbrev pub member_value : World → Member → Result Guid Fault
member_value w (member.Inf line) =
    and_then (platform_value w) (λ platform.
    and_then (inf_value w line.inf) (λ inf.
    and_then (arches_built platform (field w ARCHES)) (λ arches.
    and_then (inf_arch line platform.components arches)
    (λ arch. Ok (module_guid platform (module_of line arch) inf)))))
member_value w (member.File name) = Ok name

-- The a priori file: first each description has to be there, then each module its name.
abbrev pub apriori_value : World → VolumeHead → Place → Bool → List Member → Result FileImage Fault
apriori_value w head at pei members =
    or_fault (first_of (map (member_fault w) members))
    (and_then (all_ok (map (member_value w) members))
    (λ names. file_of (apriori_plan head at pei names)))

-- Files.

abbrev pub item_value : World → FlashDoc → VolumeHead → Item → Result FileImage Fault
item_value w flash head (item.File plan) = statement_value w flash head plan
item_value w flash head (item.Apriori at pei members) = apriori_value w head at pei members
item_value w flash head (item.Inf line) =
    and_then (plan_value w flash line) (planned_file w head)

-- the file of item i of volume v
unfoldable pub file_value : World → ℕ → ℕ → Result FileImage Fault
file_value w v i =
    and_then (flash_value w) (λ flash.
    and_then (volume_at flash v) (λ plan.
    and_then (item_at flash plan i) (λ it. item_value w flash plan.head it)))

-- Volumes.

-- the files of a volume in their order, or the first fault of one
abbrev pub volume_files : World → ℕ → List Item → Result (List FileImage) Fault
volume_files w v items = all_ok (map (file_value w v) (file_order items))

-- the image of a volume of these files, as it stands or moved to its base, where it is to be
abbrev pub volume_by : Bool → VolumeHead → List FileImage → Result (List ℕ) Fault
volume_by true head files =
    if is_based head then rebased_image head files else composed_volume head files
volume_by false head files = composed_volume head files

abbrev pub planned_value : World → Bool → ℕ → VolumePlan → Result (List ℕ) Fault
planned_value w moved v plan = and_then (volume_files w v plan.items) (volume_by moved plan.head)

-- the image of volume v, as it stands or moved to its base
unfoldable pub volume_value : World → Bool → ℕ → Result (List ℕ) Fault
volume_value w moved v =
    and_then (flash_value w) (λ flash. and_then (volume_at flash v) (planned_value w moved v))

-- Devices.

-- whether the volume of a number is to be moved; there may be none
abbrev pub is_moved : Option VolumePlan → Bool
is_moved None = false
is_moved (Some plan) = is_based plan.head

-- the image of a volume of a number, which is moved where it is to be
abbrev pub volume_image : World → List VolumePlan → ℕ → Result (List ℕ) Fault
volume_image w volumes n = volume_value w (is_moved (slice_get volumes n)) n

-- the image of vital product data
abbrev pub vpd_bytes : World → Result (List ℕ) Fault
vpd_bytes w = and_then (vpd_value w) (λ vpd. Ok vpd.image)

-- what a region holds; the path of the image of vital product data, where there is one, names that
-- image
abbrev pub region_bytes : World → List VolumePlan → Option (List ℕ) → RegionKind
    → Result (List ℕ) Fault
region_bytes w volumes vpd kind.Empty = Ok []
region_bytes w volumes vpd (kind.Bytes bytes) = Ok bytes
region_bytes w volumes vpd (kind.Tree path) =
    if is_vpd vpd path then vpd_bytes w else file_bytes w (file_absent path) path
region_bytes w volumes vpd (kind.Volume n) = volume_image w volumes n

-- the fault of a region's image
abbrev pub region_fault : World → List VolumePlan → Option (List ℕ) → RegionKind → Option Fault
region_fault w volumes vpd kind.Empty = None
region_fault w volumes vpd (kind.Bytes bytes) = None
region_fault w volumes vpd (kind.Tree path) =
    if is_vpd vpd path then result_err (vpd_bytes w) else None
region_fault w volumes vpd (kind.Volume n) = result_err (volume_image w volumes n)

-- A device. First each image has to be made, then each file has to be there.
abbrev pub regions_value : World → List VolumePlan → Option (List ℕ) → DevicePlan
    → Result (List ℕ) Fault
regions_value w volumes vpd plan =
    or_fault (first_of (map (λ region. region_fault w volumes vpd region.kind) plan.regions))
    (and_then (all_ok (map (λ region. region_bytes w volumes vpd region.kind) plan.regions))
    (device_of plan))

abbrev pub numbered_value : World → ℕ → FlashDoc → PlatformDoc → Result (List ℕ) Fault
numbered_value w d flash platform =
    and_then (vpd_path platform (field w TARGET) (field w TAG)) (λ vpd.
    and_then (device_at flash d) (regions_value w flash.volumes vpd))

-- the image of device d
unfoldable pub device_value : World → ℕ → Result (List ℕ) Fault
device_value w d = and_then (flash_value w)
    (λ flash. and_then (platform_value w) (numbered_value w d flash))

-- the steps give these
abbrev pub GivesFile : World → ℕ → ℕ → Type 0
GivesFile w v i =
    value_in w (key.File v i) ≡ outcome_of (given_as out.File (file_value w v i))

abbrev pub GivesVolume : World → ℕ → Type 0
GivesVolume w v =
    value_in w (key.Volume v) ≡ outcome_of (given_as out.Volume (volume_value w false v))

abbrev pub GivesBased : World → ℕ → Type 0
GivesBased w v =
    value_in w (key.Based v) ≡ outcome_of (given_as out.Volume (volume_value w true v))

abbrev pub GivesDevice : World → ℕ → Type 0
GivesDevice w d =
    value_in w (key.Device d) ≡ outcome_of (given_as out.Device (device_value w d))
