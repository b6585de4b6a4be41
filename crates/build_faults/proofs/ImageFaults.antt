-- The files, volumes and devices of a world: the fault of one that can't be made has a name. What
-- the values of other steps and the flash description have are premises.
use Rattle.std.proofs.Common.{All, Bool, List, None, Ok, Option, Result, Some, [], arith, false, map, refl, slice_get, subst, suc, sym, true, zero, ℕ, ◌+◌, ◌<◌, ◌∷◌, ◌≡◌}
use Rattle.std.proofs.lemmas.List.Elements.{All-cons, All-head, All-nil, All-tail}
use Rattle.std.specs.List.{filter_map, list_all}
use Rattle.std.specs.Result.{result_err}
use Rattle.build_base.specs.FaultNames.{fault_name, name_in_table}
use Rattle.build_base.specs.First.{all_ok, and_then, first_of, or_fault}
use Rattle.build_base.specs.World.{World, field, got}
use Rattle.build_base.specs.declared.fault.Fault.{Fault}
use Rattle.build_base.specs.declared.fault.Place.{Place}
use Rattle.build_base.specs.declared.guid.Guid.{Guid}
use Rattle.build_base.specs.declared.outside.Got.{Got}
use Rattle.build_base.specs.declared.outside.Got.TheVariants.{Absent, File, TooLong}
use Rattle.named_faults.proofs.NamedLemmas.{AllFailByName, AreNamed, all_fails, err_named, first_named, if_fails, if_named, mapped_fails, mapped_named, or_else_named, or_fault_fails, then_fails, each_fails}
use Rattle.named_faults.specs.Named.{FailsByName, HasName, IsNamed}
use Rattle.doc_types.specs.declared.arch.Arch.{Arch}
use Rattle.doc_types.specs.declared.choice.Module.{Module}
use Rattle.doc_types.specs.declared.flash.DevicePlan.{DevicePlan}
use Rattle.doc_types.specs.declared.flash.FlashDoc.{FlashDoc}
use Rattle.doc_types.specs.declared.flash.RegionKind.{RegionKind}
use Rattle.doc_types.specs.declared.flash.RegionKind.TheVariants as kind
use Rattle.doc_types.specs.declared.image.Body.{Body}
use Rattle.doc_types.specs.declared.image.Body.TheVariants as body
use Rattle.doc_types.specs.declared.image.FileImage.{FileImage}
use Rattle.doc_types.specs.declared.image.Part.{Part}
use Rattle.doc_types.specs.declared.module.InfDoc.{InfDoc}
use Rattle.doc_types.specs.declared.platform.PlatformDoc.{PlatformDoc}
use Rattle.doc_types.specs.declared.volume.FilePlan.{FilePlan}
use Rattle.doc_types.specs.declared.volume.InfLine.{InfLine}
use Rattle.doc_types.specs.declared.volume.Item.{Item}
use Rattle.doc_types.specs.declared.volume.Item.TheVariants as item
use Rattle.doc_types.specs.declared.volume.Member.{Member}
use Rattle.doc_types.specs.declared.volume.Member.TheVariants as member
use Rattle.doc_types.specs.declared.volume.RuleDoc.{RuleDoc}
use Rattle.doc_types.specs.declared.volume.SectionPlan.{SectionPlan}
use Rattle.doc_types.specs.declared.volume.SectionSource.{SectionSource}
use Rattle.doc_types.specs.declared.volume.SectionSource.TheVariants as source
use Rattle.doc_types.specs.declared.volume.VolumePlan.{VolumePlan}
use Rattle.doc_types.specs.declared.volume_head.VolumeHead.{VolumeHead}
use Rattle.step_engine.specs.Meaning.{IsWorld}
use Rattle.rule_choice.specs.Modules.{inf_arch}
use Rattle.flash_document.specs.Shape.{GuidFits, HasShape, HeadFits, IsRuled, IsStated, ItemFits, ItemIsStated, ItemsAreStated, RuleFits, SectionFits, SectionsAreRuled, SourceFits, VolumesFit}
use Rattle.ffs_sections.specs.File.{file_of}
use Rattle.fv_compose.specs.Files.{is_stated}
use Rattle.fv_compose.specs.Volume.{HasShape as CanBeMade}
use Rattle.image_rebase.proofs.SameLemmas.{past, through}
use Rattle.fd_regions.specs.Device.{device_of}
use Rattle.build_stages.specs.Stages.{meaning_of}
use Rattle.step_pack.specs.Keys.{key_cmp}
use Rattle.volume_steps.specs.Asks.{file_order, is_vpd}
use Rattle.step_answers.specs.Volumes.{is_based, item_of_number, volume_at}
use Rattle.step_answers.specs.Contents.{file_absent, section_absent}
use Rattle.file_steps.specs.Files.{file_name, image_plan}
use Rattle.file_steps.specs.Parts.{as_is, file_shaped, header_guid, part_with}
use Rattle.volume_steps.specs.Volumes.{composed_volume}
use Rattle.step_answers.specs.Settings.{arches_built}
use Rattle.file_steps.specs.Apriori.{apriori_plan}
use Rattle.file_steps.specs.ModuleAsks.{is_path_of, takes_depex}
use Rattle.file_steps.specs.Names.{module_guid}
use Rattle.step_answers.specs.Folders.{build_folder}
use Rattle.file_steps.specs.Plans.{module_of, module_plan}
use Rattle.file_steps.specs.Sections.{expression_fault, expression_part, file_part}
use Rattle.file_steps.specs.declared.plans.ModulePlan.{ModulePlan}
use Rattle.volume_steps.specs.Based.{rebased_image}
use Rattle.volume_steps.specs.VolumeTrees.{device_at, vpd_path}
use Rattle.file_steps.specs.FileTrees.{item_at}
use Rattle.image_faults.proofs.BasedFaults.{based_fails}
use Rattle.image_faults.proofs.ContentFaults.{composed_fails, file_absent_named, name_fails, section_absent_named, shaped_fails, stated_part_fails}
use Rattle.image_faults.proofs.DeviceFaults.{device_fails}
use Rattle.image_faults.proofs.FileFaults.{file_fails, file_stated}
use Rattle.image_faults.proofs.PartLemmas.{all_tested, zipped}
use Rattle.image_faults.proofs.PlanFaults.{plan_fails, plan_planned}
use Rattle.image_faults.proofs.RuleFaults.{arch_fails}
use Rattle.image_faults.proofs.SectionFaults.{absent_fault_named, absent_part_fails, expression_named, expression_part_fails, file_part_fails, some_part_fails, too_long_named, words_part_fails}
use Rattle.image_faults.specs.Served.{FlashStands, GuidStands, IsPlanned, IsPlannedFrom, ItemStands, Serves, ServesRule, ServesRuleFrom, ServesStatement, ServesStatementFrom, VolumeStands}
use Rattle.build_laws.proofs.DeviceValues.{nested_is}
use Rattle.build_laws.proofs.FlashShape.{flash_shape, item_fits, named_has}
use Rattle.build_laws.specs.ImageValues.{apriori_value, body_value, bytes_got, device_value, file_bytes, file_value, got_fault, held_fault, is_moved, item_value, member_fault, member_value, nested_fault, nested_image, numbered_value, own_value, part_got, plan_value, planned_file, planned_value, region_bytes, region_fault, regions_value, required_fault, rule_part, rule_parts, section_content, section_part, sections_value, statement_value, volume_by, volume_files, volume_image, volume_value, vpd_bytes}
use Rattle.build_rules.specs.Rules.{edk}
use Rattle.build_laws.specs.TextValues.{depex_value}
use Rattle.build_rules.specs.Values.{flash_value, inf_value, platform_value}
use Rattle.build_laws.specs.VpdValues.{vpd_value}

-- The values of the documents' steps, and of the other steps that these take, fail by names.
pub record StepsFail (w : World) : Type 0 where
  pub platform : FailsByName (platform_value w)
  pub flash : FailsByName (flash_value w)
  pub inf : (path : List ℕ) → FailsByName (inf_value w path)
  pub arches : (platform : PlatformDoc) → platform_value w ≡ Ok platform → FailsByName (arches_built platform (field w 1))
  pub depex : (m : Module) → FailsByName (depex_value w m)
  pub vpd : FailsByName (vpd_value w)
  pub path : (platform : PlatformDoc) → platform_value w ≡ Ok platform → FailsByName (vpd_path platform (field w 2) (field w 3))

-- The rules and the volumes of the flash description can be used.
abbrev pub FlashFits : World → Type 0
FlashFits w = (flash : FlashDoc) → flash_value w ≡ Ok flash → FlashStands flash

-- A flash description of its shape, whose statements and rules hold what they may, can be used.

statement_serves : (section : SectionPlan) (from : SectionSource) → GuidFits section from → IsStated from → ServesStatementFrom section from
statement_serves section (source.Tree path) g h = g
statement_serves section (source.Template text) g h = h
statement_serves section (source.Volume n) g h = g
statement_serves section (source.Words text) g h = g
statement_serves section (source.Refused text) g h = h

line_serves : (section : SectionPlan) (from : SectionSource) → GuidFits section from → IsRuled from → ServesRuleFrom section from
line_serves section (source.Tree path) g h = h
line_serves section (source.Template text) g h = g
line_serves section (source.Volume n) g h = h
line_serves section (source.Words text) g h = g
line_serves section (source.Refused text) g h = tt

item_stands : (v : ℕ) (it : Item) → ItemFits v it → ItemIsStated it → ItemStands it
item_stands v (item.File file) f h =
    (zipped (SectionFits v) (λ section. IsStated section.source) ServesStatement (λ section a b. statement_serves section section.source a.guid b) file.sections f h.sources, h.guid)
item_stands v (item.Apriori at pei members) f h = tt
item_stands v (item.Inf line) f h = tt

volumes_stand : (v : ℕ) (plans : List VolumePlan) → VolumesFit v plans → All ItemsAreStated plans → All VolumeStands plans
volumes_stand v [] f h = All-nil VolumeStands
volumes_stand v (plan ∷ plans) f h =
    All-cons VolumeStands plan plans (zipped (ItemFits v) ItemIsStated ItemStands (item_stands v) plan.items f.0.items (All-head ItemsAreStated plan plans h))
    (volumes_stand (v + 1) plans f.1 (All-tail ItemsAreStated plan plans h))

rule_serves : (rule : RuleDoc) → RuleFits rule → SectionsAreRuled rule → Serves rule
rule_serves rule f h = zipped (SectionFits 0) (λ section. IsRuled section.source) ServesRule (λ section a b. line_serves section section.source a.guid b) rule.file.sections f h

pub flash_stands : (flash : FlashDoc) → HasShape flash → FlashStands flash
flash_stands flash shape = record {
  rules = zipped RuleFits SectionsAreRuled Serves rule_serves flash.rule_list shape.rules shape.rule_sources;
  volumes = volumes_stand 0 flash.volumes shape.nested shape.files;
}

-- Files that must be there.

bytes_fail : (absent : Fault) (path : List ℕ) (g : Got) → HasName absent → FailsByName (bytes_got absent path g)
bytes_fail absent path (File bytes) n = tt
bytes_fail absent path Absent n = n
bytes_fail absent path TooLong n = too_long_named path

-- FILE statements.

-- the volumes below a volume fail by names
abbrev Nested : World → List VolumePlan → ℕ → Type 0
Nested w volumes v = (n : ℕ) → n < v → FailsByName (nested_image w volumes n)

nested_named : (w : World) (volumes : List VolumePlan) (v : ℕ) (from : SectionSource) → SourceFits v from → Nested w volumes v → IsNamed (nested_fault w volumes from)
nested_named w volumes v (source.Tree path) h n = tt
nested_named w volumes v (source.Template text) h n = tt
nested_named w volumes v (source.Volume k) h n = err_named (nested_image w volumes k) (n k h)
nested_named w volumes v (source.Words text) h n = tt
nested_named w volumes v (source.Refused text) h n = tt

held_named : (w : World) (at : Place) (from : SectionSource) → IsNamed (held_fault w at from)
held_named w at (source.Tree path) = err_named (file_bytes w (section_absent at path) path) (bytes_fail (section_absent at path) path (got w path) (section_absent_named at path))
held_named w at (source.Template text) = tt
held_named w at (source.Volume n) = tt
held_named w at (source.Words text) = tt
held_named w at (source.Refused text) = tt

content_fails : (w : World) (volumes : List VolumePlan) (v : ℕ) (section : SectionPlan) (from : SectionSource) → ServesStatementFrom section from → SourceFits v from → Nested w volumes v
    → FailsByName (section_content w volumes section from)
content_fails w volumes v section (source.Tree path) s h n =
    then_fails (file_bytes w (section_absent section.at path) path) (file_shaped section.kind path)
    (bytes_fail (section_absent section.at path) path (got w path) (section_absent_named section.at path)) (λ bytes e. shaped_fails section.kind path bytes)
content_fails w volumes v section (source.Template text) s h n = absurd s
content_fails w volumes v section (source.Volume k) s h n = then_fails (nested_image w volumes k) (λ image. Ok (as_is image)) (n k h) (λ image e. tt)
content_fails w volumes v section (source.Words text) s h n = tt
content_fails w volumes v section (source.Refused text) s h n = absurd s

guid_stands : (section : SectionPlan) (from : SectionSource) → ServesStatementFrom section from → GuidStands section
guid_stands section (source.Tree path) s = s
guid_stands section (source.Template text) s = absurd s
guid_stands section (source.Volume n) s = s
guid_stands section (source.Words text) s = s
guid_stands section (source.Refused text) s = absurd s

part_fails : (w : World) (flash : FlashDoc) (v : ℕ) (section : SectionPlan) → ServesStatement section → SourceFits v section.source → Nested w flash.volumes v → FailsByName (section_part w flash section)
part_fails w flash v section s h n =
    then_fails (section_content w flash.volumes section section.source) (λ content. and_then (header_guid section.kind section.guid) (λ guid. Ok (part_with flash section content guid)))
    (content_fails w flash.volumes v section section.source s h n) (λ content e. stated_part_fails flash section content (guid_stands section section.source s))

nested_each : (w : World) (volumes : List VolumePlan) (v : ℕ) (sections : List SectionPlan) → All (SectionFits v) sections → Nested w volumes v
    → AreNamed (map (λ section. nested_fault w volumes section.source) sections)
nested_each w volumes v [] f n = tt
nested_each w volumes v (section ∷ sections) f n =
    (nested_named w volumes v section.source (All-head (SectionFits v) section sections f).nested n, nested_each w volumes v sections (All-tail (SectionFits v) section sections f) n)

parts_each : (w : World) (flash : FlashDoc) (v : ℕ) (sections : List SectionPlan) → All ServesStatement sections → All (SectionFits v) sections → Nested w flash.volumes v
    → AllFailByName (map (section_part w flash) sections)
parts_each w flash v [] s f n = tt
parts_each w flash v (section ∷ sections) s f n = (
  part_fails w flash v section (All-head ServesStatement section sections s) (All-head (SectionFits v) section sections f).nested n,
  parts_each w flash v sections (All-tail ServesStatement section sections s) (All-tail (SectionFits v) section sections f) n,
)

sections_fail : (w : World) (flash : FlashDoc) (v : ℕ) (sections : List SectionPlan) → All ServesStatement sections → All (SectionFits v) sections → Nested w flash.volumes v → FailsByName (sections_value w flash sections)
sections_fail w flash v sections s f n =
    let nested : List (Option Fault) = map (λ section. nested_fault w flash.volumes section.source) sections in
    let held : List (Option Fault) = map (λ section. held_fault w section.at section.source) sections in
    let parts : List (Result Part Fault) = map (section_part w flash) sections in
    or_fault_fails (first_of nested) (or_fault (first_of held) (all_ok parts)) (first_named nested (nested_each w flash.volumes v sections f n))
    (λ e.
    or_fault_fails (first_of held) (all_ok parts) (first_named held (mapped_named (λ section. held_fault w section.at section.source) sections (λ section. held_named w section.at section.source)))
    (λ k. all_fails parts (parts_each w flash v sections s f n)))

body_fails : (w : World) (flash : FlashDoc) (v : ℕ) (sections : List SectionPlan) (whole : Option (List ℕ)) → All ServesStatement sections → All (SectionFits v) sections → Nested w flash.volumes v
    → FailsByName (body_value w flash sections whole)
body_fails w flash v sections (Some path) s f n =
    then_fails (file_bytes w (file_absent path) path) (λ bytes. Ok (body.Whole bytes)) (bytes_fail (file_absent path) path (got w path) (file_absent_named path)) (λ bytes e. tt)
body_fails w flash v sections None s f n = then_fails (sections_value w flash sections) (λ parts. Ok (body.Sections parts)) (sections_fail w flash v sections s f n) (λ parts e. tt)

abbrev statement_with : VolumeHead → FilePlan → Body → Result FileImage Fault
statement_with head plan content = and_then (file_name plan.guid) (λ name. file_of (image_plan head plan name content))

pub statement_fails : (w : World) (flash : FlashDoc) (head : VolumeHead) (v : ℕ) (plan : FilePlan) → ItemStands (item.File plan) → ItemFits v (item.File plan) → Nested w flash.volumes v
    → FailsByName (statement_value w flash head plan)
statement_fails w flash head v plan s f n =
    then_fails (body_value w flash plan.sections plan.whole) (statement_with head plan) (body_fails w flash v plan.sections plan.whole s.0 f n)
    (λ content e. then_fails (file_name plan.guid) (λ name. file_of (image_plan head plan name content)) (name_fails plan.guid s.1) (λ name k. file_fails (image_plan head plan name content)))

-- INF statements.

abbrev plan_by : World → FlashDoc → InfLine → PlatformDoc → InfDoc → List Arch → Result ModulePlan Fault
plan_by w flash line platform inf arches = module_plan flash line platform arches inf (build_folder platform.output (field w 2) (field w 3))

abbrev plan_from : World → FlashDoc → InfLine → PlatformDoc → Result ModulePlan Fault
plan_from w flash line platform = and_then (inf_value w line.inf) (λ inf. and_then (arches_built platform (field w 1)) (plan_by w flash line platform inf))

plan_value_fails : (w : World) (flash : FlashDoc) (line : InfLine) → StepsFail w → All Serves flash.rule_list → FailsByName (plan_value w flash line)
plan_value_fails w flash line s a =
    then_fails (platform_value w) (plan_from w flash line) s.platform
    (λ platform p.
    then_fails (inf_value w line.inf) (λ inf. and_then (arches_built platform (field w 1)) (plan_by w flash line platform inf)) (s.inf line.inf)
    (λ inf i.
    then_fails (arches_built platform (field w 1)) (plan_by w flash line platform inf) (s.arches platform p)
    (λ arches k. plan_fails flash line platform arches inf (build_folder platform.output (field w 2) (field w 3)) a)))

plan_value_planned : (w : World) (flash : FlashDoc) (line : InfLine) (plan : ModulePlan) → All Serves flash.rule_list → plan_value w flash line ≡ Ok plan → All IsPlanned plan.file.sections
plan_value_planned w flash line plan a e =
    through (platform_value w) (plan_from w flash line) plan e
    (λ platform p b.
    through (inf_value w line.inf) (λ inf. and_then (arches_built platform (field w 1)) (plan_by w flash line platform inf)) plan b
    (λ inf i c.
    through (arches_built platform (field w 1)) (plan_by w flash line platform inf) plan c
    (λ arches k d. plan_planned flash line platform arches inf (build_folder platform.output (field w 2) (field w 3)) plan a d)))

own_fails : (w : World) (plan : ModulePlan) → StepsFail w → FailsByName (own_value w plan)
own_fails w plan s = if_fails (takes_depex plan.depex plan.file.sections) (depex_value w plan.«module») (Ok []) (s.depex plan.«module») tt

got_named : (sections : List SectionPlan) (path : List ℕ) (g : Got) → IsNamed (got_fault sections path g)
got_named sections path (File bytes) = tt
got_named sections path Absent = absent_fault_named sections path
got_named sections path TooLong = too_long_named path

required_named : (w : World) (depex : List ℕ) (sections : List SectionPlan) (from : SectionSource) → IsNamed (required_fault w depex sections from)
required_named w depex sections (source.Tree path) = if_named (is_path_of depex path) None (got_fault sections path (got w path)) tt (got_named sections path (got w path))
required_named w depex sections (source.Template text) = tt
required_named w depex sections (source.Volume n) = tt
required_named w depex sections (source.Words text) = tt
required_named w depex sections (source.Refused text) = tt

part_got_fails : (section : SectionPlan) (path : List ℕ) (g : Got) → GuidStands section → FailsByName (part_got section path g)
part_got_fails section path (File bytes) s = some_part_fails (file_part section path bytes) (file_part_fails section path bytes s)
part_got_fails section path Absent s = absent_part_fails section path
part_got_fails section path TooLong s = too_long_named path

rule_part_fails : (w : World) (depex expression : List ℕ) (section : SectionPlan) (from : SectionSource) → IsPlannedFrom section from → FailsByName (rule_part w depex expression section from)
rule_part_fails w depex expression section (source.Tree path) s =
    if_fails (is_path_of depex path) (expression_part section path expression) (part_got section path (got w path)) (expression_part_fails section path expression s) (part_got_fails section path (got w path) s)
rule_part_fails w depex expression section (source.Template text) s = absurd s
rule_part_fails w depex expression section (source.Volume n) s = absurd s
rule_part_fails w depex expression section (source.Words text) s = words_part_fails section text s
rule_part_fails w depex expression section (source.Refused text) s = absurd s

rule_parts_fail : (w : World) (depex : List ℕ) (sections : List SectionPlan) (expression : List ℕ) → All IsPlanned sections → FailsByName (rule_parts w depex sections expression)
rule_parts_fail w depex sections expression a =
    let required : List (Option Fault) = map (λ section. required_fault w depex sections section.source) sections in
    let parts : List (Result (Option Part) Fault) = map (λ section. rule_part w depex expression section section.source) sections in
    let there : List (Option Part) → Result (List Part) Fault = λ some. Ok (filter_map (λ part. part) some) in
    or_fault_fails (first_of required) (or_fault (expression_fault depex sections expression) (and_then (all_ok parts) there))
    (first_named required (mapped_named (λ section. required_fault w depex sections section.source) sections (λ section. required_named w depex sections section.source)))
    (λ e.
    or_fault_fails (expression_fault depex sections expression) (and_then (all_ok parts) there) (expression_named depex sections expression)
    (λ k.
    then_fails (all_ok parts) there
    (all_fails parts (each_fails IsPlanned (λ section. rule_part w depex expression section section.source) sections (λ section s. rule_part_fails w depex expression section section.source s) a))
    (λ some m. tt)))

abbrev planned_with : World → VolumeHead → ModulePlan → List ℕ → Result FileImage Fault
planned_with w head plan expression = and_then (rule_parts w plan.depex plan.file.sections expression) (λ parts. file_of (image_plan head plan.file plan.name (body.Sections parts)))

pub planned_fails : (w : World) (head : VolumeHead) (plan : ModulePlan) → StepsFail w → All IsPlanned plan.file.sections → FailsByName (planned_file w head plan)
planned_fails w head plan s a =
    then_fails (own_value w plan) (planned_with w head plan) (own_fails w plan s)
    (λ expression e.
    then_fails (rule_parts w plan.depex plan.file.sections expression) (λ parts. file_of (image_plan head plan.file plan.name (body.Sections parts)))
    (rule_parts_fail w plan.depex plan.file.sections expression a) (λ parts k. file_fails (image_plan head plan.file plan.name (body.Sections parts))))

-- APRIORI statements.

member_named : (w : World) (m : Member) → StepsFail w → IsNamed (member_fault w m)
member_named w (member.Inf line) s =
    or_else_named (result_err (platform_value w)) (result_err (inf_value w line.inf)) (err_named (platform_value w) s.platform) (err_named (inf_value w line.inf) (s.inf line.inf))
member_named w (member.File name) s = tt

abbrev name_by : InfLine → PlatformDoc → InfDoc → List Arch → Result Guid Fault
name_by line platform inf arches = and_then (inf_arch line platform.components arches) (λ arch. Ok (module_guid platform (module_of line arch) inf))

abbrev name_from : World → InfLine → PlatformDoc → Result Guid Fault
name_from w line platform = and_then (inf_value w line.inf) (λ inf. and_then (arches_built platform (field w 1)) (name_by line platform inf))

member_fails : (w : World) (m : Member) → StepsFail w → FailsByName (member_value w m)
member_fails w (member.Inf line) s =
    then_fails (platform_value w) (name_from w line) s.platform
    (λ platform p.
    then_fails (inf_value w line.inf) (λ inf. and_then (arches_built platform (field w 1)) (name_by line platform inf)) (s.inf line.inf)
    (λ inf i.
    then_fails (arches_built platform (field w 1)) (name_by line platform inf) (s.arches platform p)
    (λ arches k.
    then_fails (inf_arch line platform.components arches) (λ arch. Ok (module_guid platform (module_of line arch) inf)) (arch_fails line platform.components arches) (λ arch l. tt))))
member_fails w (member.File name) s = tt

pub apriori_fails : (w : World) (head : VolumeHead) (at : Place) (pei : Bool) (members : List Member) → StepsFail w → FailsByName (apriori_value w head at pei members)
apriori_fails w head at pei members s =
    let faults : List (Option Fault) = map (member_fault w) members in
    let names : List (Result Guid Fault) = map (member_value w) members in
    or_fault_fails (first_of faults) (and_then (all_ok names) (λ given. file_of (apriori_plan head at pei given))) (first_named faults (mapped_named (member_fault w) members (λ m. member_named w m s)))
    (λ e.
    then_fails (all_ok names) (λ given. file_of (apriori_plan head at pei given)) (all_fails names (mapped_fails (member_value w) members (λ m. member_fails w m s)))
    (λ given k. file_fails (apriori_plan head at pei given)))

-- Files.

item_fails : (w : World) (v : ℕ) (flash : FlashDoc) (head : VolumeHead) (it : Item) → StepsFail w → FlashStands flash → ItemStands it → ItemFits v it → Nested w flash.volumes v
    → FailsByName (item_value w flash head it)
item_fails w v flash head (item.File plan) s t i f n = statement_fails w flash head v plan i f n
item_fails w v flash head (item.Apriori at pei members) s t i f n = apriori_fails w head at pei members s
item_fails w v flash head (item.Inf line) s t i f n =
    then_fails (plan_value w flash line) (planned_file w head) (plan_value_fails w flash line s t.rules) (λ plan e. planned_fails w head plan s (plan_value_planned w flash line plan t.rules e))

number_fails : {A : Type 0} (flash : FlashDoc) (found : Option A) → FailsByName (item_of_number flash found)
unfolding fault_name name_in_table
number_fails flash (Some x) = tt
number_fails flash None = refl

abbrev file_by : World → ℕ → ℕ → FlashDoc → Result FileImage Fault
file_by w v i flash = and_then (volume_at flash v) (λ plan. and_then (item_at flash plan i) (λ it. item_value w flash plan.head it))

file_by_fails : (w : World) (v i : ℕ) (flash : FlashDoc) → StepsFail w → HasShape flash → FlashStands flash → Nested w flash.volumes v → FailsByName (file_by w v i flash)
file_by_fails w v i flash s h t n =
    then_fails (volume_at flash v) (λ plan. and_then (item_at flash plan i) (λ it. item_value w flash plan.head it)) (number_fails flash (slice_get flash.volumes v))
    (λ plan p.
    then_fails (item_at flash plan i) (λ it. item_value w flash plan.head it) (number_fails flash (slice_get plan.items i))
    (λ it q.
    let stands : VolumeStands plan = named_has VolumeStands flash flash.volumes v plan p t.volumes in
    item_fails w v flash plan.head it s t (named_has ItemStands flash plan.items i it q stands) (item_fits flash v i plan it h p q) n))

-- the volumes below a volume of the world's flash description fail by names
abbrev NestedIn : World → ℕ → Type 0
NestedIn w v = (flash : FlashDoc) → flash_value w ≡ Ok flash → Nested w flash.volumes v

file_value_fails : (w : World) (v i : ℕ) → StepsFail w → FlashFits w → NestedIn w v → FailsByName (file_value w v i)
unfolding file_value
file_value_fails w v i s t n = then_fails (flash_value w) (file_by w v i) s.flash (λ flash e. file_by_fails w v i flash s (flash_shape w flash e) (t flash e) (n flash e))

-- A file has an alignment that its header states.

planned_stated : (w : World) (head : VolumeHead) (plan : ModulePlan) (file : FileImage) → planned_file w head plan ≡ Ok file → is_stated file ≡ true
planned_stated w head plan file e =
    through (own_value w plan) (planned_with w head plan) file e
    (λ expression a b.
    through (rule_parts w plan.depex plan.file.sections expression) (λ parts. file_of (image_plan head plan.file plan.name (body.Sections parts))) file b
    (λ parts c d. file_stated (image_plan head plan.file plan.name (body.Sections parts)) file d))

item_stated : (w : World) (flash : FlashDoc) (head : VolumeHead) (it : Item) (file : FileImage) → item_value w flash head it ≡ Ok file → is_stated file ≡ true
item_stated w flash head (item.File plan) file e =
    through (body_value w flash plan.sections plan.whole) (statement_with head plan) file e
    (λ content a b. through (file_name plan.guid) (λ name. file_of (image_plan head plan name content)) file b (λ name c d. file_stated (image_plan head plan name content) file d))
item_stated w flash head (item.Apriori at pei members) file e =
    let made : Result FileImage Fault = and_then (all_ok (map (member_value w) members)) (λ given. file_of (apriori_plan head at pei given)) in
    through (all_ok (map (member_value w) members)) (λ given. file_of (apriori_plan head at pei given)) file (past (first_of (map (member_fault w) members)) made file e)
    (λ given a b. file_stated (apriori_plan head at pei given) file b)
item_stated w flash head (item.Inf line) file e = through (plan_value w flash line) (planned_file w head) file e (λ plan a b. planned_stated w head plan file b)

value_stated : (w : World) (v i : ℕ) (file : FileImage) → file_value w v i ≡ Ok file → is_stated file ≡ true
unfolding file_value
value_stated w v i file e =
    through (flash_value w) (file_by w v i) file e
    (λ flash a b.
    through (volume_at flash v) (λ plan. and_then (item_at flash plan i) (λ it. item_value w flash plan.head it)) file b
    (λ plan c d. through (item_at flash plan i) (λ it. item_value w flash plan.head it) file d (λ it f g. item_stated w flash plan.head it file g)))

-- Volumes.

volume_by_fails : (moved : Bool) (head : VolumeHead) (files : List FileImage) → CanBeMade head → list_all is_stated files ≡ true → FailsByName (volume_by moved head files)
volume_by_fails true head files h a = if_fails (is_based head) (rebased_image head files) (composed_volume head files) (based_fails head files h a) (composed_fails head files h a)
volume_by_fails false head files h a = composed_fails head files h a

planned_value_fails : (w : World) (moved : Bool) (v : ℕ) (plan : VolumePlan) → StepsFail w → FlashFits w → NestedIn w v → CanBeMade plan.head → FailsByName (planned_value w moved v plan)
planned_value_fails w moved v plan s t n h =
    let order : List ℕ = file_order plan.items in
    then_fails (volume_files w v plan.items) (volume_by moved plan.head) (all_fails (map (file_value w v) order) (mapped_fails (file_value w v) order (λ i. file_value_fails w v i s t n)))
    (λ files e. volume_by_fails moved plan.head files h (all_tested is_stated (file_value w v) order files (value_stated w v) e))

volume_value_fails : (w : World) (moved : Bool) (v : ℕ) → StepsFail w → FlashFits w → NestedIn w v → FailsByName (volume_value w moved v)
unfolding volume_value
volume_value_fails w moved v s t n =
    then_fails (flash_value w) (λ flash. and_then (volume_at flash v) (planned_value w moved v)) s.flash
    (λ flash e.
    then_fails (volume_at flash v) (planned_value w moved v) (number_fails flash (slice_get flash.volumes v))
    (λ plan p. planned_value_fails w moved v plan s t n (named_has HeadFits flash flash.volumes v plan p (flash_shape w flash e).volumes)))

-- volumes of numbers below a bound, each by those below it
below_fails : (w : World) → IsWorld (meaning_of key_cmp edk) w → StepsFail w → FlashFits w → (bound v : ℕ) → v < bound → (moved : Bool) → FailsByName (volume_value w moved v)
below_fails w is s t zero v h moved = absurd (omega (arith, h))
below_fails w is s t (suc bound) v h moved =
    volume_value_fails w moved v s t (λ flash e n l.
    subst (λ (r : Result (List ℕ) Fault). FailsByName r) (sym (nested_is w flash.volumes n is)) (below_fails w is s t bound n (omega (arith, h, l)) (is_moved (slice_get flash.volumes n))))

pub volumes_fail : (w : World) → IsWorld (meaning_of key_cmp edk) w → StepsFail w → FlashFits w → (moved : Bool) (v : ℕ) → FailsByName (volume_value w moved v)
volumes_fail w is s t moved v = below_fails w is s t (suc v) v (omega arith) moved

pub files_fail : (w : World) → IsWorld (meaning_of key_cmp edk) w → StepsFail w → FlashFits w → (v i : ℕ) → FailsByName (file_value w v i)
files_fail w is s t v i =
    file_value_fails w v i s t (λ flash e n l.
    subst (λ (r : Result (List ℕ) Fault). FailsByName r) (sym (nested_is w flash.volumes n is)) (volumes_fail w is s t (is_moved (slice_get flash.volumes n)) n))

-- Devices.

-- the volumes that regions hold fail by names
abbrev Placed : World → List VolumePlan → Type 0
Placed w volumes = (n : ℕ) → FailsByName (volume_image w volumes n)

vpd_fails : (w : World) → StepsFail w → FailsByName (vpd_bytes w)
vpd_fails w s = then_fails (vpd_value w) (λ vpd. Ok vpd.image) s.vpd (λ vpd e. tt)

tree_fails : (w : World) (path : List ℕ) → FailsByName (file_bytes w (file_absent path) path)
tree_fails w path = bytes_fail (file_absent path) path (got w path) (file_absent_named path)

region_fails : (w : World) (volumes : List VolumePlan) (vpd : Option (List ℕ)) (k : RegionKind) → StepsFail w → Placed w volumes → FailsByName (region_bytes w volumes vpd k)
region_fails w volumes vpd kind.Empty s p = tt
region_fails w volumes vpd (kind.Bytes bytes) s p = tt
region_fails w volumes vpd (kind.Tree path) s p = if_fails (is_vpd vpd path) (vpd_bytes w) (file_bytes w (file_absent path) path) (vpd_fails w s) (tree_fails w path)
region_fails w volumes vpd (kind.Volume n) s p = p n

region_named : (w : World) (volumes : List VolumePlan) (vpd : Option (List ℕ)) (k : RegionKind) → StepsFail w → Placed w volumes → IsNamed (region_fault w volumes vpd k)
region_named w volumes vpd kind.Empty s p = tt
region_named w volumes vpd (kind.Bytes bytes) s p = tt
region_named w volumes vpd (kind.Tree path) s p = if_named (is_vpd vpd path) (result_err (vpd_bytes w)) None (err_named (vpd_bytes w) (vpd_fails w s)) tt
region_named w volumes vpd (kind.Volume n) s p = err_named (volume_image w volumes n) (p n)

pub regions_fail : (w : World) (volumes : List VolumePlan) (vpd : Option (List ℕ)) (plan : DevicePlan) → StepsFail w → Placed w volumes → FailsByName (regions_value w volumes vpd plan)
regions_fail w volumes vpd plan s p =
    let faults : List (Option Fault) = map (λ region. region_fault w volumes vpd region.kind) plan.regions in
    let parts : List (Result (List ℕ) Fault) = map (λ region. region_bytes w volumes vpd region.kind) plan.regions in
    or_fault_fails (first_of faults) (and_then (all_ok parts) (device_of plan))
    (first_named faults (mapped_named (λ region. region_fault w volumes vpd region.kind) plan.regions (λ region. region_named w volumes vpd region.kind s p)))
    (λ e.
    then_fails (all_ok parts) (device_of plan)
    (all_fails parts (mapped_fails (λ region. region_bytes w volumes vpd region.kind) plan.regions (λ region. region_fails w volumes vpd region.kind s p))) (λ bytes k. device_fails plan bytes))

numbered_fails : (w : World) (d : ℕ) (flash : FlashDoc) (platform : PlatformDoc) → platform_value w ≡ Ok platform → StepsFail w → Placed w flash.volumes → FailsByName (numbered_value w d flash platform)
numbered_fails w d flash platform e s p =
    then_fails (vpd_path platform (field w 2) (field w 3)) (λ vpd. and_then (device_at flash d) (regions_value w flash.volumes vpd)) (s.path platform e)
    (λ vpd k.
    then_fails (device_at flash d) (regions_value w flash.volumes vpd) (number_fails flash (slice_get flash.devices d)) (λ plan l. regions_fail w flash.volumes vpd plan s p))

pub devices_fail : (w : World) → IsWorld (meaning_of key_cmp edk) w → StepsFail w → FlashFits w → (d : ℕ) → FailsByName (device_value w d)
unfolding device_value
devices_fail w is s t d =
    then_fails (flash_value w) (λ flash. and_then (platform_value w) (numbered_value w d flash)) s.flash
    (λ flash e.
    then_fails (platform_value w) (numbered_value w d flash) s.platform
    (λ platform p. numbered_fails w d flash platform p s (λ n. volumes_fail w is s t (is_moved (slice_get flash.volumes n)) n)))
