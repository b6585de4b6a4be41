-- The bounds of the steps of images: what they ask is of lower rank, and they ask two batches.
use Rattle.std.specs.Prelude.{◌&&◌, not}
use Rattle.std.proofs.Common.{◌≡◌, ℕ, ◌+◌, ◌*◌, ◌<◌, arith, Bool, true, false, List, [], ◌∷◌, ◌++◌, length, All, cond, Option, Some, None, slice_get, refl}
use Rattle.std.proofs.lemmas.Bool.{ltb-true}
use Rattle.std.proofs.lemmas.List.Elements.{All-nil, All-cons, All-append}
use Rattle.step_engine.specs.declared.talk.Ask.{Ask}
use Rattle.step_engine.specs.declared.talk.Ask.TheVariants as ask
use Rattle.build_stages.specs.Stages.{IsLower, AreLower, IsWithin}
use Rattle.build_stages.specs.Bounds.{all_one, all_two, both_hold, attempt_lower, attempt_within, when_lower, when_within}
use Rattle.doc_types.specs.declared.choice.Module.{Module}
use Rattle.doc_types.specs.declared.flash.DevicePlan.{DevicePlan}
use Rattle.doc_types.specs.declared.flash.FlashDoc.{FlashDoc}
use Rattle.doc_types.specs.declared.flash.Region.{Region}
use Rattle.doc_types.specs.declared.flash.RegionKind.{RegionKind}
use Rattle.doc_types.specs.declared.flash.RegionKind.TheVariants as kind
use Rattle.doc_types.specs.declared.volume.Item.{Item}
use Rattle.doc_types.specs.declared.volume.Item.TheVariants as item
use Rattle.doc_types.specs.declared.volume.InfLine.{InfLine}
use Rattle.doc_types.specs.declared.volume.Member.{Member}
use Rattle.doc_types.specs.declared.volume.Member.TheVariants as member
use Rattle.doc_types.specs.declared.volume.SectionPlan.{SectionPlan}
use Rattle.doc_types.specs.declared.volume.SectionSource.{SectionSource}
use Rattle.doc_types.specs.declared.volume.SectionSource.TheVariants as source
use Rattle.doc_types.specs.declared.volume.VolumePlan.{VolumePlan}
use Rattle.doc_types.specs.declared.volume_head.VolumeHead.{VolumeHead}
use Rattle.step_pack.specs.declared.key.Key.{Key}
use Rattle.step_pack.specs.declared.key.Key.TheVariants as key
use Rattle.step_answers.specs.Volumes.{is_based, volume_key, step_by, volume_step, fits_u16, volume_at}
use Rattle.volume_steps.specs.Asks.{is_apriori, files_where, is_vpd, tree_asks, kind_asks, region_asks, kind_below, regions_below}
use Rattle.file_steps.specs.Asks.{source_file, section_files}
use Rattle.file_steps.specs.Asks.{source_volume, section_volumes, body_asks, source_below, sections_below}
use Rattle.step_answers.specs.Readers.{values_in, platform_in, flash_in}
use Rattle.step_answers.specs.VpdLines.{has_vpd}
use Rattle.text_steps.specs.Asks.{built_asks, build_module_asks}
use Rattle.file_steps.specs.declared.plans.ModulePlan.{ModulePlan}
use Rattle.file_steps.specs.ModuleAsks.{line_asks, member_asks, members_asks, is_path_of, source_file as filled_file, section_files as filled_files, takes_depex, plan_asks}
use Rattle.file_steps.specs.Modules.{plan_given}
use Rattle.file_steps.specs.FileTrees.{item_at, item_stages, file_stages}
use Rattle.volume_steps.specs.VolumeTrees.{device_at, plan_stages, volume_stages, vpd_in, device_stages}
use Rattle.volume_steps.specs.VpdTree.{vpd_stages}
use Rattle.step_answers.specs.Settings.{arches_built_in}
use Rattle.output_steps.specs.AllTree.{step_where, steps_from, device_step, folder_in, modules_in, wanted_in, report_in, image_asks, report_part, files_stages, all_stages}
use Rattle.output_steps.specs.Wanted.{is_marked}
use Rattle.output_steps.specs.declared.wanted.Wanted.{Wanted}
use Rattle.build_rules.specs.Rules.{rank_of}

source_file_lower : (bound : ℕ) (s : SectionSource) → All (IsLower rank_of bound) (source_file s)
source_file_lower bound (source.Tree path) = all_one (IsLower rank_of bound) (ask.File path) tt
source_file_lower bound (source.Template text) = All-nil (IsLower rank_of bound)
source_file_lower bound (source.Volume n) = All-nil (IsLower rank_of bound)
source_file_lower bound (source.Words text) = All-nil (IsLower rank_of bound)
source_file_lower bound (source.Refused text) = All-nil (IsLower rank_of bound)

-- a volume has one rank, moved or not
moved_rank : (b : Bool) (n : ℕ) → rank_of (cond b (key.Based n) (key.Volume n)) ≡ 9 + 2 * n
moved_rank true n = refl
moved_rank false n = refl

step_rank : (n : ℕ) (plan : VolumePlan) → rank_of (volume_key n plan) ≡ 9 + 2 * n
step_rank n plan = moved_rank (is_based plan.head) n

by_rank : (n : ℕ) (plan : Option VolumePlan) → rank_of (step_by n plan) ≡ 9 + 2 * n
by_rank n None = refl
by_rank n (Some plan) = step_rank n plan

volume_rank : (volumes : List VolumePlan) (n : ℕ) → rank_of (volume_step volumes n) ≡ 9 + 2 * n
volume_rank volumes n = by_rank n (slice_get volumes n)

source_volume_lower : (v : ℕ) (volumes : List VolumePlan) (s : SectionSource)
    → source_below v s ≡ true → All (IsLower rank_of (8 + 2 * v)) (source_volume volumes s)
source_volume_lower v volumes (source.Tree path) e = All-nil (IsLower rank_of (8 + 2 * v))
source_volume_lower v volumes (source.Template text) e = All-nil (IsLower rank_of (8 + 2 * v))
source_volume_lower v volumes (source.Volume n) e =
    all_one (IsLower rank_of (8 + 2 * v)) (ask.Part (volume_step volumes n))
    (let below : n < v = ltb-true n v e in let rank : rank_of (volume_step volumes n) ≡ 9 + 2 * n =
    volume_rank volumes n in omega (arith, below, rank))
source_volume_lower v volumes (source.Words text) e = All-nil (IsLower rank_of (8 + 2 * v))
source_volume_lower v volumes (source.Refused text) e = All-nil (IsLower rank_of (8 + 2 * v))

files_lower : (bound : ℕ) (sections : List SectionPlan)
    → All (IsLower rank_of bound) (section_files sections)
files_lower bound [] = All-nil (IsLower rank_of bound)
files_lower bound (s ∷ sections) =
    All-append (IsLower rank_of bound) (source_file s.source) (section_files sections)
    (source_file_lower bound s.source) (files_lower bound sections)

volumes_lower : (v : ℕ) (volumes : List VolumePlan) (sections : List SectionPlan)
    → sections_below v sections ≡ true
    → All (IsLower rank_of (8 + 2 * v)) (section_volumes volumes sections)
volumes_lower v volumes [] e = All-nil (IsLower rank_of (8 + 2 * v))
volumes_lower v volumes (s ∷ sections) e =
    let parts = both_hold (source_below v s.source) (sections_below v sections) e in
    All-append (IsLower rank_of (8 + 2 * v)) (source_volume volumes s.source)
    (section_volumes volumes sections)
    (source_volume_lower v volumes s.source parts.0) (volumes_lower v volumes sections parts.1)

body_lower : (v : ℕ) (volumes : List VolumePlan) (sections : List SectionPlan)
    (whole : Option (List ℕ)) → sections_below v sections ≡ true
    → All (IsLower rank_of (8 + 2 * v)) (body_asks volumes sections whole)
body_lower v volumes sections (Some path) e =
    all_one (IsLower rank_of (8 + 2 * v)) (ask.File path) tt
body_lower v volumes sections None e =
    All-append (IsLower rank_of (8 + 2 * v)) (section_files sections)
    (section_volumes volumes sections) (files_lower (8 + 2 * v) sections)
    (volumes_lower v volumes sections e)

line_lower : (v : ℕ) (line : InfLine) → All (IsLower rank_of (8 + 2 * v)) (line_asks line)
line_lower v line =
    All-cons (IsLower rank_of (8 + 2 * v)) (ask.Part key.Platform)
    (ask.Part (key.Inf line.inf) ∷ ask.Field 1 ∷ ask.Field 2 ∷ ask.Field 3 ∷ []) (omega arith)
    (All-cons (IsLower rank_of (8 + 2 * v)) (ask.Part (key.Inf line.inf))
    (ask.Field 1 ∷ ask.Field 2 ∷ ask.Field 3 ∷ []) (omega arith)
    (All-cons (IsLower rank_of (8 + 2 * v)) (ask.Field 1) (ask.Field 2 ∷ ask.Field 3 ∷ []) tt
    (all_two (IsLower rank_of (8 + 2 * v)) (ask.Field 2) (ask.Field 3) tt tt)))

member_lower : (v : ℕ) (m : Member) → All (IsLower rank_of (8 + 2 * v)) (member_asks m)
member_lower v (member.Inf line) = line_lower v line
member_lower v (member.File name) = All-nil (IsLower rank_of (8 + 2 * v))

members_lower : (v : ℕ) (members : List Member)
    → All (IsLower rank_of (8 + 2 * v)) (members_asks members)
members_lower v [] = All-nil (IsLower rank_of (8 + 2 * v))
members_lower v (m ∷ members) =
    All-append (IsLower rank_of (8 + 2 * v)) (member_asks m) (members_asks members)
    (member_lower v m) (members_lower v members)

path_lower : (b : Bool) (v : ℕ) (path : List ℕ)
    → All (IsLower rank_of (8 + 2 * v)) (cond b [] (ask.File path ∷ []))
path_lower true v path = All-nil (IsLower rank_of (8 + 2 * v))
path_lower false v path = all_one (IsLower rank_of (8 + 2 * v)) (ask.File path) tt

filled_lower : (v : ℕ) (depex : List ℕ) (s : SectionSource)
    → All (IsLower rank_of (8 + 2 * v)) (filled_file depex s)
filled_lower v depex (source.Tree path) = path_lower (is_path_of depex path) v path
filled_lower v depex (source.Template text) = All-nil (IsLower rank_of (8 + 2 * v))
filled_lower v depex (source.Volume n) = All-nil (IsLower rank_of (8 + 2 * v))
filled_lower v depex (source.Words text) = All-nil (IsLower rank_of (8 + 2 * v))
filled_lower v depex (source.Refused text) = All-nil (IsLower rank_of (8 + 2 * v))

filled_files_lower : (v : ℕ) (depex : List ℕ) (sections : List SectionPlan)
    → All (IsLower rank_of (8 + 2 * v)) (filled_files depex sections)
filled_files_lower v depex [] = All-nil (IsLower rank_of (8 + 2 * v))
filled_files_lower v depex (s ∷ sections) =
    All-append (IsLower rank_of (8 + 2 * v)) (filled_file depex s.source)
    (filled_files depex sections) (filled_lower v depex s.source)
    (filled_files_lower v depex sections)

depex_part_lower : (b : Bool) (v : ℕ) (m : Module)
    → All (IsLower rank_of (8 + 2 * v)) (cond b (ask.Part (key.Depex m) ∷ []) [])
depex_part_lower true v m = all_one (IsLower rank_of (8 + 2 * v)) (ask.Part (key.Depex m))
    (omega arith)
depex_part_lower false v m = All-nil (IsLower rank_of (8 + 2 * v))

plan_asks_lower : (v : ℕ) (plan : ModulePlan) → All (IsLower rank_of (8 + 2 * v)) (plan_asks plan)
plan_asks_lower v plan =
    All-append (IsLower rank_of (8 + 2 * v)) (filled_files plan.depex plan.file.sections)
    (cond (takes_depex plan.depex plan.file.sections) (ask.Part (key.Depex plan.«module») ∷ [])
    [])
    (filled_files_lower v plan.depex plan.file.sections)
    (depex_part_lower (takes_depex plan.depex plan.file.sections) v plan.«module»)

item_lower : (v : ℕ) (flash : FlashDoc) (head : VolumeHead) (i : Item)
    → AreLower rank_of (8 + 2 * v) (item_stages v flash head i)
item_lower v flash head (item.File plan) =
    when_lower rank_of (8 + 2 * v) (sections_below v plan.sections) _
    (λ e. (body_lower v flash.volumes plan.sections plan.whole e, λ given. tt))
item_lower v flash head (item.Apriori at pei members) = (members_lower v members, λ given. tt)
item_lower v flash head (item.Inf line) = (
  line_lower v line,
  λ given. attempt_lower rank_of (8 + 2 * v) (plan_given flash line given) _
      (λ plan. (plan_asks_lower v plan, λ answers. tt)),
)

pub file_lower : (v i : ℕ) → AreLower rank_of (8 + 2 * v) (file_stages v i)
file_lower v i = (
  all_one (IsLower rank_of (8 + 2 * v)) (ask.Part key.Flash) (omega arith),
  λ given. attempt_lower rank_of (8 + 2 * v) (flash_in given) _
      (λ flash. attempt_lower rank_of (8 + 2 * v) (volume_at flash v) _ (λ plan.
      attempt_lower rank_of (8 + 2 * v) (item_at flash plan i) _
      (λ it. item_lower v flash plan.head it))),
)

item_within : (v : ℕ) (flash : FlashDoc) (head : VolumeHead) (i : Item)
    → IsWithin 2 (item_stages v flash head i)
item_within v flash head (item.File plan) =
    when_within 2 (sections_below v plan.sections) _ (omega arith, λ given. tt)
item_within v flash head (item.Apriori at pei members) = (omega arith, λ given. tt)
item_within v flash head (item.Inf line) = (
  omega arith,
  λ given. attempt_within 1 (plan_given flash line given) _
      (λ plan. (omega arith, λ answers. tt)),
)

pub file_within : (v i : ℕ) → IsWithin 3 (file_stages v i)
file_within v i = (
  omega arith,
  λ given. attempt_within 2 (flash_in given) _
      (λ flash. attempt_within 2 (volume_at flash v) _ (λ plan.
      attempt_within 2 (item_at flash plan i) _ (λ it. item_within v flash plan.head it))),
)

chosen_lower : (b : Bool) (v n : ℕ) (rest : List (Ask Key)) → All (IsLower rank_of (9 + 2 * v)) rest
    → All (IsLower rank_of (9 + 2 * v)) (cond b (ask.Part (key.File v n) ∷ rest) rest)
chosen_lower true v n rest h =
    All-cons (IsLower rank_of (9 + 2 * v)) (ask.Part (key.File v n)) rest (omega arith) h
chosen_lower false v n rest h = h

items_lower : (choose : Item → Bool) (v n : ℕ) (items : List Item)
    → All (IsLower rank_of (9 + 2 * v)) (files_where choose v n items)
unfolding files_where
items_lower choose v n [] = All-nil (IsLower rank_of (9 + 2 * v))
items_lower choose v n (i ∷ items) =
    chosen_lower (choose i) v n (files_where choose v (n + 1) items)
    (items_lower choose v (n + 1) items)

plan_lower : (moved : Bool) (v : ℕ) (plan : VolumePlan)
    → AreLower rank_of (9 + 2 * v) (plan_stages moved v plan)
plan_lower moved v plan =
    when_lower rank_of (9 + 2 * v) (fits_u16 (length plan.items)) _ (λ e. (
      All-append (IsLower rank_of (9 + 2 * v)) (files_where is_apriori v 0 plan.items)
          (files_where (λ i. not (is_apriori i)) v 0 plan.items)
          (items_lower is_apriori v 0 plan.items)
          (items_lower (λ i. not (is_apriori i)) v 0 plan.items),
      λ given. tt,
    ))

pub volume_lower : (moved : Bool) (v : ℕ) → AreLower rank_of (9 + 2 * v) (volume_stages moved v)
volume_lower moved v = (
  all_one (IsLower rank_of (9 + 2 * v)) (ask.Part key.Flash) (omega arith),
  λ given. attempt_lower rank_of (9 + 2 * v) (flash_in given) _
      (λ flash. attempt_lower rank_of (9 + 2 * v) (volume_at flash v) _
      (λ plan. plan_lower moved v plan)),
)

pub volume_within : (moved : Bool) (v : ℕ) → IsWithin 2 (volume_stages moved v)
volume_within moved v = (
  omega arith,
  λ given. attempt_within 1 (flash_in given) _
      (λ flash. attempt_within 1 (volume_at flash v) _ (λ plan.
      when_within 1 (fits_u16 (length plan.items)) _ (omega arith, λ images. tt))),
)

tree_lower : (b : Bool) (path : List ℕ) → All (IsLower rank_of 0x400000000) (tree_asks b path)
tree_lower true path = all_one (IsLower rank_of 0x400000000) (ask.Part key.Vpd) (omega arith)
tree_lower false path = all_one (IsLower rank_of 0x400000000) (ask.File path) tt

kind_lower : (volumes : List VolumePlan) (vpd : Option (List ℕ)) (k : RegionKind)
    → kind_below k ≡ true → All (IsLower rank_of 0x400000000) (kind_asks volumes vpd k)
kind_lower volumes vpd kind.Empty e = All-nil (IsLower rank_of 0x400000000)
kind_lower volumes vpd (kind.Bytes bytes) e = All-nil (IsLower rank_of 0x400000000)
kind_lower volumes vpd (kind.Tree path) e = tree_lower (is_vpd vpd path) path
kind_lower volumes vpd (kind.Volume n) e =
    all_one (IsLower rank_of 0x400000000) (ask.Part (volume_step volumes n))
    (let few : n < 65536 = ltb-true n 65536 e in let rank : rank_of (volume_step volumes n)
    ≡ 9 + 2 * n = volume_rank volumes n in omega (arith, few, rank))

regions_lower : (volumes : List VolumePlan) (vpd : Option (List ℕ)) (regions : List Region)
    → regions_below regions ≡ true → All (IsLower rank_of 0x400000000)
    (region_asks volumes vpd regions)
regions_lower volumes vpd [] e = All-nil (IsLower rank_of 0x400000000)
regions_lower volumes vpd (r ∷ regions) e =
    let parts = both_hold (kind_below r.kind) (regions_below regions) e in
    All-append (IsLower rank_of 0x400000000) (kind_asks volumes vpd r.kind)
    (region_asks volumes vpd regions)
    (kind_lower volumes vpd r.kind parts.0) (regions_lower volumes vpd regions parts.1)

pub device_lower : (d : ℕ) → AreLower rank_of 0x400000000 (device_stages d)
device_lower d = (
  All-cons (IsLower rank_of 0x400000000) (ask.Part key.Flash)
      (ask.Part key.Platform ∷ ask.Field 2 ∷ ask.Field 3 ∷ []) (omega arith)
      (All-cons (IsLower rank_of 0x400000000) (ask.Part key.Platform)
      (ask.Field 2 ∷ ask.Field 3 ∷ []) (omega arith)
      (all_two (IsLower rank_of 0x400000000) (ask.Field 2) (ask.Field 3) tt tt)),
  λ given. attempt_lower rank_of 0x400000000 (flash_in given) _
      (λ flash. attempt_lower rank_of 0x400000000 (platform_in given) _ (λ platform.
      attempt_lower rank_of 0x400000000 (vpd_in platform given) _
      (λ vpd. attempt_lower rank_of 0x400000000 (device_at flash d) _ (λ plan.
      when_lower rank_of 0x400000000 (regions_below plan.regions) _
      (λ e. (regions_lower flash.volumes vpd plan.regions e, λ parts. tt)))))),
)

pub device_within : (d : ℕ) → IsWithin 2 (device_stages d)
device_within d = (
  omega arith,
  λ given. attempt_within 1 (flash_in given) _
      (λ flash. attempt_within 1 (platform_in given) _ (λ platform.
      attempt_within 1 (vpd_in platform given) _
      (λ vpd. attempt_within 1 (device_at flash d) _ (λ plan.
      when_within 1 (regions_below plan.regions) _ (omega arith, λ parts. tt))))),
)

-- vital product data asks once
pub vpd_lower : AreLower rank_of 6 vpd_stages
vpd_lower = (
  All-cons (IsLower rank_of 6) (ask.Part key.Platform)
      (ask.Part key.PlatformPcds ∷ ask.Field 1 ∷ []) (omega arith)
      (all_two (IsLower rank_of 6) (ask.Part key.PlatformPcds) (ask.Field 1) (omega arith) tt),
  λ given. attempt_lower rank_of 6 (platform_in given) _
      (λ platform. attempt_lower rank_of 6 (values_in given key.PlatformPcds) _ (λ values.
      attempt_lower rank_of 6 (arches_built_in platform given) _ (λ arches. tt))),
)

pub vpd_within : IsWithin 1 vpd_stages
vpd_within = (
  omega arith,
  λ given. attempt_within 0 (platform_in given) _
      (λ platform. attempt_within 0 (values_in given key.PlatformPcds) _ (λ values.
      attempt_within 0 (arches_built_in platform given) _ (λ arches. tt))),
)

where_asked : (b : Bool) (step : Key) → rank_of step < 0x400000002
    → All (IsLower rank_of 0x400000002) (step_where b step)
where_asked true step h = all_one (IsLower rank_of 0x400000002) (ask.Part step) h
where_asked false step h = All-nil (IsLower rank_of 0x400000002)

volumes_asked : (marks : List Bool) (n : ℕ) (plans : List VolumePlan) → n + length plans < 65536
    → All (IsLower rank_of 0x400000002) (steps_from volume_key marks n plans)
unfolding steps_from
volumes_asked marks n [] h = All-nil (IsLower rank_of 0x400000002)
volumes_asked marks n (plan ∷ plans) h =
    All-append (IsLower rank_of 0x400000002) (step_where (is_marked marks n) (volume_key n plan))
    (steps_from volume_key marks (n + 1) plans)
    (where_asked (is_marked marks n) (volume_key n plan)
    (let rank : rank_of (volume_key n plan) ≡ 9 + 2 * n =
    step_rank n plan in omega (arith, h, rank)))
    (volumes_asked marks (n + 1) plans (omega (arith, h)))

devices_asked : (marks : List Bool) (n : ℕ) (plans : List DevicePlan)
    → All (IsLower rank_of 0x400000002) (steps_from device_step marks n plans)
unfolding steps_from
devices_asked marks n [] = All-nil (IsLower rank_of 0x400000002)
devices_asked marks n (plan ∷ plans) =
    All-append (IsLower rank_of 0x400000002) (step_where (is_marked marks n) (key.Device n))
    (steps_from device_step marks (n + 1) plans)
    (where_asked (is_marked marks n) (key.Device n) (omega arith))
    (devices_asked marks (n + 1) plans)

modules_asked : (modules : List Module)
    → All (IsLower rank_of 0x400000002) (build_module_asks modules)
modules_asked [] = All-nil (IsLower rank_of 0x400000002)
modules_asked (m ∷ modules) =
    All-append (IsLower rank_of 0x400000002) (built_asks m) (build_module_asks modules)
    (All-cons (IsLower rank_of 0x400000002) (ask.Part (key.Inf m.inf))
    (ask.Part (key.Code m) ∷ ask.Part (key.Depex m) ∷ []) (omega arith)
    (all_two (IsLower rank_of 0x400000002) (ask.Part (key.Code m)) (ask.Part (key.Depex m))
    (omega arith) (omega arith)))
    (modules_asked modules)

images_asked : (flash : FlashDoc) (wanted : Wanted)
    → (fits_u16 (length flash.volumes) && fits_u16 (length flash.devices)) ≡ true
    → All (IsLower rank_of 0x400000002) (image_asks flash wanted)
images_asked flash wanted e =
    All-append (IsLower rank_of 0x400000002) (steps_from volume_key wanted.volumes 0 flash.volumes)
    (steps_from device_step wanted.devices 0 flash.devices)
    (volumes_asked wanted.volumes 0 flash.volumes
    (let few : length flash.volumes < 65536 =
    ltb-true (length flash.volumes) 65536
    (both_hold (fits_u16 (length flash.volumes)) (fits_u16 (length flash.devices)) e).0
    in omega (arith, few)))
    (devices_asked wanted.devices 0 flash.devices)

report_asked : (report : Option (List ℕ)) → All (IsLower rank_of 0x400000002) (report_part report)
report_asked None = All-nil (IsLower rank_of 0x400000002)
report_asked (Some path) = all_one (IsLower rank_of 0x400000002) (ask.Part key.Report) (omega arith)

build_lower : (vpd : Bool) (folder : List ℕ) (modules : List Module) (flash : FlashDoc)
    (wanted : Wanted) (report : Option (List ℕ))
    → AreLower rank_of 0x400000002 (files_stages vpd folder modules flash wanted report)
build_lower vpd folder modules flash wanted report =
    when_lower rank_of 0x400000002
    (fits_u16 (length flash.volumes) && fits_u16 (length flash.devices)) _ (λ e. (
      All-cons (IsLower rank_of 0x400000002) (ask.Part key.PlatformPcds)
          (build_module_asks modules ++ image_asks flash wanted ++ step_where vpd key.Vpd
          ++ report_part report) (omega arith)
          (All-append (IsLower rank_of 0x400000002)
          (build_module_asks modules ++ image_asks flash wanted ++ step_where vpd key.Vpd)
          (report_part report)
          (All-append (IsLower rank_of 0x400000002)
          (build_module_asks modules ++ image_asks flash wanted) (step_where vpd key.Vpd)
          (All-append (IsLower rank_of 0x400000002) (build_module_asks modules)
          (image_asks flash wanted) (modules_asked modules) (images_asked flash wanted e))
          (where_asked vpd key.Vpd (omega arith)))
          (report_asked report)),
      λ given. tt,
    ))

fields_lower : (bound : ℕ) → All (IsLower rank_of bound)
    (ask.Field 1 ∷ ask.Field 2 ∷ ask.Field 3 ∷ ask.Field 7 ∷ ask.Field 8 ∷ ask.Field 9 ∷ [])
fields_lower bound =
    All-cons (IsLower rank_of bound) (ask.Field 1)
    (ask.Field 2 ∷ ask.Field 3 ∷ ask.Field 7 ∷ ask.Field 8 ∷ ask.Field 9 ∷ []) tt
    (All-cons (IsLower rank_of bound) (ask.Field 2)
    (ask.Field 3 ∷ ask.Field 7 ∷ ask.Field 8 ∷ ask.Field 9 ∷ []) tt
    (All-cons (IsLower rank_of bound) (ask.Field 3) (ask.Field 7 ∷ ask.Field 8 ∷ ask.Field 9 ∷ [])
    tt
    (All-cons (IsLower rank_of bound) (ask.Field 7) (ask.Field 8 ∷ ask.Field 9 ∷ []) tt
    (all_two (IsLower rank_of bound) (ask.Field 8) (ask.Field 9) tt tt))))

pub all_lower : AreLower rank_of 0x400000002 all_stages
all_lower = (
  All-append (IsLower rank_of 0x400000002) (ask.Part key.Platform ∷ ask.Part key.Flash ∷ [])
      (ask.Field 1 ∷ ask.Field 2 ∷ ask.Field 3 ∷ ask.Field 7 ∷ ask.Field 8 ∷ ask.Field 9 ∷ [])
      (all_two (IsLower rank_of 0x400000002) (ask.Part key.Platform) (ask.Part key.Flash)
      (omega arith) (omega arith)) (fields_lower 0x400000002),
  λ given. attempt_lower rank_of 0x400000002 (platform_in given) _
      (λ platform. attempt_lower rank_of 0x400000002 (flash_in given) _ (λ flash.
      attempt_lower rank_of 0x400000002 (folder_in platform given) _
      (λ folder. attempt_lower rank_of 0x400000002 (modules_in platform given) _ (λ modules.
      attempt_lower rank_of 0x400000002 (wanted_in flash given) _
      (λ wanted. attempt_lower rank_of 0x400000002 (report_in given) _ (λ report.
      build_lower (has_vpd platform) folder modules flash wanted report)))))),
)

pub all_within : IsWithin 2 all_stages
all_within = (
  omega arith,
  λ given. attempt_within 1 (platform_in given) _
      (λ platform. attempt_within 1 (flash_in given) _ (λ flash.
      attempt_within 1 (folder_in platform given) _
      (λ folder. attempt_within 1 (modules_in platform given) _ (λ modules.
      attempt_within 1 (wanted_in flash given) _
      (λ wanted. attempt_within 1 (report_in given) _ (λ report.
      when_within 1 (fits_u16 (length flash.volumes) && fits_u16 (length flash.devices)) _
      (omega arith, λ files. tt))))))),
)
