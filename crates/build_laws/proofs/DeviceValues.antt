-- Devices in a world.
use Rattle.std.specs.Prelude.{if◌then◌else◌}
use Rattle.std.specs.Result.{result_err}
use Rattle.std.proofs.Common.{◌≡◌, ℕ, Bool, true, false, List, [], ◌∷◌, map, slice_get, Contains, Option, Some, None, Result, Ok, Err, refl, sym, ap, ◌∙◌}
use Rattle.build_base.specs.First.{and_then, or_else, or_fault, first_of, all_ok}
use Rattle.build_base.specs.World.{World, field}
use Rattle.build_base.specs.declared.fault.Fault.{Fault}
use Rattle.doc_types.specs.declared.flash.DevicePlan.{DevicePlan}
use Rattle.doc_types.specs.declared.flash.FlashDoc.{FlashDoc}
use Rattle.doc_types.specs.declared.flash.Region.{Region}
use Rattle.doc_types.specs.declared.flash.RegionKind.{RegionKind}
use Rattle.doc_types.specs.declared.flash.RegionKind.TheVariants as kind
use Rattle.doc_types.specs.declared.platform.PlatformDoc.{PlatformDoc}
use Rattle.doc_types.specs.declared.volume.VolumePlan.{VolumePlan}
use Rattle.doc_types.specs.declared.vpd.Vpd.{Vpd}
use Rattle.fd_regions.specs.Device.{device_of}
use Rattle.step_engine.specs.Meaning.{IsWorld}
use Rattle.step_engine.specs.declared.talk.Ask.{Ask}
use Rattle.step_engine.specs.declared.talk.Ask.TheVariants as ask
use Rattle.step_engine.specs.declared.talk.Answer.TheVariants as answer
use Rattle.step_engine.specs.declared.talk.Outcome.{Outcome}
use Rattle.build_stages.specs.Stages.{fault_in, outcome_of, meaning_of}
use Rattle.build_stages.specs.StagesLaws.{value_is}
use Rattle.build_stages.specs.Writing.{attempt, given_part}
use Rattle.step_pack.specs.Keys.{key_cmp}
use Rattle.step_pack.specs.declared.key.Key.{Key}
use Rattle.step_pack.specs.declared.key.Key.TheVariants as key
use Rattle.step_pack.specs.declared.out.Out.{Out}
use Rattle.step_pack.specs.declared.out.Out.TheVariants as out
use Rattle.step_answers.specs.Volumes.{is_based, step_by, volume_step}
use Rattle.volume_steps.specs.Asks.{is_vpd, tree_asks, kind_asks, region_asks, regions_below}
use Rattle.step_answers.specs.Contents.{file_absent}
use Rattle.volume_steps.specs.Devices.{vpd_given, vpd_content, tree_content, region_content, contents_of, device_given}
use Rattle.volume_steps.specs.VolumeTrees.{device_at, vpd_path, vpd_in, regions_stages, device_asks, device_from, device_stages}
use Rattle.step_answers.specs.Readers.{given_as, flash_of_out, platform_of_out, platform_in}
use Rattle.build_rules.specs.Rules.{edk, value_in}
use Rattle.build_rules.specs.RulesBounds.{edk_is_bounded}
use Rattle.build_rules.specs.Values.{platform_value, flash_value}
use Rattle.build_laws.specs.VpdValues.{vpd_value}
use Rattle.build_laws.specs.ImageValues.{file_bytes, image_of, nested_image, is_moved, volume_value, volume_image, vpd_bytes, region_bytes, region_fault, regions_value, numbered_value, device_value}
use Rattle.build_rules.proofs.Asked.{given_in, fault_asked, by_answers, AreIn, in_whole, in_here, in_there, in_one, step_told, each_told, fault_each, or_value, else_none}
use Rattle.build_laws.proofs.FlashShape.{flash_shape, regions_fit}
use Rattle.build_laws.proofs.ImageValues.{gives, flash_is, step_run, found_run, passed_run, last_run, part_fault, both_found}
use Rattle.build_rules.proofs.KindLemmas.{stage_run}
use Rattle.build_rules.proofs.FirstFaults.{or_same}
use Rattle.build_laws.proofs.StatementValues.{image_back, bytes_told, image_told, file_fault, or_or}
use Rattle.build_rules.proofs.ValueLemmas.{platform_is}
use Rattle.build_laws.proofs.VolumeValues.{volume_is, based_is}
use Rattle.build_laws.proofs.VpdLemmas.{vpd_is}

-- A volume in a region.

pub based_step : (w : World) (n : ℕ) (b : Bool) → IsWorld (meaning_of key_cmp edk) w → value_in w (if b then key.Based n else key.Volume n) ≡ outcome_of (given_as out.Volume (volume_value w b n))
based_step w n true e = based_is w n e
based_step w n false e = volume_is w n e

step_is : (w : World) (n : ℕ) (plan : Option VolumePlan) → IsWorld (meaning_of key_cmp edk) w → value_in w (step_by n plan) ≡ outcome_of (given_as out.Volume (volume_value w (is_moved plan) n))
step_is w n None e = volume_is w n e
step_is w n (Some plan) e = based_step w n (is_based plan.head) e

pub image_is : (w : World) (volumes : List VolumePlan) (n : ℕ) → IsWorld (meaning_of key_cmp edk) w → value_in w (volume_step volumes n) ≡ outcome_of (given_as out.Volume (volume_image w volumes n))
image_is w volumes n e = step_is w n (slice_get volumes n) e

-- a nested volume is the image of its volume
pub nested_is : (w : World) (volumes : List VolumePlan) (n : ℕ) → IsWorld (meaning_of key_cmp edk) w → nested_image w volumes n ≡ volume_image w volumes n
nested_is w volumes n e = ap (λ (v : Outcome Out). image_of v) (image_is w volumes n e) ∙ image_back (volume_image w volumes n)

-- The image of vital product data.

vpd_bytes_fault : (r : Result Vpd Fault) → result_err r ≡ result_err {T = List ℕ} (and_then r (λ vpd. Ok vpd.image))
vpd_bytes_fault (Ok vpd) = refl
vpd_bytes_fault (Err fault) = refl

whole_out : (r : Result Out Fault) → given_as (λ x. x) r ≡ r
whole_out (Ok given) = refl
whole_out (Err fault) = refl

then_ok : {A : Type 0} (r : Result A Fault) → and_then r (λ x. Ok x) ≡ r
then_ok (Ok x) = refl
then_ok (Err fault) = refl

vpd_then : (r : Result Vpd Fault) → and_then (given_as out.Vpd r) vpd_given ≡ and_then r (λ vpd. Ok vpd.image)
vpd_then (Ok vpd) = refl
vpd_then (Err fault) = refl

vpd_told : (w : World) (asks : List (Ask Key)) → IsWorld (meaning_of key_cmp edk) w → fault_asked w asks ≡ None → Contains asks (ask.Part key.Vpd) → vpd_content (given_in w asks) ≡ vpd_bytes w
vpd_told w asks e none c =
    let given : Result Out Fault = given_as out.Vpd (vpd_value w) in
    let told : Result Out Fault = given_part key_cmp (given_in w asks) key.Vpd in
    ap (λ (r : Result Out Fault). and_then r vpd_given)
    (sym (then_ok told) ∙ step_told w asks key.Vpd (λ x. x) given (λ x. Ok x) none c (vpd_is w e ∙ sym (ap outcome_of (whole_out given))) (λ x found. refl))
    ∙ vpd_then (vpd_value w)

-- The regions.

kind_fault : (w : World) (volumes : List VolumePlan) (vpd : Option (List ℕ)) → IsWorld (meaning_of key_cmp edk) w → (k : RegionKind) → fault_asked w (kind_asks volumes vpd k) ≡ region_fault w volumes vpd k
unfolding fault_asked
kind_fault w volumes vpd e kind.Empty = refl
kind_fault w volumes vpd e (kind.Bytes bytes) = refl
kind_fault w volumes vpd e (kind.Tree path) =
    elim (is_vpd vpd path) as (λ b. fault_asked w (tree_asks b path) ≡ (if b then result_err (vpd_bytes w) else None)) [
      | true ↦ part_fault w key.Vpd out.Vpd (vpd_value w) (vpd_is w e) ∙ vpd_bytes_fault (vpd_value w)
      | false ↦ file_fault w path
    ]
kind_fault w volumes vpd e (kind.Volume n) = part_fault w (volume_step volumes n) out.Volume (volume_image w volumes n) (image_is w volumes n e)

kind_same : (w : World) (asks : List (Ask Key)) (volumes : List VolumePlan) (vpd : Option (List ℕ)) → IsWorld (meaning_of key_cmp edk) w → fault_asked w asks ≡ None → (k : RegionKind)
    → AreIn (kind_asks volumes vpd k) asks → region_content vpd volumes (given_in w asks) k ≡ region_bytes w volumes vpd k
kind_same w asks volumes vpd e none kind.Empty = λ h. refl
kind_same w asks volumes vpd e none (kind.Bytes bytes) = λ h. refl
kind_same w asks volumes vpd e none (kind.Tree path) =
    elim (is_vpd vpd path) as (λ b. AreIn (tree_asks b path) asks
    → tree_content b (given_in w asks) path ≡ (if b then vpd_bytes w else file_bytes w (file_absent path) path)) [
      | true ↦ λ h. vpd_told w asks e none (in_one (ask.Part key.Vpd) [] asks h)
      | false ↦ λ h. bytes_told w asks (file_absent path) path (in_one (ask.File path) [] asks h)
    ]
kind_same w asks volumes vpd e none (kind.Volume n) = λ h.
    image_told w asks volumes n e none (in_one (ask.Part (volume_step volumes n)) [] asks h) ∙ nested_is w volumes n e

abbrev region_faults : World → List VolumePlan → Option (List ℕ) → List Region → Option Fault
region_faults w volumes vpd regions = first_of (map (λ region. region_fault w volumes vpd region.kind) regions)

abbrev region_contents : World → List VolumePlan → Option (List ℕ) → List Region → Result (List (List ℕ)) Fault
region_contents w volumes vpd regions = all_ok (map (λ region. region_bytes w volumes vpd region.kind) regions)

regions_same : (w : World) (volumes : List VolumePlan) (vpd : Option (List ℕ)) (plan : DevicePlan) → IsWorld (meaning_of key_cmp edk) w
    → by_answers w (region_asks volumes vpd plan.regions) (device_given vpd volumes plan)
    ≡ or_fault (region_faults w volumes vpd plan.regions) (and_then (region_contents w volumes vpd plan.regions) (device_of plan))
unfolding device_given contents_of
regions_same w volumes vpd plan e =
    let asks = region_asks volumes vpd plan.regions in
    let faults = fault_each w (λ (region : Region). kind_asks volumes vpd region.kind) (λ region. region_fault w volumes vpd region.kind) (λ region. kind_fault w volumes vpd e region.kind) plan.regions in
    or_same (fault_asked w asks) (region_faults w volumes vpd plan.regions) (device_given vpd volumes plan (given_in w asks)) (and_then (region_contents w volumes vpd plan.regions) (device_of plan)) faults
    (λ none. ap (λ (r : Result (List (List ℕ)) Fault). and_then r (device_of plan))
    (each_told asks (λ (region : Region). kind_asks volumes vpd region.kind) (λ region. region_content vpd volumes (given_in w asks) region.kind) (λ region. region_bytes w volumes vpd region.kind)
    (λ region own. kind_same w asks volumes vpd e (faults ∙ none) region.kind own) plan.regions (in_whole asks)))

-- A device, by what the steps of the flash description and of the platform gave.

documents_fault : (w : World) → IsWorld (meaning_of key_cmp edk) w → fault_asked w device_asks ≡ or_else (result_err (flash_value w)) (result_err (platform_value w))
unfolding fault_asked
documents_fault w e =
    let flash : Option Fault = fault_in (answer.Part (value_in w key.Flash)) in
    ap (λ (q : Option Fault). or_else flash q) (part_fault w key.Platform out.Platform (platform_value w) (platform_is w e))
    ∙ ap (λ (q : Option Fault). or_else q (result_err (platform_value w))) (sym (else_none flash) ∙ part_fault w key.Flash out.Flash (flash_value w) (flash_is w e))

abbrev after_documents : World → ℕ → FlashDoc → PlatformDoc → Result Out Fault
after_documents w d flash platform =
    gives w (attempt (vpd_path platform (field w 2) (field w 3)) (λ vpd. attempt (device_at flash d) (λ plan. regions_stages flash.volumes vpd plan)))

documents_told : (w : World) (d : ℕ) (flash : FlashDoc) (platform : PlatformDoc) → IsWorld (meaning_of key_cmp edk) w → flash_value w ≡ Ok flash → platform_value w ≡ Ok platform
    → gives w (device_from d (given_in w device_asks)) ≡ after_documents w d flash platform
documents_told w d flash platform e found also =
    let given = given_in w device_asks in
    let fields : List (Ask Key) = ask.Field 2 ∷ ask.Field 3 ∷ [] in
    let none : fault_asked w device_asks ≡ None =
    documents_fault w e ∙ ap (λ (r : Result FlashDoc Fault). or_else (result_err r) (result_err (platform_value w))) found ∙ ap result_err also in
    ap (λ (r : Result FlashDoc Fault). gives w (attempt r (λ flash. attempt (platform_in given) (λ platform. attempt (vpd_in platform given) (λ vpd.
    attempt (device_at flash d) (λ plan. regions_stages flash.volumes vpd plan))))))
    (step_told w device_asks key.Flash out.Flash (flash_value w) flash_of_out none (in_here (ask.Part key.Flash) (ask.Part key.Platform ∷ fields)) (flash_is w e) (λ flash found. refl) ∙ found)
    ∙ ap (λ (r : Result PlatformDoc Fault). gives w (attempt r (λ platform. attempt (vpd_in platform given) (λ vpd.
    attempt (device_at flash d) (λ plan. regions_stages flash.volumes vpd plan)))))
    (step_told w device_asks key.Platform out.Platform (platform_value w) platform_of_out none
    (in_there (ask.Part key.Flash) (ask.Part key.Platform ∷ fields) (ask.Part key.Platform) (in_here (ask.Part key.Platform) fields)) (platform_is w e) (λ platform found. refl) ∙ also)

device_run : (w : World) (d : ℕ) → IsWorld (meaning_of key_cmp edk) w → gives w (device_stages d) ≡ given_as out.Device (device_value w d)
unfolding device_value
device_run w d e =
    let flash : Option Fault = result_err (flash_value w) in
    let platform : Option Fault = result_err (platform_value w) in
    let told : Result Out Fault = gives w (device_from d (given_in w device_asks)) in
    stage_run w device_asks (device_from d)
    ∙ ap (λ (q : Option Fault). or_fault q told) (documents_fault w e)
    ∙ sym (or_or flash platform told)
    ∙ or_value (flash_value w) (or_fault platform told) (λ flash. and_then (platform_value w) (after_documents w d flash)) (λ flash found.
    or_value (platform_value w) told (after_documents w d flash) (λ platform also. documents_told w d flash platform e found also))
    ∙ both_found out.Device (flash_value w) (platform_value w) (after_documents w d) (numbered_value w d) (λ flash platform is_flash is_platform.
    step_run w out.Device (vpd_path platform (field w 2) (field w 3)) _ (λ vpd. and_then (device_at flash d) (regions_value w flash.volumes vpd)) (λ vpd.
    found_run w out.Device (device_at flash d) _ (regions_value w flash.volumes vpd) (λ plan is_plan.
    passed_run w (regions_below plan.regions) _ (regions_fit flash d plan (flash_shape w flash is_flash) is_plan)
    ∙ last_run w out.Device (region_asks flash.volumes vpd plan.regions) (device_given vpd flash.volumes plan)
    ∙ ap (λ (r : Result (List ℕ) Fault). given_as out.Device r) (regions_same w flash.volumes vpd plan e))))

pub device_is : (w : World) (d : ℕ) → IsWorld (meaning_of key_cmp edk) w → value_in w (key.Device d) ≡ outcome_of (given_as out.Device (device_value w d))
device_is w d e = value_is key_cmp edk edk_is_bounded w (key.Device d) ∙ ap outcome_of (device_run w d e)
