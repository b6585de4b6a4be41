-- Files and volumes in a world.
use Rattle.std.specs.Prelude.{if◌then◌else◌}
use Rattle.std.specs.Result.{result_err}
use Rattle.std.proofs.Common.{◌≡◌, ℕ, Bool, true, false, List, [], ◌∷◌, map, Result, Ok, Err, refl, sym, ap, subst, ◌∙◌}
use Rattle.build_base.specs.First.{and_then, or_fault, first_of, all_ok}
use Rattle.build_base.specs.World.{World}
use Rattle.build_base.specs.declared.fault.Fault.{Fault}
use Rattle.doc_types.specs.declared.flash.FlashDoc.{FlashDoc}
use Rattle.doc_types.specs.declared.image.FileImage.{FileImage}
use Rattle.doc_types.specs.declared.volume.InfLine.{InfLine}
use Rattle.doc_types.specs.declared.volume.Item.{Item}
use Rattle.doc_types.specs.declared.volume.Item.TheVariants as item
use Rattle.doc_types.specs.declared.volume.VolumePlan.{VolumePlan}
use Rattle.doc_types.specs.declared.volume_head.VolumeHead.{VolumeHead}
use Rattle.flash_document.specs.Shape.{ItemFits}
use Rattle.step_engine.specs.Meaning.{IsWorld}
use Rattle.step_engine.specs.declared.talk.Ask.TheVariants as ask
use Rattle.step_engine.specs.declared.talk.Pair.{Pair}
use Rattle.build_stages.specs.Stages.{outcome_of, meaning_of}
use Rattle.build_stages.specs.StagesLaws.{value_is}
use Rattle.build_stages.specs.Writing.{attempt}
use Rattle.step_pack.specs.Keys.{key_cmp}
use Rattle.step_pack.specs.declared.key.Key.{Key}
use Rattle.step_pack.specs.declared.key.Key.TheVariants as key
use Rattle.step_pack.specs.declared.out.Out.{Out}
use Rattle.step_pack.specs.declared.out.Out.TheVariants as out
use Rattle.step_answers.specs.Volumes.{is_based, volume_at}
use Rattle.volume_steps.specs.Asks.{file_order, item_asks}
use Rattle.file_steps.specs.Asks.{file_asks, sections_below}
use Rattle.file_steps.specs.Files.{file_given}
use Rattle.volume_steps.specs.Volumes.{file_in, image_of, images_of, composed_volume, volume_given}
use Rattle.volume_steps.proofs.OrderLemmas.{number_asks, asks_in_order}
use Rattle.volume_steps.specs.Based.{rebased_image, based_given}
use Rattle.file_steps.specs.FileTrees.{item_at, sections_stages, module_stages, item_stages, file_stages}
use Rattle.volume_steps.specs.VolumeTrees.{image_by, volume_stages}
use Rattle.file_steps.specs.Apriori.{apriori_given}
use Rattle.file_steps.specs.ModuleAsks.{line_asks, members_asks, plan_asks}
use Rattle.file_steps.specs.ModuleFiles.{module_given}
use Rattle.file_steps.specs.Modules.{plan_given}
use Rattle.step_answers.specs.Readers.{given_as}
use Rattle.build_rules.specs.Rules.{edk, value_in}
use Rattle.build_rules.specs.RulesBounds.{edk_is_bounded}
use Rattle.build_rules.specs.Values.{flash_value}
use Rattle.build_laws.specs.ImageValues.{plan_value, planned_file, item_value, file_value, volume_files, volume_by, planned_value, volume_value}
use Rattle.build_rules.proofs.Asked.{given_in, fault_asked, by_answers, AreIn, in_whole, in_one, step_told, each_told, err_each, fault_each, or_and}
use Rattle.build_laws.proofs.FlashShape.{item_fits, sections_fit}
use Rattle.build_laws.proofs.ImageValues.{gives, after_flash, step_run, found_run, passed_run, last_run, part_fault, or_then, then_same}
use Rattle.build_rules.proofs.KindLemmas.{stage_run}
use Rattle.build_rules.proofs.FirstFaults.{or_same}
use Rattle.build_laws.proofs.RuleValues.{plan_same, planned_same, apriori_same}
use Rattle.build_laws.proofs.StatementValues.{placed_plan, placed_volume, placed_run, statement_same}

-- A file.

module_run : (w : World) (flash : FlashDoc) (head : VolumeHead) (line : InfLine) → IsWorld (meaning_of key_cmp edk) w
    → gives w (module_stages flash head line) ≡ given_as out.File (and_then (plan_value w flash line) (planned_file w head))
module_run w flash head line e =
    stage_run w (line_asks line) (λ given. attempt (plan_given flash line given) (sections_stages head))
    ∙ ap (λ (r : Result Out Fault). or_fault (fault_asked w (line_asks line)) r)
    (step_run w out.File (plan_given flash line (given_in w (line_asks line))) (sections_stages head) (planned_file w head) (λ plan.
    last_run w out.File (plan_asks plan) (module_given head plan) ∙ ap (λ (r : Result FileImage Fault). given_as out.File r) (planned_same w head plan e)))
    ∙ or_then out.File (fault_asked w (line_asks line)) (plan_given flash line (given_in w (line_asks line))) (planned_file w head)
    ∙ ap (λ r. given_as out.File (and_then r (planned_file w head))) (plan_same w flash line e)

item_run : (w : World) (v : ℕ) (flash : FlashDoc) (head : VolumeHead) → IsWorld (meaning_of key_cmp edk) w → (it : Item) → ItemFits v it
    → gives w (item_stages v flash head it) ≡ given_as out.File (item_value w flash head it)
item_run w v flash head e (item.File plan) fit =
    passed_run w (sections_below v plan.sections) _ (sections_fit v plan fit)
    ∙ last_run w out.File (file_asks flash.volumes plan) (file_given flash head plan) ∙ ap (λ (r : Result FileImage Fault). given_as out.File r) (statement_same w flash head plan e)
item_run w v flash head e (item.Apriori at pei members) fit =
    last_run w out.File (members_asks members) (apriori_given head at pei members) ∙ ap (λ (r : Result FileImage Fault). given_as out.File r) (apriori_same w head at pei members e)
item_run w v flash head e (item.Inf line) fit = module_run w flash head line e

file_run : (w : World) (v i : ℕ) → IsWorld (meaning_of key_cmp edk) w → gives w (file_stages v i) ≡ given_as out.File (file_value w v i)
unfolding file_value
file_run w v i e =
    after_flash w e out.File _ (λ flash. and_then (volume_at flash v) (λ plan. and_then (item_at flash plan i) (λ it. item_value w flash plan.head it))) (λ flash shape.
    found_run w out.File (volume_at flash v) _ (λ plan. and_then (item_at flash plan i) (λ it. item_value w flash plan.head it)) (λ plan is_plan.
    found_run w out.File (item_at flash plan i) _ (λ it. item_value w flash plan.head it) (λ it is_it. item_run w v flash plan.head e it (item_fits flash v i plan it shape is_plan is_it))))

pub file_is : (w : World) (v i : ℕ) → IsWorld (meaning_of key_cmp edk) w → value_in w (key.File v i) ≡ outcome_of (given_as out.File (file_value w v i))
file_is w v i e = value_is key_cmp edk edk_is_bounded w (key.File v i) ∙ ap outcome_of (file_run w v i e)

-- The files of a volume.

order_fault : (w : World) (v : ℕ) → IsWorld (meaning_of key_cmp edk) w → (numbers : List ℕ) → fault_asked w (number_asks v numbers) ≡ first_of (map (λ i. result_err (file_value w v i)) numbers)
unfolding fault_asked
order_fault w v e numbers =
    fault_each w (λ (i : ℕ). ask.Part (key.File v i) ∷ []) (λ i. result_err (file_value w v i)) (λ i. part_fault w (key.File v i) out.File (file_value w v i) (file_is w v i e)) numbers

images_same : (w : World) (v : ℕ) (items : List Item) → IsWorld (meaning_of key_cmp edk) w
    → or_fault (fault_asked w (item_asks v items)) (images_of (given_in w (item_asks v items)) v items) ≡ volume_files w v items
unfolding images_of
images_same w v items e =
    let asks = item_asks v items in
    let order = file_order items in
    let ordered : number_asks v order ≡ asks = asks_in_order v items order refl in
    let faults = ap (fault_asked w) (sym ordered) ∙ order_fault w v e order in
    or_same (fault_asked w asks) (first_of (map (λ i. result_err (file_value w v i)) order)) (all_ok (map (image_of (given_in w asks) v) order)) (all_ok (map (file_value w v) order)) faults
    (λ none. each_told asks (λ (i : ℕ). ask.Part (key.File v i) ∷ []) (image_of (given_in w asks) v) (file_value w v) (λ i own.
    step_told w asks (key.File v i) out.File (file_value w v i) file_in (faults ∙ none) (in_one (ask.Part (key.File v i)) [] asks own) (file_is w v i e) (λ file found. refl))
    order (subst (λ l. AreIn (number_asks v order) l) ordered (in_whole (number_asks v order))))
    ∙ err_each (file_value w v) order

-- A volume.

choose_then : {A B : Type 0} (b : Bool) (r : Result A Fault) (f g : A → Result B Fault) → (if b then and_then r f else and_then r g) ≡ and_then r (λ x. if b then f x else g x)
choose_then true (Ok x) f g = refl
choose_then true (Err fault) f g = refl
choose_then false (Ok x) f g = refl
choose_then false (Err fault) f g = refl

image_same : (moved : Bool) (v : ℕ) (plan : VolumePlan) (given : List (Pair Key Out)) → image_by moved v plan given ≡ and_then (images_of given v plan.items) (volume_by moved plan.head)
unfolding volume_given based_given
image_same true v plan given = choose_then (is_based plan.head) (images_of given v plan.items) (rebased_image plan.head) (composed_volume plan.head)
image_same false v plan given = refl

volume_made : (w : World) (moved : Bool) (v : ℕ) (plan : VolumePlan) → IsWorld (meaning_of key_cmp edk) w
    → by_answers w (item_asks v plan.items) (image_by moved v plan) ≡ and_then (volume_files w v plan.items) (volume_by moved plan.head)
volume_made w moved v plan e =
    let asks = item_asks v plan.items in
    let make : List FileImage → Result (List ℕ) Fault = volume_by moved plan.head in
    ap (λ (r : Result (List ℕ) Fault). or_fault (fault_asked w asks) r) (image_same moved v plan (given_in w asks))
    ∙ or_and (fault_asked w asks) (images_of (given_in w asks) v plan.items) make
    ∙ ap (λ (r : Result (List FileImage) Fault). and_then r make) (images_same w v plan.items e)

volume_same : (w : World) (moved : Bool) (v : ℕ) → IsWorld (meaning_of key_cmp edk) w → placed_volume w moved v ≡ volume_value w moved v
unfolding volume_value
volume_same w moved v e =
    then_same (flash_value w) (λ flash. and_then (volume_at flash v) (placed_plan w moved v)) (λ flash. and_then (volume_at flash v) (planned_value w moved v)) (λ flash.
    then_same (volume_at flash v) (placed_plan w moved v) (planned_value w moved v) (λ plan. volume_made w moved v plan e))

volume_run : (w : World) (moved : Bool) (v : ℕ) → IsWorld (meaning_of key_cmp edk) w → gives w (volume_stages moved v) ≡ given_as out.Volume (volume_value w moved v)
volume_run w moved v e = placed_run w moved v e ∙ ap (λ (r : Result (List ℕ) Fault). given_as out.Volume r) (volume_same w moved v e)

pub volume_is : (w : World) (v : ℕ) → IsWorld (meaning_of key_cmp edk) w → value_in w (key.Volume v) ≡ outcome_of (given_as out.Volume (volume_value w false v))
volume_is w v e = value_is key_cmp edk edk_is_bounded w (key.Volume v) ∙ ap outcome_of (volume_run w false v e)

pub based_is : (w : World) (v : ℕ) → IsWorld (meaning_of key_cmp edk) w → value_in w (key.Based v) ≡ outcome_of (given_as out.Volume (volume_value w true v))
based_is w v e = value_is key_cmp edk edk_is_bounded w (key.Based v) ∙ ap outcome_of (volume_run w true v e)
