-- The whole build in a world.
use Rattle.std.specs.Prelude.{◌==◌, ◌&&◌, not}
use Rattle.std.specs.Option.{is_some}
use Rattle.std.specs.Result.{result_err}
use Rattle.std.proofs.Common.{◌≡◌, ℕ, ◌+◌, Bool, true, false, List, [], ◌∷◌, ◌++◌, length, map, Option, Some, None, Result, Ok, Err, refl, sym, ap, ◌∙◌, append_assoc, append-nil}
use Rattle.build_base.specs.First.{and_then, or_else, or_fault, first_of, with_front}
use Rattle.build_base.specs.Path.{path_field}
use Rattle.build_base.specs.World.{World, field}
use Rattle.build_base.specs.declared.fault.Fault.{Fault}
use Rattle.doc_types.specs.declared.choice.Module.{Module}
use Rattle.doc_types.specs.declared.flash.DevicePlan.{DevicePlan}
use Rattle.doc_types.specs.declared.flash.FlashDoc.{FlashDoc}
use Rattle.doc_types.specs.declared.module.InfDoc.{InfDoc}
use Rattle.doc_types.specs.declared.platform.PlatformDoc.{PlatformDoc}
use Rattle.doc_types.specs.declared.texts.Texts.{Texts}
use Rattle.doc_types.specs.declared.volume.VolumePlan.{VolumePlan}
use Rattle.step_engine.specs.Meaning.{IsWorld}
use Rattle.step_engine.specs.declared.talk.Ask.{Ask}
use Rattle.step_engine.specs.declared.talk.Ask.TheVariants as ask
use Rattle.step_engine.specs.declared.talk.Answer.TheVariants as answer
use Rattle.step_engine.specs.declared.talk.Outcome.{Outcome}
use Rattle.build_stages.specs.Bounds.{both_hold}
use Rattle.build_stages.specs.Stages.{fault_in, outcome_of, meaning_of}
use Rattle.build_stages.specs.StagesLaws.{value_is}
use Rattle.build_stages.specs.Writing.{attempt, part_of, given_part}
use Rattle.step_pack.specs.Keys.{key_cmp}
use Rattle.step_pack.specs.declared.key.Key.{Key}
use Rattle.step_pack.specs.declared.key.Key.TheVariants as key
use Rattle.step_pack.specs.declared.out.Out.{Out}
use Rattle.step_pack.specs.declared.out.Out.TheVariants as out
use Rattle.step_pack.specs.declared.out.Output.{Output}
use Rattle.step_answers.specs.Settings.{built_modules}
use Rattle.text_steps.specs.Asks.{built_asks, build_module_asks}
use Rattle.flash_document.specs.Shape.{HasShape}
use Rattle.step_answers.specs.Volumes.{is_based, volume_key, fits_u16}
use Rattle.step_answers.specs.Folders.{output_folder}
use Rattle.step_answers.specs.Readers.{EdkStages, given_as, platform_of_out, flash_of_out}
use Rattle.step_answers.specs.VpdLines.{has_vpd}
use Rattle.output_steps.specs.AllTree.{step_where, steps_from, device_step, image_asks, report_part, build_asks, all_asks, report_named, all_given, all_stages, files_stages}
use Rattle.output_steps.specs.Outputs.{base_of_out, has_texts, has_bytes, named, named_in, outputs_in, modules_outputs, module_outputs, volume_outputs, device_outputs, vpd_outputs, report_output, outputs_of}
use Rattle.output_steps.specs.Wanted.{wanted_of, is_marked}
use Rattle.output_steps.specs.declared.wanted.Wanted.{Wanted}
use Rattle.job_fields.specs.Readings.{file_in, name_in}
use Rattle.build_rules.specs.Rules.{edk, value_in}
use Rattle.build_rules.specs.RulesBounds.{edk_is_bounded}
use Rattle.build_rules.specs.Values.{inf_value, platform_value, flash_value}
use Rattle.build_laws.specs.ModuleValues.{pcds_value}
use Rattle.build_laws.specs.TextValues.{code_value, depex_value, report_value}
use Rattle.build_laws.specs.VpdValues.{vpd_value}
use Rattle.build_laws.specs.ImageValues.{volume_value, device_value}
use Rattle.build_laws.specs.BuildValues.{module_fault, fault_where, volume_faults, device_faults, report_fault, build_fault, module_files, joined, build_files, files_value, wanted_value, all_value}
use Rattle.build_rules.proofs.Asked.{given_in, fault_asked, by_answers, AreIn, in_here, in_there, in_first, in_behind, in_one, in_more, part_told, fault_append, fault_each, else_none}
use Rattle.build_laws.proofs.DeviceValues.{based_step, device_is}
use Rattle.build_laws.proofs.FlashShape.{flash_shape, counts_fit}
use Rattle.build_laws.proofs.ImageValues.{gives, flash_is, file_named, step_run, passed_run, last_run, part_fault, both_found}
use Rattle.build_rules.proofs.KindLemmas.{stage_run}
use Rattle.build_laws.proofs.PcdValues.{pcds_is}
use Rattle.build_rules.proofs.FirstFaults.{none_both, or_same}
use Rattle.build_laws.proofs.TextLemmas.{code_is, depex_is, report_is}
use Rattle.build_rules.proofs.ValueLemmas.{inf_is, platform_is}
use Rattle.build_laws.proofs.VpdLemmas.{vpd_is}

-- The first fault of the steps that are asked.

asked_one : {A : Type 0} (w : World) (variant : A → Out) (k : Key) (r : Result A Fault) → value_in w k ≡ outcome_of (given_as variant r) → fault_asked w (ask.Part k ∷ []) ≡ result_err r
unfolding fault_asked
asked_one w variant k r v = part_fault w k variant r v

fault_both : (w : World) (xs ys : List (Ask Key)) (p q : Option Fault) → fault_asked w xs ≡ p → fault_asked w ys ≡ q → fault_asked w (xs ++ ys) ≡ or_else p q
fault_both w xs ys p q h k = fault_append w xs ys ∙ ap (λ (p : Option Fault). or_else p (fault_asked w ys)) h ∙ ap (λ (q : Option Fault). or_else p q) k

module_asked : (w : World) → IsWorld (meaning_of key_cmp edk) w → (m : Module) → fault_asked w (built_asks m) ≡ module_fault w m
module_asked w e m =
    fault_both w (ask.Part (key.Inf m.inf) ∷ []) (ask.Part (key.Code m) ∷ ask.Part (key.Depex m) ∷ []) _ _ (asked_one w out.Inf (key.Inf m.inf) (inf_value w m.inf) (inf_is w m.inf))
    (fault_both w (ask.Part (key.Code m) ∷ []) (ask.Part (key.Depex m) ∷ []) _ _ (asked_one w out.Code (key.Code m) (code_value w m) (code_is w m e))
    (asked_one w out.Depex (key.Depex m) (depex_value w m) (depex_is w m e)))

where_asked : {A : Type 0} (w : World) (variant : A → Out) (b : Bool) (k : Key) (r : Result A Fault) → value_in w k ≡ outcome_of (given_as variant r)
    → fault_asked w (step_where b k) ≡ fault_where b r
unfolding fault_asked
where_asked w variant true k r h = asked_one w variant k r h
where_asked w variant false k r h = refl

pub key_is : (w : World) (n : ℕ) (plan : VolumePlan) → IsWorld (meaning_of key_cmp edk) w → value_in w (volume_key n plan) ≡ outcome_of (given_as out.Volume (volume_value w (is_based plan.head) n))
key_is w n plan e = based_step w n (is_based plan.head) e

volumes_asked : (w : World) (marks : List Bool) (n : ℕ) (plans : List VolumePlan) → IsWorld (meaning_of key_cmp edk) w
    → fault_asked w (steps_from volume_key marks n plans) ≡ first_of (volume_faults w marks n plans)
unfolding steps_from volume_faults fault_asked
volumes_asked w marks n [] e = refl
volumes_asked w marks n (plan ∷ plans) e =
    let r = volume_value w (is_based plan.head) n in
    fault_both w (step_where (is_marked marks n) (volume_key n plan)) (steps_from volume_key marks (n + 1) plans) _ _
    (where_asked w out.Volume (is_marked marks n) (volume_key n plan) r (key_is w n plan e)) (volumes_asked w marks (n + 1) plans e)

devices_asked : (w : World) (marks : List Bool) (n : ℕ) (plans : List DevicePlan) → IsWorld (meaning_of key_cmp edk) w
    → fault_asked w (steps_from device_step marks n plans) ≡ first_of (device_faults w marks n plans)
unfolding steps_from device_faults fault_asked
devices_asked w marks n [] e = refl
devices_asked w marks n (plan ∷ plans) e =
    fault_both w (step_where (is_marked marks n) (key.Device n)) (steps_from device_step marks (n + 1) plans) _ _
    (where_asked w out.Device (is_marked marks n) (key.Device n) (device_value w n) (device_is w n e)) (devices_asked w marks (n + 1) plans e)

report_asked : (w : World) (report : Option (List ℕ)) → IsWorld (meaning_of key_cmp edk) w → fault_asked w (report_part report) ≡ report_fault w report
unfolding fault_asked
report_asked w None e = refl
report_asked w (Some path) e = asked_one w out.Report key.Report (report_value w) (report_is w e)

regrouped : (m v d p r : Option Fault) → or_else (or_else (or_else m (or_else v d)) p) r ≡ or_else m (or_else v (or_else d (or_else p (or_else r None))))
regrouped (Some f) v d p r = refl
regrouped None (Some f) d p r = refl
regrouped None None (Some f) p r = refl
regrouped None None None (Some f) r = refl
regrouped None None None None r = sym (else_none r)

asked_fault : (w : World) (vpd : Bool) (modules : List Module) (flash : FlashDoc) (wanted : Wanted) (report : Option (List ℕ)) → IsWorld (meaning_of key_cmp edk) w
    → fault_asked w (build_asks vpd modules flash wanted report) ≡ build_fault w vpd modules flash wanted report
asked_fault w vpd modules flash wanted report e =
    let m = build_module_asks modules in
    let i = image_asks flash wanted in
    let volumes = steps_from volume_key wanted.volumes 0 flash.volumes in
    let devices = steps_from device_step wanted.devices 0 flash.devices in
    let p = step_where vpd key.Vpd in
    let r = report_part report in
    fault_both w (ask.Part key.PlatformPcds ∷ []) (((m ++ i) ++ p) ++ r) _ _ (asked_one w out.Values key.PlatformPcds (pcds_value w) (pcds_is w e))
    (fault_both w ((m ++ i) ++ p) r _ _
    (fault_both w (m ++ i) p _ _
    (fault_both w m i _ _ (fault_each w built_asks (module_fault w) (module_asked w e) modules)
    (fault_both w volumes devices _ _ (volumes_asked w wanted.volumes 0 flash.volumes e) (devices_asked w wanted.devices 0 flash.devices e)))
    (where_asked w out.Vpd vpd key.Vpd (vpd_value w) (vpd_is w e))) (report_asked w report e)
    ∙ regrouped (first_of (map (module_fault w) modules)) (first_of (volume_faults w wanted.volumes 0 flash.volumes)) (first_of (device_faults w wanted.devices 0 flash.devices)) (fault_where vpd (vpd_value w)) (report_fault w report))

-- The files of modules.

abbrev outputs_by : List ℕ → Module → Result Out Fault → Result Out Fault → Result Out Fault → Result (List Output) Fault
outputs_by folder m i c d =
    and_then (and_then (and_then i base_of_out) (λ name. and_then (and_then c has_texts) (named name))) (λ x.
    and_then (and_then d has_bytes) (λ depex. module_outputs folder m x.0 x.1 depex))

-- what is told of a step
abbrev told_of : Outcome Out → Result Out Fault
told_of v = part_of (Some (answer.Part v))

outputs_are : (folder : List ℕ) (m : Module) (r : Result InfDoc Fault) (s : Result (Option Texts) Fault) (t : Result (List ℕ) Fault) → or_else (result_err r) (or_else (result_err s) (result_err t)) ≡ None
    → outputs_by folder m (told_of (outcome_of (given_as out.Inf r))) (told_of (outcome_of (given_as out.Code s))) (told_of (outcome_of (given_as out.Depex t)))
    ≡ and_then r (λ inf. and_then s (λ texts. and_then t (λ bytes. module_outputs folder m inf.base_name (is_some texts) (not (length bytes == 0)))))
outputs_are folder m (Ok inf) (Ok texts) (Ok bytes) none = refl
outputs_are folder m (Ok inf) (Ok texts) (Err fault) none = absurd cc
outputs_are folder m (Ok inf) (Err fault) t none = absurd cc
outputs_are folder m (Err fault) s t none = absurd cc

module_same : (w : World) (asks : List (Ask Key)) (folder : List ℕ) (m : Module) → IsWorld (meaning_of key_cmp edk) w → AreIn (built_asks m) asks → module_fault w m ≡ None
    → outputs_in folder (given_in w asks) m ≡ module_files w folder m
unfolding outputs_in named_in
module_same w asks folder m e sub none =
    let inf = ask.Part (key.Inf m.inf) in
    let code = ask.Part (key.Code m) in
    let depex = ask.Part (key.Depex m) in
    let behind = in_more inf (code ∷ depex ∷ []) asks sub in
    let i : given_part key_cmp (given_in w asks) (key.Inf m.inf) ≡ told_of (outcome_of (given_as out.Inf (inf_value w m.inf))) =
    part_told w asks (key.Inf m.inf) (in_one inf (code ∷ depex ∷ []) asks sub) ∙ ap told_of (inf_is w m.inf) in
    let c : given_part key_cmp (given_in w asks) (key.Code m) ≡ told_of (outcome_of (given_as out.Code (code_value w m))) =
    part_told w asks (key.Code m) (in_one code (depex ∷ []) asks behind) ∙ ap told_of (code_is w m e) in
    let d : given_part key_cmp (given_in w asks) (key.Depex m) ≡ told_of (outcome_of (given_as out.Depex (depex_value w m))) =
    part_told w asks (key.Depex m) (in_one depex [] asks (in_more code (depex ∷ []) asks behind)) ∙ ap told_of (depex_is w m e) in
    rw (i, c, d) (outputs_are folder m (inf_value w m.inf) (code_value w m) (depex_value w m) none)

modules_same : (w : World) (asks : List (Ask Key)) (folder : List ℕ) (modules : List Module) → IsWorld (meaning_of key_cmp edk) w → AreIn (build_module_asks modules) asks
    → first_of (map (module_fault w) modules) ≡ None → modules_outputs folder (given_in w asks) modules ≡ joined (map (module_files w folder) modules)
unfolding modules_outputs joined
modules_same w asks folder [] e sub none = refl
modules_same w asks folder (m ∷ modules) e sub none =
    let both = none_both (module_fault w m) (first_of (map (module_fault w) modules)) none in
    rw (module_same w asks folder m e (in_first (built_asks m) (build_module_asks modules) asks sub) both.0, modules_same w asks folder modules e (in_behind (built_asks m) (build_module_asks modules) asks sub) both.1) refl

-- All files.

five_joined : (a v d p : Result (List Output) Fault) (r : List Output)
    → and_then a (λ texts. and_then (with_front texts v) (λ volumes. and_then (with_front volumes d) (λ images. and_then (with_front images p) (λ outputs. Ok (outputs ++ r)))))
    ≡ joined (a ∷ v ∷ d ∷ p ∷ Ok r ∷ [])
unfolding joined
five_joined (Ok a) (Ok v) (Ok d) (Ok p) r =
    ap (λ (l : List Output). Ok l)
    (append_assoc ((a ++ v) ++ d) p r ∙ append_assoc (a ++ v) d (p ++ r) ∙ append_assoc a v (d ++ (p ++ r)) ∙ ap (λ l. a ++ (v ++ (d ++ (p ++ l)))) (sym (append-nil r)))
five_joined (Ok a) (Ok v) (Ok d) (Err fault) r = refl
five_joined (Ok a) (Ok v) (Err fault) p r = refl
five_joined (Ok a) (Err fault) d p r = refl
five_joined (Err fault) v d p r = refl

outputs_same : (w : World) (vpd : Bool) (folder : List ℕ) (modules : List Module) (flash : FlashDoc) (wanted : Wanted) (report : Option (List ℕ)) → IsWorld (meaning_of key_cmp edk) w
    → first_of (map (module_fault w) modules) ≡ None
    → outputs_of vpd folder modules flash wanted report (given_in w (build_asks vpd modules flash wanted report)) ≡ build_files w vpd folder modules flash wanted report
unfolding outputs_of
outputs_same w vpd folder modules flash wanted report e none =
    let asks = build_asks vpd modules flash wanted report in
    let m = build_module_asks modules in
    let i = image_asks flash wanted in
    let p = step_where vpd key.Vpd in
    let r = report_part report in
    let all : AreIn (((m ++ i) ++ p) ++ r) asks = in_there (ask.Part key.PlatformPcds) (((m ++ i) ++ p) ++ r) in
    ap (λ (r : Result (List Output) Fault). and_then r (λ texts. and_then (with_front texts (volume_outputs folder wanted.volumes 0 flash.volumes)) (λ volumes.
    and_then (with_front volumes (device_outputs folder wanted.devices 0 flash.devices)) (λ images. and_then (with_front images (vpd_outputs vpd folder)) (λ outputs. Ok (outputs ++ report_output report))))))
    (modules_same w asks folder modules e (in_first m i asks (in_first (m ++ i) p asks (in_first ((m ++ i) ++ p) r asks all))) none)
    ∙ five_joined (joined (map (module_files w folder) modules)) (volume_outputs folder wanted.volumes 0 flash.volumes) (device_outputs folder wanted.devices 0 flash.devices) (vpd_outputs vpd folder) (report_output report)

files_same : (w : World) (vpd : Bool) (folder : List ℕ) (modules : List Module) (flash : FlashDoc) (wanted : Wanted) (report : Option (List ℕ)) → IsWorld (meaning_of key_cmp edk) w
    → by_answers w (build_asks vpd modules flash wanted report) (outputs_of vpd folder modules flash wanted report)
    ≡ or_fault (build_fault w vpd modules flash wanted report) (build_files w vpd folder modules flash wanted report)
files_same w vpd folder modules flash wanted report e =
    let asks = build_asks vpd modules flash wanted report in
    or_same (fault_asked w asks) (build_fault w vpd modules flash wanted report) (outputs_of vpd folder modules flash wanted report (given_in w asks)) (build_files w vpd folder modules flash wanted report)
    (asked_fault w vpd modules flash wanted report e)
    (λ none. outputs_same w vpd folder modules flash wanted report e
    (none_both (first_of (map (module_fault w) modules)) _ (none_both (result_err (pcds_value w)) _ none).1).0)

-- The whole build.

files_run : (w : World) → IsWorld (meaning_of key_cmp edk) w → (vpd : Bool) (folder : List ℕ) (modules : List Module) (flash : FlashDoc) (wanted : Wanted) (report : Option (List ℕ))
    → HasShape flash → gives w (files_stages vpd folder modules flash wanted report) ≡ given_as out.All (files_value w vpd folder modules flash wanted report)
files_run w e vpd folder modules flash wanted report shape =
    passed_run w (fits_u16 (length flash.volumes) && fits_u16 (length flash.devices)) _ (counts_fit flash shape)
    ∙ last_run w out.All (build_asks vpd modules flash wanted report) (outputs_of vpd folder modules flash wanted report)
    ∙ ap (λ (r : Result (List Output) Fault). given_as out.All r) (files_same w vpd folder modules flash wanted report e)

field_9 : (w : World) → IsWorld (meaning_of key_cmp edk) w → is_some (file_in (field w 9)) ≡ true
field_9 w e =
    (both_hold (is_some (file_in (field w 7))) (is_some (file_in (field w 9))) (both_hold (is_some (path_field (field w 0))) _ e).1).1

-- what stands for the report's file, and what follows it
report_run : (w : World) → IsWorld (meaning_of key_cmp edk) w → (vpd : Bool) (folder : List ℕ) (modules : List Module) (flash : FlashDoc) (wanted : Wanted)
    → HasShape flash → gives w (attempt (report_named (field w 9)) (λ report. files_stages vpd folder modules flash wanted report)) ≡ given_as out.All (files_value w vpd folder modules flash wanted (name_in (field w 9)))
report_run w e vpd folder modules flash wanted shape =
    ap (λ (r : Result (Option (List ℕ)) Fault). gives w (attempt r (λ report. files_stages vpd folder modules flash wanted report))) (file_named (field w 9) (field_9 w e))
    ∙ files_run w e vpd folder modules flash wanted (name_in (field w 9)) shape

abbrev by_steps : World → Result Out Fault → Result Out Fault → EdkStages
by_steps w p v =
    attempt (and_then p platform_of_out) (λ platform. attempt (and_then v flash_of_out) (λ flash. attempt (output_folder platform.output (field w 2) (field w 3)) (λ folder.
    attempt (built_modules platform (field w 1)) (λ modules. attempt (wanted_of flash (field w 8)) (λ wanted.
    attempt (report_named (field w 9)) (λ report. files_stages (has_vpd platform) folder modules flash wanted report))))))

abbrev by_both : World → Outcome Out → Outcome Out → Result Out Fault
by_both w p v = or_fault (or_else (fault_in (answer.Part p)) (or_else (fault_in (answer.Part v)) None)) (gives w (by_steps w (told_of p) (told_of v)))

by_both_is : (w : World) (p : Result PlatformDoc Fault) (r : Result FlashDoc Fault) → by_both w (outcome_of (given_as out.Platform p)) (outcome_of (given_as out.Flash r))
    ≡ and_then p (λ platform. and_then r (λ flash. gives w (attempt (output_folder platform.output (field w 2) (field w 3)) (λ folder.
    attempt (built_modules platform (field w 1)) (λ modules. attempt (wanted_of flash (field w 8)) (λ wanted.
    attempt (report_named (field w 9)) (λ report. files_stages (has_vpd platform) folder modules flash wanted report)))))))
by_both_is w (Ok platform) (Ok flash) = refl
by_both_is w (Ok platform) (Err fault) = refl
by_both_is w (Err fault) (Ok flash) = refl
by_both_is w (Err fault) (Err other) = refl

asked_both : (w : World) → gives w all_stages ≡ by_both w (value_in w key.Platform) (value_in w key.Flash)
unfolding fault_asked
asked_both w =
    let behind : List (Ask Key) = ask.Field 1 ∷ ask.Field 2 ∷ ask.Field 3 ∷ ask.Field 7 ∷ ask.Field 8 ∷ ask.Field 9 ∷ [] in
    let p = part_told w all_asks key.Platform (in_here (ask.Part key.Platform) (ask.Part key.Flash ∷ behind)) in
    let v = part_told w all_asks key.Flash (in_there (ask.Part key.Platform) (ask.Part key.Flash ∷ behind) (ask.Part key.Flash) (in_here (ask.Part key.Flash) behind)) in
    stage_run w all_asks all_given ∙ rw (p, v) refl

all_run : (w : World) → IsWorld (meaning_of key_cmp edk) w → gives w all_stages ≡ given_as out.All (all_value w)
unfolding all_value
all_run w e =
    asked_both w
    ∙ ap (λ (p : Outcome Out). by_both w p (value_in w key.Flash)) (platform_is w e)
    ∙ ap (by_both w (outcome_of (given_as out.Platform (platform_value w)))) (flash_is w e)
    ∙ by_both_is w (platform_value w) (flash_value w)
    ∙ both_found out.All (platform_value w) (flash_value w) _ (λ platform flash. and_then (output_folder platform.output (field w 2) (field w 3)) (λ folder.
    and_then (built_modules platform (field w 1)) (λ modules. wanted_value w (has_vpd platform) folder modules flash))) (λ platform flash is_platform is_flash.
    step_run w out.All (output_folder platform.output (field w 2) (field w 3)) _ (λ folder. and_then (built_modules platform (field w 1)) (λ modules. wanted_value w (has_vpd platform) folder modules flash)) (λ folder.
    step_run w out.All (built_modules platform (field w 1)) _ (λ modules. wanted_value w (has_vpd platform) folder modules flash) (λ modules.
    step_run w out.All (wanted_of flash (field w 8)) _ (λ wanted. files_value w (has_vpd platform) folder modules flash wanted (name_in (field w 9))) (λ wanted.
    report_run w e (has_vpd platform) folder modules flash wanted (flash_shape w flash is_flash)))))

pub all_is : (w : World) → IsWorld (meaning_of key_cmp edk) w → value_in w key.All ≡ outcome_of (given_as out.All (all_value w))
all_is w e = value_is key_cmp edk edk_is_bounded w key.All ∙ ap outcome_of (all_run w e)
