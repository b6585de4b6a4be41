-- Each file of the whole build has bytes that a step gives, which the build asks for.
use Rattle.std.specs.Prelude.{◌==◌, not}
use Rattle.std.specs.Option.{is_some}
use Rattle.std.specs.Result.{result_err}
use Rattle.std.proofs.Common.{◌≡◌, inl, inr, ℕ, ◌+◌, Bool, true, false, List, [], ◌∷◌, length, map, Option, Some, None, Result, Ok, Err, IfOk, All, Contains, refl, sym, ap, ◌∙◌, subst}
use Rattle.std.proofs.lemmas.List.Elements.{All-weaker, All-contains, All-contains_itself}
use Rattle.build_base.specs.First.{and_then, or_else, first_of}
use Rattle.build_base.specs.World.{World, field}
use Rattle.build_base.specs.declared.fault.Fault.{Fault}
use Rattle.doc_types.specs.declared.choice.Module.{Module}
use Rattle.doc_types.specs.declared.flash.DevicePlan.{DevicePlan}
use Rattle.doc_types.specs.declared.flash.FlashDoc.{FlashDoc}
use Rattle.doc_types.specs.declared.module.InfDoc.{InfDoc}
use Rattle.doc_types.specs.declared.platform.PlatformDoc.{PlatformDoc}
use Rattle.doc_types.specs.declared.texts.Texts.{Texts}
use Rattle.doc_types.specs.declared.volume.VolumePlan.{VolumePlan}
use Rattle.step_engine.specs.Meaning.{IsWorld, Asks}
use Rattle.step_engine.specs.declared.talk.Ask.TheVariants as ask
use Rattle.step_engine.specs.declared.talk.Outcome.TheVariants.{Good}
use Rattle.build_stages.specs.Stages.{outcome_of, meaning_of}
use Rattle.step_pack.specs.Keys.{key_cmp}
use Rattle.step_pack.specs.declared.key.Key.{Key}
use Rattle.step_pack.specs.declared.key.Key.TheVariants as key
use Rattle.step_pack.specs.declared.out.Out.{Out}
use Rattle.step_pack.specs.declared.out.Out.TheVariants as out
use Rattle.step_pack.specs.declared.out.Output.{Output}
use Rattle.step_answers.specs.Settings.{built_modules}
use Rattle.step_answers.specs.Volumes.{is_based, volume_key}
use Rattle.step_answers.specs.Folders.{output_folder}
use Rattle.step_answers.specs.Readers.{given_as}
use Rattle.step_answers.specs.VpdLines.{has_vpd}
use Rattle.output_steps.specs.Outputs.{image_where, file_output, module_outputs, volume_outputs, device_outputs, vpd_outputs, report_output}
use Rattle.output_steps.specs.Wanted.{wanted_of, is_marked}
use Rattle.output_steps.specs.declared.wanted.Wanted.{Wanted}
use Rattle.build_rules.specs.Rules.{edk, value_in}
use Rattle.job_fields.specs.Readings.{name_in}
use Rattle.build_rules.specs.Values.{inf_value, platform_value, flash_value}
use Rattle.build_laws.specs.ModuleValues.{pcds_value}
use Rattle.build_laws.specs.TextValues.{code_value, depex_value, report_value}
use Rattle.build_laws.specs.VpdValues.{vpd_value}
use Rattle.build_laws.specs.ImageValues.{volume_value, device_value}
use Rattle.build_laws.specs.BuildValues.{module_fault, fault_where, volume_faults, device_faults, report_fault, build_fault, module_files, joined, build_files, files_value, wanted_value, all_value, HasPart, IsMade}
use Rattle.build_rules.proofs.NamedOutputs.{AreOf, fault_ok, if_then, if_ok, any_ok, none_are, one_are, two_are, next_are, file_made, module_made, image_made, outputs_asked}
use Rattle.build_laws.proofs.BuildValues.{all_is, key_is}
use Rattle.build_laws.proofs.DeviceValues.{device_is}
use Rattle.build_rules.proofs.FirstFaults.{none_both}
use Rattle.build_laws.proofs.TextLemmas.{code_is, depex_is, report_is}
use Rattle.build_laws.proofs.VpdLemmas.{vpd_is}

-- Outcomes that are there.

from_ok : {A B : Type 0} (r : Result A Fault) (f : A → Result B Fault) (y : B) (P : Type 0) → and_then r f ≡ Ok y → ((x : A) → r ≡ Ok x → f x ≡ Ok y → P) → P
from_ok (Ok x) f y P e h = h x refl e
from_ok (Err fault) f y P e h = absurd cc

-- a step without a fault gives its value
good : {A : Type 0} (w : World) (variant : A → Out) (k : Key) (r : Result A Fault) → value_in w k ≡ outcome_of (given_as variant r) → result_err r ≡ None
    → (x : A) × (r ≡ Ok x) × (value_in w k ≡ Good (variant x))
good w variant k (Ok x) e none = (x, refl, e)
good w variant k (Err fault) e none = absurd cc

-- the step gives the part
abbrev Comes : World → Key → ℕ → Type 0
Comes w k part = (given : Out) × (value_in w k ≡ Good given) × HasPart given part

-- Those of a module.

-- by the steps of the module, where none has a fault
files_are : (w : World) (folder : List ℕ) (m : Module) → IsWorld (meaning_of key_cmp edk) w → module_fault w m ≡ None → IfOk (module_files w folder m) (AreOf (Comes w))
files_are w folder m e none =
    let P = Comes w in
    let both = none_both (result_err (inf_value w m.inf)) (or_else (result_err (code_value w m)) (result_err (depex_value w m))) none in
    let rest = none_both (result_err (code_value w m)) (result_err (depex_value w m)) both.1 in
    let code = good w out.Code (key.Code m) (code_value w m) (code_is w m e) rest.0 in
    let depex = good w out.Depex (key.Depex m) (depex_value w m) (depex_is w m e) rest.1 in
    let made : (inf : InfDoc) → IfOk (module_outputs folder m inf.base_name (is_some code.0) (not (length depex.0 == 0))) (AreOf P) =
    λ inf. module_made P folder m inf.base_name (is_some code.0) (not (length depex.0 == 0))
    (λ t. ((out.Code code.0, code.2, (t, inl refl)), (out.Code code.0, code.2, (t, inr refl))))
    (λ t. (out.Depex depex.0, depex.2, (t, refl))) in
    if_then (λ (inf : InfDoc). Unit {0}) (AreOf P) (inf_value w m.inf)
    (λ inf. and_then (code_value w m) (λ texts. and_then (depex_value w m) (λ bytes. module_outputs folder m inf.base_name (is_some texts) (not (length bytes == 0)))))
    (any_ok (inf_value w m.inf)) (λ inf u.
    subst (λ (r : Result (Option Texts) Fault). IfOk (and_then r (λ texts. and_then (depex_value w m) (λ bytes. module_outputs folder m inf.base_name (is_some texts) (not (length bytes == 0))))) (AreOf P)) (sym code.1)
    (subst (λ (r : Result (List ℕ) Fault). IfOk (and_then r (λ bytes. module_outputs folder m inf.base_name (is_some code.0) (not (length bytes == 0)))) (AreOf P)) (sym depex.1) (made inf)))

modules_are : (w : World) (folder : List ℕ) (modules : List Module) → IsWorld (meaning_of key_cmp edk) w → first_of (map (module_fault w) modules) ≡ None
    → IfOk (joined (map (module_files w folder) modules)) (AreOf (Comes w))
unfolding joined
modules_are w folder [] e none = none_are (Comes w)
modules_are w folder (m ∷ modules) e none =
    let both = none_both (module_fault w m) (first_of (map (module_fault w) modules)) none in
    next_are (Comes w) (module_files w folder m) (joined (map (module_files w folder) modules)) (files_are w folder m e both.0) (modules_are w folder modules e both.1)

-- Those of images.

wanted_none : {A : Type 0} (b : Bool) (r : Result A Fault) → fault_where b r ≡ None → b ≡ true → result_err r ≡ None
wanted_none true r none e = none
wanted_none false r none e = absurd cc

volumes_are : (w : World) (folder : List ℕ) (marks : List Bool) (n : ℕ) (plans : List VolumePlan) → IsWorld (meaning_of key_cmp edk) w → first_of (volume_faults w marks n plans) ≡ None
    → IfOk (volume_outputs folder marks n plans) (AreOf (Comes w))
unfolding volume_outputs volume_faults
volumes_are w folder marks n [] e none = none_are (Comes w)
volumes_are w folder marks n (plan ∷ plans) e none =
    let b = is_marked marks n in
    let k = volume_key n plan in
    let r = volume_value w (is_based plan.head) n in
    let both = none_both (fault_where b r) (first_of (volume_faults w marks (n + 1) plans)) none in
    next_are (Comes w) (image_where b folder plan.head.name _ k) (volume_outputs folder marks (n + 1) plans)
    (image_made (Comes w) b folder plan.head.name _ k (λ t. let h = good w out.Volume k r (key_is w n plan e) (wanted_none b r both.0 t) in (out.Volume h.0, h.2, refl)))
    (volumes_are w folder marks (n + 1) plans e both.1)

devices_are : (w : World) (folder : List ℕ) (marks : List Bool) (n : ℕ) (plans : List DevicePlan) → IsWorld (meaning_of key_cmp edk) w → first_of (device_faults w marks n plans) ≡ None
    → IfOk (device_outputs folder marks n plans) (AreOf (Comes w))
unfolding device_outputs device_faults
devices_are w folder marks n [] e none = none_are (Comes w)
devices_are w folder marks n (plan ∷ plans) e none =
    let b = is_marked marks n in
    let k = key.Device n in
    let r = device_value w n in
    let both = none_both (fault_where b r) (first_of (device_faults w marks (n + 1) plans)) none in
    next_are (Comes w) (image_where b folder plan.name _ k) (device_outputs folder marks (n + 1) plans)
    (image_made (Comes w) b folder plan.name _ k (λ t. let h = good w out.Device k r (device_is w n e) (wanted_none b r both.0 t) in (out.Device h.0, h.2, refl)))
    (devices_are w folder marks (n + 1) plans e both.1)

-- The image of vital product data, and the report.

vpd_are : (w : World) (folder : List ℕ) (vpd : Bool) → IsWorld (meaning_of key_cmp edk) w → fault_where vpd (vpd_value w) ≡ None → IfOk (vpd_outputs vpd folder) (AreOf (Comes w))
unfolding vpd_outputs
vpd_are w folder false e none = none_are (Comes w)
vpd_are w folder true e none =
    let P = Comes w in
    let h = good w out.Vpd key.Vpd (vpd_value w) (vpd_is w e) none in
    if_then (λ (o : Output). P o.from o.part) (AreOf P) (file_output folder _ key.Vpd 0) (λ image. and_then (file_output folder _ key.Vpd 1) (λ map_. Ok (image ∷ map_ ∷ [])))
    (file_made P folder _ key.Vpd 0 (out.Vpd h.0, h.2, inl refl)) (λ image p.
    if_then (λ (o : Output). P o.from o.part) (AreOf P) (file_output folder _ key.Vpd 1) (λ map_. Ok (image ∷ map_ ∷ [])) (file_made P folder _ key.Vpd 1 (out.Vpd h.0, h.2, inr refl)) (λ map_ q.
    two_are P image map_ p q))

report_are : (w : World) (report : Option (List ℕ)) → IsWorld (meaning_of key_cmp edk) w → report_fault w report ≡ None → AreOf (Comes w) (report_output report)
report_are w None e none = none_are (Comes w)
report_are w (Some path) e none =
    let h = good w out.Report key.Report (report_value w) (report_is w e) none in
    one_are (Comes w) (record { path = path; from = key.Report; part = 0 }) (out.Report h.0, h.2, refl)

-- All files.

all_are : (w : World) (vpd : Bool) (folder : List ℕ) (modules : List Module) (flash : FlashDoc) (wanted : Wanted) (report : Option (List ℕ)) → IsWorld (meaning_of key_cmp edk) w
    → build_fault w vpd modules flash wanted report ≡ None → IfOk (build_files w vpd folder modules flash wanted report) (AreOf (Comes w))
unfolding joined
all_are w vpd folder modules flash wanted report e none =
    let P = Comes w in
    let fv = first_of (volume_faults w wanted.volumes 0 flash.volumes) in
    let fd = first_of (device_faults w wanted.devices 0 flash.devices) in
    let fp = fault_where vpd (vpd_value w) in
    let fr = report_fault w report in
    let n1 = none_both (result_err (pcds_value w)) _ none in
    let n2 = none_both (first_of (map (module_fault w) modules)) _ n1.1 in
    let n3 = none_both fv _ n2.1 in
    let n4 = none_both fd _ n3.1 in
    let n5 = none_both fp _ n4.1 in
    let n6 = none_both fr None n5.1 in
    let last : Result (List Output) Fault = Ok (report_output report) in
    let after_devices = vpd_outputs vpd folder ∷ last ∷ [] in
    let after_volumes = device_outputs folder wanted.devices 0 flash.devices ∷ after_devices in
    next_are P (joined (map (module_files w folder) modules)) (joined (volume_outputs folder wanted.volumes 0 flash.volumes ∷ after_volumes)) (modules_are w folder modules e n2.0)
    (next_are P (volume_outputs folder wanted.volumes 0 flash.volumes) (joined after_volumes) (volumes_are w folder wanted.volumes 0 flash.volumes e n3.0)
    (next_are P (device_outputs folder wanted.devices 0 flash.devices) (joined after_devices) (devices_are w folder wanted.devices 0 flash.devices e n4.0)
    (next_are P (vpd_outputs vpd folder) (joined (last ∷ [])) (vpd_are w folder vpd e n5.0)
    (next_are P last (Ok []) (report_are w report e n6.0) (none_are P)))))

abbrev from_modules : World → PlatformDoc → FlashDoc → List ℕ → List Module → Result (List Output) Fault
from_modules w platform flash folder modules = wanted_value w (has_vpd platform) folder modules flash

abbrev from_folder : World → PlatformDoc → FlashDoc → List ℕ → Result (List Output) Fault
from_folder w platform flash folder = and_then (built_modules platform (field w 1)) (from_modules w platform flash folder)

abbrev from_flash : World → PlatformDoc → FlashDoc → Result (List Output) Fault
from_flash w platform flash = and_then (output_folder platform.output (field w 2) (field w 3)) (from_folder w platform flash)

outputs_come : (w : World) (outputs : List Output) → IsWorld (meaning_of key_cmp edk) w → all_value w ≡ Ok outputs → AreOf (Comes w) outputs
unfolding all_value
outputs_come w outputs e is =
    let goal : Type 0 = AreOf (Comes w) outputs in
    from_ok (platform_value w) (λ platform. and_then (flash_value w) (from_flash w platform)) outputs goal is (λ platform p is.
    from_ok (flash_value w) (from_flash w platform) outputs goal is (λ flash f is.
    from_ok (output_folder platform.output (field w 2) (field w 3)) (from_folder w platform flash) outputs goal is (λ folder o is.
    from_ok (built_modules platform (field w 1)) (from_modules w platform flash folder) outputs goal is (λ modules m is.
    from_ok (wanted_of flash (field w 8)) (λ wanted. files_value w (has_vpd platform) folder modules flash wanted (name_in (field w 9))) outputs goal is (λ wanted g is.
    let vpd = has_vpd platform in
    let report = name_in (field w 9) in
    let files = build_files w vpd folder modules flash wanted report in
    let made = fault_ok (build_fault w vpd modules flash wanted report) files outputs is in
    if_ok (AreOf (Comes w)) files outputs made.1 (all_are w vpd folder modules flash wanted report e made.0))))))

-- What each output names is asked for, and gives its part.
pub outputs_made : (w : World) (outputs : List Output) → IsWorld (meaning_of key_cmp edk) w → all_value w ≡ Ok outputs → All (IsMade w) outputs
outputs_made w outputs e is =
    let come = outputs_come w outputs e is in
    let asked = outputs_asked w outputs (all_is w e ∙ ap (λ (r : Result (List Output) Fault). outcome_of (given_as out.All r)) is) in
    All-weaker (Contains outputs) (IsMade w) (λ o c.
    let h = All-contains (λ (o : Output). Comes w o.from o.part) outputs o come c in
    record {
      given = h.0;
      asked = All-contains (λ (o : Output). Asks (meaning_of key_cmp edk) w key.All (ask.Part o.from)) outputs o asked c;
      value = h.1;
      has = h.2;
    }) outputs (All-contains_itself outputs)
