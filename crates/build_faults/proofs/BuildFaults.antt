-- The fault of the whole build of some words has a name.
use Rattle.std.proofs.Common.{◌≡◌, ◌+◌, ◌==◌, ◌≤◌, not, ℕ, Bool, true, false, List, [], ◌∷◌, length, map, Option, Some, None, Result, Ok, Err}
use Rattle.std.specs.List.{AllByRecursion}
use Rattle.std.specs.Option.{is_some}
use Rattle.std.specs.Result.{result_err}
use Rattle.build_base.specs.First.{and_then, first_of, with_front}
use Rattle.build_base.specs.World.{World, field}
use Rattle.build_base.specs.declared.fault.Fault.{Fault}
use Rattle.build_base.specs.declared.lines.Lines.{Lines}
use Rattle.doc_types.specs.declared.choice.Module.{Module}
use Rattle.doc_types.specs.declared.flash.DevicePlan.{DevicePlan}
use Rattle.doc_types.specs.declared.flash.FlashDoc.{FlashDoc}
use Rattle.doc_types.specs.declared.module.InfDoc.{InfDoc}
use Rattle.doc_types.specs.declared.volume.VolumePlan.{VolumePlan}
use Rattle.inf_docs.specs.Modules.{module_of}
use Rattle.meta_lexer.specs.Words.{is_identifier}
use Rattle.step_engine.specs.Meaning.{IsWorld}
use Rattle.build_stages.specs.Stages.{meaning_of}
use Rattle.step_pack.specs.Keys.{key_cmp}
use Rattle.step_answers.specs.Settings.{built_modules}
use Rattle.step_answers.specs.Volumes.{is_based}
use Rattle.step_answers.specs.Folders.{output_folder}
use Rattle.step_answers.specs.VpdLines.{has_vpd}
use Rattle.output_steps.specs.Outputs.{module_outputs, volume_outputs, device_outputs, vpd_outputs, report_output}
use Rattle.output_steps.specs.Wanted.{wanted_of, is_marked}
use Rattle.output_steps.specs.declared.wanted.Wanted.{Wanted}
use Rattle.named_faults.specs.Named.{IsNamed, FailsByName}
use Rattle.named_faults.proofs.NamedLemmas.{or_else_named, AreNamed, first_named, mapped_named, err_named, then_fails, or_fault_fails, front_fails, AllFailByName}
use Rattle.flash_document.specs.Shape.{HasShape}
use Rattle.module_faults.specs.Folders.{folder_limit}
use Rattle.module_faults.proofs.FolderLemmas.{folder_fails, folder_short}
use Rattle.module_faults.proofs.InfLemmas.{module_name}
use Rattle.module_faults.proofs.OutputLemmas.{module_files_fail, shaped_volumes_fail, shaped_devices_fail, vpd_files_fail, wanted_fails}
use Rattle.module_faults.proofs.PlatformLemmas.{ModuleFits, modules_fit}
use Rattle.module_faults.proofs.SettingLemmas.{built_fails, modules_fail}
use Rattle.build_laws.proofs.FlashShape.{flash_shape}
use Rattle.build_faults.proofs.ImageFaults.{StepsFail, FlashFits, flash_stands, volumes_fail, files_fail, devices_fail}
use Rattle.build_faults.proofs.StepFaults.{dec_fails, inf_fails, platform_value_fails, platform_value_fits, flash_value_fails, choice_value_fails, pcds_value_fail, values_value_fail, code_value_fails, depex_value_fails, report_value_fails, vpd_value_fails, vpd_path_fails}
use Rattle.build_laws.specs.BuildValues.{module_fault, fault_where, volume_faults, device_faults, report_fault, build_fault, module_files, joined, build_files, wanted_value, all_value}
use Rattle.build_laws.specs.ImageValues.{volume_value, device_value}
use Rattle.build_laws.specs.ModuleValues.{pcds_value}
use Rattle.build_rules.specs.Rules.{edk}
use Rattle.build_faults.specs.NamedFaults.{IsSpoken, StepsFailByName}
use Rattle.build_laws.specs.TextValues.{code_value, depex_value, report_value}
use Rattle.job_fields.specs.Readings.{name_in}
use Rattle.build_rules.specs.Values.{lines_in, inf_value, platform_value, flash_value}
use Rattle.build_laws.specs.VpdValues.{vpd_value}

-- Images.

steps_fail : (w : World) → IsSpoken w → StepsFail w
steps_fail w s = record {
  platform = platform_value_fails w;
  flash = flash_value_fails w;
  inf = inf_fails w;
  arches = λ platform e. built_fails platform (field w 1) s.arches;
  depex = depex_value_fails w;
  vpd = vpd_value_fails w s;
  path = λ platform e. vpd_path_fails w platform s (platform_value_fits w platform e);
}

flash_fits : (w : World) → FlashFits w
flash_fits w flash e = let shape = flash_shape w flash e in flash_stands flash shape

-- The first fault.

module_fault_named : (w : World) (m : Module) → IsSpoken w → IsNamed (module_fault w m)
module_fault_named w m s =
    or_else_named (result_err (inf_value w m.inf)) _ (err_named (inf_value w m.inf) (inf_fails w m.inf))
    (or_else_named (result_err (code_value w m)) _ (err_named (code_value w m) (code_value_fails w m s)) (err_named (depex_value w m) (depex_value_fails w m)))

where_named : {A : Type 0} (t : Bool) (r : Result A Fault) → FailsByName r → IsNamed (fault_where t r)
where_named true r n = err_named r n
where_named false r n = tt

volumes_named : (w : World) (marks : List Bool) (n : ℕ) (plans : List VolumePlan) → IsWorld (meaning_of key_cmp edk) w → IsSpoken w → AreNamed (volume_faults w marks n plans)
unfolding volume_faults
volumes_named w marks n [] i s = tt
volumes_named w marks n (plan ∷ plans) i s =
    (where_named (is_marked marks n) (volume_value w (is_based plan.head) n) (volumes_fail w i (steps_fail w s) (flash_fits w) (is_based plan.head) n), volumes_named w marks (n + 1) plans i s)

devices_named : (w : World) (marks : List Bool) (n : ℕ) (plans : List DevicePlan) → IsWorld (meaning_of key_cmp edk) w → IsSpoken w → AreNamed (device_faults w marks n plans)
unfolding device_faults
devices_named w marks n [] i s = tt
devices_named w marks n (plan ∷ plans) i s =
    (where_named (is_marked marks n) (device_value w n) (devices_fail w i (steps_fail w s) (flash_fits w) n), devices_named w marks (n + 1) plans i s)

report_named : (w : World) (report : Option (List ℕ)) → IsSpoken w → IsNamed (report_fault w report)
report_named w None s = tt
report_named w (Some path) s = err_named (report_value w) (report_value_fails w s)

build_fault_named : (w : World) (vpd : Bool) (modules : List Module) (flash : FlashDoc) (wanted : Wanted) (report : Option (List ℕ)) → IsWorld (meaning_of key_cmp edk) w → IsSpoken w
    → IsNamed (build_fault w vpd modules flash wanted report)
build_fault_named w vpd modules flash wanted report i s =
    first_named
    (result_err (pcds_value w) ∷ first_of (map (module_fault w) modules) ∷ first_of (volume_faults w wanted.volumes 0 flash.volumes)
    ∷ first_of (device_faults w wanted.devices 0 flash.devices) ∷ fault_where vpd (vpd_value w) ∷ report_fault w report ∷ []) (
      err_named (pcds_value w) (pcds_value_fail w s),
      (
        first_named (map (module_fault w) modules) (mapped_named (module_fault w) modules (λ m. module_fault_named w m s)),
        (
          first_named (volume_faults w wanted.volumes 0 flash.volumes) (volumes_named w wanted.volumes 0 flash.volumes i s),
          (
            first_named (device_faults w wanted.devices 0 flash.devices) (devices_named w wanted.devices 0 flash.devices i s),
            (where_named vpd (vpd_value w) (vpd_value_fails w s), (report_named w report s, tt)),
          ),
        ),
      ),
    )

-- The files.

lines_named : (lines : Result Lines Fault) (inf : InfDoc) → and_then lines module_of ≡ Ok inf → is_identifier inf.base_name ≡ true
lines_named (Ok lines) inf e = module_name lines inf e
lines_named (Err fault) inf e = absurd cc

-- the description of a world's module names it
inf_named : (w : World) (path : List ℕ) (inf : InfDoc) → inf_value w path ≡ Ok inf → is_identifier inf.base_name ≡ true
inf_named w path inf e = lines_named (lines_in w path [] []) inf e

module_files_fail_by : (w : World) (folder : List ℕ) (m : Module) → IsSpoken w → length folder ≤ folder_limit → ModuleFits m → FailsByName (module_files w folder m)
module_files_fail_by w folder m s short fits =
    then_fails (inf_value w m.inf) _ (inf_fails w m.inf)
    (λ inf e.
    then_fails (code_value w m) _ (code_value_fails w m s)
    (λ texts f.
    then_fails (depex_value w m) (λ bytes. module_outputs folder m inf.base_name (is_some texts) (not (length bytes == 0))) (depex_value_fails w m)
    (λ bytes g. module_files_fail folder m inf.base_name (is_some texts) (not (length bytes == 0)) short fits (inf_named w m.inf inf e))))

joined_fails : {A : Type 0} (outcomes : List (Result (List A) Fault)) → AllFailByName outcomes → FailsByName (joined outcomes)
unfolding joined
joined_fails [] n = tt
joined_fails (outcome ∷ outcomes) n =
    then_fails outcome (λ xs. with_front xs (joined outcomes)) n.0 (λ xs e. front_fails xs (joined outcomes) (joined_fails outcomes n.1))

each_module_fails : (w : World) (folder : List ℕ) (modules : List Module) → IsSpoken w → length folder ≤ folder_limit → AllByRecursion ModuleFits modules
    → AllFailByName (map (module_files w folder) modules)
each_module_fails w folder [] s short fit = tt
each_module_fails w folder (m ∷ modules) s short fit = (module_files_fail_by w folder m s short fit.0, each_module_fails w folder modules s short fit.1)

build_files_fail : (w : World) (vpd : Bool) (folder : List ℕ) (modules : List Module) (flash : FlashDoc) (wanted : Wanted) (report : Option (List ℕ))
    → IsSpoken w → length folder ≤ folder_limit → AllByRecursion ModuleFits modules → HasShape flash → FailsByName (build_files w vpd folder modules flash wanted report)
build_files_fail w vpd folder modules flash wanted report s short fit shape =
    joined_fails
    (joined (map (module_files w folder) modules) ∷ volume_outputs folder wanted.volumes 0 flash.volumes ∷ device_outputs folder wanted.devices 0 flash.devices
    ∷ vpd_outputs vpd folder ∷ Ok (report_output report) ∷ []) (
      joined_fails (map (module_files w folder) modules) (each_module_fails w folder modules s short fit),
      (shaped_volumes_fail folder wanted.volumes flash short shape, (shaped_devices_fail folder wanted.devices flash short shape, (vpd_files_fail vpd folder short, (tt, tt)))),
    )

-- The whole build.

wanted_value_fails : (w : World) (vpd : Bool) (folder : List ℕ) (modules : List Module) (flash : FlashDoc)
    → IsWorld (meaning_of key_cmp edk) w → IsSpoken w → length folder ≤ folder_limit → AllByRecursion ModuleFits modules → HasShape flash
    → FailsByName (wanted_value w vpd folder modules flash)
wanted_value_fails w vpd folder modules flash i s short fit shape =
    then_fails (wanted_of flash (field w 8)) _ (wanted_fails flash (field w 8) s.images)
    (λ wanted e.
    or_fault_fails (build_fault w vpd modules flash wanted (name_in (field w 9))) _ (build_fault_named w vpd modules flash wanted (name_in (field w 9)) i s)
    (λ none. build_files_fail w vpd folder modules flash wanted (name_in (field w 9)) s short fit shape))

pub all_fails_by_name : (w : World) → IsWorld (meaning_of key_cmp edk) w → IsSpoken w → FailsByName (all_value w)
unfolding all_value
all_fails_by_name w i s =
    then_fails (platform_value w) _ (platform_value_fails w)
    (λ platform e.
    let fits = platform_value_fits w platform e in
    then_fails (flash_value w) _ (flash_value_fails w)
    (λ flash f.
    then_fails (output_folder platform.output (field w 2) (field w 3)) _ (folder_fails platform.output (field w 2) (field w 3) fits.output s.target s.tag)
    (λ folder g.
    then_fails (built_modules platform (field w 1)) (λ modules. wanted_value w (has_vpd platform) folder modules flash) (modules_fail platform (field w 1) s.arches)
    (λ modules h.
    wanted_value_fails w (has_vpd platform) folder modules flash i s (folder_short platform.output (field w 2) (field w 3) folder fits.output s.target s.tag g)
    (modules_fit platform (field w 1) modules fits h) (flash_shape w flash f)))))

-- Each step.

pub steps_fail_by_name : (w : World) → IsWorld (meaning_of key_cmp edk) w → IsSpoken w → StepsFailByName w
steps_fail_by_name w i s = record {
  packages = dec_fails w;
  modules = inf_fails w;
  platform = platform_value_fails w;
  flash = flash_value_fails w;
  libraries = choice_value_fails w;
  dynamic = pcds_value_fail w s;
  values = λ m. values_value_fail w m s;
  texts = λ m. code_value_fails w m s;
  expressions = depex_value_fails w;
  report = report_value_fails w s;
  vpd = vpd_value_fails w s;
  files = files_fail w i (steps_fail w s) (flash_fits w);
  volumes = volumes_fail w i (steps_fail w s) (flash_fits w);
  devices = devices_fail w i (steps_fail w s) (flash_fits w);
  all = all_fails_by_name w i s;
}
