-- The value of the whole build in a world: the files that it gives, by what the steps of modules,
-- images and the report give (EDK II Build specification, build output).
use Rattle.std.specs.Prelude.{◌≡◌, ◌⊎◌, ℕ, ◌+◌, ◌==◌, not, Bool, true, false, List, [], ◌∷◌, length, map, Option, Some, None, Result, Ok}
use Rattle.std.specs.Option.{is_some}
use Rattle.std.specs.Result.{result_err}
use Rattle.build_base.specs.First.{and_then, or_else, first_of, or_fault, with_front}
use Rattle.build_base.specs.World.{World, field}
use Rattle.build_base.specs.declared.fault.Fault.{Fault}
use Rattle.doc_types.specs.declared.choice.Module.{Module}
use Rattle.doc_types.specs.declared.flash.DevicePlan.{DevicePlan}
use Rattle.doc_types.specs.declared.flash.FlashDoc.{FlashDoc}
use Rattle.doc_types.specs.declared.volume.VolumePlan.{VolumePlan}
use Rattle.step_engine.specs.Meaning.{Asks}
use Rattle.step_engine.specs.declared.talk.Ask.TheVariants as ask
use Rattle.step_engine.specs.declared.talk.Outcome.TheVariants.{Good}
use Rattle.build_stages.specs.Stages.{outcome_of, meaning_of}
use Rattle.step_pack.specs.Keys.{key_cmp}
use Rattle.step_pack.specs.declared.key.Key.TheVariants as key
use Rattle.step_pack.specs.declared.out.Out.{Out}
use Rattle.step_pack.specs.declared.out.Out.TheVariants as out
use Rattle.step_pack.specs.declared.out.Output.{Output}
use Rattle.step_answers.specs.Settings.{built_modules}
use Rattle.step_answers.specs.Volumes.{is_based}
use Rattle.step_answers.specs.Folders.{output_folder}
use Rattle.step_answers.specs.Readers.{given_as}
use Rattle.step_answers.specs.VpdLines.{has_vpd}
use Rattle.output_steps.specs.Outputs.{module_outputs, volume_outputs, device_outputs, vpd_outputs, report_output}
use Rattle.output_steps.specs.Wanted.{wanted_of, is_marked}
use Rattle.output_steps.specs.declared.wanted.Wanted.{Wanted}
use Rattle.build_rules.specs.Rules.{edk, value_in}
use Rattle.build_rules.specs.Values.{inf_value, platform_value, flash_value}
use Rattle.build_laws.specs.ModuleValues.{pcds_value}
use Rattle.build_laws.specs.TextValues.{code_value, depex_value, report_value}
use Rattle.build_laws.specs.VpdValues.{vpd_value}
use Rattle.build_laws.specs.ImageValues.{volume_value, device_value}
use Rattle.job_fields.specs.Fields.{ARCHES, TARGET, TAG, IMAGES, REPORT}
use Rattle.job_fields.specs.Readings.{name_in}

-- The first fault.

-- that of a module's description, of its texts or of its expression
abbrev pub module_fault : World → Module → Option Fault
module_fault w m =
    or_else (result_err (inf_value w m.inf))
    (or_else (result_err (code_value w m)) (result_err (depex_value w m)))

-- the fault of what is made where it is wanted
abbrev pub fault_where : {A : Type 0} → Bool → Result A Fault → Option Fault
fault_where true r = result_err r
fault_where false r = None

-- those of the volumes that are wanted, whose numbers begin with this one
unfoldable pub volume_faults : World → List Bool → ℕ → List VolumePlan → List (Option Fault)
volume_faults w marks n [] = []
volume_faults w marks n (plan ∷ plans) =
    fault_where (is_marked marks n) (volume_value w (is_based plan.head) n)
    ∷ volume_faults w marks (n + 1) plans

unfoldable pub device_faults : World → List Bool → ℕ → List DevicePlan → List (Option Fault)
device_faults w marks n [] = []
device_faults w marks n (plan ∷ plans) =
    fault_where (is_marked marks n) (device_value w n) ∷ device_faults w marks (n + 1) plans

abbrev pub report_fault : World → Option (List ℕ) → Option Fault
report_fault w None = None
report_fault w (Some path) = result_err (report_value w)

-- Of the rows of dynamic PCDs; of the modules, one after the other; of the volumes and then of the
-- devices that are wanted; of the image of vital product data; of the report.
abbrev pub build_fault : World → Bool → List Module → FlashDoc → Wanted → Option (List ℕ)
    → Option Fault
build_fault w vpd modules flash wanted report =
    first_of
    (result_err (pcds_value w) ∷ first_of (map (module_fault w) modules)
    ∷ first_of (volume_faults w wanted.volumes 0 flash.volumes)
    ∷ first_of (device_faults w wanted.devices 0 flash.devices) ∷ fault_where vpd (vpd_value w)
    ∷ report_fault w report ∷ [])

-- The files.

-- those of a module: both texts where it has any, and its expression where that has bytes
abbrev pub module_files : World → List ℕ → Module → Result (List Output) Fault
module_files w folder m =
    and_then (inf_value w m.inf) (λ inf.
    and_then (code_value w m) (λ texts.
    and_then (depex_value w m) (λ bytes.
    module_outputs folder m inf.base_name (is_some texts) (not (length bytes == 0)))))

-- some lists one behind the other, or the first fault of one
unfoldable pub joined : {A : Type 0} → List (Result (List A) Fault) → Result (List A) Fault
joined [] = Ok []
joined (outcome ∷ outcomes) = and_then outcome (λ xs. with_front xs (joined outcomes))

-- Module by module its files; of the images that are wanted the volumes by their numbers, and the
-- devices as they stand in the flash description; the image of vital product data and its map,
-- where there are any; last the report.
abbrev pub build_files : World → Bool → List ℕ → List Module → FlashDoc → Wanted
    → Option (List ℕ) → Result (List Output) Fault
build_files w vpd folder modules flash wanted report =
    joined
    (joined (map (module_files w folder) modules)
    ∷ volume_outputs folder wanted.volumes 0 flash.volumes
    ∷ device_outputs folder wanted.devices 0 flash.devices ∷ vpd_outputs vpd folder
    ∷ Ok (report_output report) ∷ [])

-- The whole build.

abbrev pub files_value : World → Bool → List ℕ → List Module → FlashDoc → Wanted
    → Option (List ℕ) → Result (List Output) Fault
files_value w vpd folder modules flash wanted report =
    or_fault (build_fault w vpd modules flash wanted report)
    (build_files w vpd folder modules flash wanted report)

abbrev pub wanted_value : World → Bool → List ℕ → List Module → FlashDoc
    → Result (List Output) Fault
wanted_value w vpd folder modules flash =
    and_then (wanted_of flash (field w IMAGES))
    (λ wanted. files_value w vpd folder modules flash wanted (name_in (field w REPORT)))

-- The files of the build. The first fault is that of the platform, of the flash description, of the
-- words' architectures, or that the words name an image that there isn't; then that of a step whose
-- files are wanted.
unfoldable pub all_value : World → Result (List Output) Fault
all_value w =
    and_then (platform_value w) (λ platform.
    and_then (flash_value w) (λ flash.
    and_then (output_folder platform.output (field w TARGET) (field w TAG)) (λ folder.
    and_then (built_modules platform (field w ARCHES))
    (λ modules. wanted_value w (has_vpd platform) folder modules flash))))

-- the whole build gives its files
abbrev pub GivesAll : World → Type 0
GivesAll w = value_in w key.All ≡ outcome_of (given_as out.All (all_value w))

-- Where the bytes of a file come from.

-- What a step gives has bytes of this part. The texts of a module have two parts, where there are
-- any. So has vital product data: its image and its map. An expression without bytes has none.
abbrev pub HasPart : Out → ℕ → Type 0
HasPart (out.Code texts) part = (is_some texts ≡ true) × ((part ≡ 0) ⊎ (part ≡ 1))
HasPart (out.Depex bytes) part = (not (length bytes == 0) ≡ true) × (part ≡ 0)
HasPart (out.Volume image) part = part ≡ 0
HasPart (out.Device image) part = part ≡ 0
HasPart (out.Report text) part = part ≡ 0
HasPart (out.Vpd vpd) part = (part ≡ 0) ⊎ (part ≡ 1)
HasPart _ part = ⊥

-- The build asks for the step that an output names, and what that step gives has bytes of its part.
pub record IsMade (w : World) (output : Output) : Type 0 where
  pub given : Out
  pub asked : Asks (meaning_of key_cmp edk) w key.All (ask.Part output.from)
  pub value : value_in w output.from ≡ Good given
  pub has : HasPart given output.part
