-- What the whole build asks, stage by stage, and what comes of the answers; the rule is this
-- project's own.
use Rattle.job_fields.specs.Readings.{file_in}
use Rattle.step_answers.specs.Readers.{or_impossible, EdkStages, given_as, platform_in, flash_in}
use Rattle.std.specs.Prelude.{ℕ, ◌+◌, ◌&&◌, Bool, true, false, List, [], ◌∷◌, ◌++◌, length, Option, Some, None, Result}
use Rattle.build_base.specs.First.{and_then}
use Rattle.build_base.specs.declared.fault.Fault.{Fault}
use Rattle.step_engine.specs.declared.talk.Ask.{Ask}
use Rattle.step_engine.specs.declared.talk.Ask.TheVariants as ask
use Rattle.step_engine.specs.declared.talk.Pair.{Pair}
use Rattle.doc_types.specs.declared.choice.Module.{Module}
use Rattle.doc_types.specs.declared.flash.DevicePlan.{DevicePlan}
use Rattle.doc_types.specs.declared.flash.FlashDoc.{FlashDoc}
use Rattle.doc_types.specs.declared.platform.PlatformDoc.{PlatformDoc}
use Rattle.build_stages.specs.Stages.{end, stage}
use Rattle.build_stages.specs.Writing.{attempt, when, given_field}
use Rattle.job_fields.specs.Fields.{ARCHES, TARGET, TAG, FLASH, IMAGES, REPORT}
use Rattle.step_pack.specs.declared.key.Key.{Key}
use Rattle.step_pack.specs.declared.key.Key.TheVariants as key
use Rattle.step_pack.specs.declared.out.Out.{Out}
use Rattle.step_pack.specs.declared.out.Out.TheVariants as out
use Rattle.step_answers.specs.Volumes.{fits_u16, volume_key}
use Rattle.step_answers.specs.Settings.{built_modules}
use Rattle.text_steps.specs.Asks.{build_module_asks}
use Rattle.step_answers.specs.VpdLines.{has_vpd}
use Rattle.step_answers.specs.Folders.{output_folder}
use Rattle.output_steps.specs.Outputs.{outputs_of}
use Rattle.output_steps.specs.Wanted.{wanted_of, is_marked}
use Rattle.output_steps.specs.declared.wanted.Wanted.{Wanted}

-- the platform, the flash description, the architectures, the target, the tag, the file of the
-- flash description, the images that are wanted, and the report
abbrev pub all_asks : List (Ask Key)
all_asks =
    ask.Part key.Platform ∷ ask.Part key.Flash ∷ ask.Field ARCHES ∷ ask.Field TARGET ∷ ask.Field TAG
    ∷ ask.Field FLASH ∷ ask.Field IMAGES ∷ ask.Field REPORT ∷ []

abbrev pub step_where : Bool → Key → List (Ask Key)
step_where true step = ask.Part step ∷ []
step_where false step = []

-- steps by number, from one on, one for each of these whose number is marked
unfoldable pub steps_from : {A : Type 0} → (ℕ → A → Key) → List Bool → ℕ → List A → List (Ask Key)
steps_from step marks n [] = []
steps_from step marks n (x ∷ xs) = step_where (is_marked marks n) (step n x)
    ++ steps_from step marks (n + 1) xs

abbrev pub device_step : ℕ → DevicePlan → Key
device_step n plan = key.Device n

-- the volumes that are wanted, by their numbers, and then the devices
abbrev pub image_asks : FlashDoc → Wanted → List (Ask Key)
image_asks flash wanted =
    steps_from volume_key wanted.volumes 0 flash.volumes
    ++ steps_from device_step wanted.devices 0 flash.devices

abbrev pub folder_in : PlatformDoc → List (Pair Key Out) → Result (List ℕ) Fault
folder_in platform given =
    and_then (given_field given TARGET) (λ target.
    and_then (given_field given TAG) (λ tag. output_folder platform.output target tag))

-- the modules by the words' architectures
abbrev pub modules_in : PlatformDoc → List (Pair Key Out) → Result (List Module) Fault
modules_in platform given = and_then (given_field given ARCHES) (built_modules platform)

-- the images that the words want
abbrev pub wanted_in : FlashDoc → List (Pair Key Out) → Result Wanted Fault
wanted_in flash given = and_then (given_field given IMAGES) (wanted_of flash)

-- the file of the report, if one is wanted
abbrev pub report_named : List ℕ → Result (Option (List ℕ)) Fault
report_named text = or_impossible (file_in text)

abbrev pub report_in : List (Pair Key Out) → Result (Option (List ℕ)) Fault
report_in given = and_then (given_field given REPORT) report_named

abbrev pub report_part : Option (List ℕ) → List (Ask Key)
report_part None = []
report_part (Some path) = ask.Part key.Report ∷ []

-- the rows of dynamic PCDs, each module, the images that are wanted, the image of vital product
-- data, where the platform has a line of it, and last the report
abbrev pub build_asks : Bool → List Module → FlashDoc → Wanted → Option (List ℕ) → List (Ask Key)
build_asks vpd modules flash wanted report =
    ask.Part key.PlatformPcds ∷ build_module_asks modules ++ image_asks flash wanted
    ++ step_where vpd key.Vpd ++ report_part report

-- modules, images of a flash description and the report, and then the files of the build
abbrev pub files_stages : Bool → List ℕ → List Module → FlashDoc → Wanted → Option (List ℕ)
    → EdkStages
files_stages vpd folder modules flash wanted report =
    when (fits_u16 (length flash.volumes) && fits_u16 (length flash.devices))
    (stage (build_asks vpd modules flash wanted report)
    (λ given. end (given_as out.All (outputs_of vpd folder modules flash wanted report given))))

abbrev pub all_given : List (Pair Key Out) → EdkStages
all_given given =
    attempt (platform_in given) (λ platform.
    attempt (flash_in given) (λ flash.
    attempt (folder_in platform given) (λ folder.
    attempt (modules_in platform given) (λ modules.
    attempt (wanted_in flash given) (λ wanted.
    attempt (report_in given)
    (λ report. files_stages (has_vpd platform) folder modules flash wanted report))))))

abbrev pub all_stages : EdkStages
all_stages = stage all_asks all_given
