-- The values of the steps of documents in a world: what their lines come to (EDK II DSC, FDF, DEC
-- and INF specifications).
use Rattle.std.specs.Prelude.{◌≡◌, ℕ, List, [], Option, Some, None, Result, Ok}
use Rattle.build_base.specs.First.{and_then}
use Rattle.build_base.specs.World.{World, got, field}
use Rattle.build_base.specs.declared.fault.Fault.{Fault}
use Rattle.build_base.specs.declared.lines.Lines.{Lines}
use Rattle.build_base.specs.declared.lines.Macro.{Macro}
use Rattle.macro_conditions.specs.Expansion.{expansion}
use Rattle.macro_conditions.specs.Worlds.{told}
use Rattle.document_stages.specs.Worlds.{world_lines}
use Rattle.dec_docs.specs.Package.{package_of}
use Rattle.inf_docs.specs.Modules.{module_of}
use Rattle.doc_types.specs.declared.package.DecDoc.{DecDoc}
use Rattle.doc_types.specs.declared.module.InfDoc.{InfDoc}
use Rattle.doc_types.specs.declared.platform.PlatformDoc.{PlatformDoc}
use Rattle.dsc_platform.specs.Platform.{platform_of}
use Rattle.doc_types.specs.declared.flash.FlashDoc.{FlashDoc}
use Rattle.flash_document.specs.Flash.{flash_of}
use Rattle.build_stages.specs.Stages.{outcome_of}
use Rattle.step_pack.specs.declared.key.Key.TheVariants as key
use Rattle.step_pack.specs.declared.out.Out.TheVariants as out
use Rattle.job_fields.specs.Readings.{macros_of_job, name_in}
use Rattle.build_rules.specs.Rules.{value_in}
use Rattle.step_answers.specs.Readers.{given_as}
use Rattle.document_steps.specs.Trees.{empty_flash, named_or}
use Rattle.job_fields.specs.Fields.{PLATFORM, TARGET, TAG, DEFINES, FLASH}

-- the lines of a document with these macros before its first, and these above all
abbrev pub lines_in : World → List ℕ → List Macro → List Macro → Result Lines Fault
lines_in w path macros fixed = world_lines (expansion (told (got w)) path macros fixed)

abbrev pub dec_value : World → List ℕ → Result DecDoc Fault
dec_value w path = and_then (lines_in w path [] []) package_of

abbrev pub inf_value : World → List ℕ → Result InfDoc Fault
inf_value w path = and_then (lines_in w path [] []) module_of

-- the macros of the job's fields, which hold above those of all files
abbrev pub job_macros : World → List Macro
job_macros w = macros_of_job (field w TARGET) (field w TAG) (field w DEFINES)

abbrev pub platform_value : World → Result PlatformDoc Fault
platform_value w = and_then (lines_in w (field w PLATFORM) [] (job_macros w)) platform_of

-- the file of the flash description, if any: that of the job, or else the platform's
abbrev pub flash_file : Option (List ℕ) → List ℕ → Option (List ℕ)
flash_file stated text = named_or stated (name_in text)

abbrev pub flash_of_file : World → PlatformDoc → Option (List ℕ) → Result FlashDoc Fault
flash_of_file w platform None = Ok (empty_flash platform)
flash_of_file w platform (Some path) =
    and_then (lines_in w path platform.macros (job_macros w)) flash_of

unfoldable pub flash_value : World → Result FlashDoc Fault
flash_value w =
    and_then (platform_value w) (λ platform.
    flash_of_file w platform (flash_file platform.flash (field w FLASH)))

-- the step of a document gives its value
abbrev pub GivesPackage : World → List ℕ → Type 0
GivesPackage w path =
    value_in w (key.Dec path) ≡ outcome_of (given_as out.Dec (dec_value w path))

abbrev pub GivesModule : World → List ℕ → Type 0
GivesModule w path =
    value_in w (key.Inf path) ≡ outcome_of (given_as out.Inf (inf_value w path))

abbrev pub GivesPlatform : World → Type 0
GivesPlatform w =
    value_in w key.Platform ≡ outcome_of (given_as out.Platform (platform_value w))

abbrev pub GivesFlash : World → Type 0
GivesFlash w = value_in w key.Flash ≡ outcome_of (given_as out.Flash (flash_value w))
