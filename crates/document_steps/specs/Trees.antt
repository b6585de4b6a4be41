-- What the steps of documents ask, and what comes of the answers, stage by stage; the rule is this
-- project's own. What the lines of a document come to is told by the EDK II DSC, FDF, DEC and INF
-- specifications.
use Rattle.step_answers.specs.Readers.{EdkStages, given_as, or_impossible, platform_in}
use Rattle.job_fields.specs.Readings.{file_in}
use Rattle.std.specs.Prelude.{List, [], ◌∷◌, ℕ, Option, Some, None, Result, Ok}
use Rattle.build_base.specs.First.{and_then}
use Rattle.build_base.specs.Path.{path_field}
use Rattle.build_base.specs.declared.lines.Macro.{Macro}
use Rattle.step_engine.specs.declared.talk.Ask.{Ask}
use Rattle.step_engine.specs.declared.talk.Ask.TheVariants as ask
use Rattle.step_engine.specs.declared.talk.Pair.{Pair}
use Rattle.dsc_platform.specs.Platform.{platform_of}
use Rattle.build_stages.specs.Writing.{attempt, given_field}
use Rattle.job_fields.specs.Readings.{macros_of_job}
use Rattle.build_base.specs.declared.fault.Fault.{Fault}
use Rattle.build_base.specs.declared.lines.Lines.{Lines}
use Rattle.dec_docs.specs.Package.{package_of}
use Rattle.inf_docs.specs.Modules.{module_of}
use Rattle.flash_document.specs.Flash.{flash_of}
use Rattle.doc_types.specs.declared.flash.FlashDoc.{FlashDoc}
use Rattle.doc_types.specs.declared.platform.PlatformDoc.{PlatformDoc}
use Rattle.build_stages.specs.Stages.{end, stage, bind}
use Rattle.document_stages.specs.Documents.{lines_of}
use Rattle.job_fields.specs.Fields.{PLATFORM, TARGET, TAG, DEFINES, FLASH}
use Rattle.step_pack.specs.declared.key.Key.{Key}
use Rattle.step_pack.specs.declared.key.Key.TheVariants as key
use Rattle.step_pack.specs.declared.out.Out.{Out}
use Rattle.step_pack.specs.declared.out.Out.TheVariants as out

-- a document that is read by a definition; it starts with some macros, and others hold above all
abbrev pub document_stages : {A : Type 0} → (A → Out) → (Lines → Result A Fault) → List Macro
    → List Macro → List ℕ → EdkStages
document_stages variant read macros fixed path =
    bind (lines_of path macros fixed) (λ lines. end (given_as variant (read lines)))

abbrev pub dec_stages : List ℕ → EdkStages
dec_stages path = document_stages out.Dec package_of [] [] path

abbrev pub inf_stages : List ℕ → EdkStages
inf_stages path = document_stages out.Inf module_of [] [] path

-- the file that the job names
abbrev pub root_in : List (Pair Key Out) → Result (List ℕ) Fault
root_in given = and_then (given_field given PLATFORM) (λ text. or_impossible (path_field text))

-- the macros of the target, the tool chain's tag and the words
abbrev pub macros_in : List (Pair Key Out) → Result (List Macro) Fault
macros_in given =
    and_then (given_field given TARGET) (λ target.
    and_then (given_field given TAG) (λ tag.
    and_then (given_field given DEFINES) (λ texts. Ok (macros_of_job target tag texts))))

-- the platform's path, the target, the tag and the macros
abbrev pub platform_asks : List (Ask Key)
platform_asks = ask.Field PLATFORM ∷ ask.Field TARGET ∷ ask.Field TAG ∷ ask.Field DEFINES ∷ []

abbrev pub platform_given : List (Pair Key Out) → EdkStages
platform_given given =
    attempt (root_in given) (λ path.
    attempt (macros_in given) (λ fixed. document_stages out.Platform platform_of [] fixed path))

abbrev pub platform_stages : EdkStages
platform_stages = stage platform_asks platform_given

-- the platform, the macros as above behind it, and the file of the flash description
abbrev pub flash_asks : List (Ask Key)
flash_asks =
    ask.Part key.Platform ∷ ask.Field TARGET ∷ ask.Field TAG ∷ ask.Field DEFINES ∷ ask.Field FLASH
    ∷ []

-- the file that is named, or else the one that is stated, if any
abbrev pub named_or : Option (List ℕ) → Option (List ℕ) → Option (List ℕ)
named_or stated (Some path) = Some path
named_or stated None = stated

-- the file that a field names, or else the one that the platform states, if any
unfoldable pub flash_named : Option (List ℕ) → List ℕ → Result (Option (List ℕ)) Fault
flash_named stated text =
    and_then (or_impossible (file_in text)) (λ named. Ok (named_or stated named))

abbrev pub flash_root : PlatformDoc → List (Pair Key Out) → Result (Option (List ℕ)) Fault
flash_root platform given = and_then (given_field given FLASH) (flash_named platform.flash)

-- the flash description of a platform that has none
abbrev pub empty_flash : PlatformDoc → FlashDoc
empty_flash platform =
    record { at = platform.at; sets = []; devices = []; volumes = []; rule_list = [] }

-- it starts with the platform's macros
abbrev pub flash_from : PlatformDoc → List Macro → Option (List ℕ) → EdkStages
flash_from platform fixed (Some path) =
    document_stages out.Flash flash_of platform.macros fixed path
flash_from platform fixed None = end (Ok (out.Flash (empty_flash platform)))

abbrev pub flash_given : List (Pair Key Out) → EdkStages
flash_given given =
    attempt (platform_in given) (λ platform.
    attempt (macros_in given) (λ fixed.
    attempt (flash_root platform given) (λ root. flash_from platform fixed root)))

abbrev pub flash_stages : EdkStages
flash_stages = stage flash_asks flash_given
