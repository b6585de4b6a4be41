-- The bounds of the steps of a build: what they ask is of lower rank, and how many batches they
-- ask.
use Rattle.std.proofs.Common.{◌≡◌, ℕ, ◌+◌, ◌-◌, arith, true, false, List, [], ◌∷◌, Option, Some, None, Result, subst}
use Rattle.std.proofs.lemmas.List.Elements.{All-cons}
use Rattle.build_base.specs.declared.lines.Macro.{Macro}
use Rattle.step_engine.specs.declared.talk.Ask.TheVariants as ask
use Rattle.dsc_platform.specs.Platform.{platform_of}
use Rattle.build_base.specs.declared.fault.Fault.{Fault}
use Rattle.build_base.specs.declared.lines.Lines.{Lines}
use Rattle.build_stages.specs.Stages.{end, IsLower, AreLower, IsWithin, AreBounded}
use Rattle.build_stages.specs.Bounds.{attempt_lower, attempt_within, bind_lower, bind_within, within_more, all_two}
use Rattle.document_stages.specs.Documents.{lines_of, most_files}
use Rattle.document_stages.specs.DocumentBounds.{lines_lower, lines_within}
use Rattle.step_pack.specs.declared.key.Key.{Key}
use Rattle.step_pack.specs.declared.key.Key.TheVariants as key
use Rattle.step_pack.specs.declared.out.Out.{Out}
use Rattle.step_pack.specs.declared.out.Out.TheVariants as out
use Rattle.dec_docs.specs.Package.{package_of}
use Rattle.inf_docs.specs.Modules.{module_of}
use Rattle.doc_types.specs.declared.platform.PlatformDoc.{PlatformDoc}
use Rattle.flash_document.specs.Flash.{flash_of}
use Rattle.build_rules.specs.ImageBounds.{file_lower, volume_lower, device_lower, vpd_lower, all_lower, file_within, volume_within, device_within, vpd_within, all_within}
use Rattle.build_rules.specs.ModuleBounds.{choice_lower, pcds_lower, values_lower, choice_within, pcds_within, values_within}
use Rattle.build_rules.specs.TextBounds.{code_lower, depex_lower, report_lower, code_within, depex_within, report_within}
use Rattle.step_answers.specs.Readers.{given_as, platform_in}
use Rattle.document_steps.specs.Trees.{document_stages, root_in, macros_in, platform_given, flash_root, flash_from, flash_given}
use Rattle.build_rules.specs.Rules.{stages_of, rank_of, most_of, edk}

document_lower : {A : Type 0} (variant : A → Out) (read : Lines → Result A Fault) (bound : ℕ)
    (macros fixed : List Macro) (path : List ℕ)
    → AreLower rank_of bound (document_stages variant read macros fixed path)
document_lower variant read bound macros fixed path =
    bind_lower rank_of bound (lines_of path macros fixed)
    (λ lines. end (given_as variant (read lines)))
    (lines_lower Out rank_of bound most_files path macros fixed []) (λ lines. tt)

document_within : {A : Type 0} (variant : A → Out) (read : Lines → Result A Fault)
    (macros fixed : List Macro) (path : List ℕ)
    → IsWithin most_files (document_stages variant read macros fixed path)
document_within variant read macros fixed path =
    within_more (most_files + 0) most_files (document_stages variant read macros fixed path)
    (omega arith)
    (bind_within most_files 0 (lines_of path macros fixed)
    (λ lines. end (given_as variant (read lines)))
    (lines_within Key Out most_files path macros fixed []) (λ lines. tt))

flash_lower : (platform : PlatformDoc) (fixed : List Macro) (root : Option (List ℕ))
    → AreLower rank_of 3 (flash_from platform fixed root)
flash_lower platform fixed None = tt
flash_lower platform fixed (Some path) =
    document_lower out.Flash flash_of 3 platform.macros fixed path

flash_within : (platform : PlatformDoc) (fixed : List Macro) (root : Option (List ℕ))
    → IsWithin most_files (flash_from platform fixed root)
flash_within platform fixed None = tt
flash_within platform fixed (Some path) =
    document_within out.Flash flash_of platform.macros fixed path

-- a first batch, and then what two batches less one may ask
first_of_two : most_files ≡ (1 + most_files) - 1
first_of_two = omega arith

lower : (k : Key) → AreLower rank_of (rank_of k) (stages_of k)
lower (key.Dec path) = document_lower out.Dec package_of 1 [] [] path
lower (key.Inf path) = document_lower out.Inf module_of 1 [] [] path
lower key.Platform = (
  All-cons (IsLower rank_of 2) (ask.Field 0) (ask.Field 2 ∷ ask.Field 3 ∷ ask.Field 5 ∷ []) tt
      (All-cons (IsLower rank_of 2) (ask.Field 2) (ask.Field 3 ∷ ask.Field 5 ∷ []) tt
      (all_two (IsLower rank_of 2) (ask.Field 3) (ask.Field 5) tt tt)),
  λ given. attempt_lower rank_of 2 (root_in given) _
      (λ path. attempt_lower rank_of 2 (macros_in given) _ (λ fixed.
      document_lower out.Platform platform_of 2 [] fixed path)),
)
lower key.Flash = (
  All-cons (IsLower rank_of 3) (ask.Part key.Platform)
      (ask.Field 2 ∷ ask.Field 3 ∷ ask.Field 5 ∷ ask.Field 7 ∷ []) (omega arith)
      (All-cons (IsLower rank_of 3) (ask.Field 2) (ask.Field 3 ∷ ask.Field 5 ∷ ask.Field 7 ∷ []) tt
      (All-cons (IsLower rank_of 3) (ask.Field 3) (ask.Field 5 ∷ ask.Field 7 ∷ []) tt
      (all_two (IsLower rank_of 3) (ask.Field 5) (ask.Field 7) tt tt))),
  λ given. attempt_lower rank_of 3 (platform_in given) _
      (λ platform. attempt_lower rank_of 3 (macros_in given) _ (λ fixed.
      attempt_lower rank_of 3 (flash_root platform given) _
      (λ root. flash_lower platform fixed root))),
)
lower (key.Choice m) = choice_lower m
lower key.PlatformPcds = pcds_lower
lower (key.Values m) = values_lower m
lower (key.Code m) = code_lower m
lower (key.Depex m) = depex_lower m
lower (key.File v i) = file_lower v i
lower (key.Volume v) = volume_lower false v
lower (key.Device d) = device_lower d
lower key.Report = report_lower 0x400000001 (omega arith)
lower key.All = all_lower
lower key.Vpd = vpd_lower
lower (key.Based v) = volume_lower true v

within : (k : Key) → IsWithin (most_of k) (stages_of k)
within (key.Dec path) = document_within out.Dec package_of [] [] path
within (key.Inf path) = document_within out.Inf module_of [] [] path
within key.Platform = (
  omega arith,
  λ given. subst (λ m. IsWithin m (platform_given given)) first_of_two
      (attempt_within most_files (root_in given) _
      (λ path. attempt_within most_files (macros_in given) _ (λ fixed.
      document_within out.Platform platform_of [] fixed path))),
)
within key.Flash = (
  omega arith,
  λ given. subst (λ m. IsWithin m (flash_given given)) first_of_two
      (attempt_within most_files (platform_in given) _
      (λ platform. attempt_within most_files (macros_in given) _ (λ fixed.
      attempt_within most_files (flash_root platform given) _
      (λ root. flash_within platform fixed root)))),
)
within (key.Choice m) = choice_within m
within key.PlatformPcds = pcds_within
within (key.Values m) = values_within m
within (key.Code m) = code_within m
within (key.Depex m) = depex_within m
within (key.File v i) = file_within v i
within (key.Volume v) = volume_within false v
within (key.Device d) = device_within d
within key.Report = report_within
within key.All = all_within
within key.Vpd = vpd_within
within (key.Based v) = volume_within true v

pub edk_is_bounded : AreBounded edk
edk_is_bounded = record { lower = lower; within = within }
