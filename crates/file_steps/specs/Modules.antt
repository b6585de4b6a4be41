-- What a statement's module is, by the answers of a step; the rule is this project's own.
use Rattle.step_answers.specs.Settings.{arches_built_in}
use Rattle.step_answers.specs.Readers.{platform_in, inf_in}
use Rattle.std.specs.Prelude.{ℕ, List, Result, Ok}
use Rattle.build_base.specs.declared.fault.Fault.{Fault}
use Rattle.build_base.specs.First.{and_then}
use Rattle.build_stages.specs.Writing.{given_field}
use Rattle.step_engine.specs.declared.talk.Pair.{Pair}
use Rattle.job_fields.specs.Fields.{TARGET, TAG}
use Rattle.step_pack.specs.declared.key.Key.{Key}
use Rattle.step_pack.specs.declared.out.Out.{Out}
use Rattle.doc_types.specs.declared.flash.FlashDoc.{FlashDoc}
use Rattle.doc_types.specs.declared.module.InfDoc.{InfDoc}
use Rattle.doc_types.specs.declared.platform.PlatformDoc.{PlatformDoc}
use Rattle.doc_types.specs.declared.volume.InfLine.{InfLine}
use Rattle.file_steps.specs.declared.plans.ModulePlan.{ModulePlan}
use Rattle.step_answers.specs.Folders.{build_folder}
use Rattle.file_steps.specs.Plans.{module_plan}

-- the folder of all outputs, by the target and the tag
unfoldable pub folder_in : PlatformDoc → List (Pair Key Out) → Result (List ℕ) Fault
folder_in platform given =
    and_then (given_field given TARGET) (λ target.
    and_then (given_field given TAG) (λ tag. Ok (build_folder platform.output target tag)))

-- the file of a statement's module, by the architectures, the target and the tag
unfoldable pub plan_described : FlashDoc → InfLine → List (Pair Key Out) → PlatformDoc → InfDoc
    → Result ModulePlan Fault
plan_described flash line given platform inf =
    and_then (arches_built_in platform given) (λ arches.
    and_then (folder_in platform given)
    (λ folder. module_plan flash line platform arches inf folder))

-- by the module's description before them
unfoldable pub plan_below : FlashDoc → InfLine → List (Pair Key Out) → PlatformDoc
    → Result ModulePlan Fault
plan_below flash line given platform =
    and_then (inf_in given line.inf) (plan_described flash line given platform)

-- by what the statement asks, the platform first
unfoldable pub plan_given : FlashDoc → InfLine → List (Pair Key Out) → Result ModulePlan Fault
plan_given flash line given = and_then (platform_in given) (plan_below flash line given)
