-- What the steps of files ask, stage by stage, and what comes of the answers; the rule is this
-- project's own.
use Rattle.step_answers.specs.Volumes.{item_of_number, volume_at}
use Rattle.std.specs.Prelude.{ℕ, Bool, List, [], ◌∷◌, Result, slice_get}
use Rattle.build_base.specs.declared.fault.Fault.{Fault}
use Rattle.build_base.specs.declared.fault.Place.{Place}
use Rattle.step_engine.specs.declared.talk.Ask.TheVariants as ask
use Rattle.step_engine.specs.declared.talk.Pair.{Pair}
use Rattle.doc_types.specs.declared.flash.FlashDoc.{FlashDoc}
use Rattle.doc_types.specs.declared.volume.Item.{Item}
use Rattle.doc_types.specs.declared.volume.Item.TheVariants as item
use Rattle.doc_types.specs.declared.volume.InfLine.{InfLine}
use Rattle.doc_types.specs.declared.volume.Member.{Member}
use Rattle.doc_types.specs.declared.volume.VolumePlan.{VolumePlan}
use Rattle.doc_types.specs.declared.volume_head.VolumeHead.{VolumeHead}
use Rattle.build_stages.specs.Stages.{end, stage}
use Rattle.build_stages.specs.Writing.{attempt, when}
use Rattle.step_pack.specs.declared.key.Key.{Key}
use Rattle.step_pack.specs.declared.key.Key.TheVariants as key
use Rattle.step_pack.specs.declared.out.Out.{Out}
use Rattle.step_pack.specs.declared.out.Out.TheVariants as out
use Rattle.file_steps.specs.Asks.{file_asks, sections_below}
use Rattle.file_steps.specs.Files.{file_given}
use Rattle.file_steps.specs.declared.plans.ModulePlan.{ModulePlan}
use Rattle.file_steps.specs.Apriori.{apriori_given}
use Rattle.file_steps.specs.ModuleAsks.{line_asks, members_asks, plan_asks}
use Rattle.file_steps.specs.ModuleFiles.{module_given}
use Rattle.file_steps.specs.Modules.{plan_given}
use Rattle.step_answers.specs.Readers.{EdkStages, given_as, flash_in}

abbrev pub item_at : FlashDoc → VolumePlan → ℕ → Result Item Fault
item_at flash plan i = item_of_number flash (slice_get plan.items i)

-- what the sections of a module's file hold, and then the file
abbrev pub sections_stages : VolumeHead → ModulePlan → EdkStages
sections_stages head plan =
    stage (plan_asks plan) (λ given. end (given_as out.File (module_given head plan given)))

abbrev pub module_from : FlashDoc → VolumeHead → InfLine → List (Pair Key Out) → EdkStages
module_from flash head line given = attempt (plan_given flash line given) (sections_stages head)

-- the module of an INF statement, and then its file
abbrev pub module_stages : FlashDoc → VolumeHead → InfLine → EdkStages
module_stages flash head line = stage (line_asks line) (module_from flash head line)

-- the modules of an a priori file, and then the file
abbrev pub apriori_stages : VolumeHead → Place → Bool → List Member → EdkStages
apriori_stages head at pei members =
    stage (members_asks members)
    (λ given. end (given_as out.File (apriori_given head at pei members given)))

-- a statement of a volume with this number and head
abbrev pub item_stages : ℕ → FlashDoc → VolumeHead → Item → EdkStages
item_stages v flash head (item.File plan) =
    when (sections_below v plan.sections)
    (stage (file_asks flash.volumes plan)
    (λ given. end (given_as out.File (file_given flash head plan given))))
item_stages v flash head (item.Apriori at pei members) = apriori_stages head at pei members
item_stages v flash head (item.Inf line) = module_stages flash head line

abbrev pub file_from : ℕ → ℕ → List (Pair Key Out) → EdkStages
file_from v i given =
    attempt (flash_in given) (λ flash.
    attempt (volume_at flash v) (λ plan.
    attempt (item_at flash plan i) (λ item. item_stages v flash plan.head item)))

abbrev pub file_stages : ℕ → ℕ → EdkStages
file_stages v i = stage (ask.Part key.Flash ∷ []) (file_from v i)
