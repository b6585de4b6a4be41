-- What the steps of libraries and PCDs ask, stage by stage, and what comes of the answers; the rule
-- is this project's own. What they give is told by the EDK II DSC, INF, DEC and Build
-- specifications.
use Rattle.std.specs.Prelude.{ℕ, zero, suc, List, [], ◌∷◌, Result, Err}
use Rattle.build_base.specs.First.{and_then}
use Rattle.build_base.specs.declared.fault.Fault.{Fault}
use Rattle.step_engine.specs.declared.talk.Ask.{Ask}
use Rattle.step_engine.specs.declared.talk.Ask.TheVariants as ask
use Rattle.step_engine.specs.declared.talk.Pair.{Pair}
use Rattle.doc_types.specs.declared.choice.Choice.{Choice}
use Rattle.doc_types.specs.declared.choice.Module.{Module}
use Rattle.doc_types.specs.declared.flash.FlashDoc.{FlashDoc}
use Rattle.doc_types.specs.declared.module.InfDoc.{InfDoc}
use Rattle.doc_types.specs.declared.parts.ModuleParts.{ModuleParts}
use Rattle.doc_types.specs.declared.pcd.PcdSet.{PcdSet}
use Rattle.doc_types.specs.declared.platform.PlatformDoc.{PlatformDoc}
use Rattle.doc_types.specs.declared.values.Values.{Values}
use Rattle.library_choice.specs.Choices.{choice}
use Rattle.library_choice.specs.Closure.{wanted}
use Rattle.build_stages.specs.Stages.{Stages, end, stage, bind, impossible_answer}
use Rattle.build_stages.specs.Writing.{attempt, when, given_field}
use Rattle.job_fields.specs.Fields.{ARCHES, SKU, PCDS}
use Rattle.step_pack.specs.declared.key.Key.{Key}
use Rattle.step_pack.specs.declared.key.Key.TheVariants as key
use Rattle.step_pack.specs.declared.out.Out.{Out}
use Rattle.step_pack.specs.declared.out.Out.TheVariants as out
use Rattle.library_steps.specs.declared.parts.Described.{Described}
use Rattle.library_steps.specs.declared.parts.Linked.{Linked}
use Rattle.step_answers.specs.declared.settings.Setting.{Setting}
use Rattle.library_steps.specs.Asks.{choice_asks, inf_asks, dec_asks, linked_asks, package_asks}
use Rattle.library_steps.specs.Choices.{own_inf, with_more}
use Rattle.step_answers.specs.Readers.{choice_in, values_in, EdkStages, given_as, platform_in, flash_in}
use Rattle.library_steps.specs.Parts.{linked_module, linked_from, described_in, described_from, parts_in, parts_from}
use Rattle.library_steps.specs.Pcds.{pcds_given, values_given}
use Rattle.step_answers.specs.Settings.{command_line_pcds, setting_of}
use Rattle.library_steps.specs.Skus.{skus_end}

-- The libraries of a module.

-- descriptions that are wanted, behind those that are known
abbrev pub round_stages : List InfDoc → List (List ℕ) → Stages Key Out (List InfDoc)
round_stages infs paths = stage (inf_asks paths) (λ given. end (with_more infs given paths))

-- where nothing is wanted the libraries are chosen, else a round follows
abbrev pub choice_round : Module → PlatformDoc → List InfDoc → List (List ℕ)
    → (List InfDoc → EdkStages) → EdkStages
choice_round m platform infs [] next = end (given_as out.Choice (choice m platform infs))
choice_round m platform infs (path ∷ paths) next = bind (round_stages infs (path ∷ paths)) next

-- the libraries of a module of which these descriptions are known, by so many rounds at most
unfoldable pub choice_after : ℕ → Module → PlatformDoc → List InfDoc → EdkStages
choice_after zero m platform infs = end (Err impossible_answer)
choice_after (suc n) m platform infs =
    choice_round m platform infs (wanted m platform infs) (choice_after n m platform)

-- a module has at most 1,024 instances, and each round but the last makes one of them known
unfoldable pub most_rounds : ℕ
most_rounds = 1026

-- the platform, and the module's own description
abbrev pub module_first : Module → List (Ask Key)
module_first m = ask.Part key.Platform ∷ ask.Part (key.Inf m.inf) ∷ []

abbrev pub choice_given : Module → List (Pair Key Out) → EdkStages
choice_given m given =
    attempt (platform_in given) (λ platform.
    attempt (own_inf given m.inf) (λ infs. choice_after most_rounds m platform infs))

abbrev pub choice_stages : Module → EdkStages
choice_stages m = stage (module_first m) (choice_given m)

-- The rows of dynamic PCDs.

-- the libraries of each module
abbrev pub linked_stages : List Module → Stages Key Out (List Linked)
linked_stages modules = stage (choice_asks modules) (λ given. end (linked_from given modules))

-- the descriptions of each module and its libraries
abbrev pub described_stages : List Linked → Stages Key Out (List Described)
described_stages modules =
    stage (linked_asks modules) (λ given. end (described_from given modules))

-- the packages that they name
abbrev pub parts_stages : List Described → Stages Key Out (List ModuleParts)
parts_stages modules = stage (package_asks modules) (λ given. end (parts_from given modules))

abbrev pub modules_parts : List Module → Stages Key Out (List ModuleParts)
modules_parts modules =
    bind (linked_stages modules) (λ linked.
    bind (described_stages linked) (λ described. parts_stages described))

-- the platform, the flash description, the architectures, the SKU and the values that the words
-- give
abbrev pub pcds_asks : List (Ask Key)
pcds_asks =
    ask.Part key.Platform ∷ ask.Part key.Flash ∷ ask.Field ARCHES ∷ ask.Field SKU ∷ ask.Field PCDS ∷ []

abbrev pub setting_in : PlatformDoc → List (Pair Key Out) → Result Setting Fault
setting_in platform given =
    and_then (given_field given ARCHES) (λ arches.
    and_then (given_field given SKU) (λ sku.
    and_then (given_field given PCDS) (λ pcds. setting_of platform arches sku pcds)))

abbrev pub pcds_from : PlatformDoc → FlashDoc → Setting → EdkStages
pcds_from platform flash setting =
    bind (modules_parts setting.modules) (λ modules.
    end (given_as out.Values (pcds_given platform flash setting modules)))

-- both checks of the words come before the modules are asked for
abbrev pub pcds_first : List (Pair Key Out) → EdkStages
pcds_first given =
    attempt (platform_in given) (λ platform.
    when (skus_end platform.skus) (
    attempt (flash_in given) (λ flash.
    attempt (setting_in platform given) (λ setting. pcds_from platform flash setting))))

abbrev pub pcds_stages : EdkStages
pcds_stages = stage pcds_asks pcds_first

-- The values of a module.

-- the platform, the flash description, the rows of dynamic PCDs, the module's libraries, and the
-- values that the words give
abbrev pub values_asks : Module → List (Ask Key)
values_asks m =
    ask.Part key.Platform ∷ ask.Part key.Flash ∷ ask.Part key.PlatformPcds
    ∷ ask.Part (key.Choice m) ∷ ask.Field PCDS ∷ []

abbrev pub one_described : Linked → Stages Key Out Described
one_described linked =
    stage (inf_asks linked.paths) (λ given. end (described_in given linked))

abbrev pub one_parts : Described → Stages Key Out ModuleParts
one_parts described =
    stage (dec_asks described.packages) (λ given. end (parts_in given described))

abbrev pub module_parts : Module → Choice → Stages Key Out ModuleParts
module_parts m choice =
    bind (one_described (linked_module m choice)) (λ described. one_parts described)

abbrev pub values_from : Module → PlatformDoc → FlashDoc → Values → Choice → List PcdSet → EdkStages
values_from m platform flash dynamic choice commands =
    bind (module_parts m choice) (λ parts.
    end (given_as out.Values (values_given platform flash commands dynamic parts)))

abbrev pub commands_in : PlatformDoc → List (Pair Key Out) → Result (List PcdSet) Fault
commands_in platform given = and_then (given_field given PCDS) (command_line_pcds platform.at)

abbrev pub values_first : Module → List (Pair Key Out) → EdkStages
values_first m given =
    attempt (platform_in given) (λ platform.
    attempt (flash_in given) (λ flash.
    attempt (values_in given key.PlatformPcds) (λ dynamic.
    attempt (choice_in given m) (λ choice.
    attempt (commands_in platform given)
    (λ commands. values_from m platform flash dynamic choice commands)))))

abbrev pub values_stages : Module → EdkStages
values_stages m = stage (values_asks m) (values_first m)
