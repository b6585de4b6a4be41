-- What the steps of texts, dependency expressions and the report ask, stage by stage, and what
-- comes of the answers; the rule is this project's own. What they give is told by the EDK II Build
-- specification and the UEFI PI specification.
use Rattle.std.specs.Prelude.{ℕ, List, [], ◌∷◌, Result, Ok}
use Rattle.build_base.specs.First.{and_then}
use Rattle.build_base.specs.declared.fault.Fault.{Fault}
use Rattle.step_engine.specs.declared.talk.Ask.{Ask}
use Rattle.step_engine.specs.declared.talk.Ask.TheVariants as ask
use Rattle.step_engine.specs.declared.talk.Pair.{Pair}
use Rattle.doc_types.specs.declared.choice.Choice.{Choice}
use Rattle.doc_types.specs.declared.choice.Module.{Module}
use Rattle.doc_types.specs.declared.platform.PlatformDoc.{PlatformDoc}
use Rattle.doc_types.specs.declared.values.Values.{Values}
use Rattle.build_stages.specs.Stages.{end, stage, bind}
use Rattle.build_stages.specs.Writing.{attempt, given_field}
use Rattle.job_fields.specs.Fields.{ARCHES, TARGET, TAG, SKU}
use Rattle.step_pack.specs.declared.key.Key.{Key}
use Rattle.step_pack.specs.declared.key.Key.TheVariants as key
use Rattle.step_pack.specs.declared.out.Out.{Out}
use Rattle.step_pack.specs.declared.out.Out.TheVariants as out
use Rattle.step_answers.specs.Readers.{choice_in, values_in, EdkStages, given_as, platform_in}
use Rattle.text_steps.specs.declared.report.Heading.{Heading}
use Rattle.text_steps.specs.Asks.{report_asks}
use Rattle.text_steps.specs.Code.{code_given}
use Rattle.text_steps.specs.Depex.{depex_given}
use Rattle.text_steps.specs.Report.{report_modules, heading_of, report_given}
use Rattle.job_fields.specs.Readings.{target_in, tag_in}
use Rattle.library_steps.specs.ModuleTrees.{module_parts}

-- The texts of a module.

-- the platform, the module's libraries and its values
abbrev pub code_asks : Module → List (Ask Key)
code_asks m = ask.Part key.Platform ∷ ask.Part (key.Choice m) ∷ ask.Part (key.Values m) ∷ []

abbrev pub code_from : Module → PlatformDoc → Choice → Values → EdkStages
code_from m platform choice values =
    bind (module_parts m choice)
    (λ parts. end (given_as out.Code (code_given platform choice values parts)))

abbrev pub code_first : Module → List (Pair Key Out) → EdkStages
code_first m given =
    attempt (platform_in given) (λ platform.
    attempt (choice_in given m) (λ choice.
    attempt (values_in given (key.Values m)) (λ values. code_from m platform choice values)))

abbrev pub code_stages : Module → EdkStages
code_stages m = stage (code_asks m) (code_first m)

-- The dependency expression of a module.

abbrev pub depex_asks : Module → List (Ask Key)
depex_asks m = ask.Part (key.Choice m) ∷ []

abbrev pub depex_from : Module → Choice → EdkStages
depex_from m choice =
    bind (module_parts m choice) (λ parts. end (given_as out.Depex (depex_given choice parts)))

abbrev pub depex_first : Module → List (Pair Key Out) → EdkStages
depex_first m given = attempt (choice_in given m) (λ choice. depex_from m choice)

abbrev pub depex_stages : Module → EdkStages
depex_stages m = stage (depex_asks m) (depex_first m)

-- The report.

-- the platform, the architectures, the target, the tag and the SKU
abbrev pub heading_asks : List (Ask Key)
heading_asks =
    ask.Part key.Platform ∷ ask.Field ARCHES ∷ ask.Field TARGET ∷ ask.Field TAG ∷ ask.Field SKU ∷ []

abbrev pub told_modules_in : PlatformDoc → List (Pair Key Out) → Result (List Module) Fault
told_modules_in platform given = and_then (given_field given ARCHES) (report_modules platform)

-- what stands at the report's head, where a target or a tag that isn't stated has its default
abbrev pub heading_by : PlatformDoc → List ℕ → List ℕ → List ℕ → Heading
heading_by platform target tag sku =
    heading_of platform (target_in target) (tag_in tag) sku

abbrev pub heading_in : PlatformDoc → List (Pair Key Out) → Result Heading Fault
heading_in platform given =
    and_then (given_field given TARGET) (λ target.
    and_then (given_field given TAG) (λ tag.
    and_then (given_field given SKU) (λ sku. Ok (heading_by platform target tag sku))))

abbrev pub told_stages : PlatformDoc → Heading → List Module → EdkStages
told_stages platform heading modules =
    stage (report_asks modules)
    (λ given. end (given_as out.Report (report_given platform heading modules given)))

-- the check of the words' architectures comes before the modules are asked for
abbrev pub told_in : PlatformDoc → List (Pair Key Out) → EdkStages
told_in platform given =
    attempt (told_modules_in platform given) (λ modules.
    attempt (heading_in platform given) (λ heading. told_stages platform heading modules))

abbrev pub report_first : List (Pair Key Out) → EdkStages
report_first given = attempt (platform_in given) (λ platform. told_in platform given)

abbrev pub report_stages : EdkStages
report_stages = stage heading_asks report_first
