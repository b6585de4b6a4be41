-- The values of the steps of texts, dependency expressions and the report in a world (EDK II Build
-- specification, AutoGen files and build report; UEFI PI specification, volumes 1 and 2), from the
-- documents and the values of the world.
use Rattle.std.specs.Prelude.{◌≡◌, ℕ, List, map, Option, Result}
use Rattle.build_base.specs.First.{and_then, all_ok}
use Rattle.build_base.specs.World.{World, field}
use Rattle.build_base.specs.declared.fault.Fault.{Fault}
use Rattle.build_stages.specs.Stages.{outcome_of}
use Rattle.build_texts.specs.declared.asks.ModuleReport.{ModuleReport}
use Rattle.doc_types.specs.declared.choice.Module.{Module}
use Rattle.doc_types.specs.declared.platform.PlatformDoc.{PlatformDoc}
use Rattle.doc_types.specs.declared.texts.Texts.{Texts}
use Rattle.step_pack.specs.declared.key.Key.TheVariants as key
use Rattle.step_pack.specs.declared.out.Out.TheVariants as out
use Rattle.text_steps.specs.declared.report.Heading.{Heading}
use Rattle.text_steps.specs.Code.{code_given}
use Rattle.text_steps.specs.Depex.{depex_given}
use Rattle.text_steps.specs.Report.{module_report, report_modules, text_of}
use Rattle.build_laws.specs.ModuleValues.{choice_value, module_value, pcds_value, values_value}
use Rattle.build_rules.specs.Rules.{value_in}
use Rattle.text_steps.specs.TextTrees.{heading_by}
use Rattle.step_answers.specs.Readers.{given_as}
use Rattle.build_rules.specs.Values.{platform_value}
use Rattle.job_fields.specs.Fields.{ARCHES, TARGET, TAG, SKU}

-- the texts of a module, once its values are resolved
unfoldable pub code_value : World → Module → Result (Option Texts) Fault
code_value w m =
    and_then (platform_value w) (λ platform.
    and_then (choice_value w m) (λ choice.
    and_then (values_value w m) (λ values.
    and_then (module_value w m choice) (code_given platform choice values))))

-- the bytes of a module's expression
unfoldable pub depex_value : World → Module → Result (List ℕ) Fault
depex_value w m =
    and_then (choice_value w m) (λ choice. and_then (module_value w m choice) (depex_given choice))

-- what is told of a module
abbrev pub told_value : World → Module → Result ModuleReport Fault
told_value w m =
    and_then (choice_value w m) (λ choice. and_then (values_value w m) (module_report m choice))

-- the report, by the rows of dynamic PCDs and what is told of each module
abbrev pub told_text : World → PlatformDoc → Heading → List Module → Result (List ℕ) Fault
told_text w platform heading modules =
    and_then (pcds_value w) (λ dynamic.
    and_then (all_ok (map (told_value w) modules)) (text_of platform heading dynamic))

abbrev pub heading_value : World → PlatformDoc → Heading
heading_value w platform = heading_by platform (field w TARGET) (field w TAG) (field w SKU)

-- the report, once the platform supports the architectures that the words name
unfoldable pub report_value : World → Result (List ℕ) Fault
report_value w =
    and_then (platform_value w) (λ platform.
    and_then (report_modules platform (field w ARCHES))
    (told_text w platform (heading_value w platform)))

-- the steps give these
abbrev pub GivesCode : World → Module → Type 0
GivesCode w m = value_in w (key.Code m) ≡ outcome_of (given_as out.Code (code_value w m))

abbrev pub GivesDepex : World → Module → Type 0
GivesDepex w m = value_in w (key.Depex m) ≡ outcome_of (given_as out.Depex (depex_value w m))

abbrev pub GivesReport : World → Type 0
GivesReport w = value_in w key.Report ≡ outcome_of (given_as out.Report (report_value w))
