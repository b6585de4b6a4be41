-- What the step of the report gives by the answers of the steps that it asks (EDK II Build
-- specification, build report; EDK II DSC specification, [SkuIds]).
use Rattle.step_answers.specs.Readers.{values_in, choice_in}
use Rattle.std.specs.Prelude.{ℕ, List, [], map, filter, Result, Ok}
use Rattle.build_base.specs.First.{and_then, all_ok}
use Rattle.build_base.specs.declared.fault.Fault.{Fault}
use Rattle.build_texts.specs.declared.asks.ModuleReport.{ModuleReport}
use Rattle.build_texts.specs.declared.asks.ReportAsk.{ReportAsk}
use Rattle.build_texts.specs.Report.{report_text}
use Rattle.doc_types.specs.declared.choice.Choice.{Choice}
use Rattle.doc_types.specs.declared.choice.Module.{Module}
use Rattle.doc_types.specs.declared.platform.PlatformDoc.{PlatformDoc}
use Rattle.doc_types.specs.declared.platform.Sku.{Sku}
use Rattle.doc_types.specs.declared.values.Values.{Values}
use Rattle.step_answers.specs.declared.settings.Setting.{Setting}
use Rattle.step_answers.specs.Settings.{named_skus, setting_of}
use Rattle.pcd_resolve.specs.Platform.{is_chosen, wanted}
use Rattle.step_engine.specs.declared.talk.Pair.{Pair}
use Rattle.step_pack.specs.declared.key.Key.{Key}
use Rattle.step_pack.specs.declared.key.Key.TheVariants as key
use Rattle.step_pack.specs.declared.out.Out.{Out}
use Rattle.text_steps.specs.declared.report.Heading.{Heading}

abbrev pub modules_set : Setting → Result (List Module) Fault
modules_set setting = Ok setting.modules

-- The modules that are built, once the platform supports the architectures that the words name. The
-- words' SKU and the values that they give PCDs aren't looked at.
unfoldable pub report_modules : PlatformDoc → List ℕ → Result (List Module) Fault
report_modules platform arches = and_then (setting_of platform arches [] []) modules_set

-- the chosen SKUs: that of the words, else those of the platform
unfoldable pub report_skus : PlatformDoc → List ℕ → List Sku
report_skus platform sku = filter (is_chosen (wanted (named_skus sku) platform.sku_choice))
    platform.skus

-- what stands at the head of a report
abbrev pub heading_of : PlatformDoc → List ℕ → List ℕ → List ℕ → Heading
heading_of platform target tag sku =
    record { target = target; tag = tag; skus = report_skus platform sku }

abbrev pub module_report : Module → Choice → Values → Result ModuleReport Fault
module_report m choice values =
    Ok (record { «module» = m; choice = choice; values = values })

-- what is told of a module: its libraries, and its values
unfoldable pub report_in : List (Pair Key Out) → Module → Result ModuleReport Fault
report_in given m =
    and_then (choice_in given m)
    (λ choice. and_then (values_in given (key.Values m)) (module_report m choice))

abbrev pub reports_in : List (Pair Key Out) → List Module → Result (List ModuleReport) Fault
reports_in given modules = all_ok (map (report_in given) modules)

abbrev pub report_ask : PlatformDoc → Heading → Values → List ModuleReport → ReportAsk
report_ask platform heading dynamic modules = record {
  platform = platform;
  target = heading.target;
  tag = heading.tag;
  skus = heading.skus;
  dynamic = dynamic;
  modules = modules;
}

abbrev pub text_of : PlatformDoc → Heading → Values → List ModuleReport → Result (List ℕ) Fault
text_of platform heading dynamic modules =
    Ok (report_text (report_ask platform heading dynamic modules))

-- the report, by the rows of dynamic PCDs and what is told of each module
unfoldable pub report_given : PlatformDoc → Heading → List Module → List (Pair Key Out)
    → Result (List ℕ) Fault
report_given platform heading modules given =
    and_then (values_in given key.PlatformPcds) (λ dynamic.
    and_then (reports_in given modules) (text_of platform heading dynamic))
