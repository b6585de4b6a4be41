-- The texts of modules, their dependency expressions and the report in a world.
use Rattle.std.specs.List.{flat_map}
use Rattle.std.specs.Result.{result_err}
use Rattle.std.proofs.Common.{◌≡◌, List, [], ◌∷◌, map, Contains, Option, None, Result, Ok, Err, refl, ap, ◌∙◌, arith}
use Rattle.build_base.specs.First.{and_then, or_else, or_fault, all_ok}
use Rattle.build_base.specs.World.{World, field}
use Rattle.build_base.specs.declared.fault.Fault.{Fault}
use Rattle.step_engine.specs.Meaning.{IsWorld}
use Rattle.step_engine.specs.declared.talk.Ask.{Ask}
use Rattle.step_engine.specs.declared.talk.Ask.TheVariants as ask
use Rattle.step_engine.specs.declared.talk.Answer.TheVariants as answer
use Rattle.step_engine.specs.declared.talk.Outcome.{Outcome}
use Rattle.build_stages.specs.Stages.{end, fault_in, outcome_of, meaning_of}
use Rattle.build_stages.specs.StagesLaws.{value_is}
use Rattle.build_texts.specs.declared.asks.ModuleReport.{ModuleReport}
use Rattle.doc_types.specs.declared.choice.Choice.{Choice}
use Rattle.doc_types.specs.declared.choice.Module.{Module}
use Rattle.doc_types.specs.declared.platform.PlatformDoc.{PlatformDoc}
use Rattle.doc_types.specs.declared.values.Values.{Values}
use Rattle.step_pack.specs.Keys.{key_cmp}
use Rattle.step_pack.specs.declared.key.Key.{Key}
use Rattle.step_pack.specs.declared.key.Key.TheVariants as key
use Rattle.step_pack.specs.declared.out.Out.{Out}
use Rattle.step_pack.specs.declared.out.Out.TheVariants as out
use Rattle.step_answers.specs.Readers.{choice_of_out, choice_in, values_of_out, values_in, given_as, platform_in}
use Rattle.text_steps.specs.declared.report.Heading.{Heading}
use Rattle.text_steps.specs.Asks.{told_asks, report_asks}
use Rattle.text_steps.specs.Code.{code_given}
use Rattle.text_steps.specs.Depex.{depex_given}
use Rattle.text_steps.specs.Report.{module_report, report_in, reports_in, report_modules, report_given, text_of}
use Rattle.library_steps.specs.ModuleTrees.{module_parts}
use Rattle.text_steps.specs.TextTrees.{code_asks, code_first, code_stages, depex_asks, depex_first, depex_stages, heading_asks, told_stages, report_first, report_stages}
use Rattle.build_rules.specs.Rules.{edk, value_in}
use Rattle.build_rules.specs.RulesBounds.{edk_is_bounded}
use Rattle.build_rules.specs.Values.{platform_value}
use Rattle.build_rules.proofs.Asked.{given_in, fault_asked, in_there, in_one, in_more, step_told, or_err}
use Rattle.build_rules.proofs.ValueLemmas.{platform_is}
use Rattle.build_laws.specs.ModuleValues.{choice_value, module_value, pcds_value, values_value}
use Rattle.build_laws.specs.TextValues.{code_value, depex_value, told_value, told_text, heading_value, report_value}
use Rattle.build_laws.proofs.ChoiceValues.{choice_is}
use Rattle.build_laws.proofs.ImageValues.{step_run}
use Rattle.build_laws.proofs.PcdValues.{made_run, module_run, pcds_is, values_is}
use Rattle.build_laws.proofs.ToldLemmas.{Reads, comes, each_reads, platform_told, asked_run, read_run, stops_first}

-- a module's libraries and its values, where they are asked

choice_told : (w : World) (m : Module) (asks : List (Ask Key)) → IsWorld (meaning_of key_cmp edk) w → fault_asked w asks ≡ None → Contains asks (ask.Part (key.Choice m))
    → choice_in (given_in w asks) m ≡ choice_value w m
choice_told w m asks e none c = step_told w asks (key.Choice m) out.Choice (choice_value w m) choice_of_out none c (choice_is w m e) (λ choice h. refl)

values_told : (w : World) (m : Module) (asks : List (Ask Key)) → IsWorld (meaning_of key_cmp edk) w → fault_asked w asks ≡ None → Contains asks (ask.Part (key.Values m))
    → values_in (given_in w asks) (key.Values m) ≡ values_value w m
values_told w m asks e none c = step_told w asks (key.Values m) out.Values (values_value w m) values_of_out none c (values_is w m e) (λ values h. refl)

-- the texts of a module

code_run : (w : World) (m : Module) → IsWorld (meaning_of key_cmp edk) w → comes w (code_stages m) ≡ given_as out.Code (code_value w m)
unfolding code_value fault_asked
code_run w m e =
    let by_values = λ (platform : PlatformDoc) (choice : Choice) (values : Values). and_then (module_value w m choice) (code_given platform choice values) in
    let by_libraries = λ (platform : PlatformDoc) (choice : Choice). and_then (values_value w m) (by_values platform choice) in
    let by_platform = λ (platform : PlatformDoc). and_then (choice_value w m) (by_libraries platform) in
    let given = given_in w (code_asks m) in
    asked_run w out.Code (code_asks m) (code_first m) (code_value w m) (λ none.
    read_run w out.Code (platform_in given) (platform_value w) _ by_platform (platform_told w (code_asks m) e none (0, omega arith, refl)) (λ platform is.
    read_run w out.Code (choice_in given m) (choice_value w m) _ (by_libraries platform) (choice_told w m (code_asks m) e none (1, omega arith, refl)) (λ choice is.
    read_run w out.Code (values_in given (key.Values m)) (values_value w m) _ (by_values platform choice) (values_told w m (code_asks m) e none (2, omega arith, refl)) (λ values is.
    made_run w out.Code (module_parts m choice) (module_value w m choice) (code_given platform choice values) (module_run w m choice)))))
    (stops_first w key.Platform out.Platform (platform_value w) (ask.Part (key.Choice m) ∷ ask.Part (key.Values m) ∷ []) by_platform (platform_is w e) (λ platform.
    stops_first w (key.Choice m) out.Choice (choice_value w m) (ask.Part (key.Values m) ∷ []) (by_libraries platform) (choice_is w m e) (λ choice.
    stops_first w (key.Values m) out.Values (values_value w m) [] (by_values platform choice) (values_is w m e) (λ values. refl))))

pub code_is : (w : World) (m : Module) → IsWorld (meaning_of key_cmp edk) w → value_in w (key.Code m) ≡ outcome_of (given_as out.Code (code_value w m))
code_is w m e = value_is key_cmp edk edk_is_bounded w (key.Code m) ∙ ap outcome_of (code_run w m e)

-- the dependency expression of a module

depex_run : (w : World) (m : Module) → IsWorld (meaning_of key_cmp edk) w → comes w (depex_stages m) ≡ given_as out.Depex (depex_value w m)
unfolding depex_value fault_asked
depex_run w m e =
    let by_libraries = λ (choice : Choice). and_then (module_value w m choice) (depex_given choice) in
    asked_run w out.Depex (depex_asks m) (depex_first m) (depex_value w m) (λ none.
    read_run w out.Depex (choice_in (given_in w (depex_asks m)) m) (choice_value w m) _ by_libraries (choice_told w m (depex_asks m) e none (0, omega arith, refl)) (λ choice is.
    made_run w out.Depex (module_parts m choice) (module_value w m choice) (depex_given choice) (module_run w m choice)))
    (stops_first w (key.Choice m) out.Choice (choice_value w m) [] by_libraries (choice_is w m e) (λ choice. refl))

pub depex_is : (w : World) (m : Module) → IsWorld (meaning_of key_cmp edk) w → value_in w (key.Depex m) ≡ outcome_of (given_as out.Depex (depex_value w m))
depex_is w m e = value_is key_cmp edk edk_is_bounded w (key.Depex m) ∙ ap outcome_of (depex_run w m e)

-- what is told of each module

abbrev fault_of_two : Outcome Out → Outcome Out → Option Fault
fault_of_two c v = or_else (fault_in (answer.Part c)) (or_else (fault_in (answer.Part v)) None)

two_stop : (m : Module) (c : Result Choice Fault) (v : Result Values Fault)
    → fault_of_two (outcome_of (given_as out.Choice c)) (outcome_of (given_as out.Values v)) ≡ result_err (and_then c (λ choice. and_then v (module_report m choice)))
two_stop m (Ok choice) (Ok values) = refl
two_stop m (Ok choice) (Err fault) = refl
two_stop m (Err fault) v = refl

told_reads : (w : World) → IsWorld (meaning_of key_cmp edk) w → Reads w told_asks report_in (told_value w)
unfolding report_in fault_asked
told_reads w e = record {
  told = λ asks none m sub.
      ap (λ (r : Result Choice Fault). and_then r (λ choice. and_then (values_in (given_in w asks) (key.Values m)) (module_report m choice)))
      (choice_told w m asks e none (in_one (ask.Part (key.Choice m)) (ask.Part (key.Values m) ∷ []) asks sub))
      ∙ ap (λ (r : Result Values Fault). and_then (choice_value w m) (λ choice. and_then r (module_report m choice)))
      (values_told w m asks e none (in_one (ask.Part (key.Values m)) [] asks (in_more (ask.Part (key.Choice m)) (ask.Part (key.Values m) ∷ []) asks sub)));
  stop = λ m.
      ap (λ (c : Outcome Out). fault_of_two c (value_in w (key.Values m))) (choice_is w m e)
      ∙ ap (fault_of_two (outcome_of (given_as out.Choice (choice_value w m)))) (values_is w m e)
      ∙ two_stop m (choice_value w m) (values_value w m);
}

-- the report

told_run : (w : World) → IsWorld (meaning_of key_cmp edk) w → (platform : PlatformDoc) (heading : Heading) (modules : List Module)
    → comes w (told_stages platform heading modules) ≡ given_as out.Report (told_text w platform heading modules)
unfolding report_given
told_run w e platform heading modules =
    let asks = report_asks modules in
    let given = given_in w asks in
    let each = each_reads w told_asks report_in (told_value w) (told_reads w e) in
    let by_pcds = λ (dynamic : Values). and_then (all_ok (map (told_value w) modules)) (text_of platform heading dynamic) in
    asked_run w out.Report asks (λ given. end (given_as out.Report (report_given platform heading modules given))) (told_text w platform heading modules) (λ none.
    ap (λ (r : Result Values Fault). given_as out.Report (and_then r (λ dynamic. and_then (reports_in given modules) (text_of platform heading dynamic))))
    (step_told w asks key.PlatformPcds out.Values (pcds_value w) values_of_out none (0, omega arith, refl) (pcds_is w e) (λ values h. refl))
    ∙ ap (λ (r : Result (List ModuleReport) Fault). given_as out.Report (and_then (pcds_value w) (λ dynamic. and_then r (text_of platform heading dynamic))))
    (each.told asks none modules (in_there (ask.Part key.PlatformPcds) (flat_map told_asks modules))))
    (stops_first w key.PlatformPcds out.Values (pcds_value w) _ by_pcds (pcds_is w e) (λ dynamic.
    ap (λ (q : Option Fault). or_fault q (by_pcds dynamic)) (each.stop modules) ∙ or_err (all_ok (map (told_value w) modules)) (text_of platform heading dynamic)))

report_run : (w : World) → IsWorld (meaning_of key_cmp edk) w → comes w report_stages ≡ given_as out.Report (report_value w)
unfolding report_value fault_asked
report_run w e =
    let told = λ (platform : PlatformDoc). told_text w platform (heading_value w platform) in
    let by_platform = λ (platform : PlatformDoc). and_then (report_modules platform (field w 1)) (told platform) in
    asked_run w out.Report heading_asks report_first (report_value w) (λ none.
    read_run w out.Report (platform_in (given_in w heading_asks)) (platform_value w) _ by_platform (platform_told w heading_asks e none (0, omega arith, refl)) (λ platform is.
    step_run w out.Report (report_modules platform (field w 1)) _ (told platform) (λ modules. told_run w e platform (heading_value w platform) modules)))
    (stops_first w key.Platform out.Platform (platform_value w) (ask.Field 1 ∷ ask.Field 2 ∷ ask.Field 3 ∷ ask.Field 4 ∷ []) by_platform (platform_is w e) (λ platform. refl))

pub report_is : (w : World) → IsWorld (meaning_of key_cmp edk) w → value_in w key.Report ≡ outcome_of (given_as out.Report (report_value w))
report_is w e = value_is key_cmp edk edk_is_bounded w key.Report ∙ ap outcome_of (report_run w e)
