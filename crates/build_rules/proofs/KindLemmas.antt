-- Each step gives what its kind of key does, so that every answer of a world fits.
use Rattle.std.specs.Prelude.{◌&&◌}
use Rattle.std.proofs.Common.{◌≡◌, ℕ, zero, suc, Bool, true, false, List, [], ◌∷◌, length, map, refl, sym, ap, ◌∙◌, Result, Ok, Err, Option, Some, None, IfOk}
use Rattle.std.proofs.lemmas.Bool.{eq-eqb}
use Rattle.build_base.specs.First.{or_else, first_of, or_fault}
use Rattle.build_base.specs.World.{World, got}
use Rattle.build_base.specs.declared.fault.Fault.{Fault}
use Rattle.build_base.specs.declared.lines.Lines.{Lines}
use Rattle.build_base.specs.declared.lines.Macro.{Macro}
use Rattle.step_engine.specs.Meaning.{right}
use Rattle.step_engine.specs.declared.talk.Ask.{Ask}
use Rattle.step_engine.specs.declared.talk.Ask.TheVariants as ask
use Rattle.step_engine.specs.declared.talk.Answer.{Answer}
use Rattle.step_engine.specs.declared.talk.Pair.{Pair}
use Rattle.step_engine.specs.declared.talk.Answer.TheVariants as answer
use Rattle.step_engine.specs.declared.talk.Outcome.{Outcome}
use Rattle.build_stages.specs.Stages.{Stages, end, stage, with_answers, bind, run, first_stop, unless_stopped, stop_of, fault_in, outcome_of, meaning_of}
use Rattle.build_stages.specs.StagesLaws.{value_is}
use Rattle.build_stages.specs.Writing.{attempt, when}
use Rattle.document_stages.specs.Documents.{lines_of}
use Rattle.doc_types.specs.declared.flash.FlashDoc.{FlashDoc}
use Rattle.doc_types.specs.declared.platform.PlatformDoc.{PlatformDoc}
use Rattle.doc_types.specs.declared.volume.Item.{Item}
use Rattle.doc_types.specs.declared.volume.Item.TheVariants as item
use Rattle.doc_types.specs.declared.volume_head.VolumeHead.{VolumeHead}
use Rattle.step_pack.specs.Keys.{key_cmp}
use Rattle.step_pack.specs.declared.key.Key.{Key}
use Rattle.step_pack.specs.declared.key.Key.TheVariants as key
use Rattle.step_pack.specs.declared.out.Out.{Out}
use Rattle.step_pack.specs.declared.out.Out.TheVariants as out
use Rattle.dec_docs.specs.Package.{package_of}
use Rattle.inf_docs.specs.Modules.{module_of}
use Rattle.dsc_platform.specs.Platform.{platform_of}
use Rattle.flash_document.specs.Flash.{flash_of}
use Rattle.step_answers.specs.Fits.{fits, kind_of, kind_at}
use Rattle.doc_types.specs.declared.choice.Module.{Module}
use Rattle.doc_types.specs.declared.module.InfDoc.{InfDoc}
use Rattle.library_choice.specs.Choices.{choice}
use Rattle.library_choice.specs.Closure.{wanted}
use Rattle.library_steps.specs.Choices.{own_inf}
use Rattle.step_answers.specs.Readers.{choice_in, values_in, EdkStages, given_as, platform_in, flash_in}
use Rattle.library_steps.specs.Pcds.{pcds_given, values_given}
use Rattle.library_steps.specs.Skus.{skus_end}
use Rattle.file_steps.specs.Asks.{sections_below}
use Rattle.volume_steps.specs.Asks.{regions_below}
use Rattle.step_answers.specs.Volumes.{fits_u16, volume_at}
use Rattle.file_steps.specs.Files.{file_given}
use Rattle.volume_steps.specs.Volumes.{volume_given}
use Rattle.volume_steps.specs.Based.{based_given}
use Rattle.volume_steps.specs.Devices.{device_given}
use Rattle.file_steps.specs.Apriori.{apriori_given}
use Rattle.file_steps.specs.ModuleFiles.{module_given}
use Rattle.file_steps.specs.Modules.{plan_given}
use Rattle.output_steps.specs.AllTree.{folder_in, modules_in, wanted_in, report_in}
use Rattle.library_steps.specs.ModuleTrees.{round_stages, choice_round, choice_after, most_rounds, modules_parts, setting_in, module_parts, commands_in}
use Rattle.output_steps.specs.Outputs.{outputs_of}
use Rattle.text_steps.specs.TextTrees.{told_modules_in, heading_in}
use Rattle.text_steps.specs.Code.{code_given}
use Rattle.text_steps.specs.Depex.{depex_given}
use Rattle.text_steps.specs.Report.{report_given}
use Rattle.document_steps.specs.Trees.{document_stages, root_in, macros_in, flash_root, flash_from}
use Rattle.file_steps.specs.FileTrees.{item_at, item_stages}
use Rattle.volume_steps.specs.VolumeTrees.{device_at, vpd_in}
use Rattle.volume_steps.specs.VpdTree.{placed_vpd}
use Rattle.step_answers.specs.Settings.{arches_built_in}
use Rattle.step_answers.specs.VpdLines.{has_vpd}
use Rattle.build_rules.specs.Rules.{edk, stages_of}
use Rattle.build_rules.specs.RulesBounds.{edk_is_bounded}
use Rattle.build_rules.proofs.Asked.{answers_in, given_in, fault_asked}
use Rattle.build_rules.proofs.ValueLemmas.{file_fits}

-- each end that is no fault is of this kind
abbrev pub AreOfKind : ℕ → EdkStages → Type 0
AreOfKind n (end (Ok given)) = kind_of given ≡ n
AreOfKind n (end (Err fault)) = Unit {0}
AreOfKind n (stage asks next) = (given : List (Pair Key Out)) → AreOfKind n (next given)

bind_kind : {A : Type 0} (n : ℕ) (s : Stages Key Out A) (f : A → EdkStages) → ((x : A) → AreOfKind n (f x)) → AreOfKind n (bind s f)
bind_kind n (end (Ok x)) f h = h x
bind_kind n (end (Err fault)) f h = tt
bind_kind n (stage asks next) f h = λ given. bind_kind n (next given) f h

attempt_kind : {A : Type 0} (n : ℕ) (r : Result A Fault) (next : A → EdkStages) → ((x : A) → AreOfKind n (next x)) → AreOfKind n (attempt r next)
attempt_kind n (Ok x) next h = h x
attempt_kind n (Err fault) next h = tt

when_kind : (n : ℕ) (b : Bool) (s : EdkStages) → AreOfKind n s → AreOfKind n (when b s)
when_kind n true s h = h
when_kind n false s h = tt

given_kind : {A : Type 0} (n : ℕ) (variant : A → Out) → ((x : A) → kind_of (variant x) ≡ n) → (r : Result A Fault) → AreOfKind n (end (given_as variant r))
given_kind n variant h (Ok x) = h x
given_kind n variant h (Err fault) = tt

document_kind : {A : Type 0} (n : ℕ) (variant : A → Out) → ((x : A) → kind_of (variant x) ≡ n) → (read : Lines → Result A Fault) (macros fixed : List Macro) (path : List ℕ)
    → AreOfKind n (document_stages variant read macros fixed path)
document_kind n variant h read macros fixed path =
    bind_kind n (lines_of path macros fixed) (λ lines. end (given_as variant (read lines))) (λ lines. given_kind n variant h (read lines))

flash_kind : (platform : PlatformDoc) (fixed : List Macro) (root : Option (List ℕ)) → AreOfKind 3 (flash_from platform fixed root)
flash_kind platform fixed None = refl
flash_kind platform fixed (Some path) = document_kind 3 out.Flash (λ x. refl) flash_of platform.macros fixed path

item_kind : (v : ℕ) (flash : FlashDoc) (head : VolumeHead) (it : Item) → AreOfKind 8 (item_stages v flash head it)
item_kind v flash head (item.File plan) =
    when_kind 8 (sections_below v plan.sections) _ (λ given. given_kind 8 out.File (λ x. refl) (file_given flash head plan given))
item_kind v flash head (item.Apriori at pei members) = λ given. given_kind 8 out.File (λ x. refl) (apriori_given head at pei members given)
item_kind v flash head (item.Inf line) =
    λ given. attempt_kind 8 (plan_given flash line given) _ (λ plan. λ answers. given_kind 8 out.File (λ x. refl) (module_given head plan answers))

round_kind : (m : Module) (platform : PlatformDoc) (infs : List InfDoc) (w : List (List ℕ)) (next : List InfDoc → EdkStages) → ((more : List InfDoc) → AreOfKind 4 (next more)) → AreOfKind 4 (choice_round m platform infs w next)
round_kind m platform infs [] next h = given_kind 4 out.Choice (λ x. refl) (choice m platform infs)
round_kind m platform infs (path ∷ paths) next h = bind_kind 4 (round_stages infs (path ∷ paths)) next h

after_kind : (n : ℕ) (m : Module) (platform : PlatformDoc) (infs : List InfDoc) → AreOfKind 4 (choice_after n m platform infs)
unfolding choice_after
after_kind zero m platform infs = tt
after_kind (suc n) m platform infs =
    round_kind m platform infs (wanted m platform infs) (choice_after n m platform) (λ more. after_kind n m platform more)

of_kind : (k : Key) → AreOfKind (kind_at k) (stages_of k)
of_kind (key.Dec path) = document_kind 0 out.Dec (λ x. refl) package_of [] [] path
of_kind (key.Inf path) = document_kind 1 out.Inf (λ x. refl) module_of [] [] path
of_kind key.Platform =
    λ given. attempt_kind 2 (root_in given) _ (λ path. attempt_kind 2 (macros_in given) _ (λ fixed. document_kind 2 out.Platform (λ x. refl) platform_of [] fixed path))
of_kind key.Flash =
    λ given. attempt_kind 3 (platform_in given) _ (λ platform. attempt_kind 3 (macros_in given) _ (λ fixed. attempt_kind 3 (flash_root platform given) _ (λ root. flash_kind platform fixed root)))
of_kind (key.Choice m) =
    λ given. attempt_kind 4 (platform_in given) _ (λ platform. attempt_kind 4 (own_inf given m.inf) _ (λ infs. after_kind most_rounds m platform infs))
of_kind key.PlatformPcds =
    λ given. attempt_kind 5 (platform_in given) _ (λ platform. when_kind 5 (skus_end platform.skus) _ (attempt_kind 5 (flash_in given) _ (λ flash.
    attempt_kind 5 (setting_in platform given) _ (λ setting. bind_kind 5 (modules_parts setting.modules) _ (λ modules.
    given_kind 5 out.Values (λ x. refl) (pcds_given platform flash setting modules))))))
of_kind (key.Values m) =
    λ given. attempt_kind 5 (platform_in given) _ (λ platform. attempt_kind 5 (flash_in given) _ (λ flash. attempt_kind 5 (values_in given key.PlatformPcds) _ (λ dynamic.
    attempt_kind 5 (choice_in given m) _ (λ choice. attempt_kind 5 (commands_in platform given) _ (λ commands. bind_kind 5 (module_parts m choice) _ (λ parts.
    given_kind 5 out.Values (λ x. refl) (values_given platform flash commands dynamic parts)))))))
of_kind (key.Code m) =
    λ given. attempt_kind 6 (platform_in given) _ (λ platform. attempt_kind 6 (choice_in given m) _ (λ choice. attempt_kind 6 (values_in given (key.Values m)) _ (λ values.
    bind_kind 6 (module_parts m choice) _ (λ parts. given_kind 6 out.Code (λ x. refl) (code_given platform choice values parts)))))
of_kind (key.Depex m) =
    λ given. attempt_kind 7 (choice_in given m) _ (λ choice. bind_kind 7 (module_parts m choice) _ (λ parts. given_kind 7 out.Depex (λ x. refl) (depex_given choice parts)))
of_kind (key.File v i) =
    λ given. attempt_kind 8 (flash_in given) _ (λ flash. attempt_kind 8 (volume_at flash v) _ (λ plan. attempt_kind 8 (item_at flash plan i) _ (λ it. item_kind v flash plan.head it)))
of_kind (key.Volume v) =
    λ given. attempt_kind 9 (flash_in given) _ (λ flash. attempt_kind 9 (volume_at flash v) _ (λ plan.
    when_kind 9 (fits_u16 (length plan.items)) _ (λ files. given_kind 9 out.Volume (λ x. refl) (volume_given v plan files))))
of_kind (key.Based v) =
    λ given. attempt_kind 9 (flash_in given) _ (λ flash. attempt_kind 9 (volume_at flash v) _ (λ plan.
    when_kind 9 (fits_u16 (length plan.items)) _ (λ files. given_kind 9 out.Volume (λ x. refl) (based_given v plan files))))
of_kind key.Vpd =
    λ given. attempt_kind 13 (platform_in given) _ (λ platform. attempt_kind 13 (values_in given key.PlatformPcds) _ (λ values. attempt_kind 13 (arches_built_in platform given) _ (λ arches.
    given_kind 13 out.Vpd (λ x. refl) (placed_vpd platform values arches))))
of_kind (key.Device d) =
    λ given. attempt_kind 10 (flash_in given) _ (λ flash. attempt_kind 10 (platform_in given) _ (λ platform. attempt_kind 10 (vpd_in platform given) _ (λ vpd.
    attempt_kind 10 (device_at flash d) _ (λ plan.
    when_kind 10 (regions_below plan.regions) _ (λ parts. given_kind 10 out.Device (λ x. refl) (device_given vpd flash.volumes plan parts))))))
of_kind key.Report =
    λ given. attempt_kind 11 (platform_in given) _ (λ platform. attempt_kind 11 (told_modules_in platform given) _ (λ modules. attempt_kind 11 (heading_in platform given) _ (λ heading.
    λ told. given_kind 11 out.Report (λ x. refl) (report_given platform heading modules told))))
of_kind key.All =
    λ given. attempt_kind 12 (platform_in given) _ (λ platform. attempt_kind 12 (flash_in given) _ (λ flash. attempt_kind 12 (folder_in platform given) _ (λ folder.
    attempt_kind 12 (modules_in platform given) _ (λ modules. attempt_kind 12 (wanted_in flash given) _ (λ wanted. attempt_kind 12 (report_in given) _ (λ report.
    when_kind 12 (fits_u16 (length flash.volumes) && fits_u16 (length flash.devices)) _ (λ files. given_kind 12 out.All (λ x. refl) (outputs_of (has_vpd platform) folder modules flash wanted report files))))))))

run_kind : (n : ℕ) (o : Ask Key → Answer Out) (s : EdkStages) → AreOfKind n s → IfOk (run fits o s) (λ given. kind_of given ≡ n)
run_kind n o (end (Ok given)) h = h
run_kind n o (end (Err fault)) h = tt
run_kind n o (stage asks next) h =
    elim (first_stop fits asks (map o asks)) as (λ q. IfOk (unless_stopped q Err (run fits o (next (with_answers asks (map o asks))))) (λ given. kind_of given ≡ n)) [
      | Some fault ↦ tt
      | None ↦ run_kind n o (next (with_answers asks (map o asks))) (h (with_answers asks (map o asks)))
    ]

result_fits : (k : Key) (r : Result Out Fault) → IfOk r (λ given. kind_of given ≡ kind_at k) → fits (ask.Part k) (answer.Part (outcome_of r)) ≡ true
result_fits k (Ok given) h = eq-eqb (kind_at k) (kind_of given) (sym h)
result_fits k (Err fault) h = refl

fits_in : (w : World) (a : Ask Key) → fits a (right (meaning_of key_cmp edk) w a) ≡ true
fits_in w (ask.File path) = file_fits path (got w path)
fits_in w (ask.Field i) = refl
fits_in w (ask.Part k) =
    ap (λ (v : Outcome Out). fits (ask.Part k) (answer.Part v)) (value_is key_cmp edk edk_is_bounded w k)
    ∙ result_fits k (run fits (right (meaning_of key_cmp edk) w) (stages_of k)) (run_kind (kind_at k) (right (meaning_of key_cmp edk) w) (stages_of k) (of_kind k))

pub stop_is : (w : World) (asks : List (Ask Key)) → first_stop fits asks (answers_in w asks) ≡ first_of (map fault_in (answers_in w asks))
stop_is w [] = refl
stop_is w (a ∷ asks) =
    let x = right (meaning_of key_cmp edk) w a in
    ap (λ (b : Bool). or_else (stop_of b x) (first_stop fits asks (answers_in w asks))) (fits_in w a)
    ∙ ap (λ (r : Option Fault). or_else (fault_in x) r) (stop_is w asks)

stopped_or : {A : Type 0} (q : Option Fault) (r : Result A Fault) → unless_stopped q Err r ≡ or_fault q r
stopped_or (Some fault) r = refl
stopped_or None r = refl

-- a stage in a world: the first fault among the steps that are asked, or what comes of the answers
pub stage_run : {A : Type 0} (w : World) (asks : List (Ask Key)) (next : List (Pair Key Out) → Stages Key Out A)
    → run fits (right (meaning_of key_cmp edk) w) (stage asks next) ≡ or_fault (fault_asked w asks) (run fits (right (meaning_of key_cmp edk) w) (next (given_in w asks)))
unfolding fault_asked
stage_run w asks next =
    ap (λ (q : Option Fault). unless_stopped q Err (run fits (right (meaning_of key_cmp edk) w) (next (given_in w asks)))) (stop_is w asks)
    ∙ stopped_or (first_of (map fault_in (answers_in w asks))) (run fits (right (meaning_of key_cmp edk) w) (next (given_in w asks)))
