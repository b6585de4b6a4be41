-- The values of PCDs in a world.
use Rattle.std.proofs.Common.{◌≡◌, List, [], ◌∷◌, map, Contains, None, Result, refl, ap, ◌∙◌, arith}
use Rattle.build_base.specs.First.{and_then, all_ok}
use Rattle.build_base.specs.World.{World, field}
use Rattle.build_base.specs.declared.fault.Fault.{Fault}
use Rattle.step_engine.specs.Meaning.{right, IsWorld}
use Rattle.step_engine.specs.declared.talk.Ask.{Ask}
use Rattle.step_engine.specs.declared.talk.Ask.TheVariants as ask
use Rattle.build_stages.specs.Bounds.{run_bind}
use Rattle.build_stages.specs.Stages.{Stages, end, bind, outcome_of, meaning_of}
use Rattle.build_stages.specs.StagesLaws.{value_is}
use Rattle.doc_types.specs.declared.choice.Choice.{Choice}
use Rattle.doc_types.specs.declared.choice.Module.{Module}
use Rattle.doc_types.specs.declared.flash.FlashDoc.{FlashDoc}
use Rattle.doc_types.specs.declared.platform.PlatformDoc.{PlatformDoc}
use Rattle.doc_types.specs.declared.values.Values.{Values}
use Rattle.step_pack.specs.Keys.{key_cmp}
use Rattle.step_pack.specs.declared.key.Key.{Key}
use Rattle.step_pack.specs.declared.key.Key.TheVariants as key
use Rattle.step_pack.specs.declared.out.Out.{Out}
use Rattle.step_pack.specs.declared.out.Out.TheVariants as out
use Rattle.library_steps.specs.declared.parts.Described.{Described}
use Rattle.library_steps.specs.declared.parts.Linked.{Linked}
use Rattle.library_steps.specs.Asks.{choice_asks, inf_asks, dec_asks, linked_asks, package_asks}
use Rattle.step_answers.specs.Readers.{choice_of_out, choice_in, values_of_out, values_in, given_as, platform_in, flash_of_out, flash_in}
use Rattle.library_steps.specs.Parts.{linked, linked_module, linked_in, linked_from, described_in, described_from, parts_in, parts_from}
use Rattle.library_steps.specs.Pcds.{pcds_given, values_given}
use Rattle.step_answers.specs.Settings.{command_line_pcds, setting_of}
use Rattle.library_steps.specs.Skus.{skus_end}
use Rattle.step_answers.specs.Fits.{fits}
use Rattle.library_steps.specs.ModuleTrees.{linked_stages, described_stages, parts_stages, modules_parts, pcds_asks, pcds_first, pcds_stages, one_described, module_parts, values_asks, values_first, values_stages}
use Rattle.build_laws.specs.ModuleValues.{choice_value, linked_value, described_value, parts_value, modules_value, pcds_value, module_value, values_value}
use Rattle.build_rules.specs.Rules.{edk, value_in}
use Rattle.build_rules.specs.RulesBounds.{edk_is_bounded}
use Rattle.build_rules.specs.Values.{platform_value, flash_value}
use Rattle.build_rules.proofs.Asked.{given_in, fault_asked, step_told}
use Rattle.build_laws.proofs.ChoiceValues.{choice_is}
use Rattle.build_laws.proofs.ImageValues.{flash_is, given_then, step_run, then_same, passed_run}
use Rattle.build_laws.proofs.PlatformShape.{skus_found}
use Rattle.build_laws.proofs.ToldLemmas.{comes, step_reads, then_reads, each_reads, steps_read, described_reads, parts_reads, reads_run, platform_told, asked_run, read_run, stops_first, fields_stop}
use Rattle.build_rules.proofs.ValueLemmas.{platform_is}

-- some modules: their libraries, their descriptions and their packages

linked_run : (w : World) → IsWorld (meaning_of key_cmp edk) w → (modules : List Module) → comes w (linked_stages modules) ≡ all_ok (map (linked_value w) modules)
unfolding linked_in
linked_run w e modules =
    reads_run w choice_asks linked_from (λ ms. all_ok (map (linked_value w) ms))
    (steps_read w key.Choice linked_in (linked_value w)
    (then_reads w (λ m. ask.Part (key.Choice m) ∷ []) choice_in (choice_value w) (λ m. m) linked linked_module (λ m choice. refl)
    (step_reads w key.Choice out.Choice (choice_value w) (λ m. choice_of_out) (λ m. choice_is w m e) (λ m choice h. refl)))) modules

described_run : (w : World) (modules : List Linked) → comes w (described_stages modules) ≡ all_ok (map (described_value w) modules)
described_run w modules =
    reads_run w linked_asks described_from (λ ms. all_ok (map (described_value w) ms))
    (each_reads w (λ (held : Linked). inf_asks held.paths) described_in (described_value w) (described_reads w)) modules

parts_run : (w : World) (modules : List Described) → comes w (parts_stages modules) ≡ all_ok (map (parts_value w) modules)
parts_run w modules =
    reads_run w package_asks parts_from (λ ms. all_ok (map (parts_value w) ms))
    (each_reads w (λ (held : Described). dec_asks held.packages) parts_in (parts_value w) (parts_reads w)) modules

-- what comes of one stage after another
bind_is : {A B : Type 0} (w : World) (s : Stages Key Out A) (f : A → Stages Key Out B) (r : Result A Fault) (g : A → Result B Fault) → comes w s ≡ r → ((x : A) → comes w (f x) ≡ g x) → comes w (bind s f) ≡ and_then r g
bind_is {A} {B} w s f r g e h =
    run_bind fits (right (meaning_of key_cmp edk) w) s f ∙ ap (λ (q : Result A Fault). and_then q (λ x. comes w (f x))) e ∙ then_same r (λ x. comes w (f x)) g h

modules_run : (w : World) → IsWorld (meaning_of key_cmp edk) w → (modules : List Module) → comes w (modules_parts modules) ≡ modules_value w modules
unfolding modules_value
modules_run w e modules =
    bind_is w (linked_stages modules) _ (all_ok (map (linked_value w) modules)) (λ held. and_then (all_ok (map (described_value w) held)) (λ found. all_ok (map (parts_value w) found))) (linked_run w e modules) (λ held.
    bind_is w (described_stages held) _ (all_ok (map (described_value w) held)) (λ found. all_ok (map (parts_value w) found)) (described_run w held) (λ found. parts_run w found))

-- what ends with what a value makes
pub made_run : {A B : Type 0} (w : World) (variant : B → Out) (s : Stages Key Out A) (r : Result A Fault) (f : A → Result B Fault) → comes w s ≡ r → comes w (bind s (λ x. end (given_as variant (f x)))) ≡ given_as variant (and_then r f)
made_run {A} {B} w variant s r f e = bind_is w s (λ x. end (given_as variant (f x))) r (λ x. given_as variant (f x)) e (λ x. refl) ∙ given_then variant r f

flash_told : (w : World) (asks : List (Ask Key)) → IsWorld (meaning_of key_cmp edk) w → fault_asked w asks ≡ None → Contains asks (ask.Part key.Flash)
    → flash_in (given_in w asks) ≡ flash_value w
flash_told w asks e none c = step_told w asks key.Flash out.Flash (flash_value w) flash_of_out none c (flash_is w e) (λ flash h. refl)

pcds_run : (w : World) → IsWorld (meaning_of key_cmp edk) w → comes w pcds_stages ≡ given_as out.Values (pcds_value w)
unfolding pcds_value
pcds_run w e =
    let made = λ (platform : PlatformDoc) (flash : FlashDoc). and_then (setting_of platform (field w 1) (field w 4) (field w 6)) (λ setting. and_then (modules_value w setting.modules) (pcds_given platform flash setting)) in
    asked_run w out.Values pcds_asks pcds_first (pcds_value w) (λ none.
    read_run w out.Values (platform_in (given_in w pcds_asks)) (platform_value w) _ (λ platform. and_then (flash_value w) (made platform)) (platform_told w pcds_asks e none (0, omega arith, refl)) (λ platform is.
    passed_run w (skus_end platform.skus) _ (skus_found w platform is)
    ∙ read_run w out.Values (flash_in (given_in w pcds_asks)) (flash_value w) _ (made platform) (flash_told w pcds_asks e none (1, omega arith, refl)) (λ flash is.
    step_run w out.Values (setting_of platform (field w 1) (field w 4) (field w 6)) _ (λ setting. and_then (modules_value w setting.modules) (pcds_given platform flash setting)) (λ setting.
    made_run w out.Values (modules_parts setting.modules) (modules_value w setting.modules) (pcds_given platform flash setting) (modules_run w e setting.modules)))))
    (stops_first w key.Platform out.Platform (platform_value w) _ (λ platform. and_then (flash_value w) (made platform)) (platform_is w e) (λ platform.
    stops_first w key.Flash out.Flash (flash_value w) _ (made platform) (flash_is w e) (λ flash. fields_stop w (1 ∷ 4 ∷ 6 ∷ []) (made platform flash))))

pub pcds_is : (w : World) → IsWorld (meaning_of key_cmp edk) w → value_in w key.PlatformPcds ≡ outcome_of (given_as out.Values (pcds_value w))
pcds_is w e = value_is key_cmp edk edk_is_bounded w key.PlatformPcds ∙ ap outcome_of (pcds_run w e)

-- the values of a module

pub module_run : (w : World) (m : Module) (choice : Choice) → comes w (module_parts m choice) ≡ module_value w m choice
unfolding module_value
module_run w m choice =
    bind_is w (one_described (linked_module m choice)) _ (described_value w (linked_module m choice)) (parts_value w)
    (reads_run w (λ (held : Linked). inf_asks held.paths) described_in (described_value w) (described_reads w) (linked_module m choice))
    (λ found. reads_run w (λ (held : Described). dec_asks held.packages) parts_in (parts_value w) (parts_reads w) found)

values_run : (w : World) (m : Module) → IsWorld (meaning_of key_cmp edk) w → comes w (values_stages m) ≡ given_as out.Values (values_value w m)
unfolding values_value
values_run w m e =
    let by_words = λ (platform : PlatformDoc) (flash : FlashDoc) (dynamic : Values) (choice : Choice).
    and_then (command_line_pcds platform.at (field w 6)) (λ commands. and_then (module_value w m choice) (values_given platform flash commands dynamic)) in
    let by_libraries = λ (platform : PlatformDoc) (flash : FlashDoc) (dynamic : Values). and_then (choice_value w m) (by_words platform flash dynamic) in
    let by_pcds = λ (platform : PlatformDoc) (flash : FlashDoc). and_then (pcds_value w) (by_libraries platform flash) in
    let by_flash = λ (platform : PlatformDoc). and_then (flash_value w) (by_pcds platform) in
    let given = given_in w (values_asks m) in
    asked_run w out.Values (values_asks m) (values_first m) (values_value w m) (λ none.
    read_run w out.Values (platform_in given) (platform_value w) _ by_flash (platform_told w (values_asks m) e none (0, omega arith, refl)) (λ platform is.
    read_run w out.Values (flash_in given) (flash_value w) _ (by_pcds platform) (flash_told w (values_asks m) e none (1, omega arith, refl)) (λ flash is.
    read_run w out.Values (values_in given key.PlatformPcds) (pcds_value w) _ (by_libraries platform flash)
    (step_told w (values_asks m) key.PlatformPcds out.Values (pcds_value w) values_of_out none (2, omega arith, refl) (pcds_is w e) (λ values h. refl)) (λ dynamic is.
    read_run w out.Values (choice_in given m) (choice_value w m) _ (by_words platform flash dynamic)
    (step_told w (values_asks m) (key.Choice m) out.Choice (choice_value w m) choice_of_out none (3, omega arith, refl) (choice_is w m e) (λ choice h. refl)) (λ choice is.
    step_run w out.Values (command_line_pcds platform.at (field w 6)) _ (λ commands. and_then (module_value w m choice) (values_given platform flash commands dynamic)) (λ commands.
    made_run w out.Values (module_parts m choice) (module_value w m choice) (values_given platform flash commands dynamic) (module_run w m choice)))))))
    (stops_first w key.Platform out.Platform (platform_value w) _ by_flash (platform_is w e) (λ platform.
    stops_first w key.Flash out.Flash (flash_value w) _ (by_pcds platform) (flash_is w e) (λ flash.
    stops_first w key.PlatformPcds out.Values (pcds_value w) _ (by_libraries platform flash) (pcds_is w e) (λ dynamic.
    stops_first w (key.Choice m) out.Choice (choice_value w m) _ (by_words platform flash dynamic) (choice_is w m e) (λ choice. fields_stop w (6 ∷ []) (by_words platform flash dynamic choice))))))

pub values_is : (w : World) (m : Module) → IsWorld (meaning_of key_cmp edk) w → value_in w (key.Values m) ≡ outcome_of (given_as out.Values (values_value w m))
values_is w m e = value_is key_cmp edk edk_is_bounded w (key.Values m) ∙ ap outcome_of (values_run w m e)
