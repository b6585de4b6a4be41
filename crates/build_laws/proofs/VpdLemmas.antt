-- The value of vital product data in a world.
use Rattle.std.proofs.Common.{◌≡◌, [], ◌∷◌, refl, ap, ◌∙◌, arith}
use Rattle.build_base.specs.First.{and_then}
use Rattle.build_base.specs.World.{World, field}
use Rattle.step_engine.specs.Meaning.{IsWorld}
use Rattle.step_engine.specs.declared.talk.Ask.TheVariants as ask
use Rattle.build_stages.specs.Stages.{outcome_of, meaning_of}
use Rattle.build_stages.specs.StagesLaws.{value_is}
use Rattle.doc_types.specs.declared.platform.PlatformDoc.{PlatformDoc}
use Rattle.doc_types.specs.declared.values.Values.{Values}
use Rattle.step_answers.specs.Settings.{arches_built}
use Rattle.step_pack.specs.Keys.{key_cmp}
use Rattle.step_pack.specs.declared.key.Key.TheVariants as key
use Rattle.step_pack.specs.declared.out.Out.TheVariants as out
use Rattle.step_answers.specs.Readers.{values_of_out, values_in, given_as, platform_in}
use Rattle.volume_steps.specs.VpdTree.{vpd_asks, placed_vpd, vpd_from, vpd_stages}
use Rattle.build_rules.specs.Rules.{edk, value_in}
use Rattle.build_rules.specs.RulesBounds.{edk_is_bounded}
use Rattle.build_rules.specs.Values.{platform_value}
use Rattle.build_rules.proofs.Asked.{given_in, fault_asked, step_told}
use Rattle.build_rules.proofs.ValueLemmas.{platform_is}
use Rattle.build_laws.specs.ModuleValues.{pcds_value}
use Rattle.build_laws.specs.VpdValues.{vpd_value}
use Rattle.build_laws.proofs.ImageValues.{step_run}
use Rattle.build_laws.proofs.PcdValues.{pcds_is}
use Rattle.build_laws.proofs.ToldLemmas.{comes, platform_told, asked_run, read_run, stops_first}

vpd_run : (w : World) → IsWorld (meaning_of key_cmp edk) w → comes w vpd_stages ≡ given_as out.Vpd (vpd_value w)
unfolding vpd_value fault_asked
vpd_run w e =
    let by_rows = λ (platform : PlatformDoc) (values : Values). and_then (arches_built platform (field w 1)) (placed_vpd platform values) in
    let by_platform = λ (platform : PlatformDoc). and_then (pcds_value w) (by_rows platform) in
    let given = given_in w vpd_asks in
    asked_run w out.Vpd vpd_asks vpd_from (vpd_value w) (λ none.
    read_run w out.Vpd (platform_in given) (platform_value w) _ by_platform (platform_told w vpd_asks e none (0, omega arith, refl)) (λ platform is.
    read_run w out.Vpd (values_in given key.PlatformPcds) (pcds_value w) _ (by_rows platform)
    (step_told w vpd_asks key.PlatformPcds out.Values (pcds_value w) values_of_out none (1, omega arith, refl) (pcds_is w e) (λ values h. refl)) (λ values is.
    step_run w out.Vpd (arches_built platform (field w 1)) _ (placed_vpd platform values) (λ arches. refl))))
    (stops_first w key.Platform out.Platform (platform_value w) (ask.Part key.PlatformPcds ∷ ask.Field 1 ∷ []) by_platform (platform_is w e) (λ platform.
    stops_first w key.PlatformPcds out.Values (pcds_value w) (ask.Field 1 ∷ []) (by_rows platform) (pcds_is w e) (λ values. refl)))

pub vpd_is : (w : World) → IsWorld (meaning_of key_cmp edk) w → value_in w key.Vpd ≡ outcome_of (given_as out.Vpd (vpd_value w))
vpd_is w e = value_is key_cmp edk edk_is_bounded w key.Vpd ∙ ap outcome_of (vpd_run w e)
