-- The value of the step of the image of vital product data in a world; the rule is this project's
-- own.
use Rattle.std.specs.Prelude.{◌≡◌, Result}
use Rattle.build_base.specs.First.{and_then}
use Rattle.build_base.specs.World.{World, field}
use Rattle.build_base.specs.declared.fault.Fault.{Fault}
use Rattle.build_stages.specs.Stages.{outcome_of}
use Rattle.doc_types.specs.declared.vpd.Vpd.{Vpd}
use Rattle.step_answers.specs.Settings.{arches_built}
use Rattle.step_pack.specs.declared.key.Key.TheVariants as key
use Rattle.step_pack.specs.declared.out.Out.TheVariants as out
use Rattle.build_laws.specs.ModuleValues.{pcds_value}
use Rattle.build_rules.specs.Rules.{value_in}
use Rattle.step_answers.specs.Readers.{given_as}
use Rattle.build_rules.specs.Values.{platform_value}
use Rattle.volume_steps.specs.VpdTree.{placed_vpd}
use Rattle.job_fields.specs.Fields.{ARCHES}

-- the image of vital product data, its map and its places
unfoldable pub vpd_value : World → Result Vpd Fault
vpd_value w =
    and_then (platform_value w) (λ platform.
    and_then (pcds_value w) (λ values.
    and_then (arches_built platform (field w ARCHES)) (placed_vpd platform values)))

-- the step gives it
abbrev pub GivesVpd : World → Type 0
GivesVpd w = value_in w key.Vpd ≡ outcome_of (given_as out.Vpd (vpd_value w))
