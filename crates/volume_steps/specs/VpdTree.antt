-- What the step of the image of vital product data asks, and what comes of the answers; the rule is
-- this project's own.
use Rattle.step_answers.specs.Settings.{arches_built_in}
use Rattle.std.specs.Prelude.{List, [], ◌∷◌, Result}
use Rattle.build_base.specs.declared.fault.Fault.{Fault}
use Rattle.step_engine.specs.declared.talk.Ask.{Ask}
use Rattle.step_engine.specs.declared.talk.Ask.TheVariants as ask
use Rattle.step_engine.specs.declared.talk.Pair.{Pair}
use Rattle.build_stages.specs.Stages.{end, stage}
use Rattle.build_stages.specs.Writing.{attempt}
use Rattle.doc_types.specs.declared.arch.Arch.{Arch}
use Rattle.doc_types.specs.declared.platform.PlatformDoc.{PlatformDoc}
use Rattle.doc_types.specs.declared.values.Values.{Values}
use Rattle.doc_types.specs.declared.vpd.Vpd.{Vpd}
use Rattle.job_fields.specs.Fields.{ARCHES}
use Rattle.step_pack.specs.declared.key.Key.{Key}
use Rattle.step_pack.specs.declared.key.Key.TheVariants as key
use Rattle.step_pack.specs.declared.out.Out.{Out}
use Rattle.step_pack.specs.declared.out.Out.TheVariants as out
use Rattle.step_answers.specs.Readers.{values_in, EdkStages, given_as, platform_in}
use Rattle.vpd_image.specs.Vpd.{vpd_of}

-- the platform, the rows of dynamic PCDs, and the architectures
abbrev pub vpd_asks : List (Ask Key)
vpd_asks = ask.Part key.Platform ∷ ask.Part key.PlatformPcds ∷ ask.Field ARCHES ∷ []

abbrev pub placed_vpd : PlatformDoc → Values → List Arch → Result Vpd Fault
placed_vpd platform values arches =
    vpd_of (record { platform = platform; values = values; arches = arches })

abbrev pub vpd_from : List (Pair Key Out) → EdkStages
vpd_from given =
    attempt (platform_in given) (λ platform.
    attempt (values_in given key.PlatformPcds) (λ values.
    attempt (arches_built_in platform given)
    (λ arches. end (given_as out.Vpd (placed_vpd platform values arches)))))

abbrev pub vpd_stages : EdkStages
vpd_stages = stage vpd_asks vpd_from
