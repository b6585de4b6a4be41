-- What a build comes to in a world: the files that its top step names, each with what its own step
-- gives. The rule is this project's own.
use Rattle.std.specs.Prelude.{ℕ, ◌==◌, List, [], map, Option, Some, None, Result, Ok, Err, if◌then◌else◌}
use Rattle.build_base.specs.declared.fault.Fault.{Fault}
use Rattle.build_base.specs.World.{World}
use Rattle.doc_types.specs.declared.texts.Texts.{Texts}
use Rattle.doc_types.specs.declared.vpd.Vpd.{Vpd}
use Rattle.step_engine.specs.declared.talk.Outcome.{Outcome}
use Rattle.step_engine.specs.declared.talk.Outcome.TheVariants.{Good, Bad}
use Rattle.step_pack.specs.declared.key.Key.{Key}
use Rattle.step_pack.specs.declared.key.Key.TheVariants as key
use Rattle.step_pack.specs.declared.out.Out.{Out}
use Rattle.step_pack.specs.declared.out.Out.TheVariants as out
use Rattle.step_pack.specs.declared.out.Output.{Output}
use Rattle.build_rules.specs.Rules.{value_in}
use Rattle.edk_build.specs.FilePair.{FilePair}

-- the second of two texts, the header, is part 1
abbrev pub texts_part : Option Texts → ℕ → List ℕ
texts_part None part = []
texts_part (Some texts) part = if part == 1 then texts.h else texts.c

-- the map of vital product data is part 1
abbrev pub vpd_part : Vpd → ℕ → List ℕ
vpd_part vpd part = if part == 1 then vpd.map else vpd.image

-- the bytes of what a step gives
abbrev pub given_bytes : Out → ℕ → List ℕ
given_bytes (out.Code texts) part = texts_part texts part
given_bytes (out.Depex bytes) part = bytes
given_bytes (out.Volume image) part = image
given_bytes (out.Device image) part = image
given_bytes (out.Report text) part = text
given_bytes (out.Vpd vpd) part = vpd_part vpd part
given_bytes _ part = []

abbrev pub outcome_bytes : Outcome Out → ℕ → List ℕ
outcome_bytes (Good given) part = given_bytes given part
outcome_bytes (Bad fault) part = []

-- the outputs that the top step names
abbrev pub outputs_in : Out → List Output
outputs_in (out.All outputs) = outputs
outputs_in _ = []

-- the file of an output, where each step has this value
abbrev pub pair_of : (Key → Outcome Out) → Output → FilePair
pair_of value output =
    record { path = output.path; bytes = outcome_bytes (value output.from) output.part }

-- all files, or the fault of the top step
abbrev pub files_by : (Key → Outcome Out) → Outcome Out → Result (List FilePair) Fault
files_by value (Good given) = Ok (map (pair_of value) (outputs_in given))
files_by value (Bad fault) = Err fault

-- the files of a build in a world, or its first fault
abbrev pub outcome : World → Result (List FilePair) Fault
outcome w = files_by (value_in w) (value_in w key.All)
