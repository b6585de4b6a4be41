use Rattle.std.proofs.Common.{◌≡◌, map, take}
use Rattle.step_engine.specs.declared.talk.Outcome.{Outcome}
use Rattle.step_pack.specs.declared.key.Key.{Key}
use Rattle.step_pack.specs.declared.out.Out.{Out}
use Rattle.edk_build.specs.Building.{Tells}
use Rattle.edk_build.specs.Emitting.{labelled}
use Rattle.edk_build.specs.Outcome.{pair_of}
use Rattle.edk_build.proofs.made.files_of.Given as goal

abbrev pub invariant-loop-output : goal.invariant-loop-output
invariant-loop-output l =
    (value : Key → Outcome Out) → Tells value l.cache l.outputs → l.files ≡ map (labelled l.label) (map (pair_of value) (take l.output-index l.outputs))
