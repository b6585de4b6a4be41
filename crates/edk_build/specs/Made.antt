-- What stands ready before the first emission.
use Rattle.std.specs.Prelude.{◌≡◌, ℕ, List, [], ◌∷◌, ◌++◌, map, Result}
use Rattle.build_base.specs.declared.fault.Fault.{Fault}
use Rattle.build_base.specs.declared.outside.Target.TheVariants.{Out as ToOut, Err as ToErr}
use Rattle.build_base.specs.Spelling.{Output, text}
use Rattle.edk_build.specs.FilePair.{FilePair, output_of}
use Rattle.edk_build.specs.Emitting.{outputs_of, status_of, emitted}
use Rattle.edk_build.specs.declared.label.Label.{Label}
use Rattle.edk_build.specs.declared.made.Made.{Made}
use Rattle.edk_build.specs.declared.made.Made.TheVariants.{Files, Faulty}
use Rattle.edk_build.specs.declared.made.PreparedOutputs.{PreparedOutputs}
use Rattle.edk_build.specs.declared.status.Status.{Status}
use Rattle.edk_build.specs.declared.status.Status.TheVariants.{Done, FileFault}

abbrev pub made_status : Made → Status
made_status (Files files) = Done
made_status (Faulty message) = FileFault

abbrev pub made_outputs : Made → List Output
made_outputs (Files files) = map output_of files
made_outputs (Faulty message) = text ToErr message ∷ []

abbrev pub ready_outputs : PreparedOutputs → List Output
ready_outputs ready = made_outputs ready.made ++ text ToOut ready.summary ∷ []

-- it is that of an outcome
pub record IsMade (made : Made) (label : Label) (outcome : Result (List FilePair) Fault)
    : Type 0 where
  pub status : made_status made ≡ status_of outcome
  pub outputs : made_outputs made ≡ outputs_of label outcome

-- what is emitted is all of it
pub record IsReady (ready : PreparedOutputs) (label : Label) (outcome : Result (List FilePair) Fault)
    (steps reused : ℕ) : Type 0 where
  pub status : made_status ready.made ≡ status_of outcome
  pub outputs : ready_outputs ready ≡ emitted label outcome steps reused
