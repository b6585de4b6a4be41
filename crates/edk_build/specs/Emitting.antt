-- What a build emits. The rule is this project's own.
use Rattle.std.specs.Prelude.{ℕ, List, [], ◌∷◌, ◌++◌, map, Option, Some, None, Result, Ok, Err, Bool, codes, decimal, if◌then◌else◌}
use Rattle.build_base.specs.declared.fault.Fault.{Fault}
use Rattle.build_base.specs.declared.outside.Target.TheVariants.{Out as ToOut, Err as ToErr}
use Rattle.build_base.specs.FaultText.{fault_text}
use Rattle.build_base.specs.Spelling.{Output, text}
use Rattle.edk_build.specs.FilePair.{FilePair, output_of}
use Rattle.edk_build.specs.declared.label.Label.{Label}
use Rattle.edk_build.specs.declared.status.Status.{Status}
use Rattle.edk_build.specs.declared.status.Status.TheVariants.{Done, FileFault}

abbrev pub below : Option (List ℕ) → List ℕ → List ℕ
below None path = path
below (Some folder) path = folder ++ codes "/" ++ path

-- a file below the folder of the build
abbrev pub labelled : Label → FilePair → FilePair
labelled label pair = record { path = below label.folder pair.path; bytes = pair.bytes }

abbrev pub status_of : Result (List FilePair) Fault → Status
status_of (Ok files) = Done
status_of (Err fault) = FileFault

abbrev pub status_digit : Status → List ℕ
status_digit Done = codes "0"
status_digit _ = codes "1"

abbrev pub front_of : Option (List ℕ) → List ℕ
front_of None = []
front_of (Some folder) = folder ++ codes ": "

abbrev pub back_of : Bool → Status → List ℕ
back_of tells status = if tells then codes ", status " ++ status_digit status else []

-- how many steps ran and how many were reused, in a line
unfoldable pub summary : Label → Status → ℕ → ℕ → List ℕ
summary label status steps reused =
    front_of label.folder ++ decimal steps ++ codes " steps, " ++ decimal reused ++ codes " reused"
    ++ back_of label.tells_status status
    ++ codes "\n"

-- each file, or the text of the fault to standard error
abbrev pub outputs_of : Label → Result (List FilePair) Fault → List Output
outputs_of label (Ok files) = map output_of (map (labelled label) files)
outputs_of label (Err fault) = text ToErr (fault_text fault) ∷ []

-- and then the summary to standard output
abbrev pub emitted : Label → Result (List FilePair) Fault → ℕ → ℕ → List Output
emitted label outcome steps reused =
    outputs_of label outcome ++ text ToOut (summary label (status_of outcome) steps reused) ∷ []
