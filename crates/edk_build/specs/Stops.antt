-- Facts for some of the answers of a build.
use Rattle.std.specs.Prelude.{Result, Err}
use Rattle.edk_build.specs.declared.status.Status.{Status}
use Rattle.edk_build.specs.declared.status.Status.TheVariants as status
use Rattle.edk_build.specs.declared.stop.Stop.{Stop}
use Rattle.edk_build.specs.declared.stop.Stop.TheVariants.{ReadFault, WriteFault, WantOfMemory}

abbrev pub stop_status : Stop → Status
stop_status ReadFault = status.ReadFault
stop_status WriteFault = status.WriteFault
stop_status WantOfMemory = status.WantOfMemory

-- where the tree failed
abbrev pub IfReadFault : {A : Type 0} → Result A Stop → Type 0 → Type 0
IfReadFault (Err ReadFault) P = P
IfReadFault _ P = Unit {0}

-- where the sink failed
abbrev pub IfWriteFault : {A : Type 0} → Result A Stop → Type 0 → Type 0
IfWriteFault (Err WriteFault) P = P
IfWriteFault _ P = Unit {0}

-- where it stopped before its first emission
abbrev pub IfUnwritten : {A : Type 0} → Result A Stop → Type 0 → Type 0
IfUnwritten (Err ReadFault) P = P
IfUnwritten (Err WantOfMemory) P = P
IfUnwritten _ P = Unit {0}
