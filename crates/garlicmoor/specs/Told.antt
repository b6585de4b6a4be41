-- What the program makes of the answer of a run; the rule is this project's own.
use Rattle.std.specs.Prelude.{ℕ, List, Option, None, Some, codes}
use Rattle.edk_build.specs.declared.status.Status.{Status}
use Rattle.edk_build.specs.declared.status.Status.TheVariants.{Done, FileFault, Usage, ReadFault, WriteFault, WantOfMemory}

-- what goes to standard error at the end, where the run itself told nothing there
abbrev pub status_text : Status → Option (List ℕ)
status_text Done = None
status_text FileFault = None
status_text Usage = None
status_text ReadFault = Some (codes "read fault")
status_text WriteFault = Some (codes "write fault")
status_text WantOfMemory = Some (codes "want of memory")

-- the exit status of the program
abbrev pub exit_status : Status → ℕ
exit_status Done = 0
exit_status FileFault = 1
exit_status Usage = 2
exit_status ReadFault = 3
exit_status WriteFault = 4
exit_status WantOfMemory = 5
