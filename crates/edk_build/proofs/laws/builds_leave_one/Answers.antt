use Rattle.edk_build.proofs.OneLemmas.{leaves_one, counted_one}
use Rattle.edk_build.proofs.laws.builds_leave_one.Goals as goal

pub returns-clause-left : goal.returns-clause-left
returns-clause-left c = leaves_one

pub returns-clause-counted : goal.returns-clause-counted
returns-clause-counted c = counted_one
