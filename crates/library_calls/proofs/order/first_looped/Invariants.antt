use Rattle.std.proofs.Common.{◌≡◌, drop}
use Rattle.std.specs.Prelude.{find}
use Rattle.library_calls.specs.Calls.{is_looped}
use Rattle.library_calls.proofs.order.first_looped.Given as goal

abbrev pub invariant-loop-x : goal.invariant-loop-x
invariant-loop-x l = find (is_looped l.rows l.all) (drop l.x-index l.all) ≡ find (is_looped l.rows l.all) l.all
