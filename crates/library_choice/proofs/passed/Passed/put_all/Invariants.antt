use Rattle.std.proofs.Common.{◌≡◌, nat_eq, drop}
use Rattle.library_choice.specs.Found.{add}
use Rattle.library_choice.proofs.passed.Passed.put_all.Given as goal

abbrev pub invariant-loop-place : goal.invariant-loop-place
invariant-loop-place l = add nat_eq l.self (drop l.place-index l.places) ≡ add nat_eq l.fn.self l.places
