use Rattle.std.proofs.Common.{◌≡◌, take}
use Rattle.library_choice.specs.Reaching.{caller_places}
use Rattle.library_choice.proofs.reach.caller_places.Given as goal

abbrev pub invariant-loop-caller : goal.invariant-loop-caller
invariant-loop-caller l = l.places ≡ caller_places l.found (take l.caller-index l.callers)
