use Rattle.std.proofs.Common.{◌≡◌, ◌++◌, length, map}
use Rattle.library_choice.specs.Choices.{call_of}
use Rattle.library_choice.proofs.callers.push_calls.Given as goal

abbrev pub invariant-loop-left : goal.invariant-loop-left
invariant-loop-left l = l.calls ++ map (call_of l.inf) l.left ≡ l.fn.calls ++ map (call_of l.inf) l.names

abbrev pub decreases-loop-left : goal.decreases-loop-left
decreases-loop-left l = length l.left
