use Rattle.std.proofs.Common.{◌≡◌, drop}
use Rattle.macro_conditions.specs.Sources.{answer}
use Rattle.macro_conditions.proofs.known.answer.Given as goal

abbrev pub invariant-loop-entry : goal.invariant-loop-entry
invariant-loop-entry l = answer (drop l.entry-index l.known) l.path ≡ answer l.known l.path
