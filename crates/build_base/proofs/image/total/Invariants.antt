use Rattle.std.proofs.Common.{◌≡◌, ◌+◌, length, drop}
use Rattle.build_base.specs.Runs.{runs_bytes}
use Rattle.build_base.proofs.image.total.Given as goal

abbrev pub invariant-loop-run : goal.invariant-loop-run
invariant-loop-run l = length (runs_bytes l.runs) ≡ l.size + length (runs_bytes (drop l.run-index l.runs))
