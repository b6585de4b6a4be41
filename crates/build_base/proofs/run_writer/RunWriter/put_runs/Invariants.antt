use Rattle.std.proofs.Common.{drop}
use Rattle.build_base.proofs.RunLemmas.{Copied}
use Rattle.build_base.proofs.run_writer.RunWriter.put_runs.Given as goal

abbrev pub invariant-loop-run : goal.invariant-loop-run
invariant-loop-run l = Copied l.fn.self l.self l.runs (drop l.run-index l.runs)
