use Rattle.std.proofs.Common.{◌≡◌, ◌+◌, length, drop, ap, ◌∙◌, arith, length-append}
use Rattle.build_base.specs.Runs.{runs_bytes, run_bytes}
use Rattle.build_base.proofs.RunLemmas.{runs_left, runs_end}
use Rattle.build_base.proofs.image.total.Goals as goal

turn : (c : goal.After-length-size) → length (runs_bytes (drop c.loop-run.run-index c.args.runs.now)) ≡ length (run_bytes c.run-item.result) + length (runs_bytes (drop (c.loop-run.run-index + 1) c.args.runs.now))
turn c =
    ap length (runs_left c.args.runs.now c.loop-run.run-index c.run-item.result (omega arith) c.run-item.is)
    ∙ length-append (run_bytes c.run-item.result) (runs_bytes (drop (c.loop-run.run-index + 1) c.args.runs.now))

pub overflow_add-size : goal.overflow_add-size
overflow_add-size c = omega (arith, turn c, c.loop-run.invariant, c.length-size.ensures)

pub loop-run-preserved : goal.loop-run-preserved
loop-run-preserved c = omega (arith, turn c, c.loop-run.invariant, c.length-size.ensures)

pub returns : goal.returns
returns c =
    let e = ap length (runs_end c.args.runs.now c.loop-run.run-index (omega arith)) in omega (arith, e, c.loop-run.invariant)
