use Rattle.std.proofs.Common.{◌++◌, ◌∙◌, arith, ap, sym, append-nil}
use Rattle.build_base.proofs.RunLemmas.{blank_left, copied_more, runs_end}
use Rattle.build_base.proofs.run_writer.RunWriter.put_runs.Goals as goal

pub append-requires-clause-blank : goal.append-requires-clause-blank
append-requires-clause-blank c =
    rw c.in_ok-copy.ensures (blank_left c.args.runs.now c.loop-run.run-index c.run-item.result (omega arith) c.run-item.is c.loop-run.invariant.blank).0

pub loop-run-preserved : goal.loop-run-preserved
loop-run-preserved c =
    copied_more _ c.loop-run.self c.append.new.self c.args.runs.now c.loop-run.run-index c.run-item.result _ c.loop-run.invariant (omega arith) c.run-item.is c.in_ok-copy.ensures
    c.in_ok-append.ensures.bytes c.in_ok-append.ensures.kept c.in_ok-append.ensures.free

pub returns-clause-bytes : goal.returns-clause-bytes
returns-clause-bytes c =
    let e = runs_end c.args.runs.now c.loop-run.run-index (omega arith) in
    sym (ap (λ z. c.loop-run.self.bytes ++ z) e ∙ append-nil c.loop-run.self.bytes) ∙ c.loop-run.invariant.bytes
