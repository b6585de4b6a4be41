use Rattle.std.proofs.Common.{length, ap, ◌∙◌, arith, length-append}
use Rattle.build_base.specs.Runs.{runs_bytes, run_bytes}
use Rattle.build_base.proofs.RunLemmas.{runs_more, kept_more, blank_more}
use Rattle.build_base.proofs.run_writer.RunWriter.append.Goals as goal

pub invariant_of-self-2 : goal.invariant_of-self-2
invariant_of-self-2 c =
    let runs = c.self.inside.runs in
    let r = runs_more runs c.args.run in
    let l = ap length r ∙ length-append (runs_bytes runs) (run_bytes c.args.run) in
    let b = blank_more runs c.args.run c.self.invariant.1 c.requires.blank in
    rw c.in_ok-push.ensures.ok (omega (arith, l, c.in-Some.ensures, c.requires.count, c.self.invariant.0), b, c.self.invariant.2)

pub returns-clause-bytes : goal.returns-clause-bytes
returns-clause-bytes c =
    let r = runs_more c.self.inside.runs c.args.run in rw (c.in_ok-push.ensures.ok, ← c.self.view_is) r

pub returns-clause-kept : goal.returns-clause-kept
returns-clause-kept c =
    let r = kept_more c.self.inside.runs c.args.run in rw (c.in_ok-push.ensures.ok, ← c.self.view_is) r
