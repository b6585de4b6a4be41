use Rattle.std.proofs.Common.{◌≡◌, ◌+◌, [], length, sym, ◌∙◌, arith}
use Rattle.build_base.specs.Runs.{run_bytes}
use Rattle.build_base.proofs.RunLemmas.{runs_left, runs_end, blank_left, runs_tail, blank_tail}
use Rattle.build_base.proofs.pieces.first_of.Goals as goal

pub of-front-requires : goal.of-front-requires
of-front-requires c =
    (blank_left c.args.runs.now c.loop-i.i c.index-runs-i.result (omega arith) c.index-runs-i.is c.loop-i.invariant.blank).0

pub returns-then-not-is_empty-clause-whole : goal.returns-then-not-is_empty-clause-whole
returns-then-not-is_empty-clause-whole c =
    let t = runs_tail c.args.runs.now (c.loop-i.i + 1) in
    let l = runs_left c.args.runs.now c.loop-i.i c.index-runs-i.result (omega arith) c.index-runs-i.is in
    rw (t, c.of-front.ensures) (sym l ∙ c.loop-i.invariant.whole)

pub returns-then-not-is_empty-clause-blank : goal.returns-then-not-is_empty-clause-blank
returns-then-not-is_empty-clause-blank c =
    blank_tail c.args.runs.now (c.loop-i.i + 1) (blank_left c.args.runs.now c.loop-i.i c.index-runs-i.result (omega arith) c.index-runs-i.is c.loop-i.invariant.blank).1

pub loop-i-preserved : goal.loop-i-preserved
loop-i-preserved c =
    let l = runs_left c.args.runs.now c.loop-i.i c.index-runs-i.result (omega arith) c.index-runs-i.is in
    let f = c.of-front.ensures in
    let e = c.is_empty.ensures in
    let n : run_bytes c.index-runs-i.result ≡ [] = sym f ∙ e.0 c.if-not-is_empty.false in
    record { whole = sym (rw n at l) ∙ c.loop-i.invariant.whole; blank = (blank_left c.args.runs.now c.loop-i.i c.index-runs-i.result (omega arith) c.index-runs-i.is c.loop-i.invariant.blank).1 }

pub returns-clause-some : goal.returns-clause-some
returns-clause-some c = λ e. runs_tail c.args.runs.now (length c.args.runs.now) ∙ runs_end c.args.runs.now (length c.args.runs.now) (omega arith)
