use Rattle.std.proofs.Common.{◌+◌, get_or, drop, sym, ap, ◌∙◌, arith}
use Rattle.std.proofs.lemmas.List.{drop_all, drop_more}
use Rattle.depex_code.specs.Postfix.{trees, run, ready}
use Rattle.depex_code.proofs.PostfixBodies.{run-none}
use Rattle.depex_code.proofs.PostfixSound.{run-grows}
use Rattle.depex_code.proofs.postfix.run.Goals as goal

pub returns : goal.returns
returns c =
    let ts = trees c.loop-at.stack.items in
    (sym c.loop-at.invariant.runs ∙ ap (run (ready ts)) (drop_all c.loop-at.at c.args.bytes.now (omega arith)) ∙ run-none ts, omega (arith, c.loop-at.invariant.counts, c.loop-at.invariant.few))

pub returns-then-count-most : goal.returns-then-count-most
returns-then-count-most c = λ us e few.
    let ts = trees c.loop-at.stack.items in
    let first = ap (run (ready ts)) (drop_more c.args.bytes.now c.loop-at.at 0 (omega arith)) in
    let more = run-grows (get_or c.args.bytes.now c.loop-at.at 0) (drop (c.loop-at.at + 1) c.args.bytes.now) ts us (sym first ∙ c.loop-at.invariant.runs ∙ e) in
    absurd (omega (arith, more, few, c.loop-at.invariant.counts, c.if-count-most.true))
