use Rattle.std.proofs.Common.{subst, arith}
use Rattle.std.proofs.lemmas.List.{drop_all, drop_more}
use Rattle.volume_nesting.specs.Turning.{Standing}
use Rattle.volume_nesting.proofs.numbering.Sorter.settle_all.Goals as goal

pub loop-row-preserved : goal.loop-row-preserved
loop-row-preserved c = λ order h.
    c.in_ok-settle.ensures order _ (subst (λ rows. Standing c.args.nests.now order rows c.loop-row.self) (drop_more c.args.rows.now c.loop-row.row-index _ c.loop-row-test.true) (c.loop-row.invariant order h))

pub returns : goal.returns
returns c = λ order h. subst (λ rows. Standing c.args.nests.now order rows c.loop-row.self) (drop_all c.loop-row.row-index c.args.rows.now (omega arith)) (c.loop-row.invariant order h)
