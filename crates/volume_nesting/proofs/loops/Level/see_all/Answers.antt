use Rattle.std.proofs.Common.{sym, subst, arith}
use Rattle.std.proofs.lemmas.List.{drop_all, drop_more}
use Rattle.volume_nesting.specs.Looping.{Saw}
use Rattle.volume_nesting.proofs.LoopLemmas.{saw_none, saw_both}
use Rattle.volume_nesting.proofs.loops.Level.see_all.Goals as goal

pub loop-volume-init : goal.loop-volume-init
loop-volume-init c = λ last h. h

pub loop-volume-preserved : goal.loop-volume-preserved
loop-volume-preserved c = λ last h.
    c.loop-volume.invariant last
    (subst (λ xs. Saw xs c.loop-volume.self last) (sym (drop_more c.args.volumes.now c.loop-volume.volume-index _ c.loop-volume-test.true)) (saw_both _ _ _ _ _ c.in_ok-see.ensures h))

pub returns : goal.returns
returns c =
    c.loop-volume.invariant c.loop-volume.self
    (subst (λ xs. Saw xs c.loop-volume.self c.loop-volume.self) (sym (drop_all c.loop-volume.volume-index c.args.volumes.now (omega arith))) (saw_none c.loop-volume.self))
