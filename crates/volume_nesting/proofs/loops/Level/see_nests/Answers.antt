use Rattle.std.proofs.Common.{sym, subst, arith}
use Rattle.std.specs.List.{flat_map}
use Rattle.std.proofs.lemmas.List.{drop_all, drop_more}
use Rattle.volume_nesting.specs.Looping.{Saw}
use Rattle.volume_nesting.specs.Numbering.{nest_of}
use Rattle.volume_nesting.proofs.LoopLemmas.{saw_none, saw_both}
use Rattle.volume_nesting.proofs.loops.Level.see_nests.Goals as goal

pub loop-volume-init : goal.loop-volume-init
loop-volume-init c = λ last h. h

pub loop-volume-preserved : goal.loop-volume-preserved
loop-volume-preserved c = λ last h.
    c.loop-volume.invariant last
    (subst (λ xs. Saw (flat_map (nest_of c.args.nests.now) xs) c.loop-volume.self last) (sym (drop_more c.args.edge.now c.loop-volume.volume-index _ c.loop-volume-test.true))
    (saw_both _ _ _ _ _ (subst (λ xs. Saw xs c.loop-volume.self c.see_all.new.self) c.nest_of.ensures c.in_ok-see_all.ensures) h))

pub returns : goal.returns
returns c =
    c.loop-volume.invariant c.loop-volume.self
    (subst (λ xs. Saw (flat_map (nest_of c.args.nests.now) xs) c.loop-volume.self c.loop-volume.self) (sym (drop_all c.loop-volume.volume-index c.args.edge.now (omega arith))) (saw_none c.loop-volume.self))
