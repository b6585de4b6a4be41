use Rattle.std.proofs.Common.{◌≡◌, ◌+◌, ◌-◌, length, subst, suc, arith, []}
use Rattle.volume_nesting.specs.Turning.{Standing, unseen}
use Rattle.volume_nesting.proofs.TurnLemmas.{begun, unseen_next}
use Rattle.volume_nesting.proofs.numbering.Sorter.begin.Goals as goal

pub loop-volume-init : goal.loop-volume-init
loop-volume-init c =
    let n : length c.args.nests.now ≡ length c.args.nests.now - 0 = omega arith in
    subst (λ m. Standing c.args.nests.now [] (unseen 0 m) (record { alloc = c.args.alloc; numbered = c.new.result; ready = c.new-2.result; waiting = c.new-3.result })) n
    (begun c.args.nests.now _ c.new.ensures.empty c.new-2.ensures.empty c.new-3.ensures.empty)

pub loop-volume-preserved : goal.loop-volume-preserved
loop-volume-preserved c =
    let more : length c.args.nests.now - c.loop-volume.volume ≡ suc (length c.args.nests.now - (c.loop-volume.volume + 1)) = omega arith in
    c.in_ok-settle.ensures [] _ (unseen_next c.args.nests.now c.loop-volume.volume _ _ c.loop-volume.turns more c.loop-volume.invariant)

pub returns : goal.returns
returns c =
    let none : length c.args.nests.now - c.loop-volume.volume ≡ 0 = omega arith in
    subst (λ m. Standing c.args.nests.now [] (unseen c.loop-volume.volume m) c.loop-volume.turns) none c.loop-volume.invariant
