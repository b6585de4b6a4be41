use Rattle.std.proofs.Common.{subst, arith}
use Rattle.std.specs.List.{All}
use Rattle.std.proofs.lemmas.List.{take_all}
use Rattle.dsc_platform.specs.FarPlaces.{IsMarked}
use Rattle.dsc_platform.proofs.FarLemmas.{marked_more}
use Rattle.dsc_platform.proofs.parent_doubling.ancestor_marks.Goals as goal

pub loop-place-preserved : goal.loop-place-preserved
loop-place-preserved c =
    marked_more c.args.far.now c.loop-place.place-index _ c.loop-place.marks.items c.mark.new.marks.items c.loop-place-test.true c.mark.ensures c.loop-place.invariant

pub returns : goal.returns
returns c = subst (All (IsMarked c.loop-place.marks.items)) (take_all c.loop-place.place-index c.args.far.now (omega (arith, c.loop-place-test.false))) c.loop-place.invariant
