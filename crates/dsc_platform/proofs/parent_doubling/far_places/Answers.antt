use Rattle.std.proofs.Common.{◌∙◌, map, sym, ap, subst}
use Rattle.dsc_platform.specs.FarPlaces.{behind, IsFar}
use Rattle.dsc_platform.proofs.FarLemmas.{far_twice}
use Rattle.dsc_platform.proofs.parent_doubling.far_places.Goals as goal

pub loop-left-preserved : goal.loop-left-preserved
loop-left-preserved c =
    subst (IsFar c.args.parents.now) (sym (c.in_ok-far-2.ensures ∙ ap (λ far. map (behind far) far) c.as_slice.ensures.value))
    (far_twice c.args.parents.now c.loop-left.far.items c.loop-left.invariant)
