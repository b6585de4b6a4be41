use Rattle.std.proofs.Common.{get_or, length, ◌∙◌, arith, refl, []}
use Rattle.std.proofs.lemmas.List.Sums.{sum_by-drop_more}
use Rattle.fd_regions.proofs.DeviceLemmas.{left_start, left_more, left_fits, left_end, left_small, same_part}
use Rattle.fd_regions.proofs.compose.image.Goals as goal

pub loop-i-init : goal.loop-i-init
loop-i-init g c = record {
  left =
      rw (c.new-out.ensures, c.requires.own)
      (left_start c.args.plan.now [] (g.C.Contents.contents c.args.parts.now) _ refl refl (rw c.requires.own at c.requires.checked));
  kept = rw c.new-out.ensures (omega arith);
}

pub put_region-requires-clause-after : goal.put_region-requires-clause-after
put_region-requires-clause-after g c =
    let parts = g.C.Contents.contents c.args.parts.now in
    let p = get_or parts c.loop-i.i [] in
    (left_fits _ _ _ _ _ c.loop-i.i c.args.regions.now parts c.index-regions-i.result p c.loop-i.invariant.left (omega arith) (omega arith) c.index-regions-i.is (same_part parts c.loop-i.i (omega arith))).after

pub put_region-requires-clause-fits : goal.put_region-requires-clause-fits
put_region-requires-clause-fits g c =
    let parts = g.C.Contents.contents c.args.parts.now in
    let p = get_or parts c.loop-i.i [] in
    (left_fits _ _ _ _ _ c.loop-i.i c.args.regions.now parts c.index-regions-i.result p c.loop-i.invariant.left (omega arith) (omega arith) c.index-regions-i.is (same_part parts c.loop-i.i (omega arith))).short

pub loop-i-preserved : goal.loop-i-preserved
loop-i-preserved g c =
    let parts = g.C.Contents.contents c.args.parts.now in
    let p = get_or parts c.loop-i.i [] in
    let f = same_part parts c.loop-i.i (omega arith) in
    let d = sum_by-drop_more length parts c.loop-i.i [] (omega arith) in
    record {
      left =
          rw c.in_ok-put_region.ensures.free
          (left_more _ _ _ _ _ _ c.loop-i.i c.args.regions.now parts c.index-regions-i.result p c.loop-i.invariant.left (omega arith) (omega arith) c.index-regions-i.is f c.in_ok-put_region.ensures.bytes);
      kept = omega (arith, d, c.in_ok-put_region.ensures.kept, c.loop-i.invariant.kept);
    }

pub overflow_sub-plan : goal.overflow_sub-plan
overflow_sub-plan g c = left_small _ _ _ _ _ _ _ c.loop-i.invariant.left

pub returns-clause-value : goal.returns-clause-value
returns-clause-value g c =
    c.finish.ensures.bytes ∙ c.in_ok-fill.ensures.bytes ∙ left_end _ _ _ _ _ c.loop-i.i c.args.regions.now (g.C.Contents.contents c.args.parts.now) c.loop-i.invariant.left (omega arith)
