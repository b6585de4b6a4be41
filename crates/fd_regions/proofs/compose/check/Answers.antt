use Rattle.std.proofs.Common.{◌∙◌, get_or, [], arith}
use Rattle.build_base.proofs.AnswerLemmas.{finds_first, finds_rest}
use Rattle.fd_regions.proofs.DeviceLemmas.{fault_more, fault_end, same_part}
use Rattle.fd_regions.proofs.compose.check.Goals as goal

pub loop-i-preserved : goal.loop-i-preserved
loop-i-preserved g c =
    let parts = g.C.Contents.contents c.args.parts.now in
    let p = get_or parts c.loop-i.i [] in
    let m = c.loop-i.invariant ∙ fault_more c.args.size c.loop-i.at c.args.regions.now parts c.loop-i.i c.index-regions-i.result p (omega arith) (omega arith) c.index-regions-i.is (same_part parts c.loop-i.i (omega arith)) in
    finds_rest _ _ _ m (rw c.length.ensures at c.in_default.ensures.fault)

pub returns-in-Err : goal.returns-in-Err
returns-in-Err g c =
    let parts = g.C.Contents.contents c.args.parts.now in
    let p = get_or parts c.loop-i.i [] in
    let m = c.loop-i.invariant ∙ fault_more c.args.size c.loop-i.at c.args.regions.now parts c.loop-i.i c.index-regions-i.result p (omega arith) (omega arith) c.index-regions-i.is (same_part parts c.loop-i.i (omega arith)) in
    finds_first c.in-Err.refusal _ _ _ m (rw c.length.ensures at c.in-Err.ensures.fault)

pub returns : goal.returns
returns g c = c.loop-i.invariant ∙ fault_end c.args.size c.loop-i.at c.loop-i.i c.args.regions.now _ (omega arith)
