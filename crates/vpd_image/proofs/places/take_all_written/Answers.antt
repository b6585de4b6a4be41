use Rattle.std.proofs.Common.{sym, ◌∙◌, arith}
use Rattle.build_base.proofs.AnswerLemmas.{finds_first, finds_rest}
use Rattle.build_base.proofs.Steps.{map-passed}
use Rattle.vpd_image.specs.Tables.{placed_view}
use Rattle.vpd_image.proofs.PlaceLemmas.{overlap_step, overlap_end}
use Rattle.vpd_image.proofs.places.take_all_written.Goals as goal

pub loop-i-preserved : goal.loop-i-preserved
loop-i-preserved c =
    let step = overlap_step c.args.fixed.now c.loop-i.i c.index-fixed-i.result (omega arith) c.index-fixed-i.is in
    record {
      holds = rw (map-passed placed_view c.args.fixed.now c.loop-i.i c.index-fixed-i.result (omega arith) c.index-fixed-i.is) c.in_default.ensures.kept;
      left = sym (finds_rest _ _ _ step c.in_default.ensures.fault) ∙ c.loop-i.invariant.left;
    }

pub returns-in-Err : goal.returns-in-Err
returns-in-Err c =
    let step = overlap_step c.args.fixed.now c.loop-i.i c.index-fixed-i.result (omega arith) c.index-fixed-i.is in
    record { fault = finds_first c.in-Err.refusal _ _ _ (sym c.loop-i.invariant.left ∙ step) c.in-Err.ensures.fault; kept = tt }

pub returns-clause-fault : goal.returns-clause-fault
returns-clause-fault c = sym c.loop-i.invariant.left ∙ overlap_end c.args.fixed.now c.loop-i.i _ (omega arith)
