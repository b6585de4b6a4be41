use Rattle.std.proofs.Common.{◌∙◌, arith}
use Rattle.build_base.proofs.AnswerLemmas.{answers_rest, refused_first}
use Rattle.ffs_sections.proofs.SizeLemmas.{ends_more, ends_none}
use Rattle.ffs_sections.proofs.sections.parts_end.Goals as goal

pub loop-part-preserved : goal.loop-part-preserved
loop-part-preserved c =
    (answers_rest _ _ _ _ (c.loop-part.invariant.0 ∙ ends_more c.args.ffs3 c.args.place.now c.loop-part.end c.args.parts.now c.loop-part.part-index c.part-item.result (omega arith) c.part-item.is) c.in-Ok.ensures.value, c.in-Ok.ensures.short)

pub returns-in-Err-clause-value : goal.returns-in-Err-clause-value
returns-in-Err-clause-value c =
    refused_first c.in-Err.refusal _ _ _ (c.loop-part.invariant.0 ∙ ends_more c.args.ffs3 c.args.place.now c.loop-part.end c.args.parts.now c.loop-part.part-index c.part-item.result (omega arith) c.part-item.is) c.in-Err.ensures.value

pub returns-clause-value : goal.returns-clause-value
returns-clause-value c = c.loop-part.invariant.0 ∙ ends_none c.args.ffs3 c.args.place.now c.loop-part.end c.args.parts.now c.loop-part.part-index (omega arith)
