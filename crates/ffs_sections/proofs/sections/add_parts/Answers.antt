use Rattle.std.proofs.Common.{◌∙◌, arith}
use Rattle.build_base.proofs.AnswerLemmas.{answers_rest, refused_first}
use Rattle.ffs_sections.proofs.PartLemmas.{parts_more, parts_end}
use Rattle.ffs_sections.proofs.sections.add_parts.Goals as goal

pub loop-part-preserved : goal.loop-part-preserved
loop-part-preserved c =
    answers_rest _ _ _ _ (c.loop-part.invariant ∙ parts_more c.args.ffs3 c.args.place.now c.loop-part.out.items c.args.parts.now c.loop-part.part-index c.part-item.result (omega arith) c.part-item.is) c.in-Ok.ensures

pub returns-in-Err : goal.returns-in-Err
returns-in-Err c =
    refused_first c.in-Err.refusal _ _ _ (c.loop-part.invariant ∙ parts_more c.args.ffs3 c.args.place.now c.loop-part.out.items c.args.parts.now c.loop-part.part-index c.part-item.result (omega arith) c.part-item.is) c.in-Err.ensures

pub returns : goal.returns
returns c = c.loop-part.invariant ∙ parts_end c.args.ffs3 c.args.place.now c.loop-part.out.items c.args.parts.now c.loop-part.part-index (omega arith)
