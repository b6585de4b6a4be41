use Rattle.std.proofs.Common.{◌∙◌, sym, arith}
use Rattle.fv_compose.proofs.FileLemmas.{top_here, top_later, top_none}
use Rattle.fv_compose.proofs.files.top_of.Goals as goal

pub loop-file-preserved : goal.loop-file-preserved
loop-file-preserved c =
    c.loop-file.invariant ∙ top_later c.args.files.now c.loop-file.file-index c.file-item.result (omega arith) c.file-item.is (sym c.is_top.ensures ∙ c.if-is_top.false)

pub returns-then-is_top : goal.returns-then-is_top
returns-then-is_top c =
    sym (c.loop-file.invariant ∙ top_here c.args.files.now c.loop-file.file-index c.file-item.result (omega arith) c.file-item.is (sym c.is_top.ensures ∙ c.if-is_top.true))

pub returns : goal.returns
returns c = sym (c.loop-file.invariant ∙ top_none c.args.files.now c.loop-file.file-index (omega arith))
