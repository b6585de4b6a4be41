use Rattle.std.proofs.Common.{◌∙◌, sym}
use Rattle.fv_compose.proofs.LayoutLemmas.{spaced_own, spaced_after}
use Rattle.fv_compose.proofs.files.check_own_pad.Goals as goal

pub check_pad-requires-clause-after : goal.check_pad-requires-clause-after
check_pad-requires-clause-after c =
    let t = sym c.is_top.ensures ∙ c.if-is_top.false in
    spaced_after c.args.at c.args.start (rw c.requires.start (spaced_own c.args.at c.args.file.now c.requires.aligned t))
