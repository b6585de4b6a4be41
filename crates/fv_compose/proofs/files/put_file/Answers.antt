use Rattle.std.proofs.Common.{◌∙◌, sym, length}
use Rattle.fv_compose.proofs.FileLemmas.{own_none}
use Rattle.fv_compose.proofs.LayoutLemmas.{spaced_own}
use Rattle.fv_compose.proofs.files.put_file.Goals as goal

pub returns-then-is_top-clause-bytes : goal.returns-then-is_top-clause-bytes
returns-then-is_top-clause-bytes c = sym (own_none _ c.args.erase c.args.out.now.bytes c.args.file.now (sym c.is_top.ensures ∙ c.if-is_top.true))

pub put_placed-requires-clause-room : goal.put_placed-requires-clause-room
put_placed-requires-clause-room c =
    let t = sym c.is_top.ensures ∙ c.if-is_top.false in rw c.requires.start (spaced_own (length c.args.out.now.bytes) c.args.file.now c.requires.aligned t)
