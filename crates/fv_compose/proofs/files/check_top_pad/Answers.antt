use Rattle.std.proofs.Common.{arith, ap, length}
use Rattle.fv_compose.proofs.FileLemmas.{top_spaced, top_low}
use Rattle.fv_compose.proofs.files.check_top_pad.Goals as goal

pub check_pad-requires-clause-near : goal.check_pad-requires-clause-near
check_pad-requires-clause-near c =
    let room = rw c.in-Some.is at c.requires.room in
    omega (arith, top_low c.args.at c.in-Some.file.now c.args.size room)

pub check_pad-requires-clause-after : goal.check_pad-requires-clause-after
check_pad-requires-clause-after c =
    let room = rw c.in-Some.is at c.requires.room in
    omega (arith, (top_spaced c.args.at c.in-Some.file.now c.args.size room).0, ap length c.bytes.ensures)
