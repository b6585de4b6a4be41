use Rattle.std.proofs.Common.{arith, ap, length, refl, false}
use Rattle.build_base.specs.Pieces.{put_pieces}
use Rattle.build_base.specs.Runs.{free_byte}
use Rattle.fv_compose.proofs.FileLemmas.{top_low, length_top}
use Rattle.fv_compose.proofs.LengthLemmas.{holds_room}
use Rattle.fv_compose.proofs.files.put_top.Goals as goal

pub put_placed-requires-clause-near : goal.put_placed-requires-clause-near
put_placed-requires-clause-near c =
    let room = rw c.in-Some.is at c.requires.room in
    omega (arith, top_low (length c.args.out.now.bytes) c.in-Some.file.now c.args.size room)

pub returns-in-None-clause-bytes : goal.returns-in-None-clause-bytes
unfolding put_pieces
returns-in-None-clause-bytes c = rw c.in-None.is refl

pub returns-in-None-clause-len : goal.returns-in-None-clause-len
returns-in-None-clause-len c =
    let room = rw c.in-None.is at c.requires.room in
    let h = holds_room false (length c.args.out.now.bytes) c.args.size room in omega arith

pub returns-in_ok-put_placed-in-Some-clause-len : goal.returns-in_ok-put_placed-in-Some-clause-len
returns-in_ok-put_placed-in-Some-clause-len c =
    let room = rw c.in-Some.is at c.requires.room in
    let e = ap length c.bytes.ensures in
    let items = rw e at c.in_ok-put_placed-in-Some.ensures.bytes in
    let l = length_top (free_byte c.args.erase) c.args.erase c.args.out.now.bytes c.put_placed.new.out.bytes c.in-Some.file.now c.args.size room items in
    omega arith
