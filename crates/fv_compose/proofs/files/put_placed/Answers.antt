use Rattle.std.proofs.Common.{length, ap, arith}
use Rattle.std.proofs.lemmas.Grind.{common_steps}
use Rattle.fv_compose.proofs.files.put_placed.Goals as goal

pub put_at-requires-2 : goal.put_at-requires-2
put_at-requires-2 c =
    let p = c.in_ok-put_pad.ensures.len in
    let f = ap length c.in_ok-fill.ensures.bytes in grind (arith, common_steps)
