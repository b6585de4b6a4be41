use Rattle.std.proofs.Common.{length, ap, arith}
use Rattle.std.proofs.lemmas.Grind.{common_steps}
use Rattle.fv_compose.proofs.PadLemmas.{length_pad, pad_room, pad_head_short}
use Rattle.fv_compose.proofs.pad.put_pad.Goals as goal

pub put_headed-requires-clause-least : goal.put_headed-requires-clause-least
put_headed-requires-clause-least c = pad_room c.args.size c.requires.least

pub returns-clause-len : goal.returns-clause-len
returns-clause-len c =
    let l = length_pad c.args.erase c.args.size c.requires.least in
    let e = ap length c.in_ok-put_headed.ensures.bytes in grind (arith, common_steps)

pub returns-clause-kept : goal.returns-clause-kept
returns-clause-kept c = omega (arith, c.in_ok-put_headed.ensures.kept, pad_head_short c.args.size)
