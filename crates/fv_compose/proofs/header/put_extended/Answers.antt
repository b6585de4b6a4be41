use Rattle.std.proofs.Common.{length, ap, arith}
use Rattle.std.proofs.lemmas.Grind.{common_steps}
use Rattle.fv_compose.proofs.HeaderLemmas.{extended_length}
use Rattle.fv_compose.proofs.header.put_extended.Goals as goal

pub returns-clause-length : goal.returns-clause-length
returns-clause-length c =
    let name = c.told-name in
    let e = ap length c.in_ok-put_extended_file.ensures in
    let l = extended_length c.args.erase c.args.name.now in grind (arith, common_steps)
