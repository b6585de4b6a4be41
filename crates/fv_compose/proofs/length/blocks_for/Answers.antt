use Rattle.std.proofs.Common.{sym, arith}
use Rattle.fv_compose.proofs.LengthLemmas.{blocks_zero, blocks_none, blocks_some, length_is}
use Rattle.fv_compose.proofs.length.blocks_for.Goals as goal

pub returns-then-block-eq0-clause-value : goal.returns-then-block-eq0-clause-value
returns-then-block-eq0-clause-value c = sym (blocks_zero c.args.block c.args.top c.args.taken c.if-block-eq0.true c.requires.some)

pub returns-then-size-clause-value : goal.returns-then-size-clause-value
returns-then-size-clause-value c =
    sym (blocks_none c.args.block c.args.top c.args.taken c.least_length-size.result c.least_length-size.ensures.least (omega arith))

pub returns-clause-value : goal.returns-clause-value
returns-clause-value c =
    sym (blocks_some c.args.block c.args.top c.args.taken c.least_length-size.result c.least_length-size.ensures.least (omega arith))

pub returns-clause-length : goal.returns-clause-length
returns-clause-length c =
    length_is c.args.block c.args.top c.args.taken c.least_length-size.result c.requires.some c.least_length-size.ensures.least.holds.room (omega arith) c.least_length-size.ensures.least.holds.whole
