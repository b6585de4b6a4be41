use Rattle.std.proofs.Common.{arith, ◌∙◌, sym}
use Rattle.volume_reader.proofs.FindLemmas.{volume_here, volume_none}
use Rattle.volume_reader.proofs.find.find_volume.Goals as goal

pub returns-then-is_head-clause-value : goal.returns-then-is_head-clause-value
returns-then-is_head-clause-value c =
    volume_here c.args.bytes.now c.args.from c.loop-at.at c.loop-at.invariant.after (omega arith) c.loop-at.invariant.whole (sym c.is_head.ensures ∙ c.if-is_head.true) c.loop-at.invariant.none

pub returns-clause-value : goal.returns-clause-value
returns-clause-value c = volume_none c.args.bytes.now c.args.from c.loop-at.at (omega arith) c.loop-at.invariant.none
