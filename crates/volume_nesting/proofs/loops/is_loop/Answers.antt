use Rattle.std.proofs.Common.{◌∙◌, arith}
use Rattle.volume_nesting.proofs.LoopLemmas.{loop_seen, loop_ended}
use Rattle.volume_nesting.proofs.loops.is_loop.Goals as goal

pub loop-nest-init : goal.loop-nest-init
loop-nest-init c = c.in_ok-level.ensures

pub loop-nest-preserved : goal.loop-nest-preserved
loop-nest-preserved c = c.in_ok-step.ensures c.args.volume c.loop-nest._nest-index c.loop-nest.invariant

pub returns-then-is_ended : goal.returns-then-is_ended
returns-then-is_ended c =
    c.contains.ensures
    ∙ loop_ended c.args.nests.now c.args.volume c.loop-nest._nest-index c.loop-nest.level c.loop-nest.invariant (c.is_ended.ensures c.if-is_ended.true) (omega arith)

pub returns : goal.returns
returns c = c.contains-2.ensures ∙ loop_seen c.args.nests.now c.args.volume c.loop-nest._nest-index c.loop-nest.level c.loop-nest.invariant (omega arith)
