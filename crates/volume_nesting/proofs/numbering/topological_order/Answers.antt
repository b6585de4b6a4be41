use Rattle.std.proofs.Common.{◌∙◌, ◌+◌, [], drop, ap, sym, subst, arith}
use Rattle.volume_nesting.specs.Numbering.{turns}
use Rattle.volume_nesting.specs.Turning.{Standing}
use Rattle.volume_nesting.proofs.TurnLemmas.{turn_taken, turn_stuck, turns_end}
use Rattle.volume_nesting.proofs.numbering.topological_order.Goals as goal

pub loop-nest-init : goal.loop-nest-init
loop-nest-init c = (
  subst (λ order. Standing c.args.nests.now order [] c.in_ok-turns.turns) (sym c.new-order.ensures) c.in_ok-turns.ensures,
  ap (turns c.args.nests.now c.args.nests.now) c.new-order.ensures,
)

pub loop-nest-preserved : goal.loop-nest-preserved
loop-nest-preserved c =
    let nests = c.args.nests.now in
    let order = c.loop-nest.order in
    let told = c.in-Some.ensures.some nests order c.loop-nest.invariant.0 in (
      subst (λ o. Standing nests o [] c.number.new.self) (sym c.in_ok-push.ensures.ok) (c.in_ok-number.ensures order told.1),
      ap (turns nests (drop (c.loop-nest._nest-index + 1) nests)) c.in_ok-push.ensures.ok
          ∙ sym (turn_taken nests order c.loop-nest._nest-index c.in-Some.volume c._nest-item.result c.loop-nest-test.true c._nest-item.is told.0) ∙ c.loop-nest.invariant.1,
    )

pub returns-in_default : goal.returns-in_default
returns-in_default c =
    sym (turn_stuck c.args.nests.now c.loop-nest.order _ (c.in_default.ensures.none c.args.nests.now c.loop-nest.order c.loop-nest.invariant.0)) ∙ c.loop-nest.invariant.1

pub returns : goal.returns
returns c = sym (turns_end c.args.nests.now c.loop-nest.order c.loop-nest._nest-index (omega arith)) ∙ c.loop-nest.invariant.1
