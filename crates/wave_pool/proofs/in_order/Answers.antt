-- One more result.
use Rattle.std.proofs.Common.{sym, ◌∙◌}
use Rattle.wave_pool.proofs.Zip.{working_none, working_more, working_item, working_all}
use Rattle.wave_pool.proofs.in_order.Goals as goal

pub loop-item-init : goal.loop-item-init
loop-item-init g c = working_none _ _ _ _ c.into_iter-item-iterator.ensures.into_iter_gives.0 c.new-results.ensures.items

pub work_on-requires : goal.work_on-requires
work_on-requires g c = working_item (goal.F-pre g c.args.work.now) _ _ _ _ _ _ c.requires.callable c.loop-item.invariant c.in-Some.ensures.steps.0

pub loop-item-preserved : goal.loop-item-preserved
loop-item-preserved g c =
    let more = c.in_ok-work_on.ensures in
    working_more _ _ _ _ _ _ _ _ c.loop-item.invariant c.in-Some.ensures.steps.0 more.1 more.2

pub returns : goal.returns
returns g c =
    let rest = c.loop-item.item-iterator.rest in
    working_all _ _ _ _ c.loop-item.invariant (sym rest.ok.0 ∙ c.in-None.ensures.steps.0)
