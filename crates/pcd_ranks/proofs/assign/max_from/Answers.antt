use Rattle.std.proofs.Common.{◌+◌, Option, drop, map, sym, ap, ◌∙◌, arith}
use Rattle.std.specs.Option.{option_map}
use Rattle.pcd_ranks.specs.Assignments.{Assignment, max_height}
use Rattle.build_base.specs.Best.{best, over}
use Rattle.pcd_ranks.specs.Views.{given_view}
use Rattle.build_base.proofs.BestLemmas.{best_seen_more, best_seen_end}
use Rattle.pcd_ranks.proofs.assign.max_from.Goals as goal

pub loop-a-preserved : goal.loop-a-preserved
loop-a-preserved c =
    let rest = best max_height (map given_view (drop (c.loop-a.a-index + 1) c.args.all.now)) in
    ap (λ (h : Option Assignment). over max_height h rest) c.higher_max-held.ensures
    ∙ sym (best_seen_more max_height given_view c.args.all.now c.loop-a.a-index _ (option_map given_view c.loop-a.held) c.loop-a-test.true c.a-item.is)
    ∙ c.loop-a.invariant

pub returns : goal.returns
returns c = sym (best_seen_end max_height given_view c.args.all.now c.loop-a.a-index (option_map given_view c.loop-a.held) (omega (arith, c.loop-a-test.false))) ∙ c.loop-a.invariant
