-- One more entry.
use Rattle.std.proofs.Common.{inl, sym, ◌∙◌}
use Rattle.step_engine.proofs.Moves.{none_in}
use Rattle.step_engine.proofs.Joining.{joining_sorted}
use Rattle.step_engine.proofs.Listing.{left_here, left_more}
use Rattle.step_engine.proofs.Ending.{puts_only, puts_all, puts_done}
use Rattle.step_engine.proofs.in_order.put_all.Goals as goal

pub loop-entry-init : goal.loop-entry-init
loop-entry-init g c = record {
  only = λ e h. absurd (none_in e (rw c.new-cache.ensures at h));
  all = λ o e h. inl (rw c.into_iter-entry-iterator.ensures.into_iter_gives.0 h);
  sorted = rw c.new-cache.ensures tt;
  left = λ a h. rw (← c.into_iter-entry-iterator.ensures.into_iter_gives.0) h;
}

pub loop-entry-preserved : goal.loop-entry-preserved
loop-entry-preserved g c =
    let key = g.met.K.StepKey g.world.𝓛 g.world.𝓜 g.world.𝓡 ((λ s x. x), (λ x. x), (λ x. x), λ x. x) in
    let ord = g.met.K.Ord g.world.𝓛 g.world.𝓜 g.world.𝓡 ((λ s x. x), (λ x. x), (λ x. x), λ x. x) in
    let i = c.loop-entry.invariant in
    let here = left_here _ _ _ _ i.left c.in-Some.ensures.steps.0 in
    record {
      only = puts_only g.K.Ord.cmp _ _ _ _ here i.only c.in_ok-put_new.ensures;
      all = λ o. puts_all g.K.Ord.cmp key.same_key _ _ _ _ _ _ o here c.in-Some.ensures.steps.0 i.only (i.all o) c.in_ok-put_new.ensures;
      sorted = joining_sorted g.K.Ord.cmp ord.total _ _ _ i.sorted c.in_ok-put_new.ensures;
      left = left_more _ _ _ _ i.left c.in-Some.ensures.steps.0;
    }

pub returns-clause-same : goal.returns-clause-same
returns-clause-same g c = λ o.
    let rest = c.loop-entry.entry-iterator.rest in
    puts_done _ rest.items _ (sym rest.ok.0 ∙ c.in-None.ensures.steps.0) c.loop-entry.invariant.only (c.loop-entry.invariant.all o)
