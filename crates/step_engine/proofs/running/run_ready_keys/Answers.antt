-- All keys that are able to go on do.
use Rattle.std.proofs.Common.{refl, ◌∙◌}
use Rattle.step_engine.specs.Table.{place_at}
use Rattle.step_engine.specs.Standing.{setting_of, state_of}
use Rattle.step_engine.proofs.Ending.{counts_wanting}
use Rattle.step_engine.proofs.ScanLemmas.{able_ready, able_items, visit_noted, visited}
use Rattle.step_engine.proofs.VisitLemmas.{visit_acts, visit_whole, visit_met, entered_opened, not_empty, puts_same}
use Rattle.step_engine.proofs.UneditedLemmas.{unedited_none}
use Rattle.step_engine.proofs.running.run_ready_keys.Goals as goal

pub returns-in_err-able-clause-notes : goal.returns-in_err-able-clause-notes
returns-in_err-able-clause-notes g c =
    let s = setting_of g.R.Rules.means c.args.fixed.now (g.T.Tree.held c.args.tree.now) in
    let y = state_of g.R.Key.Ord.cmp c.args.progress.now c.args.book.now (g.T.Tree.reads c.args.tree.now) in
    let laws = g.met.R.Rules g.world.𝓛 g.world.𝓜 g.world.𝓡 ((λ s x. x), (λ x. x), (λ x. x), λ x. x) in
    λ top x q w. c.take_able.ensures.noted s y laws.lawful refl refl c.requires.ready c.requires.items top x q w

pub round-requires-clause-ready : goal.round-requires-clause-ready
round-requires-clause-ready g c =
    let s = setting_of g.R.Rules.means c.args.fixed.now (g.T.Tree.held c.args.tree.now) in
    let y = state_of g.R.Key.Ord.cmp c.args.progress.now c.args.book.now (g.T.Tree.reads c.args.tree.now) in
    let laws = g.met.R.Rules g.world.𝓛 g.world.𝓜 g.world.𝓡 ((λ s x. x), (λ x. x), (λ x. x), λ x. x) in
    λ κs q. able_ready g.R.Key.Ord.cmp s laws.lawful y (place_at g.R.Key.Ord.cmp c.args.progress.now.places) c.requires.ready c.args.pool.now c.take_able.new.pool c.requires.items c.take_able.new.book (place_at g.R.Key.Ord.cmp c.take_able.new.places) c.in_ok-able.able.items c.in_ok-able.ensures.ok c.in_ok-able.ensures.held

pub round-requires-clause-items : goal.round-requires-clause-items
round-requires-clause-items g c =
    let s = setting_of g.R.Rules.means c.args.fixed.now (g.T.Tree.held c.args.tree.now) in
    let y = state_of g.R.Key.Ord.cmp c.args.progress.now c.args.book.now (g.T.Tree.reads c.args.tree.now) in
    let laws = g.met.R.Rules g.world.𝓛 g.world.𝓜 g.world.𝓡 ((λ s x. x), (λ x. x), (λ x. x), λ x. x) in
    λ κs q. able_items g.R.Key.Ord.cmp s laws.lawful y (place_at g.R.Key.Ord.cmp c.args.progress.now.places) c.requires.ready c.args.pool.now c.take_able.new.pool c.requires.items c.take_able.new.book (place_at g.R.Key.Ord.cmp c.take_able.new.places) c.in_ok-able.able.items c.in_ok-able.ensures.ok c.in_ok-able.ensures.held

pub returns-clause-ok : goal.returns-clause-ok
returns-clause-ok g c =
    let s = setting_of g.R.Rules.means c.args.fixed.now (g.T.Tree.held c.args.tree.now) in
    let y = state_of g.R.Key.Ord.cmp c.args.progress.now c.args.book.now (g.T.Tree.reads c.args.tree.now) in
    let laws = g.met.R.Rules g.world.𝓛 g.world.𝓜 g.world.𝓡 ((λ s x. x), (λ x. x), (λ x. x), λ x. x) in
    visited g.R.Key.Ord.cmp s laws.lawful y (place_at g.R.Key.Ord.cmp c.args.progress.now.places) c.requires.ready c.args.pool.now c.take_able.new.pool c.requires.items c.take_able.new.book (place_at g.R.Key.Ord.cmp c.take_able.new.places) c.in_ok-able.able.items c.in_ok-able.ensures.ok c.in_ok-able.ensures.held (state_of g.R.Key.Ord.cmp c.round.new.progress c.round.new.book (g.T.Tree.reads c.round.new.tree)) (place_at g.R.Key.Ord.cmp c.round.new.progress.places) c.in_ok-left.left.items c.in_ok-left.ensures.ok c.put_back.new.pool c.in_ok-put_back.ensures.among

pub returns-in_err-left-clause-notes : goal.returns-in_err-left-clause-notes
returns-in_err-left-clause-notes g c =
    let s = setting_of g.R.Rules.means c.args.fixed.now (g.T.Tree.held c.args.tree.now) in
    let y = state_of g.R.Key.Ord.cmp c.args.progress.now c.args.book.now (g.T.Tree.reads c.args.tree.now) in
    let laws = g.met.R.Rules g.world.𝓛 g.world.𝓜 g.world.𝓡 ((λ s x. x), (λ x. x), (λ x. x), λ x. x) in
    visit_noted g.R.Key.Ord.cmp s laws.lawful y (place_at g.R.Key.Ord.cmp c.args.progress.now.places) c.requires.ready c.args.pool.now c.take_able.new.pool c.requires.items c.take_able.new.book (place_at g.R.Key.Ord.cmp c.take_able.new.places) c.in_ok-able.able.items c.in_ok-able.ensures.ok c.in_ok-able.ensures.held (state_of g.R.Key.Ord.cmp c.round.new.progress c.round.new.book (g.T.Tree.reads c.round.new.tree)) c.round.ensures.notes

pub returns-in_err-put_back-clause-notes : goal.returns-in_err-put_back-clause-notes
returns-in_err-put_back-clause-notes g c =
    let s = setting_of g.R.Rules.means c.args.fixed.now (g.T.Tree.held c.args.tree.now) in
    let y = state_of g.R.Key.Ord.cmp c.args.progress.now c.args.book.now (g.T.Tree.reads c.args.tree.now) in
    let laws = g.met.R.Rules g.world.𝓛 g.world.𝓜 g.world.𝓡 ((λ s x. x), (λ x. x), (λ x. x), λ x. x) in
    visit_noted g.R.Key.Ord.cmp s laws.lawful y (place_at g.R.Key.Ord.cmp c.args.progress.now.places) c.requires.ready c.args.pool.now c.take_able.new.pool c.requires.items c.take_able.new.book (place_at g.R.Key.Ord.cmp c.take_able.new.places) c.in_ok-able.able.items c.in_ok-able.ensures.ok c.in_ok-able.ensures.held (state_of g.R.Key.Ord.cmp c.round.new.progress c.round.new.book (g.T.Tree.reads c.round.new.tree)) c.round.ensures.notes

pub returns-clause-notes : goal.returns-clause-notes
returns-clause-notes g c =
    let s = setting_of g.R.Rules.means c.args.fixed.now (g.T.Tree.held c.args.tree.now) in
    let y = state_of g.R.Key.Ord.cmp c.args.progress.now c.args.book.now (g.T.Tree.reads c.args.tree.now) in
    let laws = g.met.R.Rules g.world.𝓛 g.world.𝓜 g.world.𝓡 ((λ s x. x), (λ x. x), (λ x. x), λ x. x) in
    visit_noted g.R.Key.Ord.cmp s laws.lawful y (place_at g.R.Key.Ord.cmp c.args.progress.now.places) c.requires.ready c.args.pool.now c.take_able.new.pool c.requires.items c.take_able.new.book (place_at g.R.Key.Ord.cmp c.take_able.new.places) c.in_ok-able.able.items c.in_ok-able.ensures.ok c.in_ok-able.ensures.held (state_of g.R.Key.Ord.cmp c.round.new.progress c.round.new.book (g.T.Tree.reads c.round.new.tree)) c.round.ensures.notes

pub returns-in_err-able-clause-held : goal.returns-in_err-able-clause-held
returns-in_err-able-clause-held g c = refl

pub returns-in_err-left-clause-held : goal.returns-in_err-left-clause-held
returns-in_err-left-clause-held g c = c.round.ensures.held

pub returns-in_err-put_back-clause-held : goal.returns-in_err-put_back-clause-held
returns-in_err-put_back-clause-held g c = c.round.ensures.held

pub returns-clause-held : goal.returns-clause-held
returns-clause-held g c = c.round.ensures.held

pub returns-in_err-able-clause-count : goal.returns-in_err-able-clause-count
returns-in_err-able-clause-count g c = counts_wanting c.from_residual.result _ _ c.from_residual.ensures.1 refl

pub returns-in_err-put_back-clause-count : goal.returns-in_err-put_back-clause-count
returns-in_err-put_back-clause-count g c = counts_wanting c.from_residual-in_err-put_back.result _ _ c.from_residual-in_err-put_back.ensures.1 c.in_ok-left.ensures.count

pub returns-clause-count : goal.returns-clause-count
returns-clause-count g c = c.in_ok-left.ensures.count

pub returns-clause-forward : goal.returns-clause-forward
returns-clause-forward g c = λ whole entered.
    let w = c.in_ok-able.ensures.parts whole in
    let e = c.in_ok-left.ensures.entered (entered_opened g.R.Key.Ord.cmp g.R.Rules.means.rank _ _ c.take_able.new.pool c.in_ok-able.able.items _ w entered) in
    let f = c.in_ok-left.ensures.ok.ready.finds in
    let put = puts_same g.R.Key.Ord.cmp c.in_ok-left.left.items c.round.new.progress.fresh.items c.take_able.new.pool c.put_back.new.pool _ _ (c.len-first.ensures ∙ c.args.progress.now.fresh.ok.0) c.in_ok-put_back.ensures.all in
    record {
      whole = visit_whole g.R.Key.Ord.cmp g.R.Rules.means.rank _ _ _ c.take_able.new.pool c.put_back.new.pool c.in_ok-able.able.items c.in_ok-left.left.items _ _ w c.in_ok-left.ensures.goes f e put;
      entered = e;
      met = visit_met g.R.Key.Ord.cmp g.R.Rules.means.rank _ _ _ c.take_able.new.pool c.put_back.new.pool c.in_ok-able.able.items c.in_ok-left.left.items _ _ w c.in_ok-left.ensures.goes f e put;
      acts = visit_acts g.R.Key.Ord.cmp g.R.Rules.means.rank _ _ c.take_able.new.pool c.in_ok-able.able.items w _ _ _ c.count_act.ensures.grows (λ h. c.count_act.ensures.counts (not_empty _ _ _ c.take_able.new.pool.news.ok.0 c.is_empty.ensures h)) c.in_ok-left.ensures.acts;
    }

pub returns-in_err-able-clause-unedited : goal.returns-in_err-able-clause-unedited
returns-in_err-able-clause-unedited g c = unedited_none _ _

pub returns-in_err-left-clause-unedited : goal.returns-in_err-left-clause-unedited
returns-in_err-left-clause-unedited g c = c.round.ensures.unedited

pub returns-in_err-put_back-clause-unedited : goal.returns-in_err-put_back-clause-unedited
returns-in_err-put_back-clause-unedited g c = c.round.ensures.unedited

pub returns-clause-unedited : goal.returns-clause-unedited
returns-clause-unedited g c = c.round.ensures.unedited
