-- The key has its outcome.
use Rattle.std.proofs.Common.{refl}
use Rattle.step_engine.specs.Table.{place_at}
use Rattle.step_engine.specs.Standing.{setting_of, state_of}
use Rattle.step_engine.proofs.Ending.{counts_wanting, begun, ready_none, kept_none, one_each, end_of}
use Rattle.step_engine.proofs.AgreeLemmas.{made_agree}
use Rattle.step_engine.proofs.brought.reach.Goals as goal

pub run_to_end-requires-clause-ready : goal.run_to_end-requires-clause-ready
run_to_end-requires-clause-ready g c =
    let s = setting_of g.R.Rules.means c.args.fixed.now (g.T.Tree.held c.args.tree.now) in
    let x = state_of g.R.Key.Ord.cmp c.new-progress.result c.args.book.now (g.T.Tree.reads c.args.tree.now) in
    λ κs q. ready_none s x g.R.Key.Ord.cmp c.new-progress.result.places (kept_none s g.R.Key.Ord.cmp _ _ _ _ c.new-progress.ensures.fresh c.new-progress.ensures.files c.new-progress.ensures.compared) c.new-progress.ensures.places

pub in_order-requires-after_bounds : goal.in_order-requires-after_bounds
in_order-requires-after_bounds g c =
    let s = setting_of g.R.Rules.means c.args.fixed.now (g.T.Tree.held c.args.tree.now) in
    let x = state_of g.R.Key.Ord.cmp c.new-progress.result c.args.book.now (g.T.Tree.reads c.args.tree.now) in
    let start = begun s c.args.top.now x g.R.Key.Ord.cmp c.new-progress.result.places c.new-progress.ensures.fresh c.new-progress.ensures.places in
    let z = state_of g.R.Key.Ord.cmp c.run_to_end.new.progress c.run_to_end.new.book (g.T.Tree.reads c.run_to_end.new.tree) in
    let u = place_at g.R.Key.Ord.cmp c.run_to_end.new.progress.places in
    let b = c.in_ok-result.ensures.ok in
    let on = b.going x start in
    λ κs q is. made_agree z.fresh b.ready.kept.closed (one_each u on.added z.fresh on.table)

pub returns-in_err-result-clause-held : goal.returns-in_err-result-clause-held
returns-in_err-result-clause-held g c = c.run_to_end.ensures.held

pub returns-in_err-result-clause-ran : goal.returns-in_err-result-clause-ran
returns-in_err-result-clause-ran g c =
    let s = setting_of g.R.Rules.means c.args.fixed.now (g.T.Tree.held c.args.tree.now) in
    let x = state_of g.R.Key.Ord.cmp c.new-progress.result c.args.book.now (g.T.Tree.reads c.args.tree.now) in
    let start = begun s c.args.top.now x g.R.Key.Ord.cmp c.new-progress.result.places c.new-progress.ensures.fresh c.new-progress.ensures.places in
    let n = c.run_to_end.ensures.notes x start in n.ran

pub returns-in_err-result-clause-read : goal.returns-in_err-result-clause-read
returns-in_err-result-clause-read g c =
    let s = setting_of g.R.Rules.means c.args.fixed.now (g.T.Tree.held c.args.tree.now) in
    let x = state_of g.R.Key.Ord.cmp c.new-progress.result c.args.book.now (g.T.Tree.reads c.args.tree.now) in
    let start = begun s c.args.top.now x g.R.Key.Ord.cmp c.new-progress.result.places c.new-progress.ensures.fresh c.new-progress.ensures.places in
    let n = c.run_to_end.ensures.notes x start in n.read

pub returns-in_err-made-clause-held : goal.returns-in_err-made-clause-held
returns-in_err-made-clause-held g c = c.run_to_end.ensures.held

pub returns-in_err-made-clause-ran : goal.returns-in_err-made-clause-ran
returns-in_err-made-clause-ran g c =
    let s = setting_of g.R.Rules.means c.args.fixed.now (g.T.Tree.held c.args.tree.now) in
    let x = state_of g.R.Key.Ord.cmp c.new-progress.result c.args.book.now (g.T.Tree.reads c.args.tree.now) in
    let start = begun s c.args.top.now x g.R.Key.Ord.cmp c.new-progress.result.places c.new-progress.ensures.fresh c.new-progress.ensures.places in
    let n = c.run_to_end.ensures.notes x start in n.ran

pub returns-in_err-made-clause-read : goal.returns-in_err-made-clause-read
returns-in_err-made-clause-read g c =
    let s = setting_of g.R.Rules.means c.args.fixed.now (g.T.Tree.held c.args.tree.now) in
    let x = state_of g.R.Key.Ord.cmp c.new-progress.result c.args.book.now (g.T.Tree.reads c.args.tree.now) in
    let start = begun s c.args.top.now x g.R.Key.Ord.cmp c.new-progress.result.places c.new-progress.ensures.fresh c.new-progress.ensures.places in
    let n = c.run_to_end.ensures.notes x start in n.read

pub returns-clause-held : goal.returns-clause-held
returns-clause-held g c = c.run_to_end.ensures.held

pub returns-clause-ran : goal.returns-clause-ran
returns-clause-ran g c =
    let s = setting_of g.R.Rules.means c.args.fixed.now (g.T.Tree.held c.args.tree.now) in
    let x = state_of g.R.Key.Ord.cmp c.new-progress.result c.args.book.now (g.T.Tree.reads c.args.tree.now) in
    let start = begun s c.args.top.now x g.R.Key.Ord.cmp c.new-progress.result.places c.new-progress.ensures.fresh c.new-progress.ensures.places in
    let n = c.run_to_end.ensures.notes x start in n.ran

pub returns-clause-read : goal.returns-clause-read
returns-clause-read g c =
    let s = setting_of g.R.Rules.means c.args.fixed.now (g.T.Tree.held c.args.tree.now) in
    let x = state_of g.R.Key.Ord.cmp c.new-progress.result c.args.book.now (g.T.Tree.reads c.args.tree.now) in
    let start = begun s c.args.top.now x g.R.Key.Ord.cmp c.new-progress.result.places c.new-progress.ensures.fresh c.new-progress.ensures.places in
    let n = c.run_to_end.ensures.notes x start in n.read

pub returns-in_err-made-clause-count : goal.returns-in_err-made-clause-count
returns-in_err-made-clause-count g c = counts_wanting c.from_residual-in_err-made.result _ _ c.from_residual-in_err-made.ensures.1 c.in_ok-result.ensures.count

pub returns-clause-count : goal.returns-clause-count
returns-clause-count g c = c.in_ok-result.ensures.count

pub returns-clause-ok : goal.returns-clause-ok
returns-clause-ok g c =
    let s = setting_of g.R.Rules.means c.args.fixed.now (g.T.Tree.held c.args.tree.now) in
    let x = state_of g.R.Key.Ord.cmp c.new-progress.result c.args.book.now (g.T.Tree.reads c.args.tree.now) in
    let start = begun s c.args.top.now x g.R.Key.Ord.cmp c.new-progress.result.places c.new-progress.ensures.fresh c.new-progress.ensures.places in
    let z = state_of g.R.Key.Ord.cmp c.run_to_end.new.progress c.run_to_end.new.book (g.T.Tree.reads c.run_to_end.new.tree) in
    let u = place_at g.R.Key.Ord.cmp c.run_to_end.new.progress.places in
    let b = c.in_ok-result.ensures.ok in
    let on = b.going x start in
    let t = place_at g.R.Key.Ord.cmp c.new-progress.result.places in
    let same = c.in_ok-made.ensures.same (one_each u on.added z.fresh on.table) in
    record {
      begin = x;
      end = z;
      known = u;
      before = refl;
      after = refl;
      going = on;
      same = same;
      ended = end_of s c.args.top.now x z t u c.in_ok-result.result c.in_ok-made.made b on same;
    }

pub returns-in_err-result-clause-unedited : goal.returns-in_err-result-clause-unedited
returns-in_err-result-clause-unedited g c = c.run_to_end.ensures.unedited

pub returns-in_err-made-clause-unedited : goal.returns-in_err-made-clause-unedited
returns-in_err-made-clause-unedited g c = c.run_to_end.ensures.unedited

pub returns-clause-unedited : goal.returns-clause-unedited
returns-clause-unedited g c = c.run_to_end.ensures.unedited
