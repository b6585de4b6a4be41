-- One more visit.
use Rattle.std.proofs.Common.{◌≡◌, ℕ, Result, Ok, Err, refl, ap, ◌∙◌, subst, arith}
use Rattle.std.specs.Result.{IsErrAnd}
use Rattle.build_base.specs.Outside.{HasFailed}
use Rattle.step_engine.specs.Build.{Counts}
use Rattle.step_engine.specs.Edits.{over}
use Rattle.step_engine.specs.Table.{place_at}
use Rattle.step_engine.specs.declared.refusal.EngineRefusal.{EngineRefusal}
use Rattle.step_engine.specs.declared.refusal.EngineRefusal.TheVariants.{ReadFault, WantOfMemory}
use Rattle.step_engine.specs.Standing.{setting_of, state_of}
use Rattle.step_engine.proofs.Listing.{ready_held}
use Rattle.step_engine.proofs.Ending.{counts_wanting}
use Rattle.step_engine.proofs.ScanLemmas.{begins_noted, settling_more, settling_noted, settling_refused, brought_to, under_held, visited_held, visit_notes_held}
use Rattle.step_engine.proofs.Moves.{none_in}
use Rattle.step_engine.proofs.VisitLemmas.{top_open}
use Rattle.step_engine.proofs.UneditedLemmas.{unedited_none, unedited_then}
use Rattle.step_engine.proofs.running.run_to_end.Goals as goal

-- a refusal that is handed on, where nothing was counted before
counts_handed : {A : Type 0} (r : Result A EngineRefusal) (e : EngineRefusal) (first before now : ℕ) → IsErrAnd r (λ x. x ≡ e) → before ≡ first → Counts {A = A} before now (Err e) → Counts first now r
counts_handed (Ok x) e first before now h is c = absurd h
counts_handed (Err ReadFault) ReadFault first before now h is c = subst (λ n. HasFailed n now) is c
counts_handed (Err ReadFault) WantOfMemory first before now h is c = absurd (cc)
counts_handed (Err WantOfMemory) ReadFault first before now h is c = absurd (cc)
counts_handed (Err WantOfMemory) WantOfMemory first before now h is c = c ∙ is

pub returns-in_err-pool-clause-notes : goal.returns-in_err-pool-clause-notes
returns-in_err-pool-clause-notes g c =
    let s = setting_of g.R.Rules.means c.args.fixed.now (g.T.Tree.held c.args.tree.now) in
    let y = state_of g.R.Key.Ord.cmp c.args.progress.now c.args.book.now (g.T.Tree.reads c.args.tree.now) in
    begins_noted s _ y _ _ c.requires.ready c.begin.ensures.noted

pub loop-tally-init : goal.loop-tally-init
loop-tally-init g c =
    let s = setting_of g.R.Rules.means c.args.fixed.now (g.T.Tree.held c.args.tree.now) in
    let y = state_of g.R.Key.Ord.cmp c.args.progress.now c.args.book.now (g.T.Tree.reads c.args.tree.now) in
    record { held = refl; count = refl; unedited = unedited_none _ _; here = c.in_ok-pool.ensures.ok s y refl refl c.requires.ready; whole = c.in_ok-pool.ensures.whole g.R.Rules.means.rank c.requires.new; entered = rw c.requires.none (λ e h. absurd (none_in e h)); met = c.in_ok-pool.ensures.met }

pub run_ready_keys-requires-clause-ready : goal.run_ready_keys-requires-clause-ready
run_ready_keys-requires-clause-ready g c =
    let s = setting_of g.R.Rules.means c.args.fixed.now (g.T.Tree.held c.args.tree.now) in
    let y = state_of g.R.Key.Ord.cmp c.args.progress.now c.args.book.now (g.T.Tree.reads c.args.tree.now) in
    let i = c.loop-tally.invariant in
    λ κs q. ready_held s _ _ _ (ap (over c.args.fixed.now.edits.now) i.held) i.here.ready

pub run_ready_keys-requires-clause-items : goal.run_ready_keys-requires-clause-items
run_ready_keys-requires-clause-items g c =
    let s = setting_of g.R.Rules.means c.args.fixed.now (g.T.Tree.held c.args.tree.now) in
    let y = state_of g.R.Key.Ord.cmp c.args.progress.now c.args.book.now (g.T.Tree.reads c.args.tree.now) in
    let i = c.loop-tally.invariant in
    λ κs q. under_held g.R.Key.Ord.cmp s _ _ c.loop-tally.pool (ap (over c.args.fixed.now.edits.now) i.held) i.here.items

pub returns-in_err-run_ready_keys-clause-notes : goal.returns-in_err-run_ready_keys-clause-notes
returns-in_err-run_ready_keys-clause-notes g c =
    let s = setting_of g.R.Rules.means c.args.fixed.now (g.T.Tree.held c.args.tree.now) in
    let y = state_of g.R.Key.Ord.cmp c.args.progress.now c.args.book.now (g.T.Tree.reads c.args.tree.now) in
    let i = c.loop-tally.invariant in
    settling_refused g.R.Key.Ord.cmp s _ y _ _ _ _ c.loop-tally.pool i.here (visit_notes_held g.R.Key.Ord.cmp s _ _ _ _ c.loop-tally.pool (ap (over c.args.fixed.now.edits.now) i.held) c.run_ready_keys.ensures.notes)

pub loop-tally-preserved : goal.loop-tally-preserved
loop-tally-preserved g c =
    let s = setting_of g.R.Rules.means c.args.fixed.now (g.T.Tree.held c.args.tree.now) in
    let y = state_of g.R.Key.Ord.cmp c.args.progress.now c.args.book.now (g.T.Tree.reads c.args.tree.now) in
    let i = c.loop-tally.invariant in
    let f = c.in_ok-run_ready_keys.ensures.forward i.whole i.entered in
    record { whole = f.whole; entered = f.entered; met = f.met _ i.met; held = c.run_ready_keys.ensures.held ∙ i.held; count = c.in_ok-run_ready_keys.ensures.count ∙ i.count; unedited = unedited_then _ _ _ _ i.unedited c.run_ready_keys.ensures.unedited; here = settling_more g.R.Key.Ord.cmp s _ y _ _ _ _ _ c.loop-tally.pool c.run_ready_keys.new.pool i.here (visited_held g.R.Key.Ord.cmp s _ _ _ _ _ c.loop-tally.pool c.run_ready_keys.new.pool (ap (over c.args.fixed.now.edits.now) i.held) c.in_ok-run_ready_keys.ensures.ok) }

pub returns-in-Some-clause-ok : goal.returns-in-Some-clause-ok
returns-in-Some-clause-ok g c =
    let s = setting_of g.R.Rules.means c.args.fixed.now (g.T.Tree.held c.args.tree.now) in
    let y = state_of g.R.Key.Ord.cmp c.args.progress.now c.args.book.now (g.T.Tree.reads c.args.tree.now) in
    let i = c.loop-tally.invariant in
    brought_to g.R.Key.Ord.cmp s _ y _ _ _ c.loop-tally.pool _ _ i.here c.in-Some.ensures.some c.in_ok-copy.ensures

pub returns-clause-notes : goal.returns-clause-notes
returns-clause-notes g c =
    let s = setting_of g.R.Rules.means c.args.fixed.now (g.T.Tree.held c.args.tree.now) in
    let y = state_of g.R.Key.Ord.cmp c.args.progress.now c.args.book.now (g.T.Tree.reads c.args.tree.now) in
    let i = c.loop-tally.invariant in
    settling_noted g.R.Key.Ord.cmp s _ y _ _ _ c.loop-tally.pool i.here

pub returns-in_err-copy-clause-notes : goal.returns-in_err-copy-clause-notes
returns-in_err-copy-clause-notes g c =
    let s = setting_of g.R.Rules.means c.args.fixed.now (g.T.Tree.held c.args.tree.now) in
    let y = state_of g.R.Key.Ord.cmp c.args.progress.now c.args.book.now (g.T.Tree.reads c.args.tree.now) in
    let i = c.loop-tally.invariant in
    settling_noted g.R.Key.Ord.cmp s _ y _ _ _ c.loop-tally.pool i.here

pub returns-in-Some-clause-notes : goal.returns-in-Some-clause-notes
returns-in-Some-clause-notes g c =
    let s = setting_of g.R.Rules.means c.args.fixed.now (g.T.Tree.held c.args.tree.now) in
    let y = state_of g.R.Key.Ord.cmp c.args.progress.now c.args.book.now (g.T.Tree.reads c.args.tree.now) in
    let i = c.loop-tally.invariant in
    settling_noted g.R.Key.Ord.cmp s _ y _ _ _ c.loop-tally.pool i.here

pub returns-in_err-pool-clause-held : goal.returns-in_err-pool-clause-held
returns-in_err-pool-clause-held g c = refl

pub returns-in_err-run_ready_keys-clause-held : goal.returns-in_err-run_ready_keys-clause-held
returns-in_err-run_ready_keys-clause-held g c = c.run_ready_keys.ensures.held ∙ c.loop-tally.invariant.held

pub returns-in-Some-clause-held : goal.returns-in-Some-clause-held
returns-in-Some-clause-held g c = c.loop-tally.invariant.held

pub returns-in_err-copy-clause-held : goal.returns-in_err-copy-clause-held
returns-in_err-copy-clause-held g c = c.loop-tally.invariant.held

pub returns-clause-held : goal.returns-clause-held
returns-clause-held g c = c.loop-tally.invariant.held

pub returns-in_err-pool-clause-count : goal.returns-in_err-pool-clause-count
returns-in_err-pool-clause-count g c = counts_wanting c.from_residual.result _ _ c.from_residual.ensures.1 refl

pub returns-in_err-run_ready_keys-clause-count : goal.returns-in_err-run_ready_keys-clause-count
returns-in_err-run_ready_keys-clause-count g c = counts_handed c.from_residual-in_err-run_ready_keys.result c.in_err-run_ready_keys.field-0.0 _ _ _ c.from_residual-in_err-run_ready_keys.ensures.1 c.loop-tally.invariant.count c.in_err-run_ready_keys.ensures.count

pub returns-in-Some-clause-count : goal.returns-in-Some-clause-count
returns-in-Some-clause-count g c = c.loop-tally.invariant.count

pub returns-in_err-copy-clause-count : goal.returns-in_err-copy-clause-count
returns-in_err-copy-clause-count g c = counts_wanting c.from_residual-in_err-copy.result _ _ c.from_residual-in_err-copy.ensures.1 c.loop-tally.invariant.count

pub returns-clause-count : goal.returns-clause-count
returns-clause-count g c = c.loop-tally.invariant.count

pub unreachable-requires : goal.unreachable-requires
unreachable-requires g c =
    let i = c.loop-tally.invariant in
    let f = c.in_ok-run_ready_keys.ensures.forward i.whole i.entered in
    let o = top_open (place_at g.R.Key.Ord.cmp c.loop-tally.progress.places) c.args.top.now i.met c.in_default.ensures.none in
    let r = f.acts c.args.top.now i.met.0 o i.met.1 in
    omega (arith, r c.loop-tally-test.true)

pub returns-in_err-pool-clause-unedited : goal.returns-in_err-pool-clause-unedited
returns-in_err-pool-clause-unedited g c = unedited_none _ _

pub returns-in_err-run_ready_keys-clause-unedited : goal.returns-in_err-run_ready_keys-clause-unedited
returns-in_err-run_ready_keys-clause-unedited g c = unedited_then _ _ _ _ c.loop-tally.invariant.unedited c.run_ready_keys.ensures.unedited

pub returns-in-Some-clause-unedited : goal.returns-in-Some-clause-unedited
returns-in-Some-clause-unedited g c = c.loop-tally.invariant.unedited

pub returns-in_err-copy-clause-unedited : goal.returns-in_err-copy-clause-unedited
returns-in_err-copy-clause-unedited g c = c.loop-tally.invariant.unedited

pub returns-clause-unedited : goal.returns-clause-unedited
returns-clause-unedited g c = c.loop-tally.invariant.unedited
