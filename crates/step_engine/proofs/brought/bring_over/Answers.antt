-- The promises of a build.
use Rattle.std.proofs.Common.{refl, sym, ap, ◌∙◌, length}
use Rattle.step_engine.specs.Build.{setting}
use Rattle.step_engine.specs.Edits.{over}
use Rattle.step_engine.proofs.Ending.{counts_wanting, reached_all, reached_own, reached_sound, reached_built, reached_same}
use Rattle.step_engine.proofs.brought.bring_over.Goals as goal

pub returns-in_err-reached-clause-held : goal.returns-in_err-reached-clause-held
returns-in_err-reached-clause-held g c = c.reach.ensures.held

pub returns-in_err-reached-clause-ran : goal.returns-in_err-reached-clause-ran
returns-in_err-reached-clause-ran g c = c.reach.ensures.ran

pub returns-in_err-reached-clause-read : goal.returns-in_err-reached-clause-read
returns-in_err-reached-clause-read g c = c.reach.ensures.read

pub returns-in_err-brought-clause-held : goal.returns-in_err-brought-clause-held
returns-in_err-brought-clause-held g c = c.reach.ensures.held

pub returns-in_err-brought-clause-ran : goal.returns-in_err-brought-clause-ran
returns-in_err-brought-clause-ran g c = c.reach.ensures.ran

pub returns-in_err-brought-clause-read : goal.returns-in_err-brought-clause-read
returns-in_err-brought-clause-read g c = c.reach.ensures.read

pub returns-clause-held : goal.returns-clause-held
returns-clause-held g c = c.reach.ensures.held

pub returns-clause-ran : goal.returns-clause-ran
returns-clause-ran g c = c.reach.ensures.ran

pub returns-clause-read : goal.returns-clause-read
returns-clause-read g c = c.reach.ensures.read

pub returns-in_err-brought-clause-count : goal.returns-in_err-brought-clause-count
returns-in_err-brought-clause-count g c = counts_wanting c.from_residual-in_err-brought.result _ _ c.from_residual-in_err-brought.ensures.1 c.in_ok-reached.ensures.count

pub returns-clause-count : goal.returns-clause-count
returns-clause-count g c = c.in_ok-reached.ensures.count

pub returns-clause-all : goal.returns-clause-all
returns-clause-all g c =
    let s = setting g.R.Rules.means (over c.args.edits.now (g.T.Tree.held c.args.tree.now)) c.args.job.now c.args.cache in
    reached_all s c.args.top c.args.book.now c.reach.new.book c.in_ok-reached.reached.result c.in_ok-reached.reached.made c.in_ok-reached.ensures.ok

pub returns-clause-own : goal.returns-clause-own
returns-clause-own g c =
    let s = setting g.R.Rules.means (over c.args.edits.now (g.T.Tree.held c.args.tree.now)) c.args.job.now c.args.cache in
    rw c.in_ok-brought.ensures.result (reached_own s c.args.top c.args.book.now c.reach.new.book c.in_ok-reached.reached.result c.in_ok-reached.reached.made c.in_ok-reached.ensures.ok c.in_ok-brought.brought.cache c.in_ok-brought.ensures.left)

pub returns-clause-sound : goal.returns-clause-sound
returns-clause-sound g c =
    let s = setting g.R.Rules.means (over c.args.edits.now (g.T.Tree.held c.args.tree.now)) c.args.job.now c.args.cache in
    reached_sound s c.args.top c.args.book.now c.reach.new.book c.in_ok-reached.reached.result c.in_ok-reached.reached.made c.in_ok-reached.ensures.ok c.in_ok-brought.brought.cache c.in_ok-brought.ensures.left

pub returns-clause-built : goal.returns-clause-built
returns-clause-built g c =
    let s = setting g.R.Rules.means (over c.args.edits.now (g.T.Tree.held c.args.tree.now)) c.args.job.now c.args.cache in
    let ord = g.met.R.Key.Ord g.world.𝓛 g.world.𝓜 g.world.𝓡 ((λ s x. x), (λ x. x), (λ x. x), λ x. x) in
    rw c.in_ok-brought.ensures.result (reached_built s c.args.top c.args.book.now c.reach.new.book c.in_ok-reached.reached.result c.in_ok-reached.reached.made c.in_ok-reached.ensures.ok g.R.Key.Ord.cmp ord.total c.leave.ensures.made c.in_ok-brought.brought.cache c.in_ok-brought.ensures.after c.in_ok-brought.ensures.left _ c.in_ok-brought.ensures.needed)

pub returns-clause-unchanged : goal.returns-clause-unchanged
returns-clause-unchanged g c =
    let s = setting g.R.Rules.means (over c.args.edits.now (g.T.Tree.held c.args.tree.now)) c.args.job.now c.args.cache in
    let ord = g.met.R.Key.Ord g.world.𝓛 g.world.𝓜 g.world.𝓡 ((λ s x. x), (λ x. x), (λ x. x), λ x. x) in
    λ q. reached_same s c.args.top c.args.book.now c.reach.new.book c.in_ok-reached.reached.result c.in_ok-reached.reached.made c.in_ok-reached.ensures.ok g.R.Key.Ord.cmp ord.total c.leave.ensures.made c.in_ok-brought.brought.cache c.in_ok-brought.ensures.after c.in_ok-brought.ensures.left c.in_ok-brought.ensures.before _ (ap length c.ran-first.ensures) (c.in_ok-brought.ensures.idle.0 q)

pub returns-clause-told : goal.returns-clause-told
returns-clause-told g c = λ same left. c.in_ok-brought.ensures.idle.1 (ap length same ∙ ap length (sym c.ran-first.ensures), ap length left)

pub returns-clause-order : goal.returns-clause-order
returns-clause-order g c = c.in_ok-brought.ensures.after

pub returns-in_err-reached-clause-unedited : goal.returns-in_err-reached-clause-unedited
returns-in_err-reached-clause-unedited g c = c.reach.ensures.unedited

pub returns-in_err-brought-clause-unedited : goal.returns-in_err-brought-clause-unedited
returns-in_err-brought-clause-unedited g c = c.reach.ensures.unedited

pub returns-clause-unedited : goal.returns-clause-unedited
returns-clause-unedited g c = c.reach.ensures.unedited
