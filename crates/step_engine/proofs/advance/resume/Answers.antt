-- The step is answered.
use Rattle.std.proofs.Common.{refl}
use Rattle.step_engine.proofs.Advancing.{resumed}
use Rattle.step_engine.proofs.Ending.{counts_wanting}
use Rattle.step_engine.proofs.ActLemmas.{acts_asked, acts_counted}
use Rattle.step_engine.proofs.advance.resume.Goals as goal

pub returns-clause-ok : goal.returns-clause-ok
returns-clause-ok g c =
    let d = rw c.in-Some.is at c.in_ok-found.ensures.ok in
    record {
      still = record { moves = d.moves; kept = d.kept };
      item = rw c.in_ok-push.ensures.ok (resumed _ _ _ _ _ _ _ c.requires.asked d);
      key = refl;
    }

pub returns-in_err-found-clause-held : goal.returns-in_err-found-clause-held
returns-in_err-found-clause-held g c = c.answers.ensures.held

pub returns-in_err-found-clause-adds : goal.returns-in_err-found-clause-adds
returns-in_err-found-clause-adds g c = c.answers.ensures.adds

pub returns-in_default-clause-held : goal.returns-in_default-clause-held
returns-in_default-clause-held g c = c.answers.ensures.held

pub returns-in_default-clause-adds : goal.returns-in_default-clause-adds
returns-in_default-clause-adds g c = c.answers.ensures.adds

pub returns-in_err-push-clause-held : goal.returns-in_err-push-clause-held
returns-in_err-push-clause-held g c = c.answers.ensures.held

pub returns-in_err-push-clause-adds : goal.returns-in_err-push-clause-adds
returns-in_err-push-clause-adds g c = c.answers.ensures.adds

pub returns-clause-held : goal.returns-clause-held
returns-clause-held g c = c.answers.ensures.held

pub returns-clause-adds : goal.returns-clause-adds
returns-clause-adds g c = c.answers.ensures.adds

pub returns-in_default-clause-count : goal.returns-in_default-clause-count
returns-in_default-clause-count g c = c.in_ok-found.ensures.count

pub returns-in_err-push-clause-count : goal.returns-in_err-push-clause-count
returns-in_err-push-clause-count g c = counts_wanting c.from_residual-in_err-push.result _ _ c.from_residual-in_err-push.ensures.1 c.in_ok-found.ensures.count

pub returns-clause-count : goal.returns-clause-count
returns-clause-count g c = c.in_ok-found.ensures.count

pub returns-in_default-clause-acts : goal.returns-in_default-clause-acts
returns-in_default-clause-acts g c =
    let laws = g.met.R.Rules g.world.𝓛 g.world.𝓜 g.world.𝓡 ((λ s x. x), (λ x. x), (λ x. x), λ x. x) in
    acts_asked g.R.Rules.means.rank _ c.args.asked _ (λ p h. laws.lawful.lower _ p _ _ c.requires.asked.next h) (rw c.in_default.is at c.in_ok-found.ensures.none)

pub returns-clause-acts : goal.returns-clause-acts
returns-clause-acts g c = acts_counted _ _ _ _ _ c.count_act.ensures.grows (c.count_act.ensures.counts refl)

pub returns-in_err-found-clause-unedited : goal.returns-in_err-found-clause-unedited
returns-in_err-found-clause-unedited g c = c.answers.ensures.unedited

pub returns-in_default-clause-unedited : goal.returns-in_default-clause-unedited
returns-in_default-clause-unedited g c = c.answers.ensures.unedited

pub returns-in_err-push-clause-unedited : goal.returns-in_err-push-clause-unedited
returns-in_err-push-clause-unedited g c = c.answers.ensures.unedited

pub returns-clause-unedited : goal.returns-clause-unedited
returns-clause-unedited g c = c.answers.ensures.unedited
