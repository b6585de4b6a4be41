use Rattle.std.proofs.Common.{◌∙◌, ◌++◌, ◌∷◌, [], ap, sym, append-nil}
use Rattle.flash_document.specs.Document.{plan_at, plan_in}
use Rattle.flash_document.proofs.volumes.push_plan.Goals as goal

pub returns-in_ok-push-in-Some : goal.returns-in_ok-push-in-Some
unfolding plan_in
returns-in_ok-push-in-Some c = λ names regions h k.
    c.in_ok-push-in-Some.ensures.ok ∙ ap (λ p. c.args.plans.now ++ p ∷ []) (c.in_ok-volume_plan-in-Some.ensures names regions h k)
    ∙ ap (λ o. c.args.plans.now ++ plan_at names regions o) (sym c.in-Some.ensures.some)

pub returns-in-None : goal.returns-in-None
unfolding plan_in
returns-in-None c = λ names regions h k.
    sym (append-nil c.args.plans.now) ∙ ap (λ o. c.args.plans.now ++ plan_at names regions o) (sym c.in-None.ensures.none)
