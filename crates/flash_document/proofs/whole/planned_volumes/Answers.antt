use Rattle.std.proofs.Common.{◌≡◌, ◌∙◌, ap, subst}
use Rattle.std.specs.Prelude.{slice_get, IfOk}
use Rattle.std.specs.List.{flat_map}
use Rattle.flash_document.specs.Document.{plan_at, ordered_names, volume_plans}
use Rattle.flash_document.specs.Whole.{volumes_of, all_held}
use Rattle.flash_document.proofs.WholeLemmas.{plans_lent}
use Rattle.flash_document.proofs.whole.planned_volumes.Goals as goal

pub returns : goal.returns
returns c = λ parts h s places.
    let plans = c.volume_plans.ensures (ordered_names parts) (all_held parts) places s.sizes in
    subst (λ all. IfOk c.volume_plans.result (λ p. p ≡ all))
    (plans_lent (ordered_names parts) (all_held parts) c.args.volumes.now (volumes_of parts) h c.items.result.now
    ∙ ap (flat_map (λ p. plan_at (ordered_names parts) (all_held parts) (slice_get (volumes_of parts) p))) (c.items.ensures ∙ s.order)) plans
