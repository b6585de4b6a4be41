use Rattle.std.proofs.Common.{refl, ap, ◌∙◌, ◌-◌, length}
use Rattle.step_engine.specs.Build.{setting}
use Rattle.step_engine.specs.Edits.{over}
use Rattle.edk_build.specs.Building.{means}
use Rattle.edk_build.proofs.BuildLemmas.{brought}
use Rattle.edk_build.proofs.build.bring_all.Goals as goal

pub returns-clause-brought : goal.returns-clause-brought
returns-clause-brought g c = λ w h.
    brought w (setting means (over c.args.asked.now.edits.now (g.T.Tree.held c.args.tree.now)) c.args.asked.now.fields.now c.args.cache) c.args.book.now c.bring_over.new.book c.in-Ok.brought.result c.in-Ok.brought.cache
    c.in-Ok.brought.needed c.saturating_sub-steps.result c.saturating_sub-reused.result h refl (c.in-Ok.ensures.built w h) c.in-Ok.ensures.ran c.in-Ok.ensures.all
    (c.saturating_sub-steps.ensures ∙ ap (λ z. length z - length c.ran.result.now) c.ran-2.ensures ∙ ap (λ z. length c.bring_over.new.book - length z) c.ran.ensures)
    c.saturating_sub-reused.ensures c.in-Ok.ensures.order
