use Rattle.std.proofs.Common.{◌∙◌, length, sym}
use Rattle.std.specs.List.{list_all}
use Rattle.library_steps.specs.Skus.{reaches, skus_end}
use Rattle.library_steps.proofs.NearLemmas.{all_passed, all_failed}
use Rattle.library_steps.proofs.skus.all_end.Goals as goal

pub loop-place-preserved : goal.loop-place-preserved
loop-place-preserved c =
    all_passed c.args.skus.now (λ name. reaches c.args.skus.now name (length c.args.skus.now)) c.loop-place.place
    (list_all (λ sku. reaches c.args.skus.now sku.name (length c.args.skus.now)) c.args.skus.now) c.loop-place-test.true (sym c.ends_at.ensures ∙ c.if-not-ends_at.false) c.loop-place.invariant

pub returns-then-not-ends_at : goal.returns-then-not-ends_at
unfolding skus_end
returns-then-not-ends_at c =
    all_failed c.args.skus.now (λ name. reaches c.args.skus.now name (length c.args.skus.now)) c.loop-place.place
    (list_all (λ sku. reaches c.args.skus.now sku.name (length c.args.skus.now)) c.args.skus.now) c.loop-place-test.true (sym c.ends_at.ensures ∙ c.if-not-ends_at.true) c.loop-place.invariant
