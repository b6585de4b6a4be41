use Rattle.pcd_resolve.proofs.WalkLemmas.{chosen_walks}
use Rattle.pcd_resolve.specs.Platform.{chosen, is_chosen, wanted}
use Rattle.pcd_resolve.proofs.platform.values_of.Goals as goal

pub rows_of_modules-requires-clause-walks : goal.rows_of_modules-requires-clause-walks
unfolding chosen
rows_of_modules-requires-clause-walks c =
    chosen_walks (λ s. s.now) c.args.ask.now.platform.skus (is_chosen (wanted c.args.ask.now.skus c.args.ask.now.platform.sku_choice)) c.as_slice.result.now c.in_ok-picked.picked.items c.as_slice.ensures.value c.in_ok-picked.ensures c.requires
