use Rattle.pcd_resolve.specs.Tables.{use_name}
use Rattle.pcd_ranks.specs.Views.{use_view}
use Rattle.std.proofs.Common.{ap, ◌++◌, ◌∷◌, []}
use Rattle.pcd_resolve.proofs.GroupLemmas.{grouped_more, regrouped, named_so}
use Rattle.pcd_resolve.proofs.used.add_use.Goals as goal

pub returns : goal.returns
returns c = λ xs h.
    regrouped use_view use_name c.add.new.table _ _ (ap (λ u. xs ++ u ∷ []) c.in_ok-used.ensures)
    (grouped_more use_view use_name xs c.in_ok-used.used c.in_ok-name.name c.args.table.now c.add.new.table (named_so use_name _ _ _ c.in_ok-name.ensures c.in_ok-used.ensures) (λ q. c.in_ok-add.ensures q) h)
