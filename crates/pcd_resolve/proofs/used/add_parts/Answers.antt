use Rattle.std.proofs.Common.{ap, ◌++◌}
use Rattle.pcd_ranks.specs.Listing.{uses_of_module}
use Rattle.pcd_resolve.specs.Tables.{use_name}
use Rattle.pcd_ranks.specs.Views.{use_view}
use Rattle.pcd_resolve.proofs.GroupLemmas.{regrouped}
use Rattle.pcd_resolve.proofs.used.add_parts.Goals as goal

pub returns : goal.returns
returns c = λ xs h.
    regrouped use_view use_name c.add_module.new.table _ _ (ap (λ p. xs ++ uses_of_module p) c.in_ok-tables.ensures.parts)
    (c.in_ok-add_module.ensures xs h)
