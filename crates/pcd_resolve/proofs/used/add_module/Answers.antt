use Rattle.std.proofs.Common.{ap, ◌∙◌, ◌++◌, map}
use Rattle.pcd_resolve.specs.Tables.{use_name}
use Rattle.pcd_ranks.specs.Views.{at_view, use_view}
use Rattle.pcd_resolve.proofs.GroupLemmas.{regrouped}
use Rattle.pcd_resolve.proofs.used.add_module.Goals as goal

pub returns : goal.returns
returns c = λ xs h.
    regrouped use_view use_name c.add_uses.new.table _ _
    (ap (λ us. xs ++ map (at_view c.args.tables.now.parts.now) us) c.as_slice.ensures.value ∙ ap (λ us. xs ++ us) c.in_ok-uses.ensures)
    (c.in_ok-add_uses.ensures xs h)
