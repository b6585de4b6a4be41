use Rattle.std.proofs.Common.{ℕ, List, map}
use Rattle.std.specs.Global.{Vec}
use Rattle.pcd_ranks.specs.Listing.{uses_of_module}
use Rattle.pcd_resolve.specs.Tables.{use_name}
use Rattle.pcd_resolve.proofs.NameFilterLemmas.{first_kept, last_kept}
use Rattle.pcd_resolve.proofs.name_filter.marks_of.Goals as goal

pub returns-clause-names : goal.returns-clause-names
returns-clause-names c =
    first_kept _ _ _ (map {A = Vec ℕ} {B = List ℕ} (λ n. n.items) c.args.names.now) (map use_name (uses_of_module c.args.parts.now))
    c.mark_names.ensures c.in_ok-mark_uses.ensures

pub returns-clause-uses : goal.returns-clause-uses
returns-clause-uses c = last_kept _ _ (map use_name (uses_of_module c.args.parts.now)) c.in_ok-mark_uses.ensures
