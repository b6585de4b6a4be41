use Rattle.std.proofs.Common.{◌≡◌, map, drop}
use Rattle.pcd_resolve.specs.Rows.{with_names}
use Rattle.pcd_ranks.specs.Views.{at_view}
use Rattle.pcd_resolve.proofs.sorted.put_uses.Given as goal

abbrev pub invariant-loop-at : goal.invariant-loop-at
invariant-loop-at l =
    with_names (map (λ n. n.items) l.names.keys) (map (at_view l.parts) (drop l.at-index l.uses))
    ≡ with_names (map (λ n. n.items) l.fn.names.keys) (map (at_view l.parts) l.uses)
