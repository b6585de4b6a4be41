use Rattle.std.proofs.Common.{◌≡◌, map, drop}
use Rattle.std.specs.List.{list_any}
use Rattle.pcd_ranks.specs.Views.{use_view}
use Rattle.pcd_resolve.specs.Faults.{is_other}
use Rattle.pcd_resolve.proofs.faults.is_other_for_one.Given as goal

abbrev pub invariant-loop-used : goal.invariant-loop-used
invariant-loop-used l =
    list_any (is_other l.kind l.datum) (map use_view (drop l.used-index l.uses))
    ≡ list_any (is_other l.kind l.datum) (map use_view l.uses)
