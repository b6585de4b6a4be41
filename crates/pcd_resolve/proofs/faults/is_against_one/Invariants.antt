use Rattle.std.proofs.Common.{◌≡◌, map, drop}
use Rattle.std.specs.List.{list_any}
use Rattle.pcd_ranks.specs.Views.{stated_view, use_view}
use Rattle.pcd_resolve.specs.Faults.{is_against}
use Rattle.pcd_resolve.proofs.faults.is_against_one.Given as goal

abbrev pub invariant-loop-used : goal.invariant-loop-used
invariant-loop-used l =
    list_any (is_against l.kind l.datum (stated_view l.stated)) (map use_view (drop l.used-index l.uses))
    ≡ list_any (is_against l.kind l.datum (stated_view l.stated)) (map use_view l.uses)
