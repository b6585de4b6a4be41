use Rattle.std.proofs.Common.{◌≡◌, map, drop}
use Rattle.std.specs.List.{list_any}
use Rattle.pcd_resolve.specs.Sought.{is_open, sought_view}
use Rattle.pcd_resolve.proofs.sought.any_open.Given as goal

abbrev pub invariant-loop-one : goal.invariant-loop-one
invariant-loop-one l = list_any is_open (map sought_view (drop l.one-index l.all)) ≡ list_any is_open (map sought_view l.all)
