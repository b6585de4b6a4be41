use Rattle.std.proofs.Common.{◌≡◌, map, take}
use Rattle.pcd_resolve.specs.Sought.{look, sought_view}
use Rattle.pcd_resolve.proofs.sought.look_by_tables.Given as goal

abbrev pub invariant-loop-one : goal.invariant-loop-one
invariant-loop-one l = map sought_view l.more.items ≡ map (look l.tables.parts.now) (map sought_view (take l.one-index l.all))
