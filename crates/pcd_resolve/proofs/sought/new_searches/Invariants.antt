use Rattle.std.proofs.Common.{◌≡◌, map, take}
use Rattle.pcd_resolve.specs.Sought.{new_search, sought_view}
use Rattle.pcd_resolve.proofs.sought.new_searches.Given as goal

abbrev pub invariant-loop-name : goal.invariant-loop-name
invariant-loop-name l = map sought_view l.all.items ≡ map (new_search l.ask) (map (λ n. n.items) (take l.name-index l.names))
