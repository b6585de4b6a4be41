use Rattle.std.proofs.Common.{◌≡◌, ◌++◌, map, take}
use Rattle.std.specs.List.{flat_map}
use Rattle.pcd_ranks.specs.Listing.{uses_by}
use Rattle.pcd_ranks.specs.Views.{at_view}
use Rattle.pcd_resolve.proofs.uses.put_infs.Given as goal

abbrev pub invariant-loop-inf : goal.invariant-loop-inf
invariant-loop-inf l =
    map (at_view l.parts) l.uses.items ≡ map (at_view l.parts) l.fn.uses.items ++ flat_map (uses_by l.parts) (take l.inf-index l.infs)
