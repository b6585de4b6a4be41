use Rattle.std.proofs.Common.{◌≡◌, map, take}
use Rattle.std.specs.List.{flat_map}
use Rattle.pcd_ranks.specs.Listing.{of_package}
use Rattle.pcd_ranks.specs.Views.{declared_view}
use Rattle.pcd_resolve.proofs.packages.by_packages.Given as goal

abbrev pub invariant-loop-path : goal.invariant-loop-path
invariant-loop-path l =
    map (λ x. x.now) l.found.items
    ≡ flat_map (of_package l.arch (map declared_view l.lines)) (map (λ p. p.now) (take l.path-index l.paths))
