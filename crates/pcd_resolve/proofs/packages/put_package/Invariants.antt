use Rattle.std.proofs.Common.{◌≡◌, ◌++◌, map, take}
use Rattle.pcd_ranks.specs.Listing.{of_package}
use Rattle.pcd_ranks.specs.Views.{declared_view}
use Rattle.pcd_resolve.proofs.packages.put_package.Given as goal

abbrev pub invariant-loop-declared : goal.invariant-loop-declared
invariant-loop-declared l =
    map (λ x. x.now) l.found.items ≡ map (λ x. x.now) l.fn.found.items ++ of_package l.arch (map declared_view (take l.declared-index l.lines)) l.path
