use Rattle.std.proofs.Common.{◌≡◌, map, take}
use Rattle.std.specs.List.{flat_map}
use Rattle.pcd_ranks.specs.Listing.{packages_of}
use Rattle.pcd_resolve.proofs.packages.named_in.Given as goal

abbrev pub invariant-loop-inf : goal.invariant-loop-inf
invariant-loop-inf l = map (λ p. p.now) l.paths.items ≡ flat_map (packages_of l.arch) (take l.inf-index l.infs)
