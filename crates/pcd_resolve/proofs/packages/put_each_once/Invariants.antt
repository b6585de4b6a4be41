use Rattle.std.proofs.Common.{◌≡◌, map, drop}
use Rattle.std.specs.Prelude.{fold}
use Rattle.pcd_ranks.specs.Listing.{put_once}
use Rattle.pcd_resolve.proofs.packages.put_each_once.Given as goal

abbrev pub invariant-loop-path : goal.invariant-loop-path
invariant-loop-path l =
    fold put_once (map (λ p. p.now) l.paths.items) (map (λ p. p.now) (drop l.path-index l.more))
    ≡ fold put_once (map (λ p. p.now) l.fn.paths.items) (map (λ p. p.now) l.more)
