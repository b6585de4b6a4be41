use Rattle.std.proofs.Common.{◌≡◌, ◌++◌, map, take}
use Rattle.std.specs.Prelude.{filter}
use Rattle.pcd_ranks.specs.Names.{covers}
use Rattle.pcd_resolve.proofs.packages.put_names.Given as goal

abbrev pub invariant-loop-named : goal.invariant-loop-named
invariant-loop-named l =
    map (λ p. p.now) l.paths.items
    ≡ map (λ p. p.now) l.fn.paths.items ++ map (λ n. n.name) (filter (λ n. covers n.arch l.arch) (take l.named-index l.names))
