use Rattle.std.proofs.Common.{◌≡◌, map, drop}
use Rattle.std.specs.List.{list_any}
use Rattle.std.specs.Str.{bytes_eq}
use Rattle.pcd_resolve.proofs.packages.has_path.Given as goal

abbrev pub invariant-loop-other : goal.invariant-loop-other
invariant-loop-other l =
    list_any (λ other. bytes_eq other l.path) (map (λ p. p.now) (drop l.other-index l.paths))
    ≡ list_any (λ other. bytes_eq other l.path) (map (λ p. p.now) l.paths)
