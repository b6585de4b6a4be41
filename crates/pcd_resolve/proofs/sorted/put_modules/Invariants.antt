use Rattle.std.proofs.Common.{◌≡◌, map, drop}
use Rattle.std.specs.List.{flat_map}
use Rattle.pcd_ranks.specs.Listing.{uses_of_module}
use Rattle.pcd_resolve.specs.Rows.{with_names}
use Rattle.pcd_resolve.proofs.sorted.put_modules.Given as goal

abbrev pub invariant-loop-parts : goal.invariant-loop-parts
invariant-loop-parts l =
    with_names (map (λ n. n.items) l.names.keys) (flat_map uses_of_module (drop l.parts-index l.modules))
    ≡ with_names (map (λ n. n.items) l.fn.names.keys) (flat_map uses_of_module l.modules)
