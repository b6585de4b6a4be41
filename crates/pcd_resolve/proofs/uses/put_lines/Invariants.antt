use Rattle.std.proofs.Common.{◌≡◌, ◌++◌, map, take}
use Rattle.std.specs.Prelude.{filter}
use Rattle.pcd_ranks.specs.Listing.{arch_of, use_of}
use Rattle.pcd_ranks.specs.Names.{covers}
use Rattle.pcd_ranks.specs.Views.{at_view}
use Rattle.pcd_resolve.proofs.uses.put_lines.Given as goal

abbrev pub invariant-loop-line : goal.invariant-loop-line
invariant-loop-line l =
    map (at_view l.parts) l.uses.items
    ≡ map (at_view l.parts) l.fn.uses.items ++ map (use_of l.parts l.inf) (filter (λ x. covers x.arch (arch_of l.parts)) (take l.line-index l.lines))
