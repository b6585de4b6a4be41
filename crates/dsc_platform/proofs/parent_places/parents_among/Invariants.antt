use Rattle.std.proofs.Common.{◌≡◌, ℕ, List, map, take}
use Rattle.dsc_lines.specs.SkuNames.{Placed}
use Rattle.dsc_platform.specs.SkuWalks.{parent_place}
use Rattle.dsc_platform.proofs.parent_places.parents_among.Given as goal

abbrev pub invariant-loop-line : goal.invariant-loop-line
invariant-loop-line l = (ns : List (List ℕ)) → Placed ns l.names → l.parents.items ≡ map (parent_place ns) (take l.line-index l.skus)
