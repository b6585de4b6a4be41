use Rattle.std.proofs.Common.{◌≡◌, map, drop}
use Rattle.std.specs.List.{flat_map}
use Rattle.pcd_resolve.specs.Kinds.{kind_of, claim_of, kind_given}
use Rattle.pcd_ranks.specs.Views.{use_view}
use Rattle.pcd_resolve.proofs.kinds.first_given.Given as goal

abbrev pub invariant-loop-used : goal.invariant-loop-used
invariant-loop-used l =
    kind_of (flat_map (λ used. claim_of used.line.at (kind_given used)) (map use_view (drop l.used-index l.uses)))
    ≡ kind_of (flat_map (λ used. claim_of used.line.at (kind_given used)) (map use_view l.uses))
