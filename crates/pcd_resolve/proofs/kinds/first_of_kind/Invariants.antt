use Rattle.std.proofs.Common.{◌≡◌, map, drop}
use Rattle.pcd_resolve.specs.Kinds.{of_kind}
use Rattle.pcd_resolve.proofs.kinds.first_of_kind.Given as goal

abbrev pub invariant-loop-line : goal.invariant-loop-line
invariant-loop-line l = of_kind l.kind (map (λ x. x.now) (drop l.line-index l.lines)) ≡ of_kind l.kind (map (λ x. x.now) l.lines)
