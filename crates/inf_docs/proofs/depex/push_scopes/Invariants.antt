use Rattle.std.proofs.Common.{◌≡◌, ◌++◌, drop}
use Rattle.std.specs.List.{flat_map}
use Rattle.inf_docs.specs.Depex.{part_of}
use Rattle.inf_docs.proofs.depex.push_scopes.Given as goal

abbrev pub invariant-loop-scope : goal.invariant-loop-scope
invariant-loop-scope l = l.parts ++ flat_map (part_of l.section) (drop l.scope-index l.section.scopes) ≡ l.fn.parts ++ flat_map (part_of l.section) l.section.scopes
