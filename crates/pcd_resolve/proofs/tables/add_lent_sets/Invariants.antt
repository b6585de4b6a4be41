use Rattle.std.proofs.Common.{◌++◌, List, map, take}
use Rattle.doc_types.specs.declared.pcd.PcdSet.{PcdSet as Set}
use Rattle.pcd_resolve.specs.Groups.{GroupedAt}
use Rattle.pcd_resolve.specs.Tables.{set_name}
use Rattle.pcd_resolve.proofs.tables.add_lent_sets.Given as goal

abbrev pub invariant-loop-set : goal.invariant-loop-set
invariant-loop-set l = (xs : List Set) → GroupedAt l.marks (λ s. s.now) set_name xs l.fn.table → GroupedAt l.marks (λ s. s.now) set_name (xs ++ map (λ s. s.now) (take l.set-index l.sets)) l.table
