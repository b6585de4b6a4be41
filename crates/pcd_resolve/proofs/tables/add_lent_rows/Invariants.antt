use Rattle.std.proofs.Common.{◌++◌, List, map, take}
use Rattle.doc_types.specs.declared.values.PcdRow.{PcdRow as Row}
use Rattle.pcd_resolve.specs.Groups.{GroupedAt}
use Rattle.pcd_resolve.specs.Tables.{row_name}
use Rattle.pcd_resolve.proofs.tables.add_lent_rows.Given as goal

abbrev pub invariant-loop-row : goal.invariant-loop-row
invariant-loop-row l = (xs : List Row) → GroupedAt l.marks (λ r. r.now) row_name xs l.fn.table → GroupedAt l.marks (λ r. r.now) row_name (xs ++ map (λ r. r.now) (take l.row-index l.rows)) l.table
