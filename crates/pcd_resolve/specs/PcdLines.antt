-- The rows of a dynamic PCD, said of what they are made from.
use Rattle.std.specs.Prelude.{ℕ, List, length, map, Option, Result}
use Rattle.build_base.specs.declared.fault.Fault.{Fault}
use Rattle.doc_types.specs.declared.pcd.Kind.{Kind}
use Rattle.doc_types.specs.declared.values.PcdRow.{PcdRow}
use Rattle.doc_types.specs.declared.values.SkuRow.{SkuRow}
use Rattle.pcd_ranks.specs.Assignments.{Assignment}
use Rattle.pcd_ranks.specs.Views.{stated_view}
use Rattle.pcd_resolve.specs.Groups.{Grouped}
use Rattle.pcd_resolve.specs.Platform.{row_by_source, sku_assignments, source, own_value_rows}
use Rattle.pcd_resolve.specs.SkuTables.{stated_sku, AreKnown, AreTables}
use Rattle.pcd_resolve.specs.declared.sku_values.PcdLines.{PcdLines}

-- the tables hold the lines and the SKUs
pub record HasTables (pcd : PcdLines) : Type 0 where
  pub own : Grouped stated_view stated_sku (map stated_view pcd.lines.now) pcd.own.now
  pub skus : AreTables pcd.skus.now pcd.tables.now

abbrev pub assignments_for : PcdLines → List ℕ → List Assignment
assignments_for pcd sku =
    sku_assignments pcd.line.now (map stated_view pcd.lines.now) (map (λ s. s.now) pcd.sets.now) sku

abbrev pub own_values : PcdLines → List SkuRow
own_values pcd =
    own_value_rows pcd.line.now (map stated_view pcd.lines.now) (map (λ s. s.now) pcd.sets.now) pcd.skus.now

-- the row of a SKU
abbrev pub sku_row : Kind → PcdLines → List ℕ → Result (List PcdRow) Fault
sku_row kind pcd sku =
    row_by_source kind pcd.line.now (map stated_view pcd.lines.now) (map (λ s. s.now) pcd.sets.now)
    sku
    (source pcd.line.now (map stated_view pcd.lines.now) (map (λ s. s.now) pcd.sets.now)
    pcd.skus.now sku)

-- what is known of the sources behind all places of the order
abbrev pub AreSources : PcdLines → List (Option ℕ) → Type 0
AreSources pcd known =
    AreKnown (own_values pcd) pcd.skus.now (length pcd.tables.now.order.items) known
