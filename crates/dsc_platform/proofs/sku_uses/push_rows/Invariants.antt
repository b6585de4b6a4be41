use Rattle.std.proofs.Common.{◌≡◌, ◌++◌, drop}
use Rattle.std.specs.List.{flat_map}
use Rattle.dsc_platform.specs.SkuUses.{row_uses}
use Rattle.dsc_platform.proofs.sku_uses.push_rows.Given as goal

abbrev pub invariant-loop-row : goal.invariant-loop-row
invariant-loop-row l = l.uses ++ flat_map row_uses (drop l.row-index l.rows) ≡ l.fn.uses ++ flat_map row_uses l.rows
