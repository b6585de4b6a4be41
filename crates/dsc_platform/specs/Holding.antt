-- What the reader of a platform holds.
use Rattle.std.specs.Prelude.{◌≡◌, List}
use Rattle.doc_reading.specs.Grammar.{Read, rows_of}
use Rattle.dsc_platform.specs.declared.format.DscFormat.{DscFormat}
use Rattle.dsc_lines.specs.declared.rows.DscRow.{DscRow}
use Rattle.dsc_lines.specs.declared.section.Scope.{Scope}
use Rattle.dsc_platform.specs.Cutting.{lines_of, BlocksHeld}
use Rattle.dsc_lines.specs.SkuNames.{Placed}
use Rattle.dsc_platform.specs.SkuUses.{uses_of}
use Rattle.dsc_lines.specs.Standing.{open_below}
use Rattle.dsc_platform.specs.Stating.{nothing, with_rows, names_of}

pub record Holds (above : List (Read Scope DscRow)) (format : DscFormat) : Type 0 where
  pub stated : format.stated ≡ with_rows nothing (rows_of above)
  pub standing : format.standing ≡ open_below (rows_of above)
  pub names : Placed (names_of format.stated.skus) format.names
  pub uses : format.uses ≡ uses_of above
  pub blocks : BlocksHeld (lines_of above) format.done format.first.items format.rest.items
