-- What the reader of a flash description holds of the lines above.
use Rattle.std.specs.Prelude.{◌≡◌, List}
use Rattle.doc_reading.specs.Grammar.{Read}
use Rattle.fdf_lines.specs.declared.flash_lines.FlashLines.{FlashLines}
use Rattle.fdf_words.specs.declared.rows.Row.{Row}
use Rattle.fdf_words.specs.declared.rows.Scope.{Scope}
use Rattle.fdf_lines.specs.declared.section.FlashSection.TheVariants.{Device, Volume, Rule}
use Rattle.fdf_lines.specs.Counts.{saturated, heads_above, statements_here}
use Rattle.fdf_lines.specs.Reads.{reads_as}
use Rattle.fdf_lines.specs.Standing.{marks_below, volume_below}

pub record Holds (above : List (Read Scope Row)) (format : FlashLines) : Type 0 where
  pub reads : reads_as format.reads ≡ above
  pub marks : format.marks ≡ marks_below above
  pub volume : format.volume ≡ volume_below above
  pub statements : format.statements ≡ saturated (statements_here above)
  pub devices : format.devices ≡ saturated (heads_above Device above)
  pub volumes : format.volumes ≡ saturated (heads_above Volume above)
  pub rules : format.rules ≡ saturated (heads_above Rule above)
