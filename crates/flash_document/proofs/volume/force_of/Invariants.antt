use Rattle.std.proofs.Common.{length, ◌≡◌}
use Rattle.flash_document.specs.Columns.{column}
use Rattle.doc_reading.specs.Reading.{last_or}
use Rattle.flash_document.specs.Volumes.{settings_in, rebases, last_setting}
use Rattle.flash_document.proofs.volume.force_of.Given as goal

abbrev pub invariant-loop-left : goal.invariant-loop-left
invariant-loop-left l = last_or l.found (column (settings_in rebases) l.k l.left) ≡ last_setting rebases l.k l.lines

abbrev pub decreases-loop-left : goal.decreases-loop-left
decreases-loop-left l = length l.left
