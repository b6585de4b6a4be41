use Rattle.std.proofs.Common.{length, ◌≡◌}
use Rattle.doc_reading.specs.Reading.{last_or}
use Rattle.flash_document.specs.Columns.{column}
use Rattle.flash_document.specs.Devices.{numbers, number_of}
use Rattle.flash_document.proofs.device.number_of.Given as goal

abbrev pub invariant-loop-left : goal.invariant-loop-left
invariant-loop-left l = last_or l.found (column (numbers l.key) l.k l.left) ≡ number_of l.key l.k l.lines

abbrev pub decreases-loop-left : goal.decreases-loop-left
decreases-loop-left l = length l.left
