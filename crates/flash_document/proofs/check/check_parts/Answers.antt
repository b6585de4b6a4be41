use Rattle.std.proofs.Common.{sym}
use Rattle.flash_document.specs.Whole.{part_fault}
use Rattle.flash_document.proofs.MarkedLemmas.{marked_stops}
use Rattle.flash_document.proofs.check.check_parts.Goals as goal

pub returns-then-is_err : goal.returns-then-is_err
returns-then-is_err c regions s =
    marked_stops (part_fault c.args.test regions) c.loop-left.left.now c.loop-left.marks.now c.part-item.result _ c.part_fault-found.result c.in-len1-up.len_at_least c.in-len1-up-marks.len_at_least c.part-item.is (sym c.if-is_err.ensures.value) (c.part_fault-found.ensures regions s) (c.loop-left.invariant regions s)
