use Rattle.std.proofs.Common.{take}
use Rattle.flash_document.specs.Names.{Places}
use Rattle.flash_document.proofs.names.places_of.Given as goal

abbrev pub invariant-loop-i : goal.invariant-loop-i
invariant-loop-i l = Places (take l.i l.names) l.table
