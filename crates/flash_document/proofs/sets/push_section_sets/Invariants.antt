use Rattle.std.proofs.Common.{◌≡◌, ◌++◌, take, drop}
use Rattle.flash_document.specs.Sets.{section_sets}
use Rattle.flash_document.proofs.sets.push_section_sets.Given as goal

abbrev pub invariant-loop-i : goal.invariant-loop-i
invariant-loop-i l = l.sets ++ section_sets l.bases (take l.i l.lines) (drop l.i l.lines) ≡ l.fn.sets ++ section_sets l.bases (take 0 l.lines) l.lines
