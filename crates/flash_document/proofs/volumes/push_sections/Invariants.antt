use Rattle.std.proofs.Common.{◌≡◌, ◌++◌, ℕ, List, length}
use Rattle.std.specs.List.{flat_map}
use Rattle.flash_document.specs.Names.{Places}
use Rattle.flash_document.specs.Whole.{section_nest}
use Rattle.flash_document.proofs.volumes.push_sections.Given as goal

abbrev pub invariant-loop-left : goal.invariant-loop-left
invariant-loop-left l = (names : List (List ℕ)) → Places names l.table → l.nest ++ flat_map (section_nest names) l.left ≡ l.fn.nest ++ flat_map (section_nest names) l.sections

abbrev pub decreases-loop-left : goal.decreases-loop-left
decreases-loop-left l = length l.left
