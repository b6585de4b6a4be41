use Rattle.std.proofs.Common.{◌≡◌, ◌++◌, ℕ, List, map, length}
use Rattle.flash_document.specs.Names.{Places}
use Rattle.flash_document.specs.Document.{section_plan}
use Rattle.flash_document.proofs.plan.section_plans.Given as goal

abbrev pub invariant-loop-left : goal.invariant-loop-left
invariant-loop-left l = (names : List (List ℕ)) → Places names l.table → l.plans ++ map (section_plan names) l.left ≡ map (section_plan names) l.sections

abbrev pub decreases-loop-left : goal.decreases-loop-left
decreases-loop-left l = length l.left
