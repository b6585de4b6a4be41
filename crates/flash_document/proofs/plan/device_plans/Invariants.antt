use Rattle.std.proofs.Common.{◌≡◌, ◌++◌, ℕ, List, length}
use Rattle.std.specs.List.{flat_map}
use Rattle.flash_document.specs.Names.{Places}
use Rattle.flash_document.specs.Document.{part_device}
use Rattle.flash_document.proofs.plan.device_plans.Given as goal

abbrev pub invariant-loop-left : goal.invariant-loop-left
invariant-loop-left l = (names : List (List ℕ)) → Places names l.table → l.devices ++ flat_map (part_device names) l.left ≡ flat_map (part_device names) l.parts

abbrev pub decreases-loop-left : goal.decreases-loop-left
decreases-loop-left l = length l.left
