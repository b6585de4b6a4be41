-- The last files stand in the table.
use Rattle.std.proofs.Common.{◌≡◌, ◌≤◌, length, drop}
use Rattle.build_base.specs.MemoryTree.{file_at}
use Rattle.sure_objects.specs.Files.{found_in}
use Rattle.sure_objects.proofs.tabled_tree.table_of.Given as goal

abbrev pub invariant-loop-left : goal.invariant-loop-left
invariant-loop-left l = (l.left ≤ length l.files) × (found_in l.table.entries ≡ file_at (drop l.left l.files))

abbrev pub decreases-loop-left : goal.decreases-loop-left
decreases-loop-left l = l.left
