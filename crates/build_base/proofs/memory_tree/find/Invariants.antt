use Rattle.std.proofs.Common.{◌≡◌, drop}
use Rattle.build_base.specs.MemoryTree.{file_at}
use Rattle.build_base.proofs.memory_tree.find.Given as goal

abbrev pub invariant-loop-entry : goal.invariant-loop-entry
invariant-loop-entry l = file_at l.files l.path ≡ file_at (drop l.entry-index l.files) l.path
