use Rattle.std.proofs.Common.{ℕ, List, drop}
use Rattle.volume_nesting.specs.Turning.{Standing}
use Rattle.volume_nesting.proofs.numbering.Sorter.settle_all.Given as goal

abbrev pub invariant-loop-row : goal.invariant-loop-row
invariant-loop-row l = (order : List ℕ) → Standing l.fn.nests order l.fn.rows l.initial.self → Standing l.fn.nests order (drop l.row-index l.fn.rows) l.self
