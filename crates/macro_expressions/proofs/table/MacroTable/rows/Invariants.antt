use Rattle.std.proofs.Common.{◌≡◌, take}
use Rattle.macro_expressions.proofs.table.MacroTable.rows.Given as goal

abbrev pub invariant-loop-place : goal.invariant-loop-place
invariant-loop-place l = l.rows ≡ take l.place l.self
