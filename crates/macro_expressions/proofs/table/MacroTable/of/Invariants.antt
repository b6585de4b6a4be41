use Rattle.std.proofs.Common.{◌≡◌, take}
use Rattle.macro_expressions.specs.Macros.{HasValues, table_of}
use Rattle.macro_expressions.proofs.table.MacroTable.of.Given as goal

abbrev pub invariant-loop-m : goal.invariant-loop-m
invariant-loop-m l = record {
  table : l.table ≡ table_of (take l.m-index l.macros);
  values : HasValues l.table (take l.m-index l.macros);
}
