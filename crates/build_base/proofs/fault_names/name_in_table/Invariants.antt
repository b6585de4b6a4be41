use Rattle.std.proofs.Common.{◌≡◌, map, length}
use Rattle.build_base.specs.FaultNames.{name_in_table}
use Rattle.build_base.proofs.fault_names.name_in_table.Given as goal

abbrev pub invariant-loop-table : goal.invariant-loop-table
invariant-loop-table l = name_in_table (map (λ e. (e.0, e.1.now)) l.table) l.code ≡ name_in_table (map (λ e. (e.0, e.1.now)) l.initial.table) l.code

abbrev pub decreases-loop-table : goal.decreases-loop-table
decreases-loop-table l = length l.table
