use Rattle.std.proofs.Common.{◌≡◌}
use Rattle.inf_docs.specs.Modules.{with_rows}
use Rattle.inf_docs.proofs.tables.ModuleTables.take.Given as goal

abbrev pub invariant-loop-row : goal.invariant-loop-row
invariant-loop-row l = l.self ≡ with_rows l.initial.self l.yielded
