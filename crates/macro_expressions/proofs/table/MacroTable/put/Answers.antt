use Rattle.std.proofs.Common.{sym}
use Rattle.macro_expressions.proofs.TableLemmas.{put_table, put_values}
use Rattle.macro_expressions.proofs.table.MacroTable.put.Goals as goal

pub returns-in-Ok-clause-table : goal.returns-in-Ok-clause-table
returns-in-Ok-clause-table c =
    put_table c.self.inside.by_name c.insert.new.self c.args.self.now c.in_ok-name.name c.args.name.now c.args.value (sym c.self.view_is) c.in_ok-name.ensures c.in-Ok.ensures.entries

pub returns-in-Ok-clause-values : goal.returns-in-Ok-clause-values
returns-in-Ok-clause-values c =
    put_values c.self.inside.by_name c.insert.new.self c.args.self.now c.in_ok-name.name c.args.name.now c.args.value (sym c.self.view_is) c.in_ok-name.ensures c.self.invariant c.insert.ensures.unique c.in-Ok.ensures.updates.0
