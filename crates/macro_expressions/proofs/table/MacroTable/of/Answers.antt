use Rattle.std.proofs.Common.{◌∙◌, sym, ap, cond, Some}
use Rattle.macro_expressions.specs.Macros.{same_text, put_macro}
use Rattle.macro_expressions.proofs.TableLemmas.{table_next, value_next}
use Rattle.macro_expressions.proofs.table.MacroTable.of.Goals as goal

pub loop-m-preserved : goal.loop-m-preserved
loop-m-preserved c = record {
  table = c.in_ok-put_copy.ensures.table ∙ ap (put_macro c.m-item.result.name c.m-item.result.value) c.loop-m.invariant.table
      ∙ sym (table_next c.args.macros.now c.loop-m.m-index c.m-item.result c.loop-m-test.true c.m-item.is);
  values = λ name.
      c.in_ok-put_copy.ensures.values name ∙ ap (λ o. cond (same_text c.m-item.result.name name) (Some c.m-item.result.value) o) (c.loop-m.invariant.values name)
      ∙ sym (value_next c.args.macros.now c.loop-m.m-index c.m-item.result name c.loop-m-test.true c.m-item.is);
}
