use Rattle.std.proofs.Common.{◌∙◌, sym, arith}
use Rattle.fdf_lines.proofs.MacroLemmas.{another_below}
use Rattle.fdf_lines.proofs.rule_number.holds_another.Goals as goal

pub loop-i-preserved : goal.loop-i-preserved
loop-i-preserved c =
    sym (another_below c.args.text.now c.loop-i.i (omega arith) (sym c.begins_another.ensures ∙ c.if-begins_another.false)) ∙ c.loop-i.invariant
