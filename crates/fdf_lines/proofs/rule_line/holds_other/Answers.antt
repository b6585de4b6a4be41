use Rattle.std.proofs.Common.{◌∙◌, sym, arith}
use Rattle.fdf_lines.proofs.MacroLemmas.{others_below}
use Rattle.fdf_lines.proofs.rule_line.holds_other.Goals as goal

pub loop-i-preserved : goal.loop-i-preserved
loop-i-preserved c =
    sym (others_below c.args.text.now c.loop-i.i (omega arith) (sym c.is_other.ensures ∙ c.if-is_other.false)) ∙ c.loop-i.invariant
