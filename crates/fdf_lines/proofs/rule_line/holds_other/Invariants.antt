use Rattle.std.proofs.Common.{◌≡◌, drop}
use Rattle.fdf_lines.specs.Rules.{holds_other}
use Rattle.fdf_lines.proofs.rule_line.holds_other.Given as goal

abbrev pub invariant-loop-i : goal.invariant-loop-i
invariant-loop-i l = holds_other (drop l.i l.text) ≡ holds_other l.text
