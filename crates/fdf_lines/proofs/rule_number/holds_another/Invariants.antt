use Rattle.std.proofs.Common.{◌≡◌, drop}
use Rattle.fdf_lines.specs.RuleNumbers.{holds_another}
use Rattle.fdf_lines.proofs.rule_number.holds_another.Given as goal

abbrev pub invariant-loop-i : goal.invariant-loop-i
invariant-loop-i l = holds_another (drop l.i l.text) ≡ holds_another l.text
