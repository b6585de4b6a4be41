use Rattle.std.proofs.Common.{◌≡◌, ◌+◌, ◌-◌, ◌≤◌, length, drop, not}
use Rattle.std.specs.List.{position_or_len}
use Rattle.meta_lexer.specs.Lines.{is_plain}
use Rattle.meta_lexer.proofs.line.bad_at.Given as goal

abbrev pub invariant-loop-i : goal.invariant-loop-i
invariant-loop-i l = (l.i ≤ length l.text) × (l.i + position_or_len (λ b. not (is_plain b)) (drop l.i l.text) ≡ position_or_len (λ b. not (is_plain b)) l.text)

abbrev pub decreases-loop-i : goal.decreases-loop-i
decreases-loop-i l = length l.text - l.i
