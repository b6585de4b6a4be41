use Rattle.std.proofs.Common.{◌≡◌, ◌+◌, ◌-◌, ◌≤◌, length, drop}
use Rattle.std.specs.List.{prefix_len}
use Rattle.meta_lexer.specs.Lines.{is_blank}
use Rattle.macro_conditions.proofs.places.blanks.Given as goal

abbrev pub invariant-loop-count : goal.invariant-loop-count
invariant-loop-count l = (l.count ≤ length l.piece) × (l.count + prefix_len is_blank (drop l.count l.piece) ≡ prefix_len is_blank l.piece)

abbrev pub decreases-loop-count : goal.decreases-loop-count
decreases-loop-count l = length l.piece - l.count
