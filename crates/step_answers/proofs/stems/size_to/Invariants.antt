use Rattle.std.proofs.Common.{◌≡◌, ◌+◌, ◌≤◌, length, take, not, ◌==◌}
use Rattle.std.specs.List.{suffix_len}
use Rattle.step_answers.proofs.stems.size_to.Given as goal

abbrev pub invariant-loop-n : goal.invariant-loop-n
invariant-loop-n l =
    (l.n ≤ length l.text)
    × (l.n + suffix_len (λ b. not (b == l.byte)) l.text ≡ length l.text + suffix_len (λ b. not (b == l.byte)) (take l.n l.text))

abbrev pub decreases-loop-n : goal.decreases-loop-n
decreases-loop-n l = l.n
