use Rattle.std.proofs.Common.{◌≡◌, ◌≤◌, ◌+◌, drop}
use Rattle.fdf_lines.specs.Counts.{count_of, saturated, one_head}
use Rattle.fdf_lines.proofs.counts.heads_of.Given as goal

abbrev pub invariant-loop-head : goal.invariant-loop-head
invariant-loop-head l =
    (saturated (l.count + count_of (one_head l.section) (drop l.head-index l.heads)) ≡ saturated (count_of (one_head l.section) l.heads)) × (l.count ≤ 18446744073709551615)
