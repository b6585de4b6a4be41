use Rattle.std.proofs.Common.{◌≡◌, ◌≤◌, ◌+◌, drop}
use Rattle.fdf_lines.specs.Counts.{count_of, saturated, one_scope}
use Rattle.fdf_lines.proofs.counts.scopes_of.Given as goal

abbrev pub invariant-loop-scope : goal.invariant-loop-scope
invariant-loop-scope l =
    (saturated (l.count + count_of (one_scope l.section) (drop l.scope-index l.scopes)) ≡ saturated (count_of (one_scope l.section) l.scopes)) × (l.count ≤ 18446744073709551615)
