use Rattle.std.proofs.Common.{◌-◌, ◌≤◌, ◌≡◌, ◌++◌}
use Rattle.selftest_tree.specs.Texts.{for_each, component_line}
use Rattle.selftest_tree.proofs.numbered_texts.put_components.Given as goal

abbrev pub invariant-loop-k : goal.invariant-loop-k
invariant-loop-k l = (l.k ≤ l.n) × (l.out.items ≡ l.fn.out.items ++ for_each component_line l.k)

abbrev pub decreases-loop-k : goal.decreases-loop-k
decreases-loop-k l = l.n - l.k
