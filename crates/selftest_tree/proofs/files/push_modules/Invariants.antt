use Rattle.std.proofs.Common.{◌-◌, ◌≤◌, ◌≡◌, ◌++◌}
use Rattle.selftest_tree.specs.Texts.{for_each}
use Rattle.selftest_tree.specs.Tree.{module_file}
use Rattle.selftest_tree.proofs.files.push_modules.Given as goal

abbrev pub invariant-loop-k : goal.invariant-loop-k
invariant-loop-k l = (l.k ≤ l.n) × (l.files ≡ l.fn.files ++ for_each module_file l.k)

abbrev pub decreases-loop-k : goal.decreases-loop-k
decreases-loop-k l = l.n - l.k
