use Rattle.std.proofs.Common.{◌≡◌, ◌-◌, ◌≤◌, [], length, drop}
use Rattle.depex_code.specs.Postfix.{trees, ready, run, total}
use Rattle.depex_code.proofs.postfix.run.Given as goal

abbrev pub invariant-loop-at : goal.invariant-loop-at
invariant-loop-at l = record {
  runs : run (ready (trees l.stack.items)) (drop l.at l.bytes) ≡ run (ready []) l.bytes;
  within : l.at ≤ length l.bytes;
  counts : l.count ≡ total (trees l.stack.items);
  few : l.count ≤ l.most;
}

abbrev pub decreases-loop-at : goal.decreases-loop-at
decreases-loop-at l = length l.bytes - l.at
