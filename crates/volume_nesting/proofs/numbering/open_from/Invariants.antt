use Rattle.std.proofs.Common.{◌≡◌, ℕ, List, true, take}
use Rattle.std.specs.BTreeSet.{contains}
use Rattle.std.specs.Ordering.{nat_cmp}
use Rattle.volume_nesting.specs.Numbering.{has, all_among}
use Rattle.volume_nesting.proofs.numbering.open_from.Given as goal

abbrev pub invariant-loop-i : goal.invariant-loop-i
invariant-loop-i l = (order : List ℕ) → ((v : ℕ) → contains nat_cmp l.numbered v ≡ has order v) → all_among order (take l.from l.nest) ≡ true → all_among order (take l.i l.nest) ≡ true
