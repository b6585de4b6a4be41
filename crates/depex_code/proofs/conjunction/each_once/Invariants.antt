use Rattle.std.proofs.Common.{◌≡◌, [], fold, length}
use Rattle.depex_code.specs.Tree.{with_guid}
use Rattle.depex_code.specs.Kept.{guids_view}
use Rattle.depex_code.specs.SizedJoins.{and_guid}
use Rattle.depex_code.proofs.conjunction.each_once.Given as goal

abbrev pub invariant-loop-left : goal.invariant-loop-left
invariant-loop-left l = record {
  seen : fold with_guid l.seen.keys (guids_view l.left) ≡ fold with_guid [] (guids_view l.guids);
  bytes : l.bytes.items ≡ fold and_guid [] l.seen.keys;
}

abbrev pub decreases-loop-left : goal.decreases-loop-left
decreases-loop-left l = length l.left
