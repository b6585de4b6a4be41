use Rattle.std.proofs.Common.{◌≡◌, ◌≤◌, ◌<◌, true, false, arith, rules}
use Rattle.std.specs.List.Sorted.{IsPartitionPoint}
use Rattle.std.proofs.lemmas.Bool.Decides.{nat_tests}
use Rattle.std.proofs.lemmas.List.Sorted.{IsPartitionPoint-from_clause, IsPartitionedBy-leb}
use Rattle.std.specs.Prelude.{nat_le}
use Rattle.vpd_image.proofs.RoomLemmas.{ends_rise, all_passed, all_left}
use Rattle.vpd_image.proofs.free_map.count_passed.Goals as goal

pub returns-clause-before : goal.returns-clause-before
returns-clause-before c = λ l.
    let xs = c.args.taken.now in
    let at = c.args.at in
    let i = c.partition_point.result in
    let point : IsPartitionPoint (λ s. nat_le s.end at ≡ true) (λ s. nat_le s.end at ≡ false) xs i =
    IsPartitionPoint-from_clause (λ s. nat_le s.end at) xs i c.partition_point.ensures.partitioned (IsPartitionedBy-leb (λ s. s.end) xs at (ends_rise xs l)) (λ a r q k. search rules) in
    all_passed (λ s. s.end ≤ at) xs i (λ k d low high. grind (arith, nat_tests, point.0 k d low high))

pub returns-clause-behind : goal.returns-clause-behind
returns-clause-behind c = λ l.
    let xs = c.args.taken.now in
    let at = c.args.at in
    let i = c.partition_point.result in
    let point : IsPartitionPoint (λ s. nat_le s.end at ≡ true) (λ s. nat_le s.end at ≡ false) xs i =
    IsPartitionPoint-from_clause (λ s. nat_le s.end at) xs i c.partition_point.ensures.partitioned (IsPartitionedBy-leb (λ s. s.end) xs at (ends_rise xs l)) (λ a r q k. search rules) in
    all_left (λ s. at < s.end) xs i c.partition_point.ensures.bound (λ k d low high. grind (arith, nat_tests, point.1 k d low high))
