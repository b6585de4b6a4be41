use Rattle.std.proofs.Common.{◌≡◌, None, option_map, drop}
use Rattle.depex_code.specs.Kept.{piece_size}
use Rattle.depex_code.specs.SizedJoins.{groups_size}
use Rattle.depex_code.proofs.join.joined_groups.Given as goal

abbrev pub invariant-loop-group : goal.invariant-loop-group
invariant-loop-group l =
    groups_size l.front l.left (option_map piece_size l.whole) (drop l.group-index l.groups) ≡ groups_size l.front l.fn.leave None l.groups
