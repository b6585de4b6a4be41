use Rattle.std.proofs.Common.{◌≡◌, None, option_map, drop}
use Rattle.depex_code.specs.Kept.{piece_size}
use Rattle.depex_code.specs.SizedJoins.{parts_size}
use Rattle.depex_code.proofs.join.joined_parts.Given as goal

abbrev pub invariant-loop-part : goal.invariant-loop-part
invariant-loop-part l =
    parts_size l.front l.group.guids (option_map piece_size l.whole) l.left (option_map piece_size l.own) (drop l.part-index l.group.parts)
    ≡ parts_size l.front l.group.guids (option_map piece_size l.whole) l.fn.leave None l.group.parts
