use Rattle.std.proofs.Common.{◌-◌, arith, length, drop}
use Rattle.std.proofs.lemmas.List.{take_all, length-drop}
use Rattle.vpd_image.proofs.RoomLemmas.{below_drop, next_behind}
use Rattle.vpd_image.proofs.free_map.next_free.Goals as goal

pub first_multiple-requires-clause-below : goal.first_multiple-requires-clause-below
first_multiple-requires-clause-below c =
    rw (take_all (length c.args.taken.now - c.count_passed-place.result) (drop c.count_passed-place.result c.args.taken.now) (omega (arith, length-drop c.count_passed-place.result c.args.taken.now)))
    (below_drop c.count_passed-place.result c.args.taken.now c.requires.below)

pub returns-clause-next : goal.returns-clause-next
returns-clause-next c =
    let taken = c.args.taken.now in
    let i = c.count_passed-place.result in
    rw (c.first_multiple.ensures.value, take_all (length taken - i) (drop i taken) (omega (arith, length-drop i taken)))
    (next_behind taken i c.args.align c.args.size c.args.from c.requires.laid c.requires.align.0 c.requires.size.0 (c.count_passed-place.ensures.before c.requires.laid))
