use Rattle.std.proofs.Common.{◌+◌}
use Rattle.vpd_image.proofs.RoomLemmas.{clear_some, clear_none}
use Rattle.vpd_image.proofs.free_map.is_clear.Goals as goal

pub returns-in-Some : goal.returns-in-Some
returns-in-Some c = λ l. clear_some c.args.taken.now c.count_passed.result c.args.start c.args.size c.in-Some.next.now l c.requires.size (c.count_passed.ensures.before l) (c.count_passed.ensures.behind l) c.in-Some.ensures.lookup.3.0 c.in-Some.ensures.lookup.1

pub returns-in-None : goal.returns-in-None
returns-in-None c = λ l. clear_none c.args.taken.now c.count_passed.result c.args.start (c.args.start + c.args.size) (c.count_passed.ensures.before l) c.in-None.ensures.lookup.3
