use Rattle.std.proofs.Common.{refl}
use Rattle.vpd_image.specs.Rooms.{AreLaid}
use Rattle.vpd_image.proofs.RoomLemmas.{holds_put}
use Rattle.vpd_image.proofs.free_map.FreeMap.put.Goals as goal

pub returns : goal.returns
returns c = λ placed p h free at long.
    let laid : AreLaid 0 c.as_slice.result.now = rw c.as_slice.ensures.value h.sound.laid in
    holds_put placed p c.args.self.now _ c.count_passed-place.result c.args.start c.args.size h free at long c.requires.size c.requires.end
    (rw (← c.as_slice.ensures.value) (c.count_passed-place.ensures.before laid)) (rw (← c.as_slice.ensures.value) (c.count_passed-place.ensures.behind laid)) c.in_ok-insert.ensures refl
