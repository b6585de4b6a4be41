use Rattle.std.proofs.Common.{◌<◌, arith}
use Rattle.vpd_image.specs.Places.{align_of}
use Rattle.vpd_image.proofs.RoomLemmas.{least_found}
use Rattle.vpd_image.proofs.free_map.FreeMap.least.Goals as goal

pub returns-clause-place : goal.returns-clause-place
returns-clause-place c = λ placed h.
    let pos : 0 < align_of c.args.datum = omega (arith, c.align_of-align.ensures.some, c.align_of-align.ensures.value) in
    rw c.align_of-align.ensures.value
    (least_found placed c.args.self.now c.args.datum c.args.size c.next_free-low.result c.next_free-found.result h pos c.requires.size.0
    (rw (← c.as_slice-taken.ensures.value, ← c.align_of-align.ensures.value, ← c.least_size.ensures.value, ← c.slot-place.ensures.value) c.next_free-low.ensures.next) (rw (← c.as_slice-taken.ensures.value, ← c.align_of-align.ensures.value) c.next_free-found.ensures.next))
