use Rattle.std.proofs.Common.{refl}
use Rattle.vpd_image.proofs.RoomLemmas.{holds_none}
use Rattle.vpd_image.proofs.free_map.FreeMap.new.Goals as goal

pub returns : goal.returns
returns c = holds_none _ c.new.ensures.items refl
