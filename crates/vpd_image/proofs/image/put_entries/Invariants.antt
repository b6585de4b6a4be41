use Rattle.std.proofs.Common.{◌≡◌, drop, map, []}
use Rattle.build_base.specs.Pieces.{put_pieces}
use Rattle.vpd_image.specs.Orders.{pieces_in}
use Rattle.vpd_image.specs.Tables.{placed_view}
use Rattle.vpd_image.proofs.image.put_entries.Given as goal

abbrev pub invariant-loop-i : goal.invariant-loop-i
invariant-loop-i l = put_pieces 0xFF l.out.items (pieces_in (map placed_view (drop l.i l.all))) ≡ put_pieces 0xFF [] (pieces_in (map placed_view l.all))
