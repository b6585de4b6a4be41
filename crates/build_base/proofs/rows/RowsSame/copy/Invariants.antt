use Rattle.std.proofs.Common.{◌≡◌, take}
use Rattle.build_base.proofs.rows.RowsSame.copy.Given as goal

abbrev pub invariant-loop-item : goal.invariant-loop-item
invariant-loop-item g l = l.rows ≡ take l.item-index l.item-items
