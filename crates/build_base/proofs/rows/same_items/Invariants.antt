use Rattle.std.proofs.Common.{◌≡◌, take}
use Rattle.build_base.proofs.rows.same_items.Given as goal

abbrev pub invariant-loop-i : goal.invariant-loop-i
invariant-loop-i g l = take l.i l.ours ≡ take l.i l.others
