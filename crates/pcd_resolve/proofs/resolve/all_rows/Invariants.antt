use Rattle.std.proofs.Common.{◌≡◌, map, drop}
use Rattle.build_base.specs.First.{with_front}
use Rattle.pcd_ranks.specs.Listing.{uses_of_module, stated_in}
use Rattle.pcd_resolve.specs.Rows.{rows_in, all_rows}
use Rattle.pcd_resolve.proofs.resolve.all_rows.Given as goal

abbrev pub invariant-loop-pcd : goal.invariant-loop-pcd
invariant-loop-pcd l =
    with_front l.rows (all_rows (map (rows_in l.from.ask.now (uses_of_module l.from.ask.now.parts) (stated_in l.from.ask.now.platform)) (map (λ n. n.items) (drop l.pcd-index l.names))))
    ≡ all_rows (map (rows_in l.from.ask.now (uses_of_module l.from.ask.now.parts) (stated_in l.from.ask.now.platform)) (map (λ n. n.items) l.names))
