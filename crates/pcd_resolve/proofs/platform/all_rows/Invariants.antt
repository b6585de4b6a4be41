use Rattle.std.proofs.Common.{◌≡◌, map, drop}
use Rattle.build_base.specs.First.{with_front}
use Rattle.pcd_ranks.specs.Listing.{uses_in, stated_in}
use Rattle.pcd_resolve.specs.Platform.{rows_at}
use Rattle.pcd_resolve.specs.Rows.{all_rows}
use Rattle.pcd_resolve.proofs.platform.all_rows.Given as goal

abbrev pub invariant-loop-sought : goal.invariant-loop-sought
invariant-loop-sought l =
    with_front l.rows (all_rows (map (rows_at l.tables.ask.now (uses_in l.tables.ask.now.modules) (stated_in l.tables.ask.now.platform)) (map (λ s. s.name.now.items) (drop l.sought-index l.all))))
    ≡ all_rows (map (rows_at l.tables.ask.now (uses_in l.tables.ask.now.modules) (stated_in l.tables.ask.now.platform)) (map (λ s. s.name.now.items) l.all))
