use Rattle.std.proofs.Common.{map}
use Rattle.std.specs.Prelude.{filter}
use Rattle.std.specs.Str.{bytes_eq}
use Rattle.pcd_ranks.specs.Assignments.{by_line}
use Rattle.pcd_ranks.specs.Listing.{Stated}
use Rattle.pcd_ranks.specs.Views.{stated_view}
use Rattle.pcd_resolve.proofs.PassLemmas.{map_filter_map, passed}
use Rattle.pcd_resolve.proofs.dynamic.put_lines.Goals as goal

pub loop-stated-preserved : goal.loop-stated-preserved
loop-stated-preserved c =
    passed (λ ls. map (by_line c.args.datum) (filter (λ (s : Stated). bytes_eq s.line.sku c.args.sku.now) (map stated_view ls))) c.args.lines.now c.loop-stated.stated-index _ _ _ _
    (map_filter_map (by_line c.args.datum) (λ (s : Stated). bytes_eq s.line.sku c.args.sku.now) stated_view) c.loop-stated-test.true c.stated-item.is c.loop-stated.invariant c.in_ok-put_line.ensures
