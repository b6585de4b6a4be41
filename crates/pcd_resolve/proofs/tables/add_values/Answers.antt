use Rattle.std.proofs.Common.{◌≤◌, ◌++◌, List, Option, map, length, subst, IfSome}
use Rattle.std.specs.Borrow.{Bor}
use Rattle.std.specs.Global.{Vec}
use Rattle.number_chains.specs.Marks.{AreMarked}
use Rattle.doc_types.specs.declared.values.PcdRow.{PcdRow as Row}
use Rattle.doc_types.specs.NamePlaces.{place_of}
use Rattle.pcd_resolve.specs.Groups.{GroupedAt}
use Rattle.pcd_resolve.specs.Tables.{row_name}
use Rattle.pcd_resolve.proofs.MarkedLemmas.{all_grouped}
use Rattle.pcd_resolve.proofs.tables.add_values.Goals as goal

pub returns-in_ok-add_lent_rows-in-Some : goal.returns-in_ok-add_lent_rows-in-Some
returns-in_ok-add_lent_rows-in-Some c = λ xs h.
    let marks = c.args.marks.now in
    let rows = c.args.rows.now in
    let found = c.in-Some.marked in
    let are : (2048 ≤ length marks) × AreMarked (λ (r : Row). place_of (row_name r)) marks rows (map (λ (r : Bor Row). r.now) found.items) =
    subst (λ (o : Option (Vec (Bor Row))). IfSome o (λ v. (2048 ≤ length marks) × AreMarked (λ (r : Row). place_of (row_name r)) marks rows (map (λ (r : Bor Row). r.now) v.items)))
    c.in-Some.is c.in_ok-marked.ensures in
    all_grouped marks (λ (r : Bor Row). r.now) row_name (λ (r : Row). r) xs found.items rows c.add_lent_rows.new.table are.0 are.1
    (subst (λ (ls : List (Bor Row)). GroupedAt marks (λ (r : Bor Row). r.now) row_name (xs ++ map (λ (r : Bor Row). r.now) ls) c.add_lent_rows.new.table) c.as_slice.ensures.value (c.in_ok-add_lent_rows-in-Some.ensures xs h))
