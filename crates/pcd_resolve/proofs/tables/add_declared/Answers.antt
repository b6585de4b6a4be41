use Rattle.std.proofs.Common.{◌≤◌, ◌++◌, List, Option, map, length, subst, IfSome}
use Rattle.std.specs.Borrow.{Bor}
use Rattle.std.specs.Global.{Vec}
use Rattle.number_chains.specs.Marks.{AreMarked}
use Rattle.doc_types.specs.declared.package.DecPcd.{DecPcd}
use Rattle.doc_types.specs.NamePlaces.{place_of}
use Rattle.pcd_ranks.specs.Listing.{line_from}
use Rattle.pcd_ranks.specs.Views.{declared_view}
use Rattle.pcd_resolve.specs.Groups.{GroupedAt}
use Rattle.pcd_resolve.specs.Tables.{declared_name}
use Rattle.pcd_resolve.proofs.MarkedLemmas.{all_grouped}
use Rattle.pcd_resolve.proofs.tables.add_declared.Goals as goal

pub returns-in_ok-add_lent_declarations-in-Some : goal.returns-in_ok-add_lent_declarations-in-Some
returns-in_ok-add_lent_declarations-in-Some c = λ xs h.
    let marks = c.args.marks.now in
    let lines = c.args.lines.now in
    let found = c.in-Some.marked in
    let are : (2048 ≤ length marks) × AreMarked (λ (line : DecPcd). place_of (declared_name (line_from c.args.from.now line))) marks lines (map (λ (line : Bor DecPcd). line.now) found.items) =
    subst (λ (o : Option (Vec (Bor DecPcd))). IfSome o (λ v. (2048 ≤ length marks) × AreMarked (λ (line : DecPcd). place_of (declared_name (line_from c.args.from.now line))) marks lines (map (λ (line : Bor DecPcd). line.now) v.items)))
    c.in-Some.is c.in_ok-marked.ensures in
    all_grouped marks declared_view declared_name (line_from c.args.from.now) xs found.items lines c.add_lent_declarations.new.table are.0 are.1
    (subst (λ (ls : List (Bor DecPcd)). GroupedAt marks declared_view declared_name (xs ++ map (λ (line : Bor DecPcd). line_from c.args.from.now line.now) ls) c.add_lent_declarations.new.table) c.as_slice.ensures.value (c.in_ok-add_lent_declarations-in-Some.ensures xs h))
