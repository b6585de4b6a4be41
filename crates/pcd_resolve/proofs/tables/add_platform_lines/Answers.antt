use Rattle.std.proofs.Common.{◌≤◌, ◌++◌, List, Option, map, length, subst, IfSome, None}
use Rattle.std.specs.Borrow.{Bor}
use Rattle.std.specs.Global.{Vec}
use Rattle.number_chains.specs.Marks.{AreMarked}
use Rattle.doc_types.specs.declared.platform.PcdLine.{PcdLine}
use Rattle.doc_types.specs.NamePlaces.{place_of}
use Rattle.pcd_ranks.specs.Views.{stated_view}
use Rattle.pcd_resolve.specs.Groups.{GroupedAt}
use Rattle.pcd_resolve.specs.Tables.{stated_name, at_home}
use Rattle.pcd_resolve.proofs.MarkedLemmas.{all_grouped}
use Rattle.pcd_resolve.proofs.tables.add_platform_lines.Goals as goal

pub returns-in_ok-add_lent_lines-in-Some : goal.returns-in_ok-add_lent_lines-in-Some
returns-in_ok-add_lent_lines-in-Some c = λ xs h.
    let marks = c.args.marks.now in
    let lines = c.args.lines.now in
    let found = c.in-Some.marked in
    let are : (2048 ≤ length marks) × AreMarked (λ (line : PcdLine). place_of (stated_name (at_home None line))) marks lines (map (λ (line : Bor PcdLine). line.now) found.items) =
    subst (λ (o : Option (Vec (Bor PcdLine))). IfSome o (λ v. (2048 ≤ length marks) × AreMarked (λ (line : PcdLine). place_of (stated_name (at_home None line))) marks lines (map (λ (line : Bor PcdLine). line.now) v.items)))
    c.in-Some.is c.in_ok-marked.ensures in
    all_grouped marks stated_view stated_name (at_home None) xs found.items lines c.add_lent_lines.new.table are.0 are.1
    (subst (λ (ls : List (Bor PcdLine)). GroupedAt marks stated_view stated_name (xs ++ map (λ (line : Bor PcdLine). at_home None line.now) ls) c.add_lent_lines.new.table) c.as_slice.ensures.value (c.in_ok-add_lent_lines-in-Some.ensures xs h))
