use Rattle.std.proofs.Common.{◌≤◌, ◌++◌, List, Option, map, length, subst, IfSome}
use Rattle.std.specs.Borrow.{Bor}
use Rattle.std.specs.Global.{Vec}
use Rattle.number_chains.specs.Marks.{AreMarked}
use Rattle.doc_types.specs.declared.pcd.PcdSet.{PcdSet as Set}
use Rattle.doc_types.specs.NamePlaces.{place_of}
use Rattle.pcd_resolve.specs.Groups.{GroupedAt}
use Rattle.pcd_resolve.specs.Tables.{set_name}
use Rattle.pcd_resolve.proofs.MarkedLemmas.{all_grouped}
use Rattle.pcd_resolve.proofs.tables.add_flash_sets.Goals as goal

pub returns-in_ok-add_lent_sets-in-Some : goal.returns-in_ok-add_lent_sets-in-Some
returns-in_ok-add_lent_sets-in-Some c = λ xs h.
    let marks = c.args.marks.now in
    let rows = c.args.sets.now in
    let found = c.in-Some.marked in
    let are : (2048 ≤ length marks) × AreMarked (λ (r : Set). place_of (set_name r)) marks rows (map (λ (r : Bor Set). r.now) found.items) =
    subst (λ (o : Option (Vec (Bor Set))). IfSome o (λ v. (2048 ≤ length marks) × AreMarked (λ (r : Set). place_of (set_name r)) marks rows (map (λ (r : Bor Set). r.now) v.items)))
    c.in-Some.is c.in_ok-marked.ensures in
    all_grouped marks (λ (r : Bor Set). r.now) set_name (λ (r : Set). r) xs found.items rows c.add_lent_sets.new.table are.0 are.1
    (subst (λ (ls : List (Bor Set)). GroupedAt marks (λ (r : Bor Set). r.now) set_name (xs ++ map (λ (r : Bor Set). r.now) ls) c.add_lent_sets.new.table) c.as_slice.ensures.value (c.in_ok-add_lent_sets-in-Some.ensures xs h))
