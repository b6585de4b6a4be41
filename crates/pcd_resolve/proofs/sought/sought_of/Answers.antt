use Rattle.std.proofs.Common.{◌≡◌, ℕ, List, fold, map, rules}
use Rattle.std.specs.Global.{Vec}
use Rattle.pcd_resolve.specs.Sought.{look_each, sought_view}
use Rattle.pcd_resolve.proofs.SoughtLemmas.{each_found, found_each, names_found}
use Rattle.pcd_resolve.proofs.sought.sought_of.Goals as goal

pub returns-clause-names : goal.returns-clause-names
returns-clause-names c =
    let names : List (List ℕ) = map {A = Vec ℕ} {B = List ℕ} (λ n. n.items) c.args.names.now in
    let look : map sought_view c.in_ok-all.all.items ≡ fold look_each (map sought_view c.in_ok-start.start.items) c.args.ask.now.modules = search rules in
    names_found c.args.ask.now c.in_ok-all.all.items names (found_each c.args.ask.now names c.in_ok-start.start.items c.in_ok-all.all.items c.in_ok-start.ensures look)

pub returns-clause-found : goal.returns-clause-found
returns-clause-found c =
    let names : List (List ℕ) = map {A = Vec ℕ} {B = List ℕ} (λ n. n.items) c.args.names.now in
    let look : map sought_view c.in_ok-all.all.items ≡ fold look_each (map sought_view c.in_ok-start.start.items) c.args.ask.now.modules = search rules in
    each_found c.args.ask.now c.in_ok-all.all.items names (found_each c.args.ask.now names c.in_ok-start.start.items c.in_ok-all.all.items c.in_ok-start.ensures look)
