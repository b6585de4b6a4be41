use Rattle.std.proofs.Common.{◌≡◌, ◌∙◌, List, ap, subst}
use Rattle.doc_types.specs.declared.module.InfDoc.{InfDoc}
use Rattle.library_choice.specs.Closure.{setting_of}
use Rattle.library_choice.specs.Fronts.{AreFronts}
use Rattle.library_choice.specs.Searches.{Search}
use Rattle.library_choice.proofs.MoreLemmas.{search-begins, setting-infs}
use Rattle.library_choice.proofs.search.InstanceSearch.new.Goals as goal

pub invariant_of-result : goal.invariant_of-result
invariant_of-result c =
    let u = c.args.user.now in
    let p = c.args.platform.now in
    search-begins u p c.in_ok-inf.inf c.in_ok-infs.infs c.in_ok-tables.tables c.in_ok-fronts.fronts c.in_ok-inf.ensures
    (c.in_ok-tables.ensures ∙ ap (setting_of u p c.in_ok-infs.infs) c.value.ensures)
    (subst (λ (inf : InfDoc). AreFronts c.in_ok-tables.tables inf c.in_ok-fronts.fronts) c.value-2.ensures c.in_ok-fronts.ensures)

pub returns : goal.returns
returns c =
    let u = c.args.user.now in
    let p = c.args.platform.now in
    let same : c.in_ok-tables.tables.infs ≡ c.args.infs = setting-infs u p c.value.result.now c.in_ok-infs.infs c.in_ok-tables.tables c.in_ok-tables.ensures ∙ c.in_ok-infs.ensures in
    ap {B = Search} (λ (l : List InfDoc). record { user = c.args.user.now; platform = c.args.platform.now; infs = l }) same
