use Rattle.std.proofs.Common.{sym, subst}
use Rattle.library_choice.specs.Lines.{Setting}
use Rattle.library_choice.specs.Searches.{IsSearch}
use Rattle.library_choice.proofs.MoreLemmas.{search-more}
use Rattle.library_choice.proofs.search.InstanceSearch.with_more.Goals as goal

pub invariant_of-result : goal.invariant_of-result
invariant_of-result c =
    let s = c.self.inside in
    subst (λ (t : Setting). IsSearch c.self.inside.user.now c.self.inside.platform.now c.self.inside.inf t c.self.inside.fronts) (sym c.in_ok-tables.ensures)
    (search-more s.user.now s.platform.now s.inf s.tables c.args.more.now s.fronts c.self.invariant)
