use Rattle.std.proofs.Common.{◌≡◌, ◌∙◌, Some, ap, subst, sym}
use Rattle.library_choice.specs.Closure.{known, wanted, wanted_by}
use Rattle.library_choice.specs.Lines.{Setting}
use Rattle.library_choice.specs.Searches.{Search}
use Rattle.library_choice.proofs.MoreLemmas.{wanted_of_module}
use Rattle.library_choice.proofs.search.InstanceSearch.wanted_by_module.Goals as goal

pub invariant_of-search : goal.invariant_of-search
invariant_of-search c = record {
  own = c.self.invariant.own;
  setting = c.self.invariant.setting;
  fronts = c.in_ok-wanted.ensures.fronts c.self.inside.inf c.self.invariant.fronts;
}

pub returns-clause-wanted : goal.returns-clause-wanted
returns-clause-wanted c =
    let s = c.self.inside in
    let own : known c.args.self.infs c.args.self.user.inf ≡ Some c.self.inside.inf = subst (λ (t : Search). known t.infs t.user.inf ≡ Some c.self.inside.inf) c.self.view_is c.self.invariant.own in
    c.in_ok-wanted.ensures.wanted c.self.inside.inf c.self.invariant.fronts
    ∙ ap (λ (t : Setting). wanted_by t c.self.inside.inf) c.self.invariant.setting
    ∙ sym (wanted_of_module s.user.now s.platform.now s.tables.infs s.inf c.self.invariant.own (c.requires s.inf own))
    ∙ ap (λ (t : Search). wanted t.user t.platform t.infs) c.self.view_is
