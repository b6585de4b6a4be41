use Rattle.std.proofs.Common.{◌≡◌, ◌∙◌, List, ap, sym, subst}
use Rattle.library_calls.specs.declared.caller.WithCalls.{WithCalls}
use Rattle.library_choice.specs.Choices.{callers}
use Rattle.library_choice.specs.Reaching.{AreFound}
use Rattle.library_choice.proofs.CallerLemmas.{callers_found}
use Rattle.library_choice.proofs.choosing.choice_of.Goals as goal

pub reach-requires : goal.reach-requires
reach-requires c =
    let is : c.items-2.result.now ≡ callers c.args.tables.now.infs c.args.found.now = c.items-2.ensures ∙ c.in_ok-callers.ensures ∙ ap (callers c.args.tables.now.infs) c.items.ensures in
    record {
      whole = c.requires.whole;
      found = subst (λ (l : List WithCalls). AreFound c.args.found.now l) (sym is) (callers_found c.args.tables.now.infs c.args.found.now);
    }
