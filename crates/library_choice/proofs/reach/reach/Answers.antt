use Rattle.std.proofs.Common.{◌≡◌, ◌∙◌, ℕ, List, nat_eq, ap₂, sym, subst}
use Rattle.std.specs.List.{All}
use Rattle.library_choice.specs.Reaching.{IsWithin, next_at, nexts_in, caller_places, reach_at}
use Rattle.library_choice.proofs.PlaceLemmas.{places-within, reach-place}
use Rattle.library_choice.proofs.reach.reach.Goals as goal

pub reach_at-requires : goal.reach_at-requires
reach_at-requires c =
    let s = c.args.tables.now in
    let nexts : c.items.result.now ≡ nexts_in c.args.tables.now c.args.found.now = c.items.ensures ∙ c.in_ok-nexts.ensures in
    let places : c.items-2.result.now ≡ caller_places c.args.found.now c.args.callers.now = c.items-2.ensures ∙ c.in_ok-places.ensures in
    record {
      within =
          subst (λ (n : List (List ℕ)). All (IsWithin nat_eq (next_at n)) c.items-2.result.now) (sym nexts)
          (subst (λ (l : List ℕ). All (IsWithin nat_eq (next_at (nexts_in c.args.tables.now c.args.found.now))) l) (sym places)
          (places-within s c.args.found.now c.requires.whole c.args.callers.now c.requires.found));
    }

pub returns : goal.returns
returns c =
    let nexts : c.items.result.now ≡ nexts_in c.args.tables.now c.args.found.now = c.items.ensures ∙ c.in_ok-nexts.ensures in
    let places : c.items-2.result.now ≡ caller_places c.args.found.now c.args.callers.now = c.items-2.ensures ∙ c.in_ok-places.ensures in
    c.in_ok-rows.ensures ∙ ap₂ (λ n l. reach_at n l l) nexts places
    ∙ reach-place c.args.tables.now c.args.found.now c.args.callers.now c.requires.whole c.requires.found
