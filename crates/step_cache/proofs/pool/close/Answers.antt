use Rattle.std.proofs.Common.{rules, ◌≡◌, ◌∙◌, ◌+◌, List, ℕ, length, take, drop, ap, sym, false}
use Rattle.step_cache.specs.Places.{texts_at}
use Rattle.step_cache.specs.Pools.{has_text, number_in}
use Rattle.step_cache.proofs.PoolTextLemmas.{grown, grown_number, length_texts}
use Rattle.step_cache.proofs.pool.close.Goals as goal

pub returns-in_ok-number-in-None-clause-texts : goal.returns-in_ok-number-in-None-clause-texts
returns-in_ok-number-in-None-clause-texts c = c.in_ok-number-in-None.ensures.texts ∙ grown _ _ (search rules)

pub returns-in_ok-number-in-None-clause-number : goal.returns-in_ok-number-in-None-clause-number
returns-in_ok-number-in-None-clause-number c =
    let bytes = c.args.bytes.now.items in
    let texts : List (List ℕ) = texts_at (take c.args.start bytes) c.args.spans.now.items in
    let text : List ℕ = drop (c.args.start + 8) bytes in
    let none : has_text texts text ≡ false = search rules in
    let number : c.in_ok-number-in-None.number ≡ length c.args.spans.now.items = search rules in
    grown_number texts text c.in_ok-number-in-None.number none (number ∙ sym (length_texts (take c.args.start bytes) c.args.spans.now.items))
    ∙ ap (λ (all : List (List ℕ)). number_in all text) (sym c.in_ok-number-in-None.ensures.texts)
