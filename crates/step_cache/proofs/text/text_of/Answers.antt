use Rattle.step_cache.proofs.TextLemmas.{text_behind, both_values}
use Rattle.step_cache.proofs.text.text_of.Goals as goal

pub returns-clause-value : goal.returns-clause-value
returns-clause-value c = both_values c.args.pool c.args.entries.now c.in_ok-text.ensures.value c.in_ok-encode.ensures.value

pub returns-clause-text : goal.returns-clause-text
returns-clause-text c =
    text_behind c.in_ok-text.text.items c.encode.new.out.items c.args.pool c.args.entries.now c.in_ok-text.ensures.texts c.in_ok-encode.ensures.bytes
    c.in_ok-whole.whole c.in_ok-text.ensures.room c.in_ok-whole.ensures
