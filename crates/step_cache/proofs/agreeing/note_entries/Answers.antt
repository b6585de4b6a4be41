-- One more is noted.
use Rattle.std.proofs.Common.{List, rules, refl, subst}
use Rattle.step_cache.specs.Agreement.{HasAskBy, HasAskOf, Notes}
use Rattle.step_cache.specs.declared.numbered.Asked.{Asked}
use Rattle.step_cache.proofs.AgreementLemmas.{one_noted, all_noted}
use Rattle.step_cache.proofs.agreeing.note_entries.Goals as goal

pub loop-left-preserved : goal.loop-left-preserved
loop-left-preserved c =
    one_noted HasAskBy c.loop-left.left.now c.args.entries.now c.entry-item.result c.args.known.now c.loop-left.known c.note_batches.new.known _ refl c.in-len1-up.len_at_least c.entry-item.is
    (subst (λ (rows : List (List Asked)). Notes (HasAskOf rows) c.loop-left.known c.note_batches.new.known) c.items.ensures (c.in_ok-note_batches.ensures (search rules))) c.loop-left.invariant

pub returns : goal.returns
returns c = λ yes. all_noted HasAskBy c.loop-left.left.now c.args.entries.now c.args.known.now c.loop-left.known c.in_default.len_below c.loop-left.invariant
