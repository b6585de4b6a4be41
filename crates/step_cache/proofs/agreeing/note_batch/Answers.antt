-- One more is noted.
use Rattle.std.proofs.Common.{rules, refl}
use Rattle.step_cache.specs.Agreement.{IsAsk}
use Rattle.step_cache.proofs.AgreementLemmas.{one_noted, all_noted}
use Rattle.step_cache.proofs.agreeing.note_batch.Goals as goal

pub loop-left-preserved : goal.loop-left-preserved
loop-left-preserved c =
    one_noted IsAsk c.loop-left.left.now c.args.asked.now c.ask-item.result c.args.known.now c.loop-left.known c.note_ask.new.known _ refl c.in-len1-up.len_at_least c.ask-item.is
    (c.in_ok-note_ask.ensures (search rules)) c.loop-left.invariant

pub returns : goal.returns
returns c = λ yes. all_noted IsAsk c.loop-left.left.now c.args.asked.now c.args.known.now c.loop-left.known c.in_default.len_below c.loop-left.invariant
