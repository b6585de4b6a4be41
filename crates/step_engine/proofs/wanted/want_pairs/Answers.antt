-- One more pair.
use Rattle.std.proofs.Common.{inl}
use Rattle.step_engine.proofs.Steps.{item_in, asks_have}
use Rattle.step_engine.proofs.WantingLemmas.{parts_more}
use Rattle.step_engine.proofs.WantedLemmas.{wants_start, wants_step, wants_all, pair_at, asks_end}
use Rattle.step_engine.proofs.wanted.want_pairs.Goals as goal

pub loop-pair-init : goal.loop-pair-init
loop-pair-init g c = record { among = λ k h. inl h; all = wants_start _ _ _ _ _ }

pub loop-pair-preserved : goal.loop-pair-preserved
loop-pair-preserved g c =
    let i = c.loop-pair.invariant in
    record {
      among = parts_more _ _ _ _ _ (asks_have _ _ (item_in _ _ _ _ c.items-pair-items.ensures c.loop-pair-test.true c.pair-item.is)) i.among c.in_ok-want.ensures.among;
      all = wants_step _ _ _ _ _ _ _ _ _ i.all c.in_ok-want.ensures.all (pair_at _ _ _ _ c.items-pair-items.ensures c.loop-pair-test.true c.pair-item.is);
    }

pub returns-clause-among : goal.returns-clause-among
returns-clause-among g c = c.loop-pair.invariant.among

pub returns-clause-all : goal.returns-clause-all
returns-clause-all g c = wants_all _ _ _ _ _ _ _ c.loop-pair.invariant.all (asks_end _ _ _ c.items-pair-items.ensures c.loop-pair-test.false)
