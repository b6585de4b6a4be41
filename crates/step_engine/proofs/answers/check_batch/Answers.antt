-- One more pair is checked.
use Rattle.std.proofs.Common.{refl, ap, ◌∙◌, []}
use Rattle.step_engine.specs.Meaning.{asks_of}
use Rattle.step_engine.specs.Edits.{over}
use Rattle.step_engine.specs.Engine.{state}
use Rattle.step_engine.specs.Reading.{knowledge}
use Rattle.step_engine.proofs.Steps.{item_in, way_none, way_more, way_adds, here_back, here_on, checking_batch_none, checking_batch_step, checking_batch_all, checking_batch_high, asks_have}
use Rattle.step_engine.proofs.Asking.{still_then}
use Rattle.step_engine.proofs.ForwardLemmas.{lacks_pair}
use Rattle.step_engine.proofs.UneditedLemmas.{unedited_none, unedited_then}
use Rattle.step_engine.proofs.answers.check_batch.Goals as goal

pub loop-pair-init : goal.loop-pair-init
loop-pair-init g c = record { held = refl; way = way_none _ _ _ _ c.requires.kept; unedited = unedited_none _ _; here = checking_batch_none _ _ _ }

pub returns-then-not-is_lower-clause-ok : goal.returns-then-not-is_lower-clause-ok
returns-then-not-is_lower-clause-ok g c =
    let no = c.if-not-is_lower.ensures.no refl in
    let laws = g.met.R.Rules g.world.𝓛 g.world.𝓜 g.world.𝓡 ((λ s x. x), (λ x. x), (λ x. x), λ x. x) in
    checking_batch_high _ laws.lawful _ _ _ _ _ _ _ _ _ _ _ c.loop-pair.invariant.way c.items-pair-items.ensures c.loop-pair-test.true c.pair-item.is no.1 no.2 c.requires.next

pub check_pair-requires-clause-next : goal.check_pair-requires-clause-next
check_pair-requires-clause-next g c =
    λ κs q w i.
    let h = here_back _ _ _ _ _ _ _ c.loop-pair.invariant.way w i in
    (asks_of c.args.pairs.now, asks_have _ _ (item_in _ _ _ _ c.items-pair-items.ensures c.loop-pair-test.true c.pair-item.is), c.requires.next w h)

pub check_pair-requires-clause-old : goal.check_pair-requires-clause-old
check_pair-requires-clause-old g c = λ κs q. c.requires.old _ (item_in _ _ _ _ c.items-pair-items.ensures c.loop-pair-test.true c.pair-item.is)

pub returns-in_err-found-clause-adds : goal.returns-in_err-found-clause-adds
returns-in_err-found-clause-adds g c = way_adds _ _ _ _ _ _ _ _ c.loop-pair.invariant.way c.check_pair.ensures.adds

pub returns-in_default-clause-adds : goal.returns-in_default-clause-adds
returns-in_default-clause-adds g c = way_adds _ _ _ _ _ _ _ _ c.loop-pair.invariant.way c.check_pair.ensures.adds

pub returns-in_default-clause-ok : goal.returns-in_default-clause-ok
returns-in_default-clause-ok g c = still_then _ _ _ _ _ _ _ _ c.loop-pair.invariant.way (rw c.in_default.is at c.in_ok-found.ensures.ok)

pub loop-pair-preserved : goal.loop-pair-preserved
loop-pair-preserved g c =
    let h = rw c.in-Some.is at c.in_ok-found.ensures.ok in
    let d = h.1 in
    let way = c.loop-pair.invariant.way in record {
      held = c.check_pair.ensures.held ∙ c.loop-pair.invariant.held;
      way = way_more _ _ _ _ _ _ _ _ way _ _ d.moves d.kept (ap (over c.args.fixed.now.edits.now) c.check_pair.ensures.held) c.in_ok-found.ensures.count;
      unedited = unedited_then _ _ _ _ c.loop-pair.invariant.unedited c.check_pair.ensures.unedited;
      here = checking_batch_step _ c.args.key.now _ _ (state c.args.fresh.now.items (knowledge g.R.Key.Ord.cmp c.args.learned.now) [] (g.T.Tree.reads c.args.tree.now)) _ _ _ _ _ _ _ c.loop-pair.invariant.here c.loop-pair-test.true c.pair-item.is d.moves.grows (λ w i. d.right w (here_on _ _ _ _ _ _ _ way w i)) d.parts h.2 c.all_right-right.ensures.yes c.all_right-right.ensures.no;
    }

pub returns-clause-ok : goal.returns-clause-ok
returns-clause-ok g c = checking_batch_all _ _ _ _ _ _ _ _ _ _ _ c.loop-pair.invariant.way c.loop-pair.invariant.here c.items-pair-items.ensures c.loop-pair-test.false

pub returns-then-not-is_lower-clause-held : goal.returns-then-not-is_lower-clause-held
returns-then-not-is_lower-clause-held g c = c.loop-pair.invariant.held

pub returns-in_err-found-clause-held : goal.returns-in_err-found-clause-held
returns-in_err-found-clause-held g c = c.check_pair.ensures.held ∙ c.loop-pair.invariant.held

pub returns-in_default-clause-held : goal.returns-in_default-clause-held
returns-in_default-clause-held g c = c.check_pair.ensures.held ∙ c.loop-pair.invariant.held

pub returns-clause-held : goal.returns-clause-held
returns-clause-held g c = c.loop-pair.invariant.held

pub returns-then-not-is_lower-clause-count : goal.returns-then-not-is_lower-clause-count
returns-then-not-is_lower-clause-count g c = c.loop-pair.invariant.way.count

pub returns-in_default-clause-count : goal.returns-in_default-clause-count
returns-in_default-clause-count g c = c.in_ok-found.ensures.count ∙ c.loop-pair.invariant.way.count

pub returns-clause-count : goal.returns-clause-count
returns-clause-count g c = c.loop-pair.invariant.way.count

pub returns-in_default-clause-none : goal.returns-in_default-clause-none
returns-in_default-clause-none g c = lacks_pair g.R.Rules.means.rank _ _ _ _ (asks_have _ _ (item_in _ _ _ _ c.items-pair-items.ensures c.loop-pair-test.true c.pair-item.is)) (c.if-not-is_lower.ensures.yes refl) (rw c.in_default.is at c.in_ok-found.ensures.none)

pub returns-in_err-found-clause-unedited : goal.returns-in_err-found-clause-unedited
returns-in_err-found-clause-unedited g c = unedited_then _ _ _ _ c.loop-pair.invariant.unedited c.check_pair.ensures.unedited

pub returns-in_default-clause-unedited : goal.returns-in_default-clause-unedited
returns-in_default-clause-unedited g c = unedited_then _ _ _ _ c.loop-pair.invariant.unedited c.check_pair.ensures.unedited

pub returns-then-not-is_lower-clause-unedited : goal.returns-then-not-is_lower-clause-unedited
returns-then-not-is_lower-clause-unedited g c = c.loop-pair.invariant.unedited

pub returns-clause-unedited : goal.returns-clause-unedited
returns-clause-unedited g c = c.loop-pair.invariant.unedited
