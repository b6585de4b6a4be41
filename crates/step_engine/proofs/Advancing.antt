-- What is left of a key under way after one step forward.
use Rattle.std.proofs.Common.{◌≡◌, ℕ, ◌<◌, ◌≤◌, ◌+◌, ◌++◌, List, [], ◌∷◌, true, false, refl, subst, get_or, length, take}
use Rattle.std.proofs.lemmas.List.Elements.{All-contains}
use Rattle.build_base.specs.World.{World}
use Rattle.step_engine.specs.Meaning.{asks_of, AreRight, IsRight}
use Rattle.step_engine.specs.Entries.{IsValid}
use Rattle.step_engine.specs.Needed.{IsStale}
use Rattle.step_engine.specs.Build.{Setting, IsHere}
use Rattle.step_engine.specs.Agreeing.{HasTalkParts}
use Rattle.step_engine.specs.Engine.{State, IsNext, Grows, AreAnswered, IsCheckedBatch}
use Rattle.step_engine.specs.Loops.{IsRunning}
use Rattle.step_engine.proofs.AgreeLemmas.{parts_grow}
use Rattle.step_engine.proofs.Steps.{running_more, checking_next, checking_more, item_in, take_whole}
use Rattle.step_engine.specs.declared.talk.Ask.{Ask}
use Rattle.step_engine.specs.declared.talk.Pair.{Pair}
use Rattle.step_engine.specs.declared.talk.Batch.{Batch}
use Rattle.step_engine.specs.declared.talk.Entry.{Entry}
use Rattle.step_engine.specs.Items.{IsAsked, IsCheck, IsGood, IsItem}
use Rattle.step_engine.specs.declared.items.Item.{Item}
use Rattle.step_engine.specs.declared.items.Item.TheVariants as item

-- what holds of a key under way goes on to hold when entries are added
pub running_on : {K O : Type 0} (s : Setting K O) (k : K) (x y : State K O) (talk : List (Batch K O)) → Grows x.fresh y.fresh → IsRunning s k x talk → IsRunning s k y talk
running_on s k x y talk g r = record { follows = r.follows; right = r.right; small = r.small; parts = parts_grow x.fresh y.fresh talk g r.parts }

pub check_on : {K O : Type 0} (s : Setting K O) (x y : State K O) (e : Entry K O) (i : ℕ) → Grows x.fresh y.fresh → IsCheck s x e i → IsCheck s y e i
check_on s x y e i g c = record {
  old = c.old;
  only = c.only;
  checking = record { right = c.checking.right; parts = parts_grow x.fresh y.fresh (take i e.talk.batches) g c.checking.parts };
}

pub item_on : {K O : Type 0} (s : Setting K O) (x y : State K O) (a : Item K O) → Grows x.fresh y.fresh → IsItem s x a → IsItem s y a
item_on s x y (item.Run r) g h = running_on s r.key x y r.talk.batches g h
item_on s x y (item.Asked a) g h = record { running = running_on s a.key x y a.talk.batches g h.running; next = h.next }
item_on s x y (item.Check c) g h = check_on s x y c.entry c.batch g h

-- an asked step is answered
pub resumed : {K O : Type 0} (s : Setting K O) (k : K) (x y : State K O) (talk : List (Batch K O)) (asks : List (Ask K)) (pairs : List (Pair K O)) → IsAsked s x k talk asks → AreAnswered s k asks x y pairs → IsRunning s k y (talk ++ record { pairs = pairs } ∷ [])
resumed s k x y talk asks pairs a d = running_more s k x y talk pairs asks a.running a.next d.asks_are d.moves.grows d.right d.small d.parts

module _ {K O : Type 0} (s : Setting K O) (x : State K O) (e : Entry K O) (i : ℕ) (c : IsCheck s x e i) where
  -- all batches are right
  pub check_good : length e.talk.batches ≤ i → IsGood s x e
  check_good l =
      let whole = take_whole e.talk.batches i l in
      record {
        old = c.old;
        valid = λ w h. subst (IsRight s.means w) whole (c.checking.right w h);
        parts = subst (HasTalkParts x.fresh) whole c.checking.parts;
      }

  pub check_asks : (b : Batch K O) → i < length e.talk.batches → b ≡ get_or e.talk.batches i b → (w : World) → IsHere s w → IsNext s.means w e.key (asks_of b.pairs)
  check_asks b l g w h = checking_next s e i x b c.old c.checking l g w h

  module _ (y : State K O) (b : Batch K O) (l : i < length e.talk.batches) (g : b ≡ get_or e.talk.batches i b) where
    -- one more batch is right
    pub check_more : IsCheckedBatch s e.key b.pairs x y true → IsCheck s y e (i + 1)
    check_more d = record {
      old = c.old;
      only = c.only;
      checking = checking_more s e.talk.batches i x y b c.checking l g d.moves.grows (d.right refl) (d.parts refl);
    }

    -- a batch is wrong
    pub check_stale : IsCheckedBatch s e.key b.pairs x y false → (w : World) → IsHere s w → IsStale s.means w s.old e.key
    check_stale d w h o in_old key valid =
        let P : Batch K O → Type 0 = λ b. AreRight s.means w b.pairs in
        let v : IsValid s.means w e = subst (IsValid s.means w) (c.only o in_old key) valid in
        d.wrong refl w h (All-contains P e.talk.batches b v (item_in e.talk.batches e.talk.batches i b refl l g))
