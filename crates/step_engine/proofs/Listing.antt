-- Lists of keys under way, one act after another.
use Rattle.std.proofs.Common.{◌≡◌, suc, List, [], ◌∷◌, Option, Some, None, refl, sym, subst, Contains, arith}
use Rattle.std.proofs.lemmas.List.Elements.{All-nil, All-push, All-weaker, All-contains}
use Rattle.build_base.specs.Outside.{Files}
use Rattle.step_engine.specs.Build.{Setting}
use Rattle.step_engine.specs.Engine.{State, Grows}
use Rattle.step_engine.specs.Loops.{IsRunning}
use Rattle.step_engine.proofs.Steps.{at_held}
use Rattle.step_engine.specs.Table.{Known}
use Rattle.step_engine.specs.Rounds.{IsWanted}
use Rattle.step_engine.specs.Items.{IsItem, item_key, IsReady, IsAct, IsAdvanced, Notes, AreRuns, AreItems, AreItemsWanted}
use Rattle.step_engine.specs.Taking.{SortsIn, IsList, ListNotes}
use Rattle.step_engine.specs.declared.items.Run.{Run}
use Rattle.step_engine.specs.declared.items.Item.{Item}
use Rattle.step_engine.specs.declared.items.Item.TheVariants as item
use Rattle.step_engine.proofs.Going.{going_noted}
use Rattle.step_engine.proofs.Advancing.{running_on, item_on}

pub runs_on : {K O : Type 0} (s : Setting K O) (x y : State K O) (runs : List (Run K O)) → Grows x.fresh y.fresh → AreRuns s x runs → AreRuns s y runs
runs_on {K} {O} s x y runs g h = All-weaker (λ (r : Run K O). IsRunning s r.key x r.talk.batches) (λ (r : Run K O). IsRunning s r.key y r.talk.batches) (λ r a. running_on s r.key x y r.talk.batches g a) runs h

pub items_on : {K O : Type 0} (s : Setting K O) (x y : State K O) (items : List (Item K O)) → Grows x.fresh y.fresh → AreItems s x items → AreItems s y items
items_on {K} {O} s x y items g h = All-weaker (λ (a : Item K O). IsItem s x a) (λ (a : Item K O). IsItem s y a) (λ a b. item_on s x y a g b) items h

pub list_none : {K O : Type 0} (s : Setting K O) (y : State K O) (t : Known K) (Before : K → Type 0) → IsReady s y t → IsList s y y t t Before [] []
list_none {K} {O} s y t Before r = record {
  ready = r;
  grows = λ e h. h;
  going = λ top x g b. g;
  runs_are = All-nil (λ (r : Run K O). IsRunning s r.key y r.talk.batches);
  rest_are = All-nil (λ (a : Item K O). IsItem s y a);
  runs_wanted = λ top b. All-nil (λ (r : Run K O). IsWanted s top r.key);
  rest_wanted = λ top b. All-nil (λ (a : Item K O). IsWanted s top (item_key a));
}

pub list_noted : {K O : Type 0} (s : Setting K O) (y z : State K O) (t u : Known K) (Before : K → Type 0) (runs : List (Run K O)) (rest : List (Item K O)) → IsList s y z t u Before runs rest → ListNotes s y z t Before
list_noted s y z t u Before runs rest l top x g b = going_noted s top x z u (l.going top x g b)

module _ {K O : Type 0} (s : Setting K O) (y z : State K O) (t u : Known K) (Before : K → Type 0) (runs : List (Run K O)) (rest : List (Item K O)) (l : IsList s y z t u Before runs rest) (k : K) (need : (top : K) → Before top → IsWanted s top k) where
  -- an act for one more key
  list_act : (v : State K O) (w : Known K) → IsAct s k z v u w → IsList s y v t w Before runs rest
  list_act v w a = record {
    ready = a.ready;
    grows = λ e h. a.grows e (l.grows e h);
    going = λ top x g b. a.going top x (l.going top x g b) (need top b);
    runs_are = runs_on s z v runs a.grows l.runs_are;
    rest_are = items_on s z v rest a.grows l.rest_are;
    runs_wanted = l.runs_wanted;
    rest_wanted = l.rest_wanted;
  }

  pub list_more : (v : State K O) (w : Known K) (r : Option (Item K O)) (runs' : List (Run K O)) (rest' : List (Item K O)) → IsAdvanced s k z v u w r → SortsIn r runs runs' rest rest' → IsList s y v t w Before runs' rest'
  list_more v w None runs' rest' a h = rw (h.0, h.1) (list_act v w a.act)
  list_more v w (Some (item.Run r)) runs' rest' a h =
      rw (h.0, h.1) (record {
        ready = a.act.ready;
        grows = λ e c. a.act.grows e (l.grows e c);
        going = λ top x g b. a.act.going top x (l.going top x g b) (need top b);
        runs_are = All-push (λ (r : Run K O). IsRunning s r.key v r.talk.batches) runs r (runs_on s z v runs a.act.grows l.runs_are) a.item.0;
        rest_are = items_on s z v rest a.act.grows l.rest_are;
        runs_wanted = λ top b. All-push (λ (r : Run K O). IsWanted s top r.key) runs r (l.runs_wanted top b) (subst (IsWanted s top) (sym a.item.1) (need top b));
        rest_wanted = l.rest_wanted;
      })
  list_more v w (Some (item.Asked q)) runs' rest' a h =
      rw (h.0, h.1) (record {
        ready = a.act.ready;
        grows = λ e c. a.act.grows e (l.grows e c);
        going = λ top x g b. a.act.going top x (l.going top x g b) (need top b);
        runs_are = runs_on s z v runs a.act.grows l.runs_are;
        rest_are = All-push (λ (a : Item K O). IsItem s v a) rest (item.Asked q) (items_on s z v rest a.act.grows l.rest_are) a.item.0;
        runs_wanted = l.runs_wanted;
        rest_wanted = λ top b. All-push (λ (a : Item K O). IsWanted s top (item_key a)) rest (item.Asked q) (l.rest_wanted top b) (subst (IsWanted s top) (sym a.item.1) (need top b));
      })
  list_more v w (Some (item.Check q)) runs' rest' a h =
      rw (h.0, h.1) (record {
        ready = a.act.ready;
        grows = λ e c. a.act.grows e (l.grows e c);
        going = λ top x g b. a.act.going top x (l.going top x g b) (need top b);
        runs_are = runs_on s z v runs a.act.grows l.runs_are;
        rest_are = All-push (λ (a : Item K O). IsItem s v a) rest (item.Check q) (items_on s z v rest a.act.grows l.rest_are) a.item.0;
        runs_wanted = l.runs_wanted;
        rest_wanted = λ top b. All-push (λ (a : Item K O). IsWanted s top (item_key a)) rest (item.Check q) (l.rest_wanted top b) (subst (IsWanted s top) (sym a.item.1) (need top b));
      })

  -- a refusal within the act
  pub list_refused : (v : State K O) → Notes s k z v u → ListNotes s y v t Before
  list_refused v n top x g b = n top x (l.going top x g b) (need top b)

-- a key of the list is needed where all are
pub need_item : {K O : Type 0} (s : Setting K O) (items : List (Item K O)) (a : Item K O) → Contains items a → (top : K) → AreItemsWanted s top items → IsWanted s top (item_key a)
need_item {K} {O} s items a c top h = All-contains (λ (a : Item K O). IsWanted s top (item_key a)) items a h c

-- and its facts hold on
pub list_item : {K O : Type 0} (s : Setting K O) (y z : State K O) (items : List (Item K O)) (a : Item K O) → Grows y.fresh z.fresh → AreItems s y items → Contains items a → IsItem s z a
list_item {K} {O} s y z items a g h c = item_on s y z a g (All-contains (λ (a : Item K O). IsItem s y a) items a h c)

pub ready_held : {K O : Type 0} (s : Setting K O) (h : Option Files) (z : State K O) (u : Known K) → h ≡ s.held → IsReady s z u → IsReady (at_held s h) z u
ready_held s h z u e r = subst (λ h. IsReady (at_held s h) z u) (sym e) r

pub item_held : {K O : Type 0} (s : Setting K O) (h : Option Files) (z : State K O) (a : Item K O) → h ≡ s.held → IsItem s z a → IsItem (at_held s h) z a
item_held s h z a e r = subst (λ h. IsItem (at_held s h) z a) (sym e) r

pub notes_held : {K O : Type 0} (s : Setting K O) (h : Option Files) (k : K) (z v : State K O) (u : Known K) → h ≡ s.held → Notes (at_held s h) k z v u → Notes s k z v u
notes_held s h k z v u e r = subst (λ h. Notes (at_held s h) k z v u) e r

pub advanced_held : {K O : Type 0} (s : Setting K O) (h : Option Files) (k : K) (z v : State K O) (u w : Known K) (r : Option (Item K O)) → h ≡ s.held → IsAdvanced (at_held s h) k z v u w r → IsAdvanced s k z v u w r
advanced_held s h k z v u w r e a = subst (λ h. IsAdvanced (at_held s h) k z v u w r) e a

pub left_here : {A : Type 0} (all rest more : List A) (a : A) → ((b : A) → Contains rest b → Contains all b) → rest ≡ a ∷ more → Contains all a
left_here {A} all rest more a f e = f a (subst (λ (xs : List A). Contains xs a) (sym e) (0, omega arith, refl))

pub left_more : {A : Type 0} (all rest more : List A) (a : A) → ((b : A) → Contains rest b → Contains all b) → rest ≡ a ∷ more → (b : A) → Contains more b → Contains all b
left_more {A} all rest more a f e b c = f b (subst (λ (xs : List A). Contains xs b) (sym e) (suc c.0, omega (arith, c.1), c.2))
