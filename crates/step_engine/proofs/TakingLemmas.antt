-- Turns are taken up.
use Rattle.std.proofs.Common.{List, [], ◌∷◌, Option, Some, None, refl, sym, subst, Contains, All, inl, inr}
use Rattle.std.specs.List.{AllZip}
use Rattle.std.proofs.lemmas.List.Elements.{All-nil, All-cons, All-head, All-tail, All-push, All-contains, Contains-append_left}
use Rattle.step_engine.specs.Entries.{IsSound}
use Rattle.step_engine.specs.Turns.{IsTurn}
use Rattle.step_engine.specs.Meaning.{Meaning}
use Rattle.step_engine.specs.Build.{Setting}
use Rattle.step_engine.specs.Engine.{State, state, Grows}
use Rattle.step_engine.specs.Loops.{IsRunning}
use Rattle.step_engine.specs.declared.talk.Talk.{Talk}
use Rattle.step_engine.specs.declared.talk.Entry.{Entry}
use Rattle.step_engine.specs.declared.rules.Turn.{Turn}
use Rattle.step_engine.specs.declared.rules.Turn.TheVariants as turn
use Rattle.step_engine.specs.Table.{Known}
use Rattle.step_engine.specs.Rounds.{IsWanted}
use Rattle.step_engine.specs.Items.{IsItem, item_key, IsReady, IsAdvanced, AreRuns, AreRunsWanted, AreItemsWanted, IsTurned}
use Rattle.step_engine.specs.Taking.{TakesUp, PutsIn, IsList, IsTaking, Takes}
use Rattle.step_engine.specs.declared.items.Run.{Run}
use Rattle.step_engine.specs.declared.items.Turned.{Turned}
use Rattle.step_engine.specs.declared.items.Item.{Item}
use Rattle.step_engine.proofs.Advancing.{running_on}
use Rattle.step_engine.proofs.Acting.{act_none, act_new}
use Rattle.step_engine.proofs.Listing.{runs_on, items_on}

-- one turn
pub adv_taken : {K O : Type 0} (s : Setting K O) (k : K) (talk : Talk K O) (turned : Turn K O) (y : State K O) (t u : Known K) (fresh : List (Entry K O)) (r : Option (Item K O)) → IsReady s y t → IsRunning s k y talk.batches → IsTurn s.means k talk.batches turned → TakesUp k talk turned t u y.fresh fresh r → IsAdvanced s k y (state fresh y.learned y.ran y.reads) t u r
adv_taken s k talk (turn.Ask asks permit) y t u fresh r q run n h = rw (h.0, h.1, h.2) (record { act = act_none s k y t q; item = (record { running = run; next = n }, refl) })
adv_taken {K} {O} s k talk (turn.Done result) y t u fresh r q run n h =
    let e : Entry K O = record { key = k; talk = talk; result = result } in
    let sound : IsSound s.means e = record { follows = run.follows; ends = n.0; value = λ w j v. n.1 w j v } in
    rw h.0 (record { act = act_new s k e y t u fresh refl q sound run.right run.parts h.1; item = tt })

-- one more key, whatever is left of it
pub list_put : {K O : Type 0} (s : Setting K O) (y z : State K O) (t u : Known K) (Before : K → Type 0) (rest : List (Item K O)) (l : IsList s y z t u Before [] rest) (k : K) (need : (top : K) → Before top → IsWanted s top k) (v : State K O) (w : Known K) (r : Option (Item K O)) (rest' : List (Item K O)) → IsAdvanced s k z v u w r → PutsIn r rest rest' → IsList s y v t w Before [] rest'
list_put {K} {O} s y z t u Before rest l k need v w None rest' a h =
    rw h (record {
      ready = a.act.ready;
      grows = λ e c. a.act.grows e (l.grows e c);
      going = λ top x g b. a.act.going top x (l.going top x g b) (need top b);
      runs_are = runs_on s z v [] a.act.grows l.runs_are;
      rest_are = items_on s z v rest a.act.grows l.rest_are;
      runs_wanted = l.runs_wanted;
      rest_wanted = l.rest_wanted;
    })
list_put {K} {O} s y z t u Before rest l k need v w (Some i) rest' a h =
    rw h (record {
      ready = a.act.ready;
      grows = λ e c. a.act.grows e (l.grows e c);
      going = λ top x g b. a.act.going top x (l.going top x g b) (need top b);
      runs_are = runs_on s z v [] a.act.grows l.runs_are;
      rest_are = All-push (λ (a : Item K O). IsItem s v a) rest i (items_on s z v rest a.act.grows l.rest_are) a.item.0;
      runs_wanted = l.runs_wanted;
      rest_wanted = λ top b. All-push (λ (a : Item K O). IsWanted s top (item_key a)) rest i (l.rest_wanted top b) (subst (IsWanted s top) (sym a.item.1) (need top b));
    })

pub takes_none : {K O : Type 0} (fresh : List (Entry K O)) (u : Known K) (done : List (Turned K O)) (rest : List (Item K O)) → Takes fresh u done rest fresh u rest
takes_none fresh u done rest s y z t items e h = rw (sym e) h.list

-- one more turn
pub takes_more : {K O : Type 0} (fresh : List (Entry K O)) (u : Known K) (done : List (Turned K O)) (rest : List (Item K O)) (fresh1 fresh2 : List (Entry K O)) (v w : Known K) (rest1 rest2 : List (Item K O)) (d : Turned K O) (r : Option (Item K O)) → Takes fresh u done rest fresh1 v rest1 → Grows fresh fresh1 → Contains done d → TakesUp d.key d.talk d.turn v w fresh1 fresh2 r → PutsIn r rest1 rest2 → Takes fresh u done rest fresh2 w rest2
takes_more {K} {O} fresh u done rest fresh1 fresh2 v w rest1 rest2 d r so grows in_done up put s y z t items e h =
    let z1 = state fresh1 z.learned z.ran z.reads in
    let l = so s y z t items e h in
    let Before : K → Type 0 = λ top. AreItemsWanted s top items in
    let on : Grows z.fresh fresh1 = subst (λ f. Grows f fresh1) (sym e) grows in
    let run : IsRunning s d.key z1 d.talk.batches = running_on s d.key z z1 d.talk.batches on (All-contains (λ (d : Turned K O). IsRunning s d.key z d.talk.batches) done d h.running in_done) in
    let n : IsTurn s.means d.key d.talk.batches d.turn = All-contains (λ (d : Turned K O). IsTurn s.means d.key d.talk.batches d.turn) done d h.turn in_done in
    let a = adv_taken s d.key d.talk d.turn z1 v w fresh2 r l.ready run n up in
    list_put s y z1 t v Before rest1 l d.key (λ top b. All-contains (λ (d : Turned K O). IsWanted s top d.key) done d (h.wanted top b) in_done) (state fresh2 z.learned z.ran z.reads) w r rest2 a put

-- the entries grow
pub takes_grow : {K O : Type 0} (k : K) (talk : Talk K O) (turned : Turn K O) (t u : Known K) (fresh fresh' : List (Entry K O)) (r : Option (Item K O)) → TakesUp k talk turned t u fresh fresh' r → Grows fresh fresh'
takes_grow k talk (turn.Ask asks permit) t u fresh fresh' r h e c = rw h.1 c
takes_grow k talk (turn.Done result) t u fresh fresh' r (h0, inl q) e c = rw q.0 c
takes_grow k talk (turn.Done result) t u fresh fresh' r (h0, inr q) e c = rw q.1 (Contains-append_left fresh _ e c)

-- the turns of a wave are of its runs
pub zip_running : {K O : Type 0} (s : Setting K O) (z : State K O) (runs : List (Run K O)) (done : List (Turned K O)) → AllZip (IsTurned s.means) runs done → AreRuns s z runs → All (λ (d : Turned K O). IsRunning s d.key z d.talk.batches) done
zip_running {K} {O} s z [] [] h a = All-nil (λ (d : Turned K O). IsRunning s d.key z d.talk.batches)
zip_running s z [] (d ∷ done) h a = absurd h
zip_running s z (r ∷ runs) [] h a = absurd h
zip_running {K} {O} s z (r ∷ runs) (d ∷ done) h a =
    let R : Run K O → Type 0 = λ r. IsRunning s r.key z r.talk.batches in
    let D : Turned K O → Type 0 = λ d. IsRunning s d.key z d.talk.batches in
    All-cons D d done (rw (h.0.key, h.0.talk) (All-head R r runs a)) (zip_running s z runs done h.1 (All-tail R r runs a))

pub zip_turn : {K O : Type 0} (m : Meaning K O) (runs : List (Run K O)) (done : List (Turned K O)) → AllZip (IsTurned m) runs done → All (λ (d : Turned K O). IsTurn m d.key d.talk.batches d.turn) done
zip_turn {K} {O} m [] [] h = All-nil (λ (d : Turned K O). IsTurn m d.key d.talk.batches d.turn)
zip_turn m [] (d ∷ done) h = absurd h
zip_turn m (r ∷ runs) [] h = absurd h
zip_turn {K} {O} m (r ∷ runs) (d ∷ done) h = All-cons (λ (d : Turned K O). IsTurn m d.key d.talk.batches d.turn) d done (rw (h.0.key, h.0.talk) h.0.turn) (zip_turn m runs done h.1)

pub zip_wanted : {K O : Type 0} (s : Setting K O) (top : K) (m : Meaning K O) (runs : List (Run K O)) (done : List (Turned K O)) → AllZip (IsTurned m) runs done → AreRunsWanted s top runs → All (λ (d : Turned K O). IsWanted s top d.key) done
zip_wanted {K} {O} s top m [] [] h a = All-nil (λ (d : Turned K O). IsWanted s top d.key)
zip_wanted s top m [] (d ∷ done) h a = absurd h
zip_wanted s top m (r ∷ runs) [] h a = absurd h
zip_wanted {K} {O} s top m (r ∷ runs) (d ∷ done) h a =
    let R : Run K O → Type 0 = λ r. IsWanted s top r.key in
    All-cons (λ (d : Turned K O). IsWanted s top d.key) d done (subst (IsWanted s top) (sym h.0.key) (All-head R r runs a)) (zip_wanted s top m runs done h.1 (All-tail R r runs a))

-- the runs of a list made their turns
pub taking : {K O : Type 0} (s : Setting K O) (y z : State K O) (t u : Known K) (Before : K → Type 0) (runs : List (Run K O)) (rest : List (Item K O)) (done : List (Turned K O)) → IsList s y z t u Before runs rest → AllZip (IsTurned s.means) runs done → IsTaking s y z t u Before done rest
taking {K} {O} s y z t u Before runs rest done l h = record {
  list = record {
    ready = l.ready;
    grows = l.grows;
    going = l.going;
    runs_are = All-nil (λ (r : Run K O). IsRunning s r.key z r.talk.batches);
    rest_are = l.rest_are;
    runs_wanted = λ top b. All-nil (λ (r : Run K O). IsWanted s top r.key);
    rest_wanted = l.rest_wanted;
  };
  running = zip_running s z runs done h l.runs_are;
  turn = zip_turn s.means runs done h;
  wanted = λ top b. zip_wanted s top s.means runs done h (l.runs_wanted top b);
}
