-- The acts of a build, each for one key.
use Rattle.std.proofs.Common.{◌≡◌, ℕ, ◌++◌, List, [], ◌∷◌, Option, Some, None, sym, ◌∙◌, subst, inl, inr, length, slice_get, MatchOption}
use Rattle.std.proofs.lemmas.List.Elements.{Contains-append_left, All-contains}
use Rattle.build_base.specs.World.{World}
use Rattle.step_engine.specs.Entries.{IsSound, IsValid}
use Rattle.step_engine.specs.Needed.{IsStale}
use Rattle.step_engine.specs.Build.{Setting, IsHere}
use Rattle.step_engine.specs.Engine.{State, state, Knowledge, AreKept, Adds}
use Rattle.step_engine.specs.Agreeing.{HasTalkParts}
use Rattle.step_engine.proofs.Steps.{running_none}
use Rattle.step_engine.specs.declared.talk.Entry.{Entry}
use Rattle.step_engine.specs.Table.{Known, IsPlaced, IsStarted, IsMadeAt, Finds}
use Rattle.step_engine.specs.Rounds.{IsWanted, AreNoted}
use Rattle.step_engine.specs.Items.{IsStill, IsGood, IsItem, item_key, IsReady, IsAct, IsAdvanced, Notes, IsRerun, IsNewRun, IsResumed, IsCheckedOn}
use Rattle.step_engine.specs.declared.items.Item.{Item}
use Rattle.step_engine.specs.declared.items.Check.{Check}
use Rattle.step_engine.specs.declared.items.Checked.TheVariants as checked
use Rattle.step_engine.proofs.Advancing.{item_on}
use Rattle.step_engine.specs.declared.items.Item.TheVariants as item
use Rattle.step_engine.specs.declared.places.Place.TheVariants.{Checking, Running, Done}
use Rattle.step_engine.proofs.TableLemmas.{get_push_old, get_push_new}
use Rattle.step_engine.proofs.Going.{reading, going_noted, going_granted, going_ran, going_reused, noted_read, going_read, kept_push}

-- what is kept doesn't depend on the book
pub kept_of : {K O : Type 0} (s : Setting K O) (fresh : List (Entry K O)) (learned : Knowledge K) (a b : List K) (reads reads' : Option (List (List ℕ))) → AreKept s (state fresh learned a reads) → AreKept s (state fresh learned b reads')
kept_of s fresh learned a b reads reads' q = record { sound = q.sound; right = q.right; closed = q.closed; known = q.known; within = q.within; compared = q.compared }

pub noted_of : {K O : Type 0} (s : Setting K O) (top : K) (x y z : State K O) → y.ran ≡ z.ran → y.reads ≡ z.reads → AreNoted s top x y → AreNoted s top x z
noted_of {K} {O} s top x y z a b n = record { ran = rw a at n.ran; read = rw b at n.read }

-- nothing is done
pub act_none : {K O : Type 0} (s : Setting K O) (k : K) (y : State K O) (t : Known K) → IsReady s y t → IsAct s k y y t t
act_none s k y t r = record { ready = r; grows = λ e h. h; going = λ top x g w. g }

pub notes_none : {K O : Type 0} (s : Setting K O) (k : K) (y : State K O) (t : Known K) → Notes s k y y t
notes_none s k y t top x g w = going_noted s top x y t g

-- files are read
pub act_read : {K O : Type 0} (s : Setting K O) (k : K) (y : State K O) (t : Known K) (learned : Knowledge K) (reads : Option (List (List ℕ))) → IsReady s y t → IsStill s k (reading y) (state y.fresh learned [] reads) → IsAct s k y (state y.fresh learned y.ran reads) t t
act_read s k y t learned reads r d = record {
  ready = record { kept = kept_of s y.fresh learned [] y.ran reads reads d.kept; finds = r.finds };
  grows = λ e h. h;
  going = λ top x g w. going_read s top k x y t g w learned reads d.moves;
}

pub notes_read : {K O : Type 0} (s : Setting K O) (k : K) (y : State K O) (t : Known K) (learned : Knowledge K) (reads : Option (List (List ℕ))) → Adds s k (reading y) (state y.fresh learned [] reads) → Notes s k y (state y.fresh learned y.ran reads) t
notes_read s k y t learned reads a top x g w = noted_read s top k x y t g w learned reads a

-- one act after another for the same key
pub act_then : {K O : Type 0} (s : Setting K O) (k : K) (y z v : State K O) (t u w : Known K) → IsAct s k y z t u → IsAct s k z v u w → IsAct s k y v t w
act_then s k y z v t u w a b = record {
  ready = b.ready;
  grows = λ e h. b.grows e (a.grows e h);
  going = λ top x g n. b.going top x (a.going top x g n) n;
}

pub finds_push : {K O : Type 0} (t u : Known K) (e : Entry K O) (fresh : List (Entry K O)) → IsPlaced e.key (Done (length fresh)) t u → Finds t fresh → Finds u (fresh ++ e ∷ [])
finds_push {K} {O} t u e fresh p f j i r = elim (p.cases j) as (λ _. (d : Entry K O) × (slice_get (fresh ++ e ∷ []) i ≡ Some d) × (d.key ≡ j)) [
  | inl q ↦ (let a : Some (Done (length fresh)) ≡ Some (Done i) = sym q.1 ∙ r in let b : length fresh ≡ i = cc in (e, subst (λ i. slice_get (fresh ++ e ∷ []) i ≡ Some e) b (get_push_new fresh e), q.0))
  | inr q ↦ (let h = f j i (sym q ∙ r) in (h.0, get_push_old fresh e h.0 i h.1, h.2))
]

pub finds_placed : {K O : Type 0} (t u : Known K) (k : K) (fresh : List (Entry K O)) → IsPlaced k Running t u → Finds t fresh → Finds u fresh
finds_placed {K} {O} t u k fresh p f j i r = elim (p.cases j) as (λ _. (d : Entry K O) × (slice_get fresh i ≡ Some d) × (d.key ≡ j)) [
  | inl q ↦ absurd (let a : Some Running ≡ Some (Done i) = sym q.1 ∙ r in cc)
  | inr q ↦ f j i (sym q ∙ r)
]

pub finds_checked : {K O : Type 0} (t u : Known K) (k : K) (fresh : List (Entry K O)) → IsPlaced k Checking t u → Finds t fresh → Finds u fresh
finds_checked {K} {O} t u k fresh p f j i r = elim (p.cases j) as (λ _. (d : Entry K O) × (slice_get fresh i ≡ Some d) × (d.key ≡ j)) [
  | inl q ↦ absurd (let a : Some Checking ≡ Some (Done i) = sym q.1 ∙ r in cc)
  | inr q ↦ f j i (sym q ∙ r)
]

module _ {K O : Type 0} (s : Setting K O) (k : K) (e : Entry K O) (y : State K O) (t u : Known K) (fresh : List (Entry K O)) (key : e.key ≡ k) (r : IsReady s y t) where
  -- an old entry is taken over
  pub act_old : IsGood s y e → IsMadeAt Checking e t u y.fresh fresh → IsAct s k y (state fresh y.learned y.ran y.reads) t u
  act_old d (inl h) = rw (h.0, h.1) (act_none s k y t r)
  act_old d (inr h) =
      rw h.1 (record {
        ready = record { kept = kept_push s e y r.kept (λ o. All-contains (IsSound s.means) s.old e o d.old) d.valid d.parts; finds = finds_push t u e y.fresh h.2 r.finds };
        grows = λ a c. Contains-append_left y.fresh (e ∷ []) a c;
        going = λ top x g w. going_reused s top x y t u g e h.2 (subst (IsWanted s top) (sym key) w) h.0 d.old d.valid;
      })

  -- the entry of a step that ran
  pub act_new : IsSound s.means e → ((w : World) → IsHere s w → IsValid s.means w e) → HasTalkParts y.fresh e.talk.batches → IsMadeAt Running e t u y.fresh fresh → IsAct s k y (state fresh y.learned y.ran y.reads) t u
  act_new sound valid parts (inl h) = rw (h.0, h.1) (act_none s k y t r)
  act_new sound valid parts (inr h) =
      rw h.1 (record {
        ready = record { kept = kept_push s e y r.kept (λ _. sound) valid parts; finds = finds_push t u e y.fresh h.2 r.finds };
        grows = λ a c. Contains-append_left y.fresh (e ∷ []) a c;
        going = λ top x g w. going_ran s top x y t u g e h.2 (subst (IsWanted s top) (sym key) w) h.0;
      })

run_item : {K O : Type 0} (s : Setting K O) (y : State K O) (k : K) (a : Item K O) → IsNewRun k a → IsItem s y a × (item_key a ≡ k)
run_item s y k (item.Run r) h = (rw h.1 (running_none s r.key y), h.0)
run_item s y k (item.Asked a) h = absurd h
run_item s y k (item.Check c) h = absurd h

started_not : {K : Type 0} (t : Known K) (k : K) → t k ≡ Some Checking → IsStarted (t k) → ⊥
started_not t k was (inl h) = absurd (let a : Some Checking ≡ Some Running = sym was ∙ h in cc)
started_not t k was (inr h) = absurd (let a : Some Checking ≡ Some (Done h.0) = sym was ∙ h.1 in cc)

-- a key whose old entry isn't valid runs
pub act_rerun : {K O : Type 0} (s : Setting K O) (k : K) (y : State K O) (t u : Known K) (ran : List K) (a : Item K O) → IsReady s y t → ((w : World) → IsHere s w → IsStale s.means w s.old k) → IsRerun k y.ran ran t u a → IsAdvanced s k y (state y.fresh y.learned ran y.reads) t u (Some a)
act_rerun {K} {O} s k y t u ran a r stale h = record {
  act = record {
    ready = record { kept = kept_of s y.fresh y.learned y.ran ran y.reads y.reads r.kept; finds = finds_placed t u k y.fresh h.placed r.finds };
    grows = λ e c. c;
    going = λ top x g w. rw h.book_is (going_granted s top x y t u g k (λ i. started_not t k h.was i) h.placed w stale);
  };
  item = run_item s (state y.fresh y.learned ran y.reads) k a h.run;
}

-- an act has its notes
pub act_noted : {K O : Type 0} (s : Setting K O) (k : K) (y z : State K O) (t u : Known K) → IsAct s k y z t u → Notes s k y z t
act_noted s k y z t u a top x g w = going_noted s top x z u (a.going top x g w)

item_of : {K O : Type 0} (s : Setting K O) (fresh : List (Entry K O)) (learned : Knowledge K) (a b : List K) (reads : Option (List (List ℕ))) (i : Item K O) → IsItem s (state fresh learned a reads) i → IsItem s (state fresh learned b reads) i
item_of s fresh learned a b reads i h = item_on s (state fresh learned a reads) (state fresh learned b reads) i (λ e c. c) h

module _ {K O : Type 0} (s : Setting K O) (k : K) (y : State K O) (t : Known K) (learned : Knowledge K) (reads : Option (List (List ℕ))) (r : IsReady s y t) where
  -- an asked step goes on or waits
  pub adv_asked : (a : Item K O) → IsResumed s k (reading y) (state y.fresh learned [] reads) a → IsAdvanced s k y (state y.fresh learned y.ran reads) t t (Some a)
  adv_asked a d = record { act = act_read s k y t learned reads r d.still; item = (item_of s y.fresh learned [] y.ran reads a d.item, d.key) }

  -- an old entry is valid
  pub adv_right : (e : Entry K O) (u : Known K) (fresh : List (Entry K O)) → IsCheckedOn s k (reading y) (state y.fresh learned [] reads) (checked.Right e) → IsMadeAt Checking e t u y.fresh fresh → IsAdvanced s k y (state fresh learned y.ran reads) t u None
  adv_right e u fresh d m =
      let z = state y.fresh learned y.ran reads in
      let a = act_read s k y t learned reads r d.still in
      let o = d.outcome in
      record { act = act_then s k y z (state fresh learned y.ran reads) t t u a (act_old s k e z t u fresh o.1 a.ready (record { old = o.0.old; valid = o.0.valid; parts = o.0.parts }) m); item = tt }

  -- it isn't
  pub adv_wrong : (j : K) (u : Known K) (ran : List K) (o : Option (Item K O)) → IsCheckedOn s k (reading y) (state y.fresh learned [] reads) (checked.Wrong j) → MatchOption o ((ran ≡ y.ran) × (u ≡ t)) (IsRerun j y.ran ran t u) → IsAdvanced s k y (state y.fresh learned ran reads) t u o
  adv_wrong j u ran None d m = rw (m.0, m.1) (record { act = act_read s k y t learned reads r d.still; item = tt })
  adv_wrong j u ran (Some a) d m =
      let z = state y.fresh learned y.ran reads in
      let b = act_read s k y t learned reads r d.still in
      let n : IsAdvanced s k z (state y.fresh learned ran reads) t u (Some a) = act_rerun s k z t u ran a b.ready d.outcome.0 (subst (λ j. IsRerun j y.ran ran t u a) d.outcome.1 m) in
      record { act = act_then s k y z (state y.fresh learned ran reads) t t u b n.act; item = n.item }

  -- it is to be checked on
  pub adv_next : (c : Check K O) → IsCheckedOn s k (reading y) (state y.fresh learned [] reads) (checked.Next c) → IsAdvanced s k y (state y.fresh learned y.ran reads) t t (Some (item.Check c))
  adv_next c d = record { act = act_read s k y t learned reads r d.still; item = (item_of s y.fresh learned [] y.ran reads (item.Check c) d.outcome.0, d.outcome.1) }
