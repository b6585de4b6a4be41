-- What a build leaves, over what holds when its key has its outcome.
use Rattle.std.proofs.Common.{◌≡◌, ℕ, ◌+◌, List, [], ◌∷◌, refl, sym, ap, ◌∙◌, subst, Contains, All, arith, inl, inr, ◌⊎◌, length, length-append, slice_get, Option, Some, None, IsPermutation, Result, Ok, Err, IfOk}
use Rattle.std.specs.Result.{IsErrAnd}
use Rattle.std.proofs.lemmas.List.Elements.{All-nil, All-contains, All-weaker, All-contains_itself}
use Rattle.std.proofs.lemmas.Option.{slice_get_read}
use Rattle.std.specs.Cmp.{IsTotalOrder}
use Rattle.std.specs.declared.cmp.Ordering.{Ordering}
use Rattle.std.specs.declared.cmp.Ordering.TheVariants.{Equal}
use Rattle.build_base.specs.World.{World}
use Rattle.build_base.specs.declared.fault.Fault.{Fault}
use Rattle.step_engine.specs.Caches.{HasKey, AreInOrder, IsJoined, PutsMissing}
use Rattle.step_engine.specs.Meaning.{IsTalk, Asks}
use Rattle.step_engine.specs.Entries.{IsSound, AreSound, IsValid, IsEntry}
use Rattle.step_engine.specs.Needed.{IsNeeded, IsStep, IsFull, IsBad, IsNeededEntry, IsOtherEntry, IsLeft, IsNeededCount}
use Rattle.step_engine.specs.Needed.IsNeededBy.{itself, asked}
use Rattle.step_engine.specs.Build.{Setting, IsHere, IsEntryOf, RanAll, IsBuilt, Built, Counts}
use Rattle.step_engine.specs.Engine.{State, state, AreKept}
use Rattle.step_engine.specs.Agreeing.{HasTalkParts, Agree}
use Rattle.step_engine.proofs.Talks.{valid_entry, same_entry, asked_in}
use Rattle.step_engine.proofs.Moves.{none_in, one_in, has_key_grows}
use Rattle.step_engine.proofs.Caches.{Contains-cons_cases, put_has, put_keeps, put_cases, same_length}
use Rattle.step_engine.proofs.Left.{keys, has_key, key_of, length_keys, keys_distinct, left_one, joined_sound}
use Rattle.step_engine.specs.declared.talk.Outcome.TheVariants.{Good, Bad}
use Rattle.step_engine.specs.declared.talk.Outcome.{Outcome}
use Rattle.step_engine.specs.declared.refusal.EngineRefusal.{EngineRefusal}
use Rattle.step_engine.specs.declared.refusal.EngineRefusal.TheVariants.{ReadFault, WantOfMemory}
use Rattle.step_engine.specs.declared.talk.Ask.TheVariants as ask
use Rattle.step_engine.specs.declared.talk.Entry.{Entry}
use Rattle.std.proofs.lemmas.List.Sorted.{Contains-permutation, IsPermutation-sym}
use Rattle.step_engine.specs.Table.{Known, IsTable, place_at}
use Rattle.step_engine.specs.declared.places.Place.{Place}
use Rattle.step_engine.proofs.Going.{going_none}
use Rattle.step_engine.specs.Rounds.{IsGoing, IsEnd, IsOneEach, AreSame}
use Rattle.step_engine.specs.Items.{IsReady}
use Rattle.step_engine.specs.Reading.{knowledge}
use Rattle.step_engine.specs.declared.learned.Learned.{Learned}
use Rattle.step_engine.proofs.AgreeLemmas.{parts_grow, compared_grows, asked_pair, agree_under}
use Rattle.step_engine.specs.Settling.{IsBroughtTo}
use Rattle.step_engine.specs.Ended.{IsReached, IsLeftOver}
use Rattle.step_engine.specs.declared.places.Place.TheVariants.{Done}

module _ {K O : Type 0} (s : Setting K O) (w : World) (here : IsHere s w) (top : K) (z : State K O) (added : List K) (r : Outcome O) (d : IsEnd s top z added r) where
  -- each entry made is the key's
  entry_made : (e : Entry K O) → Contains z.fresh e → IsEntry s.means w e
  entry_made e h =
      let sound : IsSound s.means e = All-contains (IsSound s.means) z.fresh e (d.kept.sound here.sound) h in
      valid_entry s.means w e here.world sound (All-contains (IsValid s.means w) z.fresh e (d.kept.right w here) h)

  -- each entry made is of a needed key
  needed_made : (e : Entry K O) → Contains z.fresh e → IsNeeded s.means w top e.key
  needed_made e h = d.needed w here e h

  part_made : (k part : K) → HasKey z.fresh k → Asks s.means w k (ask.Part part) → HasKey z.fresh part
  part_made k part h n =
      let e = h.0 in
      let t : IsTalk s.means w k e.talk.batches = subst (λ (k : K). IsTalk s.means w k e.talk.batches) h.2 (entry_made e h.1).talk in
      let b = asked_in s.means w k (ask.Part part) e.talk.batches t n in
      let closed : HasTalkParts z.fresh e.talk.batches = All-contains (λ (e : Entry K O). HasTalkParts z.fresh e.talk.batches) z.fresh e d.kept.closed h.1 in
      let p = asked_pair b.0.pairs (ask.Part part) b.2 in
      let made = (closed b.0 b.1 part p.0 p.1 p.2).1 in
      (made.0, made.1, made.2)

  -- each needed key has an entry
  made_needed : (k : K) → IsNeeded s.means w top k → HasKey z.fresh k
  made_needed k (itself c) = (d.entry.0, d.entry.1, d.entry.2 ∙ one_in k top c)
  made_needed k (asked n a) = part_made _ k (made_needed _ n) a

  -- the entry of a needed key was made
  made_entry : (e : Entry K O) → IsNeededEntry s.means w top e → Contains z.fresh e
  made_entry e n =
      let h = made_needed e.key n.0 in
      subst (Contains z.fresh) (same_entry s.means w h.0 e h.2 (entry_made h.0 h.1) n.1) h.1

  pub value_is : r ≡ s.means.value top w
  value_is = sym d.entry.3 ∙ (sym (entry_made d.entry.0 d.entry.1).value ∙ ap (λ (k : K). s.means.value k w) d.entry.2)

  pub left_good : (o : O) → r ≡ Good o → IsLeft s.means w s.old top z.fresh
  left_good o is = record {
    has = λ k n. made_needed k n;
    entries = λ e. (
      λ h. inl (needed_made e h, entry_made e h),
      λ n. (elim n as (λ _. Contains z.fresh e) [
        | inl l ↦ made_entry e l
        | inr b ↦ absurd (let v = value_is in let q = b.0.1 in cc)
      ]),
    );
  }

  pub left_bad : (f : Fault) → r ≡ Bad f → (cache : List (Entry K O)) → IsJoined z.fresh s.old cache → IsLeft s.means w s.old top cache
  left_bad f is cache j =
      let bad : IsBad (s.means.value top w) = (f, sym value_is ∙ is) in
      record {
        has = λ k n. has_key_grows z.fresh cache k j.grows (made_needed k n);
        entries = λ e. (
          λ h. (elim (j.only e h) as (λ _. IsNeededEntry s.means w top e ⊎ IsOtherEntry s.means w s.old top e) [
            | inl l ↦ inl (needed_made e l, entry_made e l)
            | inr q ↦ inr (bad, q.0, λ n. q.1 (made_needed e.key n))
          ]),
          λ n. (elim n as (λ _. Contains cache e) [
            | inl l ↦ j.grows e (made_entry e l)
            | inr b ↦ j.all e b.1 (λ q. b.2 (subst (IsNeeded s.means w top) q.2 (needed_made q.0 q.1)))
          ]),
        );
      }

  pub full_is : (cache : List (Entry K O)) → ((e : Entry K O) → Contains z.fresh e → Contains cache e) → IsFull s.means w top cache
  full_is cache grows k n =
      let h = made_needed k n in
      (h.0, grows h.0 h.1, h.2, (entry_made h.0 h.1).talk.right)

  -- each key that had to run did
  pub all_ran : (k : K) → IsStep s.means w s.old top k → Contains added k
  all_ran k t =
      let h = made_needed k t.needed in
      elim (d.from w here h.0 h.1) as (λ _. Contains added k) [
        | inl l ↦ subst (Contains added) h.2 l
        | inr o ↦ absurd (t.stale o.0 o.1 (o.2 ∙ h.2) o.3)
      ]

  pub count_is : (cmp : K → K → Ordering) → IsTotalOrder cmp → AreInOrder cmp z.fresh → (n : ℕ) → n ≡ length z.fresh → IsNeededCount s.means w top n
  count_is cmp o order n e = record {
    keys = keys z.fresh;
    distinct = keys_distinct cmp o z.fresh order;
    are_needed = λ k. (
      λ c. (let h = key_of z.fresh k c in subst (IsNeeded s.means w top) h.2 (needed_made h.0 h.1)),
      λ q. (let h = made_needed k q in subst (Contains (keys z.fresh)) h.2 (has_key z.fresh h.0 h.1)),
    );
    number = length_keys z.fresh ∙ sym e;
  }

left_when : {K O : Type 0} (s : Setting K O) (w : World) (i : IsHere s w) (top : K) (z : State K O) (added : List K) (r : Outcome O) (d : IsEnd s top z added r) → (IsBad r → ⊥) → IsLeft s.means w s.old top z.fresh
left_when s w i top z added (Good o) d good = left_good s w i top z added (Good o) d o refl
left_when s w i top z added (Bad f) d good = absurd (good (f, refl))

module _ {K O : Type 0} (s : Setting K O) (top : K) (z : State K O) (added : List K) (r : Outcome O) (d : IsEnd s top z added r) (cmp : K → K → Ordering) (total : IsTotalOrder cmp) (order : AreInOrder cmp z.fresh) (n : ℕ) (is : n ≡ length z.fresh) where
  built_by : (cache : List (Entry K O)) → AreInOrder cmp cache → ((e : Entry K O) → Contains z.fresh e → Contains cache e) → (w : World) → IsHere s w → IsLeft s.means w s.old top cache → IsBuilt cmp s.means w s.old top r cache n
  built_by cache in_order grows w i left = record {
    value = value_is s w i top z added r d;
    left = left;
    only = λ other o l. left_one cmp total s.means w s.old top other cache o in_order l left;
    full = full_is s w i top z added r d cache grows;
    count = count_is s w i top z added r d cmp total order n is;
  }

  pub built_good : (IsBad r → ⊥) → Built cmp s top r z.fresh n
  built_good good w i = built_by z.fresh order (λ e h. h) w i (left_when s w i top z added r d good)

  pub built_bad : (b : IsBad r) (cache : List (Entry K O)) → AreInOrder cmp cache → IsJoined z.fresh s.old cache → Built cmp s top r cache n
  built_bad b cache in_order j w i = built_by cache in_order j.grows w i (left_bad s w i top z added r d b.0 b.1 cache j)

-- the entries, in another order
pub end_of : {K O : Type 0} (s : Setting K O) (top : K) (x z : State K O) (t u : Known K) (r : Outcome O) (cache : List (Entry K O)) (b : IsBroughtTo s top x z t u r) (g : IsGoing s top x z u) → AreSame z.fresh cache → IsEnd s top (state cache z.learned z.ran z.reads) g.added r
end_of {K} {O} s top x z t u r cache b g same =
    let over : (P : Entry K O → Type 0) → All P z.fresh → All P cache = λ P h. All-weaker (Contains cache) P (λ e c. All-contains P z.fresh e h (same.from e c)) cache (All-contains_itself cache) in
    let P : Entry K O → Type 0 = λ e. HasTalkParts z.fresh e.talk.batches in
    let Q : Entry K O → Type 0 = λ e. HasTalkParts cache e.talk.batches in
    let k = b.ready in
    let q = k.kept in
    record {
      kept = record {
        sound = λ o. over (IsSound s.means) (q.sound o);
        right = λ w i. over (IsValid s.means w) (q.right w i);
        closed = All-weaker P Q (λ e h. parts_grow z.fresh cache e.talk.batches same.into h) cache (over P q.closed);
        known = q.known;
        within = q.within;
        compared = compared_grows s.old z.fresh cache z.learned.compared same.into q.compared;
      };
      entry = (b.entry.0, same.into b.entry.0 b.entry.1, b.entry.2, b.entry.3);
      needed = λ w i e c. g.needed w i e (same.from e c);
      from = λ w i e c. g.from w i e (same.from e c);
    }

-- the keys that ran
pub end_all : {K O : Type 0} (s : Setting K O) (top : K) (x z : State K O) (u : Known K) (r : Outcome O) (cache : List (Entry K O)) (g : IsGoing s top x z u) → IsEnd s top (state cache z.learned z.ran z.reads) g.added r → RanAll s top x.ran z.ran
end_all s top x z u r cache g d = (g.added, g.is, g.distinct, λ w i k t. all_ran s w i top (state cache z.learned z.ran z.reads) g.added r d k t)

-- no key ran, and all that is left was handed in
module _ {K O : Type 0} (s : Setting K O) (top : K) (x z : State K O) (u : Known K) (g : IsGoing s top x z u) (cmp : K → K → Ordering) (total : IsTotalOrder cmp) (made : List (Entry K O)) (same : AreSame z.fresh made) where
  made_old : length z.ran ≡ length x.ran → (e : Entry K O) → Contains made e → Contains s.old e
  made_old n e h = elim (g.sources e (same.from e h)) as (λ _. Contains s.old e) [
    | inl l ↦ absurd (let all : length z.ran ≡ length x.ran + length g.added = ap length g.is ∙ length-append x.ran g.added in omega (arith, all, n, l.1))
    | inr r ↦ r
  ]

  pub unchanged_good : AreInOrder cmp made → AreInOrder cmp s.old → (first : ℕ) → first ≡ length x.ran → (length z.ran ≡ first) × (length made ≡ length s.old) → made ≡ s.old
  unchanged_good order sorted first is n = same_length cmp total made s.old order sorted (made_old (n.0 ∙ is)) n.1

  pub unchanged_bad : (left : List (Entry K O)) → IsJoined made s.old left → AreInOrder cmp left → AreInOrder cmp s.old → (first : ℕ) → first ≡ length x.ran → (length z.ran ≡ first) × (length left ≡ length s.old) → left ≡ s.old
  unchanged_bad left j order sorted first is n =
      let inside : (e : Entry K O) → Contains left e → Contains s.old e = λ e h. (elim (j.only e h) as (λ _. Contains s.old e) [
        | inl l ↦ made_old (n.0 ∙ is) e l
        | inr r ↦ r.0
      ]) in
      same_length cmp total left s.old order sorted inside n.1

pub end_joined : {K O : Type 0} (s : Setting K O) (top : K) (z : State K O) (added : List K) (r : Outcome O) (cache : List (Entry K O)) → IsEnd s top z added r → IsJoined z.fresh s.old cache → IsEntryOf top r cache
end_joined s top z added r cache d j = (d.entry.0, j.grows d.entry.0 d.entry.1, d.entry.2, d.entry.3)

pub end_sound : {K O : Type 0} (s : Setting K O) (top : K) (z : State K O) (added : List K) (r : Outcome O) → IsEnd s top z added r → AreSound s.means s.old → AreSound s.means z.fresh
end_sound s top z added r d o = d.kept.sound o

pub end_joined_sound : {K O : Type 0} (s : Setting K O) (top : K) (z : State K O) (added : List K) (r : Outcome O) (cache : List (Entry K O)) → IsEnd s top z added r → IsJoined z.fresh s.old cache → AreSound s.means s.old → AreSound s.means cache
end_joined_sound s top z added r cache d j o = joined_sound s.means s.old z.fresh cache o (d.kept.sound o) j

-- the old entries of other keys are left too
pub left_joined : {K O E : Type 0} (old made : List (Entry K O)) (o : Outcome O) → IsBad o → (r : Result (List (Entry K O)) E) → IfOk r (IsJoined made old) → IfOk r (IsLeftOver old made o)
left_joined old made o bad (Ok left) j = inr (bad, j)
left_joined old made o bad (Err e) j = tt

-- what a build that reached its outcome leaves
module _ {K O : Type 0} (s : Setting K O) (top : K) (book book' : List K) (r : Outcome O) (made : List (Entry K O)) (b : IsReached s top book book' r made) where
  abbrev now : State K O
  now = state made b.end.learned b.end.ran b.end.reads

  pub reached_all : RanAll s top book book'
  reached_all = subst (λ (xs : List K). RanAll s top xs book') b.before (subst (λ (xs : List K). RanAll s top b.begin.ran xs) b.after (end_all s top b.begin b.end b.known r made b.going b.ended))

  pub reached_own : (left : List (Entry K O)) → IsLeftOver s.old made r left → IsEntryOf top r left
  reached_own left (inl h) = subst (λ (xs : List (Entry K O)). IsEntryOf top r xs) (sym h.1) b.ended.entry
  reached_own left (inr h) = end_joined s top now b.going.added r left b.ended h.1

  pub reached_sound : (left : List (Entry K O)) → IsLeftOver s.old made r left → AreSound s.means s.old → AreSound s.means left
  reached_sound left (inl h) o = subst (λ (xs : List (Entry K O)). AreSound s.means xs) (sym h.1) (end_sound s top now b.going.added r b.ended o)
  reached_sound left (inr h) o = end_joined_sound s top now b.going.added r left b.ended h.1 o

  module _ (cmp : K → K → Ordering) (total : IsTotalOrder cmp) (order : AreInOrder cmp made) (left : List (Entry K O)) (sorted : AreInOrder cmp left) where
    pub reached_built : IsLeftOver s.old made r left → (n : ℕ) → n ≡ length made → Built cmp s top r left n
    reached_built (inl h) n is = subst (λ (xs : List (Entry K O)). Built cmp s top r xs n) (sym h.1) (built_good s top now b.going.added r b.ended cmp total order n is h.0)
    reached_built (inr h) n is = built_bad s top now b.going.added r b.ended cmp total order n is h.0 left sorted h.1

    pub reached_same : IsLeftOver s.old made r left → AreInOrder cmp s.old → (first : ℕ) → first ≡ length book → (length book' ≡ first) × (length left ≡ length s.old) → left ≡ s.old
    reached_same (inl h) before first is n =
        h.1 ∙ unchanged_good s top b.begin b.end b.known b.going cmp total made b.same order before first (is ∙ ap length (sym b.before)) (ap length b.after ∙ n.0, ap length (sym h.1) ∙ n.1)
    reached_same (inr h) before first is n =
        unchanged_bad s top b.begin b.end b.known b.going cmp total made b.same left h.1 sorted before first (is ∙ ap length (sym b.before)) (ap length b.after ∙ n.0, n.1)

-- one entry a key
pub one_each : {K O : Type 0} (t : Known K) (added : List K) (fresh : List (Entry K O)) → IsTable t added fresh → IsOneEach fresh
one_each {K} {O} t added fresh h d e c f k =
    let a : slice_get fresh c.0 ≡ Some d = slice_get_read fresh (length fresh) c.0 d refl c.1 (sym c.2) in
    let b : slice_get fresh f.0 ≡ Some e = slice_get_read fresh (length fresh) f.0 e refl f.1 (sym f.2) in
    let p : t d.key ≡ Some (Done c.0) = h.one c.0 d a in
    let q : t d.key ≡ Some (Done f.0) = ap t k ∙ h.one f.0 e b in
    let n : Some (Done c.0) ≡ Some (Done f.0) = sym p ∙ q in
    let i : c.0 ≡ f.0 = cc in
    let m : Some d ≡ Some e = sym a ∙ (ap (λ i. slice_get fresh i) i ∙ b) in
    cc

-- one more entry is put
pub puts_only : {K O : Type 0} (cmp : K → K → Ordering) (fresh cache cache' : List (Entry K O)) (a : Entry K O) → Contains fresh a → ((e : Entry K O) → Contains cache e → Contains fresh e) → PutsMissing cmp a cache cache' → (e : Entry K O) → Contains cache' e → Contains fresh e
puts_only {K} {O} cmp fresh cache cache' a c only (inl h) e d = only e (rw h.1 at d)
puts_only {K} {O} cmp fresh cache cache' a c only (inr h) e d = elim (put_cases cmp a cache e (rw h.1 at d)) as (λ _. Contains fresh e) [
  | inl q ↦ subst (Contains fresh) q c
  | inr q ↦ only e q
]

puts_old : {K O : Type 0} (cmp : K → K → Ordering) (law : (a b : K) → cmp a b ≡ Equal → a ≡ b) (cache cache' : List (Entry K O)) (a : Entry K O) → PutsMissing cmp a cache cache' → (e : Entry K O) → Contains cache e → Contains cache' e
puts_old cmp law cache cache' a (inl h) e d = rw h.1 d
puts_old cmp law cache cache' a (inr h) e d = rw h.1 (put_keeps cmp law a cache e h.0 d)

puts_it : {K O : Type 0} (cmp : K → K → Ordering) (fresh cache cache' : List (Entry K O)) (a : Entry K O) → IsOneEach fresh → Contains fresh a → ((e : Entry K O) → Contains cache e → Contains fresh e) → PutsMissing cmp a cache cache' → Contains cache' a
puts_it {K} {O} cmp fresh cache cache' a one c only (inl h) = rw h.1 (let k = h.0 in subst (Contains cache) (one k.0 a (only k.0 k.1) c k.2) k.1)
puts_it cmp fresh cache cache' a one c only (inr h) = rw h.1 (put_has cmp a cache)

pub puts_all : {K O : Type 0} (cmp : K → K → Ordering) (law : (a b : K) → cmp a b ≡ Equal → a ≡ b) (fresh rest more cache cache' : List (Entry K O)) (a : Entry K O) → IsOneEach fresh → Contains fresh a → rest ≡ a ∷ more → ((e : Entry K O) → Contains cache e → Contains fresh e) → ((e : Entry K O) → Contains fresh e → Contains rest e ⊎ Contains cache e) → PutsMissing cmp a cache cache' → (e : Entry K O) → Contains fresh e → Contains more e ⊎ Contains cache' e
puts_all {K} {O} cmp law fresh rest more cache cache' a one c is only all h e d = elim (all e d) as (λ _. Contains more e ⊎ Contains cache' e) [
  | inl l ↦ (elim (Contains-cons_cases a more e (subst (λ (xs : List (Entry K O)). Contains xs e) is l)) as (λ _. Contains more e ⊎ Contains cache' e) [
    | inl q ↦ inr (subst (Contains cache') q (puts_it cmp fresh cache cache' a one c only h))
    | inr q ↦ inl q
  ])
  | inr l ↦ inr (puts_old cmp law cache cache' a h e l)
]

pub puts_end : {K O : Type 0} (fresh rest cache : List (Entry K O)) → rest ≡ [] → ((e : Entry K O) → Contains cache e → Contains fresh e) → ((e : Entry K O) → Contains fresh e → Contains rest e ⊎ Contains cache e) → AreSame fresh cache
puts_end {K} {O} fresh rest cache is only all = record {
  into = λ e c. (elim (all e c) as (λ _. Contains cache e) [
    | inl l ↦ absurd (none_in e (subst (λ (xs : List (Entry K O)). Contains xs e) is l))
    | inr r ↦ r
  ]);
  from = only;
}

pub same_permuted : {K O : Type 0} (xs ys cache : List (Entry K O)) → IsPermutation xs ys → AreSame ys cache → AreSame xs cache
same_permuted xs ys cache p a = record {
  into = λ e c. a.into e (Contains-permutation xs ys e p c);
  from = λ e c. Contains-permutation ys xs e (IsPermutation-sym xs ys p) (a.from e c);
}

pub one_permuted : {K O : Type 0} (xs ys : List (Entry K O)) → IsPermutation xs ys → IsOneEach xs → IsOneEach ys
one_permuted xs ys p o d e c f = o d e (Contains-permutation ys xs d (IsPermutation-sym xs ys p) c) (Contains-permutation ys xs e (IsPermutation-sym xs ys p) f)

pub agree_permuted : {K O : Type 0} (xs ys cache : List (Entry K O)) → IsPermutation xs ys → ((e : Entry K O) → Contains cache e → Contains ys e) → Agree xs → Agree cache
agree_permuted xs ys cache p f a = agree_under xs cache (λ e c. Contains-permutation ys xs e (IsPermutation-sym xs ys p) (f e c)) a

-- at the start
pub begun : {K O : Type 0} (s : Setting K O) (top : K) (x : State K O) (cmp : K → K → Ordering) (entries : List (K × Place)) → x.fresh ≡ [] → entries ≡ [] → IsGoing s top x x (place_at cmp entries)
begun s top x cmp entries none blank = going_none s top x (place_at cmp entries) none (λ k. rw blank refl)

pub ready_none : {K O : Type 0} (s : Setting K O) (x : State K O) (cmp : K → K → Ordering) (entries : List (K × Place)) → AreKept s x → entries ≡ [] → IsReady s x (place_at cmp entries)
ready_none s x cmp entries q blank = record { kept = q; finds = rw blank (λ k i h. absurd (let a : None ≡ Some (Done i) = h in cc)) }

pub kept_none : {K O : Type 0} (s : Setting K O) (cmp : K → K → Ordering) (fresh : List (Entry K O)) (learned : Learned K) (ran : List K) (reads : Option (List (List ℕ))) → fresh ≡ [] → learned.files ≡ [] → learned.compared ≡ [] → AreKept s (state fresh (knowledge cmp learned) ran reads)
kept_none {K} {O} s cmp fresh learned ran reads e f c =
    rw e (record {
      sound = λ o. All-nil (IsSound s.means);
      right = λ w i. All-nil (IsValid s.means w);
      closed = All-nil (λ (e : Entry K O). HasTalkParts [] e.talk.batches);
      known = λ h t p got q. absurd (let a : None ≡ Some got = rw f at q in cc);
      within = λ p got q. absurd (let a : None ≡ Some got = rw f at q in cc);
      compared = λ part same q. absurd (let a : None ≡ Some same = rw c at q in cc);
    })

no_more : {A : Type 0} (xs : List A) → length xs ≡ 0 → xs ≡ []
no_more [] e = refl
no_more (x ∷ xs) e = absurd (omega (arith, e))

pub puts_done : {K O : Type 0} (fresh rest cache : List (Entry K O)) → length rest ≡ 0 → ((e : Entry K O) → Contains cache e → Contains fresh e) → ((e : Entry K O) → Contains fresh e → Contains rest e ⊎ Contains cache e) → AreSame fresh cache
puts_done fresh rest cache e only all = puts_end fresh rest cache (no_more rest e) only all

-- a build that wants memory behind a result leaves the count of the tree's faults
pub counts_wanting : {A : Type 0} (r : Result A EngineRefusal) (before now : ℕ) → IsErrAnd r (λ e. e ≡ WantOfMemory) → now ≡ before → Counts before now r
counts_wanting (Ok x) before now w e = e
counts_wanting (Err ReadFault) before now w e = absurd (cc)
counts_wanting (Err WantOfMemory) before now w e = e
