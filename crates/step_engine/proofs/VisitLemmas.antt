-- A visit goes forward.
use Rattle.std.proofs.Common.{◌≡◌, ◌==◌, ℕ, zero, suc, ◌<◌, ◌≤◌, ◌++◌, ◌⊎◌, List, [], ◌∷◌, Option, Some, None, Bool, true, not, refl, sym, ap, ◌∙◌, subst, Contains, inl, inr, arith, length, drop, slice_get}
use Rattle.std.proofs.lemmas.List.Elements.{Contains-push, Contains-push_cases, Contains-append_left, Contains-append_right}
use Rattle.std.proofs.lemmas.Bool.Decides.{nat_tests}
use Rattle.std.specs.List.{AllZip}
use Rattle.std.specs.BTreeMap.{is_at}
use Rattle.std.specs.Map.{lookup}
use Rattle.std.specs.declared.cmp.Ordering.{Ordering}
use Rattle.step_engine.specs.declared.talk.Entry.{Entry}
use Rattle.step_engine.specs.Caches.{HasKey}
use Rattle.step_engine.specs.Meaning.{Meaning}
use Rattle.step_engine.specs.Table.{Known, IsDone, Finds}
use Rattle.step_engine.specs.Items.{item_key, IsTurned}
use Rattle.step_engine.specs.Forward.{IsMet, IsOpen, HasItem, HasRun, HasTurned, HasParked, InPool, Covers, Waits, AreAble, AreParked, AreUndone, IsWhole, AreOpened, queued, queue_at, PutsBack, IsParted, GoesOn, Rises, HasOne, AllAct, AreEntered}
use Rattle.step_engine.specs.declared.places.Place.{Place}
use Rattle.step_engine.specs.declared.places.Place.TheVariants.{Checking, Running, Done}
use Rattle.step_engine.specs.declared.items.Run.{Run}
use Rattle.step_engine.specs.declared.items.Turned.{Turned}
use Rattle.step_engine.specs.declared.items.Item.{Item}
use Rattle.step_engine.specs.declared.items.Waiting.{Waiting}
use Rattle.step_engine.specs.declared.items.Queue.{Queue}
use Rattle.step_engine.specs.declared.pool.Pool.{Pool}
use Rattle.step_engine.proofs.Moves.{none_in}
use Rattle.step_engine.proofs.TableLemmas.{get_in}
use Rattle.step_engine.proofs.OpenedLemmas.{items_same}
use Rattle.step_engine.proofs.LookLemmas.{cons_cases, waits_on, opened_met, opened_done, waiting_kept}
use Rattle.step_engine.proofs.QueueLemmas.{fewer_in}
use Rattle.step_engine.proofs.ForwardLemmas.{rises_then, then_rises}

-- each run made its turn
zip_has : {K O : Type 0} (m : Meaning K O) (runs : List (Run K O)) (done : List (Turned K O)) → AllZip (IsTurned m) runs done → (r : Run K O) → Contains runs r → (d : Turned K O) × Contains done d × (d.key ≡ r.key)
zip_has m [] [] h r c = absurd (none_in r c)
zip_has m [] (d ∷ done) h r c = absurd h
zip_has m (q ∷ runs) [] h r c = absurd h
zip_has {K} {O} m (q ∷ runs) (d ∷ done) h r c = elim (cons_cases q r runs c.0 c.1 c.2) as (λ _. (e : Turned K O) × Contains (d ∷ done) e × (e.key ≡ r.key)) [
  | inl s ↦ (d, (0, omega arith, refl), h.0.key ∙ ap (λ (r : Run K O). r.key) s)
  | inr i ↦ (let e = zip_has m runs done h.1 r i in (e.0, (suc e.1.0, omega (arith, e.1.1), e.1.2), e.2))
]

pub runs_turned : {K O : Type 0} (m : Meaning K O) (runs : List (Run K O)) (done : List (Turned K O)) (left : List (Item K O)) → AllZip (IsTurned m) runs done → (k : K) (p : Place) → HasRun runs k p ⊎ HasItem left k p → HasTurned done k p ⊎ HasItem left k p
runs_turned m runs done left h k p (inl q) = (let d = zip_has m runs done h q.0 q.1 in inl (d.0, d.1, d.2 ∙ q.2, q.3))
runs_turned m runs done left h k p (inr i) = inr i

pub one_there : {A : Type 0} (xs : List A) → HasOne xs → 0 < length xs
one_there [] o = absurd (none_in o.0 o.1)
one_there (x ∷ xs) o = omega arith

-- the steps of a list, and then their turns
pub round_acts : {K O : Type 0} (rank : K → ℕ) (t : Known K) (items : List (Item K O)) (n m l : ℕ) (runs : List (Run K O)) → AllAct rank t items n m (HasOne runs) → m ≤ l → (HasOne runs → Rises m l) → AllAct rank t items n l ⊥
round_acts rank t items n m l runs a g f = record {
  grows = omega (arith, a.grows, g);
  able = λ h o. (elim (a.able h o) as (λ _. Rises n l ⊎ ⊥) [
    | inl r ↦ inl (rises_then n m l r g)
    | inr r ↦ inl (then_rises n m l a.grows (f r) g)
  ]);
}

queue_some : {K O : Type 0} (r : Option (Queue K O)) (w : Waiting K O) → Contains (queued r) w → (q : Queue K O) × (r ≡ Some q)
queue_some None w c = absurd (none_in w c)
queue_some (Some q) w c = (q, refl)

open_place : (p : Place) → ((i : ℕ) → p ≡ Done i → ⊥) → IsOpen p
open_place Checking f = tt
open_place Running f = tt
open_place (Done i) f = f i refl

-- where all keys under way are parked there is none: one of least rank waits for none
module _ {K O : Type 0} (cmp : K → K → Ordering) (rank : K → ℕ) (t : Known K) (parked : List (K × Queue K O)) (waits : AreParked cmp rank t parked) (undone : AreUndone cmp t parked) (covers : Covers t (HasParked cmp parked)) where
  none_below : (n : ℕ) (k : K) (p : Place) → rank k < n → IsOpen p → t k ≡ Some p → ⊥
  none_below zero k p l o e = absurd (omega (arith, l))
  none_below (suc n) k p l o e =
      let h = covers k p o e in
      let w = h.1.0 in
      let has : Contains (w.parts.items ++ h.0 ∷ []) h.0 = Contains-push w.parts.items h.0 in
      let v = waits h.0 w h.1.1 in
      let low : rank h.0 < rank (item_key w.item) = v.lower h.0 has in
      let same : rank (item_key w.item) ≡ rank k = ap rank h.1.2 in
      let met = v.met h.0 has in
      let q = queue_some (lookup (is_at (cmp h.0)) parked) w h.1.1 in
      let free : (i : ℕ) → met.0 ≡ Done i → ⊥ = λ i s. undone h.0 q.0 q.1 (i, met.1 ∙ ap Some s) in
      none_below n h.0 met.0 (omega (arith, low, same, l)) (open_place met.0 free) met.1

  pub none_parked : (k : K) (p : Place) → IsOpen p → t k ≡ Some p → ⊥
  none_parked k p o e = none_below (suc (rank k)) k p (omega arith) o e

module _ {K O : Type 0} (cmp : K → K → Ordering) (rank : K → ℕ) (t u : Known K) (mid : Pool K O) (able : List (Item K O)) (w : IsParted cmp rank t u mid able) where
  only_parked : mid.news.items ≡ [] → able ≡ [] → Covers u (HasParked cmp mid.parked)
  only_parked n a k p o e = elim (w.covers k p o e) as (λ _. HasParked cmp mid.parked k p) [
    | inl i ↦ (elim i as (λ _. HasParked cmp mid.parked k p) [
      | inl x ↦ absurd (none_in x.0 (subst (λ (xs : List (Item K O)). Contains xs x.0) n x.1))
      | inr y ↦ (elim y as (λ _. HasParked cmp mid.parked k p) [
        | inl x ↦ absurd (none_in x.0 (subst (λ (xs : List (Waiting K O)). Contains xs x.0) w.woken x.1))
        | inr x ↦ x
      ])
    ])
    | inr x ↦ absurd (none_in x.0 (subst (λ (xs : List (Item K O)). Contains xs x.0) a x.1))
  ]

  still_open : (k : K) (p : Place) → t k ≡ Some p → u k ≡ Some p
  still_open k p e = elim (w.opens k) as (λ _. u k ≡ Some p) [
    | inl s ↦ s ∙ e
    | inr h ↦ absurd (let f : None ≡ Some p = sym h.0 ∙ e in cc)
  ]

  acts_case : (news : List (Item K O)) → mid.news.items ≡ news → (some : List (Item K O)) → able ≡ some → (n m l : ℕ) → n ≤ m → m ≤ l → (0 < length news → Rises n m) → (AreAble rank u able → HasOne some → Rises m l) → (k : K) (p : Place) → IsOpen p → t k ≡ Some p → Rises n l
  acts_case [] a [] b n m l g h f j k p o e = absurd (none_parked cmp rank u mid.parked w.parked w.undone (only_parked a b) k p o (still_open k p e))
  acts_case [] a (x ∷ some) b n m l g h f j k p o e = then_rises n m l g (j w.are_able (x, (0, omega arith, refl))) h
  acts_case (x ∷ news) a some b n m l g h f j k p o e = rises_then n m l (f (omega arith)) h

  pub visit_acts : (n m l : ℕ) → n ≤ m → (0 < length mid.news.items → Rises n m) → AllAct rank u able m l ⊥ → (k : K) (p : Place) → IsOpen p → t k ≡ Some p → Rises n l
  visit_acts n m l g f a = acts_case mid.news.items refl able refl n m l g a.grows f (λ h o. (elim (a.able h o) as (λ _. Rises m l) [ inl r ↦ r | inr x ↦ absurd x ]))

-- an element behind a place
pub behind_in : {A : Type 0} (n : ℕ) (xs : List A) (i : ℕ) (a : A) → n ≤ i → slice_get xs i ≡ Some a → Contains (drop n xs) a
behind_in zero xs i a l e = get_in xs i a e
behind_in (suc n) [] i a l e = absurd (let f : None ≡ Some a = e in cc)
behind_in (suc n) (x ∷ xs) zero a l e = absurd (omega (arith, l))
behind_in (suc n) (x ∷ xs) (suc i) a l e = behind_in n xs i a (omega (arith, l)) e

pub drop_in : {A : Type 0} (n : ℕ) (xs : List A) (a : A) → Contains (drop n xs) a → Contains xs a
drop_in zero xs a c = c
drop_in (suc n) [] a c = c
drop_in (suc n) (x ∷ xs) a c = (let d = drop_in n xs a c in (suc d.0, omega (arith, d.1), d.2))

-- the part for which it was parked is done
waits_woken : {K O : Type 0} (rank : K → ℕ) (t : Known K) (a : Item K O) (parts : List K) (k : K) → IsDone (t k) → Waits rank t a (parts ++ k ∷ []) → Waits rank t a parts
waits_woken {K} rank t a parts k d w = record {
  lower = λ p c. w.lower p (Contains-append_left parts (k ∷ []) p c);
  met = λ p c. w.met p (Contains-append_left parts (k ∷ []) p c);
  whole = λ p q l. (elim (w.whole p q l) as (λ _. IsDone (t p) ⊎ Contains parts p) [
    | inl e ↦ inl e
    | inr c ↦ (elim (Contains-push_cases parts k p c) as (λ _. IsDone (t p) ⊎ Contains parts p) [
      | inl i ↦ inr i
      | inr s ↦ inl (subst (λ (p : K). IsDone (t p)) s d)
    ])
  ]);
}

module _ {K O : Type 0} (cmp : K → K → Ordering) (rank : K → ℕ) (t u v : Known K) (mid after : Pool K O) (able left : List (Item K O)) (n : ℕ) (fresh : List (Entry K O)) (w : IsParted cmp rank t u mid able) (g : GoesOn O cmp n (length fresh) u v (HasItem able) (HasItem left)) (finds : Finds v fresh) (e : AreEntered v fresh) (put : PutsBack cmp left (drop n fresh) mid after) where
  made_done : (k : K) → HasKey (drop n fresh) k → IsDone (v k)
  made_done k h = subst (λ (k : K). IsDone (v k)) h.2 (e h.0 (drop_in n fresh h.0 h.1))

  done_made : (k : K) → (IsDone (u k) → ⊥) → IsDone (v k) → HasKey (drop n fresh) k
  done_made k out d = elim (g.later.made k d.0 d.1) as (λ _. HasKey (drop n fresh) k) [
    | inl h ↦ absurd (out (d.0, h))
    | inr l ↦ (let f = finds k d.0 d.1 in (f.0, behind_in n fresh d.0 f.0 l f.1, f.2))
  ]

  in_after : (k : K) (p : Place) → InPool cmp mid k p ⊎ HasItem left k p → InPool cmp after k p
  in_after k p (inl (inl x)) = inl (items_same (mid.news.items ++ left) after.news.items k p put.news (x.0, Contains-append_left mid.news.items left x.0 x.1, x.2, x.3))
  in_after k p (inl (inr (inl x))) = inr (inl (waiting_kept mid.woken.items after.woken.items put.wakes.kept k p x))
  in_after k p (inl (inr (inr x))) = elim (put.wakes.all x.0 x.1.0 x.1.1) as (λ _. InPool cmp after k p) [
    | inl c ↦ inr (inl (x.1.0, c, x.1.2, x.1.3))
    | inr c ↦ inr (inr (x.0, (x.1.0, c, x.1.2, x.1.3)))
  ]
  in_after k p (inr x) = inl (items_same (mid.news.items ++ left) after.news.items k p put.news (x.0, Contains-append_right mid.news.items left x.0 x.1, x.2, x.3))

  parked_on : (k : K) (x : Waiting K O) → Contains (queue_at cmp mid.parked k) x → Waits rank v x.item (x.parts.items ++ k ∷ [])
  parked_on k x c = waits_on rank u v x.item (x.parts.items ++ k ∷ []) g.later.met g.later.done (w.parked k x c)

  pub visit_whole : IsWhole cmp rank v after
  visit_whole = record {
    covers = λ k p o h. in_after k p (g.covers mid w.covers k p o h);
    waiting = λ x c. (elim (put.wakes.among x c) as (λ _. Waits rank v x.item x.parts.items) [
      | inl d ↦ absurd (none_in x (subst (λ (xs : List (Waiting K O)). Contains xs x) w.woken d))
      | inr d ↦ waits_woken rank v x.item x.parts.items d.0 (made_done d.0 d.1) (parked_on d.0 x d.2)
    ]);
    parked = λ k x c. parked_on k x (fewer_in cmp mid.parked after.parked k (put.wakes.fewer k) (lookup (is_at (cmp k)) after.parked) refl x c);
    undone = λ k q h d.
        let old = put.wakes.fewer k q h in
        let gone = put.wakes.gone k (done_made k (w.undone k q old) d) in
        absurd (let f : None ≡ Some q = sym gone ∙ h in cc);
  }

  pub visit_met : (k : K) → IsMet (t k) → IsMet (v k)
  visit_met k h = g.later.met k (opened_met t u mid.news.items w.opens k h)

pub entered_opened : {K O : Type 0} (cmp : K → K → Ordering) (rank : K → ℕ) (t u : Known K) (mid : Pool K O) (able : List (Item K O)) (fresh : List (Entry K O)) → IsParted cmp rank t u mid able → AreEntered t fresh → AreEntered u fresh
entered_opened cmp rank t u mid able fresh w f e c = opened_done t u mid.news.items w.opens e.key (f e c)

-- a build begins with one key
pub begins_whole : {K O : Type 0} (cmp : K → K → Ordering) (rank : K → ℕ) (t u : Known K) (pool : Pool K O) → ((k : K) → t k ≡ None) → AreOpened t u pool.news.items → pool.woken.items ≡ [] → pool.parked ≡ [] → IsWhole cmp rank u pool
begins_whole {K} {O} cmp rank t u pool new o none empty = record {
  covers = λ k p q e. (elim (o k) as (λ _. InPool cmp pool k p) [
    | inl s ↦ absurd (let f : None ≡ Some p = sym (new k) ∙ (sym s ∙ e) in cc)
    | inr h ↦ (let f : Some h.1 ≡ Some p = sym h.2 ∙ e in let g : h.1 ≡ p = cc in inl (subst (λ (p : Place). HasItem pool.news.items k p) g h.3))
  ]);
  waiting = λ w c. absurd (none_in w (subst (λ (xs : List (Waiting K O)). Contains xs w) none c));
  parked = λ k w c. absurd (none_in w (subst (λ (m : List (K × Queue K O)). Contains (queue_at cmp m k) w) empty c));
  undone = λ k q e d. absurd (let f : None ≡ Some q = subst (λ (m : List (K × Queue K O)). lookup (is_at (cmp k)) m ≡ Some q) empty e in cc);
}

-- a key that isn't done is under way
pub top_open : {K : Type 0} (t : Known K) (k : K) (m : IsMet (t k)) → (IsDone (t k) → ⊥) → IsOpen m.0
top_open t k m out = open_place m.0 (λ i e. out (i, m.1 ∙ ap Some e))

-- a list that has an element isn't empty
pub not_empty : (n m : ℕ) (b : Bool) → m ≡ n → b ≡ (m == 0) → 0 < n → not b ≡ true
not_empty n m b e f l = grind (arith, nat_tests)

pub puts_same : {K O : Type 0} (cmp : K → K → Ordering) (left : List (Item K O)) (fresh : List (Entry K O)) (mid after : Pool K O) (m n : ℕ) → m ≡ n → PutsBack cmp left (drop m fresh) mid after → PutsBack cmp left (drop n fresh) mid after
puts_same cmp left fresh mid after m n e p = subst (λ (n : ℕ). PutsBack cmp left (drop n fresh) mid after) e p
