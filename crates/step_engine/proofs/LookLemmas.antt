-- Keys under way that are looked at, and sorted: none of them is lost.
use Rattle.std.proofs.Common.{◌≡◌, ℕ, zero, suc, ◌<◌, ◌++◌, ◌⊎◌, List, [], ◌∷◌, Some, refl, sym, ap, ◌∙◌, subst, Contains, inl, inr, arith, length, get_or}
use Rattle.std.proofs.lemmas.List.Elements.{Contains-push, Contains-push_cases, Contains-append_left, Contains-append_right}
use Rattle.std.specs.declared.cmp.Ordering.{Ordering}
use Rattle.step_engine.specs.Table.{Known, IsDone}
use Rattle.step_engine.specs.Items.{item_key}
use Rattle.step_engine.specs.Wanting.{IsAskedBy}
use Rattle.step_engine.specs.Forward.{IsMet, item_place, HasItem, HasWaiting, HasParked, InPool, IsLeftAt, Waits, IsAble, AreAble, AreWaiting, IsWhole, Wants, Misses, AreDone, AreMet, AreOpened, queue_at, Queues, Looks, Sorts, IsParted}
use Rattle.step_engine.specs.declared.places.Place.{Place}
use Rattle.step_engine.specs.declared.places.Place.TheVariants.{Checking, Running, Done}
use Rattle.step_engine.specs.declared.items.Item.{Item}
use Rattle.step_engine.specs.declared.items.Item.TheVariants as item
use Rattle.step_engine.specs.declared.items.Waiting.{Waiting}
use Rattle.step_engine.specs.declared.items.Queue.{Queue}
use Rattle.step_engine.specs.declared.pool.Pool.{Pool}
use Rattle.step_engine.proofs.Moves.{none_in}
use Rattle.step_engine.proofs.OpenedLemmas.{new_met, new_done, new_join, item_push, item_pushed, items_same}

pub cons_cases : {A : Type 0} (a x : A) (more : List A) (k : ℕ) → k < length (a ∷ more) → get_or (a ∷ more) k x ≡ x → (a ≡ x) ⊎ Contains more x
cons_cases a x more zero l e = inl e
cons_cases a x more (suc k) l e = inr (k, omega (arith, l), e)

pub no_items : {A : Type 0} (xs : List A) → length xs ≡ 0 → xs ≡ []
no_items [] e = refl
no_items (x ∷ xs) e = absurd (omega (arith, e))

pub not_above : (n : ℕ) → (0 < n → ⊥) → n ≡ 0
not_above zero f = refl
not_above (suc n) f = absurd (f (omega arith))

pub rest_cases : {A : Type 0} (rest more : List A) (a x : A) → rest ≡ a ∷ more → Contains rest x → (a ≡ x) ⊎ Contains more x
rest_cases {A} rest more a x e c = let d : Contains (a ∷ more) x = subst (λ (xs : List A). Contains xs x) e c in cons_cases a x more d.0 d.1 d.2

pub waits_on : {K O : Type 0} (rank : K → ℕ) (t u : Known K) (a : Item K O) (parts : List K) → ((k : K) → IsMet (t k) → IsMet (u k)) → ((k : K) → IsDone (t k) → IsDone (u k)) → Waits rank t a parts → Waits rank u a parts
waits_on rank t u a parts f g w = record {
  lower = w.lower;
  met = λ p c. f p (w.met p c);
  whole = λ p q l. (elim (w.whole p q l) as (λ _. IsDone (u p) ⊎ Contains parts p) [ inl d ↦ inl (g p d) | inr c ↦ inr c ]);
}

pub opened_met : {K O : Type 0} (t u : Known K) (opened : List (Item K O)) → AreOpened t u opened → (k : K) → IsMet (t k) → IsMet (u k)
opened_met t u opened o k = new_met t u (HasItem opened) k (o k)

pub opened_done : {K O : Type 0} (t u : Known K) (opened : List (Item K O)) → AreOpened t u opened → (k : K) → IsDone (t k) → IsDone (u k)
opened_done t u opened o k = new_done t u (HasItem opened) k (o k)

pub waits_opened : {K O : Type 0} (rank : K → ℕ) (t u : Known K) (a : Item K O) (parts : List K) (opened : List (Item K O)) → AreOpened t u opened → AreMet u parts → Wants rank t (item_key a) (λ p. IsAskedBy p a) [] parts → Waits rank u a parts
waits_opened rank t u a parts opened o m w = record {
  lower = λ p c. (elim (w.lower p c) as (λ _. rank p < rank (item_key a)) [ inl l ↦ absurd (none_in p l) | inr r ↦ r ]);
  met = m;
  whole = λ p q l. (elim (w.whole p q l) as (λ _. IsDone (u p) ⊎ Contains parts p) [ inl d ↦ inl (opened_done t u opened o p d) | inr c ↦ inr c ]);
}

items_behind : {K O : Type 0} (opened more opened' : List (Item K O)) (k : K) (p : Place) → opened' ≡ opened ++ more → HasItem more k p → HasItem opened' k p
items_behind opened more opened' k p e h = items_same (opened ++ more) opened' k p e (h.0, Contains-append_right opened more h.0 h.1, h.2, h.3)

-- what was opened is put behind what was
pub opened_behind : {K O : Type 0} (t u : Known K) (opened more opened' : List (Item K O)) → opened' ≡ opened ++ more → AreOpened t u more → AreOpened t u opened'
opened_behind t u opened more opened' e o k = new_join t t u (HasItem more) (HasItem more) (HasItem opened') k (inl refl) (o k) (λ p h. items_behind opened more opened' k p e h) (λ p h. items_behind opened more opened' k p e h)

pub kept_behind : {K O : Type 0} (opened more opened' : List (Item K O)) → opened' ≡ opened ++ more → (a : Item K O) → Contains opened a → Contains opened' a
kept_behind {K} {O} opened more opened' e a c = subst (λ (xs : List (Item K O)). Contains xs a) (sym e) (Contains-append_left opened more a c)

-- one more key waits
pub looks_one : {K O : Type 0} (rank : K → ℕ) (t u : Known K) (w : Waiting K O) (opened opened' : List (Item K O)) (waiting waiting' : List (Waiting K O)) → AreOpened t u opened' → ((a : Item K O) → Contains opened a → Contains opened' a) → Waits rank u w.item w.parts.items → waiting' ≡ waiting ++ w ∷ [] → Looks rank t u (IsLeftAt (Some w.item)) opened opened' waiting waiting'
looks_one {K} {O} rank t u w opened opened' waiting waiting' o g here e = record {
  opens = o;
  grows = g;
  waits = λ f v c. (elim (Contains-push_cases waiting w v (subst (λ (xs : List (Waiting K O)). Contains xs v) e c)) as (λ _. Waits rank u v.item v.parts.items) [
    | inl l ↦ waits_on rank t u v.item v.parts.items (opened_met t u opened' o) (opened_done t u opened' o) (f v l)
    | inr r ↦ subst (λ (v : Waiting K O). Waits rank u v.item v.parts.items) r here
  ]);
  kept = λ v c. subst (λ (xs : List (Waiting K O)). Contains xs v) (sym e) (Contains-append_left waiting (w ∷ []) v c);
  all = λ k p h. (w, subst (λ (xs : List (Waiting K O)). Contains xs w) (sym e) (Contains-push waiting w), h.0, h.1);
}

pub looks_none : {K O : Type 0} (rank : K → ℕ) (t : Known K) (opened : List (Item K O)) (waiting : List (Waiting K O)) → Looks rank t t (λ k p. ⊥) opened opened waiting waiting
looks_none rank t opened waiting = record {
  opens = λ k. inl refl;
  grows = λ a c. c;
  waits = λ f. f;
  kept = λ w c. c;
  all = λ k p h. absurd h;
}

pub waiting_kept : {K O : Type 0} (xs ys : List (Waiting K O)) → ((w : Waiting K O) → Contains xs w → Contains ys w) → (k : K) (p : Place) → HasWaiting xs k p → HasWaiting ys k p
waiting_kept xs ys f k p h = (h.0, f h.0 h.1, h.2, h.3)

pub looks_join : {K O : Type 0} (rank : K → ℕ) (t u v : Known K) (A B C : K → Place → Type 0) (o1 o2 o3 : List (Item K O)) (w1 w2 w3 : List (Waiting K O)) → Looks rank t u A o1 o2 w1 w2 → Looks rank u v B o2 o3 w2 w3 → ((k : K) (p : Place) → C k p → A k p ⊎ B k p) → Looks rank t v C o1 o3 w1 w3
looks_join rank t u v A B C o1 o2 o3 w1 w2 w3 l m f = record {
  opens = λ k. new_join t u v (HasItem o2) (HasItem o3) (HasItem o3) k (l.opens k) (m.opens k) (λ p h. (h.0, m.grows h.0 h.1, h.2, h.3)) (λ p h. h);
  grows = λ a c. m.grows a (l.grows a c);
  waits = λ h. m.waits (l.waits h);
  kept = λ w c. m.kept w (l.kept w c);
  all = λ k p c. (elim (f k p c) as (λ _. HasWaiting w3 k p) [
    | inl a ↦ waiting_kept w2 w3 m.kept k p (l.all k p a)
    | inr b ↦ m.all k p b
  ]);
}

-- the keys of the list that were looked at wait
pub passed_none : {K O : Type 0} (items rest : List (Item K O)) (waiting : List (Waiting K O)) → rest ≡ items → (k : K) (p : Place) → HasItem items k p → HasItem rest k p ⊎ HasWaiting waiting k p
passed_none items rest waiting e k p h = inl (items_same items rest k p e h)

pub passed_more : {K O : Type 0} (rank : K → ℕ) (t u : Known K) (items rest more : List (Item K O)) (a : Item K O) (opened opened' : List (Item K O)) (waiting waiting' : List (Waiting K O)) → ((k : K) (p : Place) → HasItem items k p → HasItem rest k p ⊎ HasWaiting waiting k p) → rest ≡ a ∷ more → Looks rank t u (IsLeftAt (Some a)) opened opened' waiting waiting' → (k : K) (p : Place) → HasItem items k p → HasItem more k p ⊎ HasWaiting waiting' k p
passed_more {K} {O} rank t u items rest more a opened opened' waiting waiting' f e l k p h = elim (f k p h) as (λ _. HasItem more k p ⊎ HasWaiting waiting' k p) [
  | inl i ↦ (elim (rest_cases rest more a i.0 e i.1) as (λ _. HasItem more k p ⊎ HasWaiting waiting' k p) [
    | inl s ↦ inr (l.all k p (ap (λ (a : Item K O). item_key a) s ∙ i.2, ap (λ (a : Item K O). item_place a) s ∙ i.3))
    | inr c ↦ inl (i.0, c, i.2, i.3)
  ])
  | inr w ↦ inr (waiting_kept waiting waiting' l.kept k p w)
]

pub looks_all : {K O : Type 0} (rank : K → ℕ) (t u : Known K) (items rest : List (Item K O)) (opened opened' : List (Item K O)) (waiting waiting' : List (Waiting K O)) → rest ≡ [] → ((k : K) (p : Place) → HasItem items k p → HasItem rest k p ⊎ HasWaiting waiting' k p) → Looks rank t u (λ k p. ⊥) opened opened' waiting waiting' → Looks rank t u (HasItem items) opened opened' waiting waiting'
looks_all {K} {O} rank t u items rest opened opened' waiting waiting' e f l = record {
  opens = l.opens;
  grows = l.grows;
  waits = l.waits;
  kept = l.kept;
  all = λ k p h. (elim (f k p h) as (λ _. HasWaiting waiting' k p) [
    | inl i ↦ absurd (none_in i.0 (subst (λ (xs : List (Item K O)). Contains xs i.0) e i.1))
    | inr w ↦ w
  ]);
}

-- all parts are done
pub able_now : {K O : Type 0} (rank : K → ℕ) (t : Known K) (a : Item K O) (parts : List K) → Waits rank t a parts → AreDone t parts → IsAble rank t a
able_now rank t a parts w d p q l = elim (w.whole p q l) as (λ _. IsDone (t p)) [ inl e ↦ e | inr c ↦ d p c ]

pub able_more : {K O : Type 0} (rank : K → ℕ) (t : Known K) (able : List (Item K O)) (a : Item K O) (able' : List (Item K O)) → able' ≡ able ++ a ∷ [] → AreAble rank t able → IsAble rank t a → AreAble rank t able'
able_more {K} {O} rank t able a able' e f h b c = elim (Contains-push_cases able a b (subst (λ (xs : List (Item K O)). Contains xs b) e c)) as (λ _. IsAble rank t b) [
  | inl l ↦ f b l
  | inr r ↦ subst (λ (b : Item K O). IsAble rank t b) r h
]

-- a key is able to go on
pub sorts_able : {K O : Type 0} (cmp : K → K → Ordering) (rank : K → ℕ) (t : Known K) (a : Item K O) (parts : List K) (parked : List (K × Queue K O)) (able able' : List (Item K O)) → able' ≡ able ++ a ∷ [] → AreDone t parts → Sorts cmp rank t (Waits rank t a parts) (IsLeftAt (Some a)) parked parked able able'
sorts_able {K} {O} cmp rank t a parts parked able able' e d = record {
  are_able = λ w f. able_more rank t able a able' e f (able_now rank t a parts w d);
  waits = λ w h. h;
  undone = λ h. h;
  kept = λ k p h. (elim h as (λ _. HasItem able' k p ⊎ HasParked cmp parked k p) [
    | inl l ↦ inl (items_same (able ++ a ∷ []) able' k p e (item_push able a k p l))
    | inr r ↦ inr r
  ]);
  all = λ k p h. inl (items_same (able ++ a ∷ []) able' k p e (item_pushed able a k p h));
}

-- of the parts the last that isn't done is the one for which it waits
pub waits_missing : {K O : Type 0} (rank : K → ℕ) (t : Known K) (a : Item K O) (before after : List K) (part : K) → Waits rank t a before → Misses t before after part → Waits rank t a (after ++ part ∷ [])
waits_missing rank t a before after part w m = record {
  lower = λ p c. w.lower p (m.among p c);
  met = λ p c. w.met p (m.among p c);
  whole = λ p q l. (elim (w.whole p q l) as (λ _. IsDone (t p) ⊎ Contains (after ++ part ∷ []) p) [ inl d ↦ inl d | inr c ↦ m.rest p c ]);
}

module _ {K O : Type 0} (cmp : K → K → Ordering) (part : K) (w : Waiting K O) (parked parked' : List (K × Queue K O)) (q : Queues cmp part w parked parked') where
  queue_cases : (k : K) (v : Waiting K O) → Contains (queue_at cmp parked' k) v → ((part ≡ k) × (w ≡ v)) ⊎ Contains (queue_at cmp parked k) v
  queue_cases k v c = elim (q.cases k) as (λ _. ((part ≡ k) × (w ≡ v)) ⊎ Contains (queue_at cmp parked k) v) [
    | inl e ↦
        (let d : Contains (queue_at cmp parked' part) v = subst (λ (k : K). Contains (queue_at cmp parked' k) v) (sym e) c in
        elim (Contains-push_cases (queue_at cmp parked part) w v (subst (λ (xs : List (Waiting K O)). Contains xs v) q.here d)) as (λ _. ((part ≡ k) × (w ≡ v)) ⊎ Contains (queue_at cmp parked k) v) [
          | inl l ↦ inr (subst (λ (k : K). Contains (queue_at cmp parked k) v) e l)
          | inr r ↦ inl (e, r)
        ])
    | inr s ↦ inr (subst (λ (xs : List (Waiting K O)). Contains xs v) s c)
  ]

  queue_kept : (k : K) (v : Waiting K O) → Contains (queue_at cmp parked k) v → Contains (queue_at cmp parked' k) v
  queue_kept k v c = elim (q.cases k) as (λ _. Contains (queue_at cmp parked' k) v) [
    | inl e ↦
        (let d : Contains (queue_at cmp parked part) v = subst (λ (k : K). Contains (queue_at cmp parked k) v) (sym e) c in
        subst (λ (k : K). Contains (queue_at cmp parked' k) v) e (subst (λ (xs : List (Waiting K O)). Contains xs v) (sym q.here) (Contains-append_left (queue_at cmp parked part) (w ∷ []) v d)))
    | inr s ↦ subst (λ (xs : List (Waiting K O)). Contains xs v) (sym s) c
  ]

  -- a key is parked
  pub sorts_parked : (rank : K → ℕ) (t : Known K) (before : List K) (able : List (Item K O)) → Misses t before w.parts.items part → Sorts cmp rank t (Waits rank t w.item before) (IsLeftAt (Some w.item)) parked parked' able able
  sorts_parked rank t before able m = record {
    are_able = λ h f. f;
    waits = λ h f k v c. (elim (queue_cases k v c) as (λ _. Waits rank t v.item (v.parts.items ++ k ∷ [])) [
      | inl l ↦ subst (λ (v : Waiting K O). Waits rank t v.item (v.parts.items ++ k ∷ [])) l.1 (subst (λ (k : K). Waits rank t w.item (w.parts.items ++ k ∷ [])) l.0 (waits_missing rank t w.item before w.parts.items part h m))
      | inr r ↦ f k v r
    ]);
    undone = λ f k p e d. (elim (q.parts k p e) as (λ _. ⊥) [
      | inl l ↦ m.undone (subst (λ (k : K). IsDone (t k)) (sym l) d)
      | inr r ↦ f k p r d
    ]);
    kept = λ k p h. (elim h as (λ _. HasItem able k p ⊎ HasParked cmp parked' k p) [
      | inl l ↦ inl l
      | inr r ↦ inr (r.0, (r.1.0, queue_kept r.0 r.1.0 r.1.1, r.1.2, r.1.3))
    ]);
    all = λ k p h. inr (part, (w, subst (λ (xs : List (Waiting K O)). Contains xs w) (sym q.here) (Contains-push (queue_at cmp parked part) w), h.0, h.1));
  }

pub sorts_none : {K O : Type 0} (cmp : K → K → Ordering) (rank : K → ℕ) (t : Known K) (Ready : Type 0) (parked : List (K × Queue K O)) (able : List (Item K O)) → Sorts cmp rank t Ready (λ k p. ⊥) parked parked able able
sorts_none cmp rank t Ready parked able = record {
  are_able = λ h f. f;
  waits = λ h f. f;
  undone = λ h. h;
  kept = λ k p h. h;
  all = λ k p h. absurd h;
}

pub sorts_join : {K O : Type 0} (cmp : K → K → Ordering) (rank : K → ℕ) (t : Known K) (R S : Type 0) (A B : K → Place → Type 0) (p1 p2 p3 : List (K × Queue K O)) (a1 a2 a3 : List (Item K O)) → Sorts cmp rank t R A p1 p2 a1 a2 → Sorts cmp rank t S B p2 p3 a2 a3 → (R → S) → Sorts cmp rank t R A p1 p3 a1 a3
sorts_join cmp rank t R S A B p1 p2 p3 a1 a2 a3 l m f = record {
  are_able = λ r h. m.are_able (f r) (l.are_able r h);
  waits = λ r h. m.waits (f r) (l.waits r h);
  undone = λ h. m.undone (l.undone h);
  kept = λ k p h. m.kept k p (l.kept k p h);
  all = λ k p h. m.kept k p (l.all k p h);
}

pub sorted_none : {K O : Type 0} (cmp : K → K → Ordering) (waiting rest : List (Waiting K O)) (parked : List (K × Queue K O)) (able : List (Item K O)) → rest ≡ waiting → (k : K) (p : Place) → HasWaiting waiting k p → HasWaiting rest k p ⊎ (HasItem able k p ⊎ HasParked cmp parked k p)
sorted_none {K} {O} cmp waiting rest parked able e k p h = inl (h.0, subst (λ (xs : List (Waiting K O)). Contains xs h.0) (sym e) h.1, h.2, h.3)

pub sorted_more : {K O : Type 0} (cmp : K → K → Ordering) (rank : K → ℕ) (t : Known K) (R : Type 0) (waiting rest more : List (Waiting K O)) (w : Waiting K O) (parked parked' : List (K × Queue K O)) (able able' : List (Item K O)) → ((k : K) (p : Place) → HasWaiting waiting k p → HasWaiting rest k p ⊎ (HasItem able k p ⊎ HasParked cmp parked k p)) → rest ≡ w ∷ more → Sorts cmp rank t R (IsLeftAt (Some w.item)) parked parked' able able' → (k : K) (p : Place) → HasWaiting waiting k p → HasWaiting more k p ⊎ (HasItem able' k p ⊎ HasParked cmp parked' k p)
sorted_more {K} {O} cmp rank t R waiting rest more w parked parked' able able' f e s k p h = elim (f k p h) as (λ _. HasWaiting more k p ⊎ (HasItem able' k p ⊎ HasParked cmp parked' k p)) [
  | inl i ↦ (elim (rest_cases rest more w i.0 e i.1) as (λ _. HasWaiting more k p ⊎ (HasItem able' k p ⊎ HasParked cmp parked' k p)) [
    | inl same ↦ inr (s.all k p (ap (λ (w : Waiting K O). item_key w.item) same ∙ i.2, ap (λ (w : Waiting K O). item_place w.item) same ∙ i.3))
    | inr c ↦ inl (i.0, c, i.2, i.3)
  ])
  | inr q ↦ inr (s.kept k p q)
]

pub sorts_all : {K O : Type 0} (cmp : K → K → Ordering) (rank : K → ℕ) (t : Known K) (R : Type 0) (waiting rest : List (Waiting K O)) (parked parked' : List (K × Queue K O)) (able able' : List (Item K O)) → rest ≡ [] → ((k : K) (p : Place) → HasWaiting waiting k p → HasWaiting rest k p ⊎ (HasItem able' k p ⊎ HasParked cmp parked' k p)) → Sorts cmp rank t R (λ k p. ⊥) parked parked' able able' → Sorts cmp rank t R (HasWaiting waiting) parked parked' able able'
sorts_all {K} {O} cmp rank t R waiting rest parked parked' able able' e f l = record {
  are_able = l.are_able;
  waits = l.waits;
  undone = l.undone;
  kept = l.kept;
  all = λ k p h. (elim (f k p h) as (λ _. HasItem able' k p ⊎ HasParked cmp parked' k p) [
    | inl i ↦ absurd (none_in i.0 (subst (λ (xs : List (Waiting K O)). Contains xs i.0) e i.1))
    | inr w ↦ w
  ]);
}

pub place_open : {K O : Type 0} (a : Item K O) (i : ℕ) → item_place a ≡ Done i → ⊥
place_open (item.Run r) i e = let f : Running ≡ Done i = e in cc
place_open (item.Asked a) i e = let f : Running ≡ Done i = e in cc
place_open (item.Check c) i e = let f : Checking ≡ Done i = e in cc

-- what was opened isn't done
pub opened_back : {K O : Type 0} (t u : Known K) (opened : List (Item K O)) → AreOpened t u opened → (k : K) → IsDone (u k) → IsDone (t k)
opened_back {K} {O} t u opened o k d = elim (o k) as (λ _. IsDone (t k)) [
  | inl e ↦ (d.0, sym e ∙ d.1)
  | inr h ↦ (let f : Some h.1 ≡ Some (Done d.0) = sym h.2 ∙ d.1 in let g : h.1 ≡ Done d.0 = cc in let i : HasItem opened k h.1 = h.3 in absurd (place_open i.0 d.0 (i.3 ∙ g)))
]

-- the keys of the pool are those that are able to go on, those that were opened, and those that wait
pub parted : {K O : Type 0} (cmp : K → K → Ordering) (rank : K → ℕ) (t u : Known K) (pool pool' : Pool K O) (news : List (Item K O)) (woken waiting : List (Waiting K O)) (able : List (Item K O)) → news ≡ pool.news.items → woken ≡ pool.woken.items → pool'.woken.items ≡ [] → Looks rank t u (HasItem news) [] pool'.news.items woken waiting → Sorts cmp rank u (AreWaiting rank u waiting) (HasWaiting waiting) pool.parked pool'.parked [] able → IsWhole cmp rank t pool → IsParted cmp rank t u pool' able
parted {K} {O} cmp rank t u pool pool' news woken waiting able news_is woken_is none l s w =
    let ready : AreWaiting rank u waiting = l.waits (subst (λ (ws : List (Waiting K O)). AreWaiting rank t ws) (sym woken_is) w.waiting) in
    let Goal : K → Place → Type 0 = λ k p. InPool cmp pool' k p ⊎ HasItem able k p in
    let turn : (k : K) (p : Place) → HasItem able k p ⊎ HasParked cmp pool'.parked k p → Goal k p = λ k p h. (elim h as (λ _. Goal k p) [ inl a ↦ inr a | inr q ↦ inl (inr (inr q)) ]) in
    let wait : (k : K) (p : Place) → HasWaiting waiting k p → Goal k p = λ k p h. turn k p (s.all k p h) in
    record {
      opens = l.opens;
      woken = none;
      covers = λ k p o e. (elim (l.opens k) as (λ _. Goal k p) [
        | inl same ↦ (elim (w.covers k p o (sym same ∙ e)) as (λ _. Goal k p) [
          | inl n ↦ wait k p (l.all k p (items_same pool.news.items news k p news_is n))
          | inr r ↦ (elim r as (λ _. Goal k p) [
            | inl v ↦ wait k p (v.0, l.kept v.0 (subst (λ (ws : List (Waiting K O)). Contains ws v.0) (sym woken_is) v.1), v.2, v.3)
            | inr q ↦ turn k p (s.kept k p (inr q))
          ])
        ])
        | inr h ↦ (let f : Some h.1 ≡ Some p = sym h.2 ∙ e in let g : h.1 ≡ p = cc in inl (inl (subst (λ (p : Place). HasItem pool'.news.items k p) g h.3)))
      ]);
      are_able = s.are_able ready (λ a c. absurd (none_in a c));
      parked = s.waits ready (λ k v c. waits_on rank t u v.item (v.parts.items ++ k ∷ []) (opened_met t u pool'.news.items l.opens) (opened_done t u pool'.news.items l.opens) (w.parked k v c));
      undone = s.undone (λ k q e d. w.undone k q e (opened_back t u pool'.news.items l.opens k d));
    }
