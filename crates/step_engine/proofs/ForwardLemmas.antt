-- Acts for keys under way: none of them is lost, and their places go on.
use Rattle.std.proofs.Common.{◌≡◌, ℕ, ◌<◌, ◌≤◌, ◌++◌, ◌⊎◌, List, [], ◌∷◌, Option, Some, None, refl, sym, ap, ◌∙◌, subst, Contains, inl, inr, arith, length, length-append, MatchOption}
use Rattle.std.proofs.lemmas.List.Elements.{Contains-push, Contains-push_cases, Contains-append_left}
use Rattle.std.specs.Option.{IfNone}
use Rattle.std.specs.declared.cmp.Ordering.{Ordering}
use Rattle.step_engine.specs.declared.talk.Entry.{Entry}
use Rattle.step_engine.specs.declared.talk.Ask.{Ask}
use Rattle.step_engine.specs.declared.talk.Ask.TheVariants as ask
use Rattle.step_engine.specs.Table.{Known, IsDone, IsMadeAt}
use Rattle.step_engine.specs.Items.{item_key, IsRerun}
use Rattle.step_engine.specs.Taking.{SortsIn, PutsIn}
use Rattle.step_engine.specs.Forward.{IsMet, IsOpen, item_place, HasItem, HasRun, HasTurned, InPool, IsLeftAt, Covers, Later, Goes, GoesOn, Rises, LacksPart, Enters}
use Rattle.step_engine.specs.declared.places.Place.{Place}
use Rattle.step_engine.specs.declared.places.Place.TheVariants.{Checking, Running, Done}
use Rattle.step_engine.specs.declared.items.Run.{Run}
use Rattle.step_engine.specs.declared.items.Turned.{Turned}
use Rattle.step_engine.specs.declared.items.Item.{Item}
use Rattle.step_engine.specs.declared.items.Item.TheVariants as item
use Rattle.step_engine.proofs.Moves.{none_in}
use Rattle.step_engine.proofs.OpenedLemmas.{items_same, item_push, item_pushed, put_kept, put_left}
use Rattle.step_engine.proofs.LookLemmas.{rest_cases}

-- nothing was done for the key
pub goes_still : {K : Type 0} (k : K) (p : Place) (n : ℕ) (t : Known K) (Left : K → Place → Type 0) → Left k p → Goes k p n n t t Left
goes_still k p n t Left l = record {
  grows = omega arith;
  own = λ e. inr (p, e, l);
  other = λ j. inl refl;
  made = λ j i e. inl e;
}

goes_idle : {K : Type 0} (k : K) (p : Place) (n m : ℕ) (t u : Known K) (Left : K → Place → Type 0) → n ≡ m → u ≡ t → (t k ≡ Some p → IsDone (u k)) → Goes k p n m t u Left
goes_idle {K} k p n m t u Left same e d = record {
  grows = omega (arith, same);
  own = λ h. inl (d h);
  other = λ j. inl (ap (λ (f : Known K). f j) e);
  made = λ j i f. inl (sym (ap (λ (f : Known K). f j) e) ∙ f);
}

-- its entry is made
pub goes_made : {K O : Type 0} (p : Place) (e : Entry K O) (t u : Known K) (fresh fresh' : List (Entry K O)) (Left : K → Place → Type 0) → IsMadeAt p e t u fresh fresh' → (t e.key ≡ Some p → IsDone (u e.key)) → Goes e.key p (length fresh) (length fresh') t u Left
goes_made {K} {O} p e t u fresh fresh' Left (inl h) d = goes_idle e.key p (length fresh) (length fresh') t u Left (sym (ap (λ (xs : List (Entry K O)). length xs) h.0)) h.1 d
goes_made {K} {O} p e t u fresh fresh' Left (inr h) d = record {
  grows = omega (arith, length-append fresh (e ∷ []), ap (λ (xs : List (Entry K O)). length xs) h.1);
  own = λ q. inl (d q);
  other = λ j. (elim (h.2.cases j) as (λ _. (u j ≡ t j) ⊎ ((j ≡ e.key) × (t j ≡ Some p))) [
    | inl q ↦ inr (sym q.0, subst (λ (j : K). t j ≡ Some p) q.0 h.0)
    | inr q ↦ inl q
  ]);
  made = λ j i f. (elim (h.2.cases j) as (λ _. (t j ≡ Some (Done i)) ⊎ (length fresh ≤ i)) [
    | inl q ↦ (let a : Some (Done (length fresh)) ≡ Some (Done i) = sym q.1 ∙ f in let b : length fresh ≡ i = cc in inr (omega (arith, b)))
    | inr q ↦ inl (sym q ∙ f)
  ]);
}

pub goes_same : {K : Type 0} (k j : K) (p : Place) (n m : ℕ) (t u : Known K) (Left : K → Place → Type 0) → k ≡ j → Goes k p n m t u Left → Goes j p n m t u Left
goes_same {K} k j p n m t u Left e g = subst (λ (j : K). Goes j p n m t u Left) e g

-- its step runs
pub goes_rerun : {K O : Type 0} (k : K) (n : ℕ) (b1 b2 : List K) (t u : Known K) (r : Option (Item K O)) → MatchOption r ((b2 ≡ b1) × (u ≡ t)) (IsRerun k b1 b2 t u) → (t k ≡ Some Checking → IfNone r ⊥) → Goes k Checking n n t u (IsLeftAt r)
goes_rerun {K} {O} k n b1 b2 t u None h out = goes_idle k Checking n n t u (IsLeftAt {O = O} None) refl h.1 (λ e. absurd (out e))
goes_rerun {K} k n b1 b2 t u (Some (item.Run q)) h out = record {
  grows = omega arith;
  own = λ e. inr (Running, h.placed.here, (h.run.0, refl));
  other = λ j. (elim (h.placed.cases j) as (λ _. (u j ≡ t j) ⊎ ((j ≡ k) × (t j ≡ Some Checking))) [
    | inl s ↦ inr (sym s.0, subst (λ (j : K). t j ≡ Some Checking) s.0 h.was)
    | inr s ↦ inl s
  ]);
  made = λ j i f. (elim (h.placed.cases j) as (λ _. (t j ≡ Some (Done i)) ⊎ (n ≤ i)) [
    | inl s ↦ absurd (let a : Some Running ≡ Some (Done i) = sym s.1 ∙ f in cc)
    | inr s ↦ inl (sym s ∙ f)
  ]);
}
goes_rerun k n b1 b2 t u (Some (item.Asked q)) h out = absurd h.run
goes_rerun k n b1 b2 t u (Some (item.Check q)) h out = absurd h.run

open_not : (p : Place) (i : ℕ) → IsOpen p → p ≡ Done i → ⊥
open_not Checking i o e = let f : Checking ≡ Done i = e in cc
open_not Running i o e = let f : Running ≡ Done i = e in cc
open_not (Done j) i o e = o

pub open_done : {K : Type 0} (t : Known K) (k : K) (p : Place) → IsOpen p → t k ≡ Some p → IsDone (t k) → ⊥
open_done t k p o e d = let f : Some p ≡ Some (Done d.0) = sym e ∙ d.1 in let g : p ≡ Done d.0 = cc in open_not p d.0 o g

module _ {K : Type 0} (k : K) (p : Place) (n m : ℕ) (t u : Known K) (Left : K → Place → Type 0) (o : IsOpen p) (g : Goes k p n m t u Left) where
  own_met : t k ≡ Some p → IsMet (u k)
  own_met e = elim (g.own e) as (λ _. IsMet (u k)) [ inl d ↦ (Done d.0, d.1) | inr q ↦ (q.0, q.1) ]

  pub later_goes : Later n m t u
  later_goes = record {
    grows = g.grows;
    met = λ j h. (elim (g.other j) as (λ _. IsMet (u j)) [
      | inl e ↦ (h.0, e ∙ h.1)
      | inr q ↦ subst (λ (j : K). IsMet (u j)) (sym q.0) (own_met (subst (λ (j : K). t j ≡ Some p) q.0 q.1))
    ]);
    done = λ j d. (elim (g.other j) as (λ _. IsDone (u j)) [
      | inl e ↦ (d.0, e ∙ d.1)
      | inr q ↦ absurd (open_done t j p o q.1 d)
    ]);
    made = g.made;
  }

  own_covers : (More : K → Place → Type 0) → ((j : K) (q : Place) → Left j q → More j q) → t k ≡ Some p → (q : Place) → IsOpen q → u k ≡ Some q → More k q
  own_covers More f e q h s = elim (g.own e) as (λ _. More k q) [
    | inl d ↦ absurd (open_done u k q h s d)
    | inr l ↦ (let a : Some l.0 ≡ Some q = sym l.1 ∙ s in let b : l.0 ≡ q = cc in subst (λ (q : Place). More k q) b (f k l.0 l.2))
  ]

  pub covers_goes : (Has More : K → Place → Type 0) → Covers t Has → ((j : K) (q : Place) → Has j q → ((j ≡ k) × (q ≡ p)) ⊎ More j q) → ((j : K) (q : Place) → Left j q → More j q) → Covers u More
  covers_goes Has More c split f j q h e = elim (g.other j) as (λ _. More j q) [
    | inl s ↦ (elim (split j q (c j q h (sym s ∙ e))) as (λ _. More j q) [
      | inl a ↦
          (let at : t k ≡ Some p = subst (λ (q : Place). t k ≡ Some q) a.1 (subst (λ (j : K). t j ≡ Some q) a.0 (sym s ∙ e)) in
          subst (λ (j : K). More j q) (sym a.0) (own_covers More f at q h (subst (λ (j : K). u j ≡ Some q) a.0 e)))
      | inr b ↦ b
    ])
    | inr a ↦ subst (λ (j : K). More j q) (sym a.0) (own_covers More f (subst (λ (j : K). t j ≡ Some p) a.0 a.1) q h (subst (λ (j : K). u j ≡ Some q) a.0 e))
  ]

pub later_none : {K : Type 0} (n : ℕ) (t : Known K) → Later n n t t
later_none n t = record { grows = omega arith; met = λ k h. h; done = λ k h. h; made = λ k i e. inl e }

pub later_join : {K : Type 0} (n m l : ℕ) (t u v : Known K) → Later n m t u → Later m l u v → Later n l t v
later_join n m l t u v a b = record {
  grows = omega (arith, a.grows, b.grows);
  met = λ k h. b.met k (a.met k h);
  done = λ k h. b.done k (a.done k h);
  made = λ k i e. (elim (b.made k i e) as (λ _. (t k ≡ Some (Done i)) ⊎ (n ≤ i)) [
    | inl d ↦ a.made k i d
    | inr h ↦ inr (omega (arith, a.grows, h))
  ]);
}

module _ {K : Type 0} (O : Type 0) (cmp : K → K → Ordering) where
  pub goes_on_none : (n : ℕ) (t : Known K) (A B : K → Place → Type 0) → ((k : K) (p : Place) → A k p → B k p) → GoesOn O cmp n n t t A B
  goes_on_none n t A B f = record {
    later = later_none n t;
    covers = λ pool c k p o e. (elim (c k p o e) as (λ _. InPool cmp pool k p ⊎ B k p) [ inl l ↦ inl l | inr r ↦ inr (f k p r) ]);
  }

  -- one more act
  pub goes_on_more : (k : K) (p : Place) (n m l : ℕ) (t u v : Known K) (Before Old New Left : K → Place → Type 0) → GoesOn O cmp n m t u Before Old → IsOpen p → Goes k p m l u v Left → ((j : K) (q : Place) → Old j q → ((j ≡ k) × (q ≡ p)) ⊎ New j q) → ((j : K) (q : Place) → Left j q → New j q) → GoesOn O cmp n l t v Before New
  goes_on_more k p n m l t u v Before Old New Left s o g f h = record {
    later = later_join n m l t u v s.later (later_goes k p m l u v Left o g);
    covers = λ pool c. covers_goes k p m l u v Left o g (λ j q. InPool cmp pool j q ⊎ Old j q) (λ j q. InPool cmp pool j q ⊎ New j q) (s.covers pool c)
        (λ j q i. (elim i as (λ _. ((j ≡ k) × (q ≡ p)) ⊎ (InPool cmp pool j q ⊎ New j q)) [
          | inl a ↦ inr (inl a)
          | inr b ↦ (elim (f j q b) as (λ _. ((j ≡ k) × (q ≡ p)) ⊎ (InPool cmp pool j q ⊎ New j q)) [ inl x ↦ inl x | inr y ↦ inr (inr y) ])
        ]))
        (λ j q i. inr (h j q i));
  }

  -- one list after another
  pub goes_on_join : (n m l : ℕ) (t u v : Known K) (A B C D : K → Place → Type 0) → GoesOn O cmp n m t u A B → ((k : K) (p : Place) → B k p → C k p) → GoesOn O cmp m l u v C D → GoesOn O cmp n l t v A D
  goes_on_join n m l t u v A B C D a f b = record {
    later = later_join n m l t u v a.later b.later;
    covers = λ pool c. b.covers pool (λ k p o e. (elim (a.covers pool c k p o e) as (λ _. InPool cmp pool k p ⊎ C k p) [ inl x ↦ inl x | inr y ↦ inr (f k p y) ]));
  }

  pub goes_on_same : (n m : ℕ) (t u : Known K) (A B C : K → Place → Type 0) → GoesOn O cmp n m t u A B → ((k : K) (p : Place) → B k p → C k p) → GoesOn O cmp n m t u A C
  goes_on_same n m t u A B C a f = record {
    later = a.later;
    covers = λ pool c k p o e. (elim (a.covers pool c k p o e) as (λ _. InPool cmp pool k p ⊎ C k p) [ inl x ↦ inl x | inr y ↦ inr (f k p y) ]);
  }

pub item_open : {K O : Type 0} (a : Item K O) → IsOpen (item_place a)
item_open (item.Run r) = tt
item_open (item.Asked a) = tt
item_open (item.Check c) = tt

-- the first of the items that are left, or one behind it
pub first_item : {K O : Type 0} (rest more : List (Item K O)) (a : Item K O) → rest ≡ a ∷ more → (k : K) (p : Place) → HasItem rest k p → ((k ≡ item_key a) × (p ≡ item_place a)) ⊎ HasItem more k p
first_item {K} {O} rest more a e k p h = elim (rest_cases rest more a h.0 e h.1) as (λ _. ((k ≡ item_key a) × (p ≡ item_place a)) ⊎ HasItem more k p) [
  | inl s ↦ inl (sym (ap (λ (a : Item K O). item_key a) s ∙ h.2), sym (ap (λ (a : Item K O). item_place a) s ∙ h.3))
  | inr c ↦ inr (h.0, c, h.2, h.3)
]

pub first_turned : {K O : Type 0} (rest more : List (Turned K O)) (d : Turned K O) → rest ≡ d ∷ more → (k : K) (p : Place) → HasTurned rest k p → ((k ≡ d.key) × (p ≡ Running)) ⊎ HasTurned more k p
first_turned {K} {O} rest more d e k p h = elim (rest_cases rest more d h.0 e h.1) as (λ _. ((k ≡ d.key) × (p ≡ Running)) ⊎ HasTurned more k p) [
  | inl s ↦ inl (sym (ap (λ (d : Turned K O). d.key) s ∙ h.2), sym h.3)
  | inr c ↦ inr (h.0, c, h.2, h.3)
]

pub run_push : {K O : Type 0} (runs : List (Run K O)) (r : Run K O) (k : K) (p : Place) → HasRun runs k p → HasRun (runs ++ r ∷ []) k p
run_push runs r k p h = (h.0, Contains-append_left runs (r ∷ []) h.0 h.1, h.2, h.3)

runs_same : {K O : Type 0} (xs ys : List (Run K O)) (k : K) (p : Place) → ys ≡ xs → HasRun xs k p → HasRun ys k p
runs_same {K} {O} xs ys k p e h = (h.0, subst (λ (zs : List (Run K O)). Contains zs h.0) (sym e) h.1, h.2, h.3)

-- those that were sorted in before stay
pub sorted_runs : {K O : Type 0} (r : Option (Item K O)) (runs runs' : List (Run K O)) (rest rest' : List (Item K O)) → SortsIn r runs runs' rest rest' → (k : K) (p : Place) → HasRun runs k p → HasRun runs' k p
sorted_runs None runs runs' rest rest' h k p i = runs_same runs runs' k p h.0 i
sorted_runs (Some (item.Run r)) runs runs' rest rest' h k p i = runs_same (runs ++ r ∷ []) runs' k p h.0 (run_push runs r k p i)
sorted_runs (Some (item.Asked a)) runs runs' rest rest' h k p i = runs_same runs runs' k p h.0 i
sorted_runs (Some (item.Check c)) runs runs' rest rest' h k p i = runs_same runs runs' k p h.0 i

pub sorted_rest : {K O : Type 0} (r : Option (Item K O)) (runs runs' : List (Run K O)) (rest rest' : List (Item K O)) → SortsIn r runs runs' rest rest' → (k : K) (p : Place) → HasItem rest k p → HasItem rest' k p
sorted_rest None runs runs' rest rest' h k p i = items_same rest rest' k p h.1 i
sorted_rest (Some (item.Run r)) runs runs' rest rest' h k p i = items_same rest rest' k p h.1 i
sorted_rest (Some (item.Asked a)) runs runs' rest rest' h k p i = items_same (rest ++ item.Asked a ∷ []) rest' k p h.1 (item_push rest (item.Asked a) k p i)
sorted_rest (Some (item.Check c)) runs runs' rest rest' h k p i = items_same (rest ++ item.Check c ∷ []) rest' k p h.1 (item_push rest (item.Check c) k p i)

pub sorted_left : {K O : Type 0} (r : Option (Item K O)) (runs runs' : List (Run K O)) (rest rest' : List (Item K O)) → SortsIn r runs runs' rest rest' → (k : K) (p : Place) → IsLeftAt r k p → HasRun runs' k p ⊎ HasItem rest' k p
sorted_left None runs runs' rest rest' h k p i = absurd i
sorted_left {K} {O} (Some (item.Run r)) runs runs' rest rest' h k p i = inl (r, subst (λ (zs : List (Run K O)). Contains zs r) (sym h.0) (Contains-push runs r), i.0, i.1)
sorted_left (Some (item.Asked a)) runs runs' rest rest' h k p i = inr (items_same (rest ++ item.Asked a ∷ []) rest' k p h.1 (item_pushed rest (item.Asked a) k p i))
sorted_left (Some (item.Check c)) runs runs' rest rest' h k p i = inr (items_same (rest ++ item.Check c ∷ []) rest' k p h.1 (item_pushed rest (item.Check c) k p i))

-- a key of a list goes on, and is sorted in
pub goes_on_sorted : {K O : Type 0} (cmp : K → K → Ordering) (n m l : ℕ) (t u v : Known K) (Before : K → Place → Type 0) (items more left left' : List (Item K O)) (a : Item K O) (runs runs' : List (Run K O)) (r : Option (Item K O)) → GoesOn O cmp n m t u Before (λ k p. HasItem items k p ⊎ (HasRun runs k p ⊎ HasItem left k p)) → items ≡ a ∷ more → Goes (item_key a) (item_place a) m l u v (IsLeftAt r) → SortsIn r runs runs' left left' → GoesOn O cmp n l t v Before (λ k p. HasItem more k p ⊎ (HasRun runs' k p ⊎ HasItem left' k p))
goes_on_sorted {K} {O} cmp n m l t u v Before items more left left' a runs runs' r s e g h =
    let New : K → Place → Type 0 = λ k p. HasItem more k p ⊎ (HasRun runs' k p ⊎ HasItem left' k p) in
    goes_on_more O cmp (item_key a) (item_place a) n m l t u v Before (λ k p. HasItem items k p ⊎ (HasRun runs k p ⊎ HasItem left k p)) New (IsLeftAt r) s (item_open a) g
    (λ j q i. (elim i as (λ _. ((j ≡ item_key a) × (q ≡ item_place a)) ⊎ New j q) [
      | inl x ↦ (elim (first_item items more a e j q x) as (λ _. ((j ≡ item_key a) × (q ≡ item_place a)) ⊎ New j q) [ inl y ↦ inl y | inr y ↦ inr (inl y) ])
      | inr x ↦ (elim x as (λ _. ((j ≡ item_key a) × (q ≡ item_place a)) ⊎ New j q) [
        | inl y ↦ inr (inr (inl (sorted_runs r runs runs' left left' h j q y)))
        | inr y ↦ inr (inr (inr (sorted_rest r runs runs' left left' h j q y)))
      ])
    ]))
    (λ j q i. inr (sorted_left r runs runs' left left' h j q i))

-- a turn is taken up
pub goes_on_turned : {K O : Type 0} (cmp : K → K → Ordering) (n m l : ℕ) (t u v : Known K) (Before : K → Place → Type 0) (done more : List (Turned K O)) (d : Turned K O) (left left' : List (Item K O)) (r : Option (Item K O)) → GoesOn O cmp n m t u Before (λ k p. HasTurned done k p ⊎ HasItem left k p) → done ≡ d ∷ more → Goes d.key Running m l u v (IsLeftAt r) → PutsIn r left left' → GoesOn O cmp n l t v Before (λ k p. HasTurned more k p ⊎ HasItem left' k p)
goes_on_turned {K} {O} cmp n m l t u v Before done more d left left' r s e g h =
    let New : K → Place → Type 0 = λ k p. HasTurned more k p ⊎ HasItem left' k p in
    goes_on_more O cmp d.key Running n m l t u v Before (λ k p. HasTurned done k p ⊎ HasItem left k p) New (IsLeftAt r) s tt g
    (λ j q i. (elim i as (λ _. ((j ≡ d.key) × (q ≡ Running)) ⊎ New j q) [
      | inl x ↦ (elim (first_turned done more d e j q x) as (λ _. ((j ≡ d.key) × (q ≡ Running)) ⊎ New j q) [ inl y ↦ inl y | inr y ↦ inr (inl y) ])
      | inr x ↦ inr (inr (put_kept r left left' h j q x))
    ]))
    (λ j q i. inr (put_left r left left' h j q i))

-- nothing is left of the list
pub none_left : {K O : Type 0} (rest : List (Item K O)) (Has : K → Place → Type 0) → rest ≡ [] → (k : K) (p : Place) → HasItem rest k p ⊎ Has k p → Has k p
none_left {K} {O} rest Has e k p (inl h) = absurd (none_in h.0 (subst (λ (xs : List (Item K O)). Contains xs h.0) e h.1))
none_left rest Has e k p (inr h) = h

pub none_turned : {K O : Type 0} (rest : List (Turned K O)) (Has : K → Place → Type 0) → rest ≡ [] → (k : K) (p : Place) → HasTurned rest k p ⊎ Has k p → Has k p
none_turned {K} {O} rest Has e k p (inl h) = absurd (none_in h.0 (subst (λ (xs : List (Turned K O)). Contains xs h.0) e h.1))
none_turned rest Has e k p (inr h) = h

-- the count goes up from one act to the next
pub rises_then : (n m l : ℕ) → Rises n m → m ≤ l → Rises n l
rises_then n m l r g = λ h. omega (arith, r h, g)

rises_case : (n m l : ℕ) → n ≤ m → Rises m l → m ≤ l → n < 18446744073709551615 → n < l
rises_case n m l g r h q = grind arith

pub then_rises : (n m l : ℕ) → n ≤ m → Rises m l → m ≤ l → Rises n l
then_rises n m l g r h = λ q. rises_case n m l g r h q

-- the key of each entry is done on
pub enters_made : {K O : Type 0} (p : Place) (e : Entry K O) (t u : Known K) (fresh fresh' : List (Entry K O)) → IsMadeAt p e t u fresh fresh' → Enters t u fresh fresh'
enters_made {K} {O} p e t u fresh fresh' (inl h) f = rw (h.0, h.1) f
enters_made {K} {O} p e t u fresh fresh' (inr h) f = λ d c. elim (Contains-push_cases fresh e d (subst (λ (xs : List (Entry K O)). Contains xs d) h.1 c)) as (λ _. IsDone (u d.key)) [
  | inl l ↦ (elim (h.2.cases d.key) as (λ _. IsDone (u d.key)) [
    | inl q ↦ (length fresh, q.1)
    | inr q ↦ (let i : IsDone (t d.key) = f d l in (i.0, q ∙ i.1))
  ])
  | inr s ↦ subst (λ (d : Entry K O). IsDone (u d.key)) s (length fresh, h.2.here)
]

pub enters_later : {K O : Type 0} (n m : ℕ) (t u : Known K) (fresh : List (Entry K O)) → Later n m t u → Enters t u fresh fresh
enters_later n m t u fresh l f e c = l.done e.key (f e c)

-- a part that isn't done
pub lacks_ask : {K : Type 0} (t : Known K) (asks : List (Ask K)) (a : Ask K) → Contains asks a → LacksPart t (λ p. a ≡ ask.Part p) → LacksPart t (λ p. Contains asks (ask.Part p))
lacks_ask {K} t asks a c l = (l.0, subst (λ (a : Ask K). Contains asks a) l.1 c, l.2)

pub lacks_pair : {K : Type 0} (rank : K → ℕ) (k : K) (t : Known K) (asks : List (Ask K)) (a : Ask K) → Contains asks a → ((p : K) → a ≡ ask.Part p → rank p < rank k) → LacksPart t (λ p. a ≡ ask.Part p) → LacksPart t (λ p. Contains asks (ask.Part p) × (rank p < rank k))
lacks_pair {K} rank k t asks a c f l = (l.0, (subst (λ (a : Ask K). Contains asks a) l.1 c, f l.0 l.1), l.2)
