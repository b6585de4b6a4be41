-- Queues by the parts that are waited for.
use Rattle.std.proofs.Common.{◌≡◌, ℕ, ◌+◌, ◌<◌, ◌≤◌, ◌++◌, ◌⊎◌, List, [], ◌∷◌, Option, Some, None, Bool, true, false, cond, refl, sym, ap, ◌∙◌, subst, Contains, inl, inr, arith, length, get_or, take, drop, ◌-◌, length-drop}
use Rattle.std.proofs.lemmas.List.Elements.{Contains-append_cases, Contains-append_left, Contains-append_right}
use Rattle.std.proofs.lemmas.List.{get_or_default, drop_all, take_all}
use Rattle.std.specs.List.{slice_range}
use Rattle.std.proofs.lemmas.Map.Views.{tells_apart}
use borrow.Author.Count.{below_more}
use Rattle.std.specs.BTreeMap.{is_at}
use Rattle.std.specs.Map.{lookup}
use Rattle.std.specs.declared.cmp.Ordering.{Ordering}
use Rattle.std.specs.declared.cmp.Ordering.TheVariants.{Equal}
use Rattle.step_engine.specs.Caches.{HasKey}
use Rattle.step_engine.specs.Table.{Sets, Puts}
use Rattle.step_engine.specs.declared.talk.Entry.{Entry}
use Rattle.step_engine.specs.Forward.{queued, queue_at, Queues, Wakes}
use Rattle.step_engine.specs.declared.items.Waiting.{Waiting}
use Rattle.step_engine.specs.declared.items.Queue.{Queue}
use Rattle.step_engine.proofs.Moves.{none_in}

pub queue_of : {K O : Type 0} (r : Option (Queue K O)) (q : Queue K O) → r ≡ Some q → queued r ≡ q.list.items
queue_of {K} {O} r q e = ap (λ (r : Option (Queue K O)). queued r) e

pub queue_none : {K O : Type 0} (r : Option (Queue K O)) → r ≡ None → queued r ≡ []
queue_none {K} {O} r e = ap (λ (r : Option (Queue K O)). queued r) e

module _ {K V : Type 0} (cmp : K → K → Ordering) (law : (a b : K) → cmp a b ≡ Equal → a ≡ b) (part : K) where
  -- a part's value is put: another key has what it had
  sets_case : (x : Option V) (old new : List (K × V)) (k : K) (b : Bool) → is_at (cmp part) k ≡ b → lookup (is_at (cmp k)) new ≡ cond b x (lookup (is_at (cmp k)) old) → ((part ≡ k) × (lookup (is_at (cmp k)) new ≡ x)) ⊎ (lookup (is_at (cmp k)) new ≡ lookup (is_at (cmp k)) old)
  sets_case x old new k true e h = inl (tells_apart law part k e, h)
  sets_case x old new k false e h = inr h

  pub sets_cases : (x : Option V) (old new : List (K × V)) → Sets cmp part x old new → (k : K) → ((part ≡ k) × (lookup (is_at (cmp k)) new ≡ x)) ⊎ (lookup (is_at (cmp k)) new ≡ lookup (is_at (cmp k)) old)
  sets_cases x old new s k = sets_case x old new k (is_at (cmp part) k) refl (s k)

module _ {K O : Type 0} (cmp : K → K → Ordering) (law : (a b : K) → cmp a b ≡ Equal → a ≡ b) (part : K) where
  -- a part's queue was taken out, and put in again with one more
  pub queues : (w : Waiting K O) (q : Queue K O) (list : List (Waiting K O)) (old mid new : List (K × Queue K O)) → Sets cmp part None old mid → list ≡ queue_at cmp old part → q.list.items ≡ list ++ w ∷ [] → Puts cmp part q mid new → lookup (is_at (cmp part)) new ≡ Some q → Queues cmp part w old new
  queues w q list old mid new out is more put at = record {
    here = queue_of (lookup (is_at (cmp part)) new) q at ∙ (more ∙ ap (λ (xs : List (Waiting K O)). xs ++ w ∷ []) is);
    cases = λ k. (elim (sets_cases cmp law part (Some q) mid new put k) as (λ _. (part ≡ k) ⊎ (queue_at cmp new k ≡ queue_at cmp old k)) [
      | inl l ↦ inl l.0
      | inr r ↦ (elim (sets_cases cmp law part None old mid out k) as (λ _. (part ≡ k) ⊎ (queue_at cmp new k ≡ queue_at cmp old k)) [
        | inl l ↦ inl l.0
        | inr m ↦ inr (ap (λ (r : Option (Queue K O)). queued r) (r ∙ m))
      ])
    ]);
    parts = λ k p e. (elim (sets_cases cmp law part (Some q) mid new put k) as (λ _. (part ≡ k) ⊎ (lookup (is_at (cmp k)) old ≡ Some p)) [
      | inl l ↦ inl l.0
      | inr r ↦ (elim (sets_cases cmp law part None old mid out k) as (λ _. (part ≡ k) ⊎ (lookup (is_at (cmp k)) old ≡ Some p)) [
        | inl l ↦ inl l.0
        | inr m ↦ inr (sym m ∙ (sym r ∙ e))
      ])
    ]);
  }

  fewer_case : (old new : List (K × Queue K O)) (k : K) (q : Queue K O) → lookup (is_at (cmp k)) new ≡ Some q → ((part ≡ k) × (lookup (is_at (cmp k)) new ≡ None)) ⊎ (lookup (is_at (cmp k)) new ≡ lookup (is_at (cmp k)) old) → lookup (is_at (cmp k)) old ≡ Some q
  fewer_case old new k q e (inl l) = absurd (let f : None ≡ Some q = sym l.1 ∙ e in cc)
  fewer_case old new k q e (inr r) = sym r ∙ e

  -- a part's queue was taken out, and put behind the woken
  pub wakes : (list woken woken' : List (Waiting K O)) (old new : List (K × Queue K O)) → Sets cmp part None old new → lookup (is_at (cmp part)) new ≡ None → list ≡ queue_at cmp old part → woken' ≡ woken ++ list → Wakes cmp (λ k. part ≡ k) old new woken woken'
  wakes list woken woken' old new out none is more = record {
    among = λ w c. (elim (Contains-append_cases woken list w (subst (λ (xs : List (Waiting K O)). Contains xs w) more c)) as (λ _. Contains woken w ⊎ ((k : K) × (part ≡ k) × Contains (queue_at cmp old k) w)) [
      | inl l ↦ inl l
      | inr r ↦ inr (part, refl, subst (λ (xs : List (Waiting K O)). Contains xs w) is r)
    ]);
    fewer = λ k q e. fewer_case old new k q e (sets_cases cmp law part None old new out k);
    gone = λ k e. subst (λ (k : K). lookup (is_at (cmp k)) new ≡ None) e none;
    all = λ k w c. (elim (sets_cases cmp law part None old new out k) as (λ _. Contains woken' w ⊎ Contains (queue_at cmp new k) w) [
      | inl l ↦ inl (subst (λ (xs : List (Waiting K O)). Contains xs w) (sym more) (Contains-append_right woken list w (subst (λ (xs : List (Waiting K O)). Contains xs w) (sym is) (subst (λ (k : K). Contains (queue_at cmp old k) w) (sym l.0) c))))
      | inr r ↦ inr (subst (λ (xs : List (Waiting K O)). Contains xs w) (sym (ap (λ (r : Option (Queue K O)). queued r) r)) c)
    ]);
    kept = λ w c. subst (λ (xs : List (Waiting K O)). Contains xs w) (sym more) (Contains-append_left woken list w c);
  }

-- the part itself has none any longer
pub at_none : {K V : Type 0} (cmp : K → K → Ordering) (part : K) (old new : List (K × V)) → cmp part part ≡ Equal → Sets cmp part None old new → lookup (is_at (cmp part)) new ≡ None
at_none {K} {V} cmp part old new e s =
    let h : lookup (is_at (cmp part)) new ≡ cond (is_at (cmp part) part) None (lookup (is_at (cmp part)) old) = s part in
    let b : is_at (cmp part) part ≡ true = rw e refl in
    h ∙ ap (λ (b : Bool). cond b None (lookup (is_at (cmp part)) old)) b

fewer_none : {K O : Type 0} (cmp : K → K → Ordering) (old new : List (K × Queue K O)) (k : K) → ((q : Queue K O) → lookup (is_at (cmp k)) new ≡ Some q → lookup (is_at (cmp k)) old ≡ Some q) → (r : Option (Queue K O)) → lookup (is_at (cmp k)) new ≡ r → lookup (is_at (cmp k)) old ≡ None → lookup (is_at (cmp k)) new ≡ None
fewer_none cmp old new k f None e n = e
fewer_none cmp old new k f (Some q) e n = absurd (let g : None ≡ Some q = sym n ∙ f q e in cc)

pub fewer_in : {K O : Type 0} (cmp : K → K → Ordering) (old new : List (K × Queue K O)) (k : K) → ((q : Queue K O) → lookup (is_at (cmp k)) new ≡ Some q → lookup (is_at (cmp k)) old ≡ Some q) → (r : Option (Queue K O)) → lookup (is_at (cmp k)) new ≡ r → (w : Waiting K O) → Contains (queue_at cmp new k) w → Contains (queue_at cmp old k) w
fewer_in {K} {O} cmp old new k f None e w c = absurd (none_in w (subst (λ (xs : List (Waiting K O)). Contains xs w) (queue_none (lookup (is_at (cmp k)) new) e) c))
fewer_in {K} {O} cmp old new k f (Some q) e w c = subst (λ (xs : List (Waiting K O)). Contains xs w) (sym (queue_of (lookup (is_at (cmp k)) old) q (f q e))) (subst (λ (xs : List (Waiting K O)). Contains xs w) (queue_of (lookup (is_at (cmp k)) new) q e) c)

pub wakes_none : {K O : Type 0} (cmp : K → K → Ordering) (P : K → Type 0) (parked : List (K × Queue K O)) (woken : List (Waiting K O)) → ((k : K) → P k → ⊥) → Wakes cmp P parked parked woken woken
wakes_none cmp P parked woken f = record {
  among = λ w c. inl c;
  fewer = λ k q e. e;
  gone = λ k p. absurd (f k p);
  all = λ k w c. inr c;
  kept = λ w c. c;
}

-- some keys after others
pub wakes_join : {K O : Type 0} (cmp : K → K → Ordering) (P Q R : K → Type 0) (p1 p2 p3 : List (K × Queue K O)) (w1 w2 w3 : List (Waiting K O)) → Wakes cmp P p1 p2 w1 w2 → Wakes cmp Q p2 p3 w2 w3 → ((k : K) → P k → R k) → ((k : K) → Q k → R k) → ((k : K) → R k → P k ⊎ Q k) → Wakes cmp R p1 p3 w1 w3
wakes_join {K} {O} cmp P Q R p1 p2 p3 w1 w2 w3 a b f g h = record {
  among = λ w c. (elim (b.among w c) as (λ _. Contains w1 w ⊎ ((k : K) × R k × Contains (queue_at cmp p1 k) w)) [
    | inl d ↦ (elim (a.among w d) as (λ _. Contains w1 w ⊎ ((k : K) × R k × Contains (queue_at cmp p1 k) w)) [
      | inl e ↦ inl e
      | inr e ↦ inr (e.0, f e.0 e.1, e.2)
    ])
    | inr d ↦ inr (d.0, g d.0 d.1, fewer_in cmp p1 p2 d.0 (a.fewer d.0) (lookup (is_at (cmp d.0)) p2) refl w d.2)
  ]);
  fewer = λ k q e. a.fewer k q (b.fewer k q e);
  gone = λ k r. (elim (h k r) as (λ _. lookup (is_at (cmp k)) p3 ≡ None) [
    | inl p ↦ fewer_none cmp p2 p3 k (b.fewer k) (lookup (is_at (cmp k)) p3) refl (a.gone k p)
    | inr q ↦ b.gone k q
  ]);
  all = λ k w c. (elim (a.all k w c) as (λ _. Contains w3 w ⊎ Contains (queue_at cmp p3 k) w) [ inl d ↦ inl (b.kept w d) | inr d ↦ b.all k w d ]);
  kept = λ w c. b.kept w (a.kept w c);
}

-- the key of one of the first entries
abbrev pub KeyAt : {K O : Type 0} → List (Entry K O) → ℕ → K → Type 0
KeyAt {K} {O} made i k = (j : ℕ) × (e : Entry K O) × (j < i) × (get_or made j e ≡ e) × (e.key ≡ k)

pub wakes_start : {K O : Type 0} (cmp : K → K → Ordering) (made : List (Entry K O)) (parked : List (K × Queue K O)) (woken : List (Waiting K O)) → Wakes cmp (KeyAt made 0) parked parked woken woken
wakes_start cmp made parked woken = wakes_none cmp (KeyAt made 0) parked woken (λ k h. absurd (omega (arith, h.2)))

key_more : {K O : Type 0} (made : List (Entry K O)) (i : ℕ) (e : Entry K O) → i < length made → e ≡ get_or made i e → (k : K) → KeyAt made (i + 1) k → KeyAt made i k ⊎ (e.key ≡ k)
key_more {K} {O} made i e l g k h =
    let P : ℕ → Type 0 = λ j. (d : Entry K O) → get_or made j d ≡ d → d.key ≡ k → KeyAt made i k ⊎ (e.key ≡ k) in
    let below : (j : ℕ) → j < i → P j = λ j m d f s. inl (j, d, m, f, s) in
    let here : P i = λ d f s. (let a : e ≡ d = g ∙ (get_or_default made i e d l ∙ f) in inr (ap (λ (e : Entry K O). e.key) a ∙ s)) in
    below_more P i below here h.0 h.2 h.1 h.3 h.4

pub wakes_step : {K O : Type 0} (cmp : K → K → Ordering) (made : List (Entry K O)) (i : ℕ) (e : Entry K O) (p1 p2 p3 : List (K × Queue K O)) (w1 w2 w3 : List (Waiting K O)) → i < length made → e ≡ get_or made i e → Wakes cmp (KeyAt made i) p1 p2 w1 w2 → Wakes cmp (λ k. e.key ≡ k) p2 p3 w2 w3 → Wakes cmp (KeyAt made (i + 1)) p1 p3 w1 w3
wakes_step {K} {O} cmp made i e p1 p2 p3 w1 w2 w3 l g a b = wakes_join cmp (KeyAt made i) (λ k. e.key ≡ k) (KeyAt made (i + 1)) p1 p2 p3 w1 w2 w3 a b (λ k h. (h.0, h.1, omega (arith, h.2), h.3, h.4)) (λ k s. (i, e, omega arith, sym g, s)) (key_more made i e l g)

pub wakes_end : {K O : Type 0} (cmp : K → K → Ordering) (made : List (Entry K O)) (i : ℕ) (p1 p2 : List (K × Queue K O)) (w1 w2 : List (Waiting K O)) → i ≤ length made → length made ≤ i → Wakes cmp (KeyAt made i) p1 p2 w1 w2 → Wakes cmp (HasKey made) p1 p2 w1 w2
wakes_end {K} {O} cmp made i p1 p2 w1 w2 m l a = record {
  among = λ w c. (elim (a.among w c) as (λ _. Contains w1 w ⊎ ((k : K) × HasKey made k × Contains (queue_at cmp p1 k) w)) [
    | inl d ↦ inl d
    | inr d ↦ inr (d.0, (d.1.1, (d.1.0, omega (arith, d.1.2), d.1.3), d.1.4), d.2)
  ]);
  fewer = a.fewer;
  gone = λ k h. a.gone k (h.1.0, h.0, omega (arith, h.1.1), h.1.2, h.2);
  all = a.all;
  kept = a.kept;
}

-- no entry is behind the last
pub past_none : {K O : Type 0} (fresh xs : List (Entry K O)) (n : ℕ) → xs ≡ fresh → (length xs < n) ⊎ (length xs < length xs) → (k : K) → HasKey (drop n fresh) k → ⊥
past_none {K} {O} fresh xs n same (inl l) k h =
    let none : drop n xs ≡ [] = drop_all n xs (omega (arith, l)) in
    none_in h.0 (subst (λ (ys : List (Entry K O)). Contains ys h.0) none (subst (λ (ys : List (Entry K O)). Contains (drop n ys) h.0) (sym same) h.1))
past_none fresh xs n same (inr l) k h = absurd (omega (arith, l))

-- the entries from a number on
pub wakes_range : {K O : Type 0} (cmp : K → K → Ordering) (fresh xs made : List (Entry K O)) (n : ℕ) (p1 p2 : List (K × Queue K O)) (w1 w2 : List (Waiting K O)) → xs ≡ fresh → made ≡ slice_range xs n (length xs) → Wakes cmp (HasKey made) p1 p2 w1 w2 → Wakes cmp (HasKey (drop n fresh)) p1 p2 w1 w2
wakes_range {K} {O} cmp fresh xs made n p1 p2 w1 w2 same is h =
    let all : take (length xs - n) (drop n xs) ≡ drop n xs = take_all (length xs - n) (drop n xs) (omega (arith, length-drop n xs)) in
    subst (λ (ys : List (Entry K O)). Wakes cmp (HasKey (drop n ys)) p1 p2 w1 w2) same (subst (λ (ys : List (Entry K O)). Wakes cmp (HasKey ys) p1 p2 w1 w2) (is ∙ all) h)
