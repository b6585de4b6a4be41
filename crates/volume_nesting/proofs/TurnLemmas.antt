-- Volumes with numbers, those that may come, and those that wait.
use Rattle.std.proofs.Common.{◌≡◌, ◌∙◌, ℕ, ◌+◌, ◌<◌, ◌≤◌, Bool, true, false, not, cond, nat_eq, List, [], ◌∷◌, ◌++◌, length, get_or, take, drop, Some, None, refl, sym, ap, subst, inl, inr, arith, ◌⊎◌, zero, suc}
use Rattle.std.specs.List.{All, list_any}
use Rattle.std.specs.HashMap.{get}
use Rattle.std.specs.BTreeSet.{contains}
use Rattle.std.specs.Ordering.{nat_cmp}
use Rattle.std.specs.BTreeMap.{is_at}
use Rattle.std.proofs.lemmas.Bool.{cases_Bool, or_cases, or_left, or_right, or_from, and_parts, and_from, eqb-true, eq-eqb, both_ways, false_from_ne_true, not-true, not_from_false, cases_eq}
use Rattle.std.proofs.lemmas.List.Folds.{list_any-append, list_any_at}
use Rattle.std.proofs.lemmas.List.Elements.{All-nil, All-head, All-tail, All-push, All-weaker, All-cons}
use Rattle.build_base.proofs.Least.{find_least, find_none}
use Rattle.build_base.proofs.Steps.{head_drop}
use Rattle.std.proofs.lemmas.List.{drop_all}
use Rattle.volume_nesting.specs.Numbering.{has, nest_of, all_among, may_come, next_in, turns}
use Rattle.volume_nesting.specs.Turning.{names, waiting_at, Passed, Waits, Ready, Held, Stands, Standing, StandingBut, unseen}
use Rattle.volume_nesting.specs.declared.numbering.Waiting.{Waiting}
use Rattle.volume_nesting.specs.declared.numbering.Sorter.{Sorter}

-- a test that both holds and doesn't
clash : {X : Type 0} (b : Bool) → b ≡ true → b ≡ false → X
clash b t f = absurd (both_ways b f t)

pub has-more : (order : List ℕ) (k p : ℕ) → has order p ≡ true → has (order ++ k ∷ []) p ≡ true
has-more order k p h = list_any-append (λ q. nat_eq q p) order (k ∷ []) ∙ or_left _ _ h

pub has-new : (order : List ℕ) (k p : ℕ) → nat_eq k p ≡ true → has (order ++ k ∷ []) p ≡ true
has-new order k p h = list_any-append (λ q. nat_eq q p) order (k ∷ []) ∙ or_right (has order p) _ (or_left _ false h)

pub has-none : (order : List ℕ) (k p : ℕ) → has order p ≡ false → nat_eq k p ≡ false → has (order ++ k ∷ []) p ≡ false
has-none order k p h e = list_any-append (λ q. nat_eq q p) order (k ∷ []) ∙ or_from (has order p) _ h (or_from _ false e refl)

-- what all have, they have among more
pub all-more : (order : List ℕ) (k : ℕ) (places : List ℕ) → all_among order places ≡ true → all_among (order ++ k ∷ []) places ≡ true
all-more order k [] h = refl
all-more order k (q ∷ qs) h =
    let both = and_parts (has order q) (all_among order qs) h in
    and_from _ _ (has-more order k q both.0) (all-more order k qs both.1)

-- one of them is there
pub all-has : (order places : List ℕ) (w : ℕ) → all_among order places ≡ true → has places w ≡ true → has order w ≡ true
all-has order [] w h t = absurd (both_ways false refl t)
all-has order (q ∷ qs) w h t =
    let both = and_parts (has order q) (all_among order qs) h in
    elim (or_cases (nat_eq q w) (has qs w) t) [
      | inl e ↦ ap (has order) (sym (eqb-true q w e)) ∙ both.0
      | inr later ↦ all-has order qs w both.1 later
    ]

pub has-at : (places : List ℕ) (i d : ℕ) → i < length places → has places (get_or places i d) ≡ true
has-at places i d h = list_any_at (λ q. nat_eq q (get_or places i d)) places i d h (eq-eqb _ _ refl)

-- a volume that was looked at may come
pub settled_ready : (nests : List (List ℕ)) (order : List ℕ) (row : Waiting) (rest : List Waiting) (old new : Sorter)
    → Standing nests order (row ∷ rest) old
    → all_among order (nest_of nests row.volume) ≡ true
    → new.numbered ≡ old.numbered
    → new.waiting ≡ old.waiting
    → ((q : ℕ) → contains nat_cmp new.ready q ≡ cond (nat_eq row.volume q) true (contains nat_cmp old.ready q))
    → Standing nests order rest new
settled_ready nests order row rest old new h all numbered waiting ready = record {
  numbered = λ v. ap (λ s. contains nat_cmp s v) numbered ∙ h.numbered v;
  whole = h.whole;
  ready = λ v t.
      elim (cases_Bool (nat_eq row.volume v)) [
        | inl e ↦ subst (Ready nests order) (eqb-true row.volume v e) (record { there = first.there; free = first.free; whole = all })
        | inr e ↦ h.ready v (sym (ready v ∙ ap (λ b. cond b true (contains nat_cmp old.ready v)) e) ∙ t)
      ];
  waiting = λ w. subst (λ table. All (Waits nests order w) (waiting_at table w)) (sym waiting) (h.waiting w);
  looked = All-tail (Passed nests order) row rest h.looked;
  all = λ v l. stands v (h.all v l);
}
  where
    first : Passed nests order row
    first = All-head (Passed nests order) row rest h.looked

    come : (v : ℕ) → nat_eq row.volume v ≡ true → contains nat_cmp new.ready v ≡ true
    come v e = ready v ∙ ap (λ b. cond b true (contains nat_cmp old.ready v)) e

    stays : (v : ℕ) → contains nat_cmp old.ready v ≡ true → contains nat_cmp new.ready v ≡ true
    stays v t =
        elim (cases_Bool (nat_eq row.volume v)) [
          | inl e ↦ come v e
          | inr e ↦ ready v ∙ ap (λ b. cond b true (contains nat_cmp old.ready v)) e ∙ t
        ]

    stands : (v : ℕ) → Stands nests order (row ∷ rest) old v → Stands nests order rest new v
    stands v (inl t) = inl t
    stands v (inr (inl t)) = inr (inl (stays v t))
    stands v (inr (inr (inl t))) =
        elim (or_cases (nat_eq row.volume v) (names rest v) t) [
          | inl e ↦ inr (inl (come v e))
          | inr later ↦ inr (inr (inl later))
        ]
    stands v (inr (inr (inr held))) =
        inr (inr (inr (record { on = held.on; free = held.free; held = held.held; waits = ap (λ table. names (waiting_at table held.on) v) waiting ∙ held.waits })))

-- a volume that was looked at waits
pub settled_waiting : (nests : List (List ℕ)) (order : List ℕ) (row next : Waiting) (rest : List Waiting) (w : ℕ) (old new : Sorter)
    → Standing nests order (row ∷ rest) old
    → next.volume ≡ row.volume
    → has order w ≡ false
    → has (nest_of nests row.volume) w ≡ true
    → all_among order (take next.at (nest_of nests row.volume)) ≡ true
    → new.numbered ≡ old.numbered
    → new.ready ≡ old.ready
    → ((q : ℕ) → waiting_at new.waiting q ≡ cond (nat_eq w q) (waiting_at old.waiting w ++ next ∷ []) (waiting_at old.waiting q))
    → Standing nests order rest new
settled_waiting nests order row next rest w old new h same free held passed numbered ready waiting = record {
  numbered = λ v. ap (λ s. contains nat_cmp s v) numbered ∙ h.numbered v;
  whole = h.whole;
  ready = λ v t. h.ready v (ap (λ s. contains nat_cmp s v) (sym ready) ∙ t);
  waiting = λ q.
      elim (cases_Bool (nat_eq w q)) [
        | inl e ↦
            subst (λ rows. All (Waits nests order q) rows) (sym (here q e))
            (subst (λ x. All (Waits nests order x) (waiting_at old.waiting w ++ next ∷ [])) (eqb-true w q e) (All-push (Waits nests order w) (waiting_at old.waiting w) next (h.waiting w) waits))
        | inr e ↦ subst (λ rows. All (Waits nests order q) rows) (sym (apart q e)) (h.waiting q)
      ];
  looked = All-tail (Passed nests order) row rest h.looked;
  all = λ v l. stands v (h.all v l);
}
  where
    first : Passed nests order row
    first = All-head (Passed nests order) row rest h.looked

    here : (q : ℕ) → nat_eq w q ≡ true → waiting_at new.waiting q ≡ waiting_at old.waiting w ++ next ∷ []
    here q e = waiting q ∙ ap (λ b. cond b (waiting_at old.waiting w ++ next ∷ []) (waiting_at old.waiting q)) e

    apart : (q : ℕ) → nat_eq w q ≡ false → waiting_at new.waiting q ≡ waiting_at old.waiting q
    apart q e = waiting q ∙ ap (λ b. cond b (waiting_at old.waiting w ++ next ∷ []) (waiting_at old.waiting q)) e

    waits : Waits nests order w next
    waits = record {
      there = subst (λ v. v < length nests) (sym same) first.there;
      held = subst (λ v. has (nest_of nests v) w ≡ true) (sym same) held;
      passed = subst (λ v. all_among order (take next.at (nest_of nests v)) ≡ true) (sym same) passed;
    }

    stays : (v : ℕ) → Held nests order old.waiting v → Held nests order new.waiting v
    stays v k =
        elim (cases_Bool (nat_eq w k.on)) [
          | inl e ↦ record {
            on = k.on;
            free = k.free;
            held = k.held;
            waits =
                ap (λ rows. names rows v) (here k.on e) ∙ list_any-append (λ r. nat_eq r.volume v) (waiting_at old.waiting w) (next ∷ [])
                ∙ or_left _ _ (ap (λ x. names (waiting_at old.waiting x) v) (eqb-true w k.on e) ∙ k.waits);
          }
          | inr e ↦ record { on = k.on; free = k.free; held = k.held; waits = ap (λ rows. names rows v) (apart k.on e) ∙ k.waits }
        ]

    begins : (v : ℕ) → nat_eq row.volume v ≡ true → Held nests order new.waiting v
    begins v e = record {
      on = w;
      free = free;
      held = subst (λ x. has (nest_of nests x) w ≡ true) (eqb-true row.volume v e) held;
      waits =
          ap (λ rows. names rows v) (here w (eq-eqb w w refl)) ∙ list_any-append (λ r. nat_eq r.volume v) (waiting_at old.waiting w) (next ∷ [])
          ∙ or_right (names (waiting_at old.waiting w) v) _ (or_left _ false (ap (λ x. nat_eq x v) same ∙ e));
    }

    stands : (v : ℕ) → Stands nests order (row ∷ rest) old v → Stands nests order rest new v
    stands v (inl t) = inl t
    stands v (inr (inl t)) = inr (inl (ap (λ s. contains nat_cmp s v) ready ∙ t))
    stands v (inr (inr (inl t))) =
        elim (or_cases (nat_eq row.volume v) (names rest v) t) [
          | inl e ↦ inr (inr (inr (begins v e)))
          | inr later ↦ inr (inr (inl later))
        ]
    stands v (inr (inr (inr k))) = inr (inr (inr (stays v k)))

-- the chosen volume has its number, and those that waited for it are to be looked at
pub numbered_more : (nests : List (List ℕ)) (order : List ℕ) (k : ℕ) (old new : Sorter)
    → StandingBut nests order k old
    → ((q : ℕ) → contains nat_cmp new.numbered q ≡ cond (nat_eq k q) true (contains nat_cmp old.numbered q))
    → new.ready ≡ old.ready
    → ((q : ℕ) → get nat_eq new.waiting q ≡ cond (nat_eq k q) None (get nat_eq old.waiting q))
    → Standing nests (order ++ k ∷ []) (waiting_at old.waiting k) new
numbered_more nests order k old new h numbered ready waiting = record {
  numbered = λ v.
      elim (cases_Bool (nat_eq k v)) [
        | inl e ↦ numbered v ∙ ap (λ b. cond b true (contains nat_cmp old.numbered v)) e ∙ sym (has-new order k v e)
        | inr e ↦ numbered v ∙ ap (λ b. cond b true (contains nat_cmp old.numbered v)) e ∙ h.numbered v ∙ same v e
      ];
  whole = λ v t.
      elim (cases_Bool (nat_eq k v)) [
        | inl e ↦ all-more order k (nest_of nests v) (ap (λ x. all_among order (nest_of nests x)) (sym (eqb-true k v e)) ∙ h.comes.whole)
        | inr e ↦ all-more order k (nest_of nests v) (h.whole v (same v e ∙ t))
      ];
  ready = λ v t.
      let before : contains nat_cmp old.ready v ≡ true = ap (λ s. contains nat_cmp s v) (sym ready) ∙ t in
      let r = h.ready v before in
      record { there = r.there; free = has-none order k v r.free (h.gone v before); whole = all-more order k (nest_of nests v) r.whole };
  waiting = λ q.
      elim (cases_Bool (nat_eq k q)) [
        | inl e ↦ subst (λ rows. All (Waits nests (order ++ k ∷ []) q) rows) (sym (none q e)) (All-nil (Waits nests (order ++ k ∷ []) q))
        | inr e ↦ subst (λ rows. All (Waits nests (order ++ k ∷ []) q) rows) (sym (apart q e)) (All-weaker (Waits nests order q) (Waits nests (order ++ k ∷ []) q) (longer q) (waiting_at old.waiting q) (h.waiting q))
      ];
  looked = All-weaker (Waits nests order k) (Passed nests (order ++ k ∷ [])) woken (waiting_at old.waiting k) (h.waiting k);
  all = λ v l. stands v (h.all v l);
}
  where
    same : (v : ℕ) → nat_eq k v ≡ false → has order v ≡ has (order ++ k ∷ []) v
    same v e =
        elim (cases_Bool (has order v)) [
          | inl t ↦ t ∙ sym (has-more order k v t)
          | inr f ↦ f ∙ sym (has-none order k v f e)
        ]

    none : (q : ℕ) → nat_eq k q ≡ true → waiting_at new.waiting q ≡ []
    none q e = rw (waiting q, e) refl

    apart : (q : ℕ) → nat_eq k q ≡ false → waiting_at new.waiting q ≡ waiting_at old.waiting q
    apart q e = rw (waiting q, e) refl

    longer : (q : ℕ) (row : Waiting) → Waits nests order q row → Waits nests (order ++ k ∷ []) q row
    longer q row w = record { there = w.there; held = w.held; passed = all-more order k _ w.passed }

    woken : (row : Waiting) → Waits nests order k row → Passed nests (order ++ k ∷ []) row
    woken row w = record {
      there = w.there;
      free =
          has-none order k row.volume
          (false_from_ne_true _ (λ t. clash (has order k) (all-has order (nest_of nests row.volume) k (h.whole row.volume t) w.held) h.comes.free))
          (false_from_ne_true _
          (λ e. clash (has order k) (all-has order (nest_of nests k) k h.comes.whole (ap (λ x. has (nest_of nests x) k) (eqb-true k row.volume e) ∙ w.held)) h.comes.free));
      passed = all-more order k _ w.passed;
    }

    later : (v : ℕ) → Held nests order old.waiting v → Stands nests (order ++ k ∷ []) (waiting_at old.waiting k) new v
    later v w =
        elim (cases_Bool (nat_eq k w.on)) [
          | inl e ↦ inr (inr (inl (ap (λ x. names (waiting_at old.waiting x) v) (eqb-true k w.on e) ∙ w.waits)))
          | inr e ↦ inr (inr (inr (record { on = w.on; free = has-none order k w.on w.free e; held = w.held; waits = ap (λ rows. names rows v) (apart w.on e) ∙ w.waits })))
        ]

    stands : (v : ℕ) → (nat_eq k v ≡ true) ⊎ Stands nests order [] old v → Stands nests (order ++ k ∷ []) (waiting_at old.waiting k) new v
    stands v (inl e) = inl (has-new order k v e)
    stands v (inr (inl t)) = inl (has-more order k v t)
    stands v (inr (inr (inl t))) = inr (inl (ap (λ s. contains nat_cmp s v) ready ∙ t))
    stands v (inr (inr (inr (inl t)))) = absurd (both_ways false refl t)
    stands v (inr (inr (inr (inr w)))) = later v w

-- a volume that may come is among the ready
ready_there : (nests : List (List ℕ)) (order : List ℕ) (t : Sorter) → Standing nests order [] t → (v : ℕ) → v < length nests → may_come nests order v ≡ true → contains nat_cmp t.ready v ≡ true
ready_there nests order t h v l m = found (h.all v l)
  where
    both : (not (has order v) ≡ true) × (all_among order (nest_of nests v) ≡ true)
    both = and_parts (not (has order v)) (all_among order (nest_of nests v)) m

    free : has order v ≡ false
    free = not-true (has order v) both.0

    found : Stands nests order [] t v → contains nat_cmp t.ready v ≡ true
    found (inl n) = clash (has order v) n free
    found (inr (inl r)) = r
    found (inr (inr (inl none))) = absurd (both_ways false refl none)
    found (inr (inr (inr w))) = clash (has order w.on) (all-has order (nest_of nests v) w.on both.1 w.held) w.free

comes : (nests : List (List ℕ)) (order : List ℕ) (v : ℕ) → Ready nests order v → may_come nests order v ≡ true
comes nests order v r = and_from _ _ (not_from_false (has order v) r.free) r.whole

-- the least of the ready is the next
pub next_least : (nests : List (List ℕ)) (order : List ℕ) (t : Sorter) (k : ℕ) → Standing nests order [] t → contains nat_cmp t.ready k ≡ true
    → ((q : ℕ) → contains nat_cmp t.ready q ≡ true → k ≤ q) → next_in nests order ≡ Some k
unfolding next_in
next_least nests order t k h there least =
    let r = h.ready k there in
    find_least (may_come nests order) 0 (length nests) k (omega arith) (omega (arith, r.there)) (comes nests order k r)
    (λ m a b. false_from_ne_true _ (λ e. let bound = least m (ready_there nests order t h m (omega (arith, b, r.there)) e) in absurd (omega (arith, b, bound))))

pub next_none : (nests : List (List ℕ)) (order : List ℕ) (t : Sorter) → Standing nests order [] t → ((q : ℕ) → contains nat_cmp t.ready q ≡ false) → next_in nests order ≡ None
unfolding next_in
next_none nests order t h none =
    find_none (may_come nests order) 0 (length nests) (λ m a b. false_from_ne_true _ (λ e. clash _ (ready_there nests order t h m (omega (arith, b)) e) (none m)))

-- without the least of the ready
pub taken_out : (nests : List (List ℕ)) (order : List ℕ) (k : ℕ) (old new : Sorter)
    → Standing nests order [] old
    → contains nat_cmp old.ready k ≡ true
    → new.numbered ≡ old.numbered
    → new.waiting ≡ old.waiting
    → ((q : ℕ) → contains nat_cmp new.ready q ≡ cond (nat_eq k q) false (contains nat_cmp old.ready q))
    → StandingBut nests order k new
taken_out nests order k old new h there numbered waiting ready = record {
  numbered = λ v. ap (λ s. contains nat_cmp s v) numbered ∙ h.numbered v;
  whole = h.whole;
  comes = h.ready k there;
  ready = λ v t. h.ready v (before v t);
  gone = λ v t. false_from_ne_true _ (λ e. clash _ t (ready v ∙ ap (λ b. cond b false (contains nat_cmp old.ready v)) e));
  waiting = λ w. subst (λ table. All (Waits nests order w) (waiting_at table w)) (sym waiting) (h.waiting w);
  all = λ v l. stands v (h.all v l);
}
  where
    before : (v : ℕ) → contains nat_cmp new.ready v ≡ true → contains nat_cmp old.ready v ≡ true
    before v t =
        elim (cases_Bool (nat_eq k v)) [
          | inl e ↦ clash _ t (ready v ∙ ap (λ b. cond b false (contains nat_cmp old.ready v)) e)
          | inr e ↦ sym (ready v ∙ ap (λ b. cond b false (contains nat_cmp old.ready v)) e) ∙ t
        ]

    stands : (v : ℕ) → Stands nests order [] old v → (nat_eq k v ≡ true) ⊎ Stands nests order [] new v
    stands v (inl t) = inr (inl t)
    stands v (inr (inl t)) =
        elim (cases_Bool (nat_eq k v)) [
          | inl e ↦ inl e
          | inr e ↦ inr (inr (inl (ready v ∙ ap (λ b. cond b false (contains nat_cmp old.ready v)) e ∙ t)))
        ]
    stands v (inr (inr (inl t))) = absurd (both_ways false refl t)
    stands v (inr (inr (inr w))) =
        inr (inr (inr (inr (record { on = w.on; free = w.free; held = w.held; waits = ap (λ table. names (waiting_at table w.on) v) waiting ∙ w.waits }))))

-- at the start
names_unseen : (i n v : ℕ) → i ≤ v → v < i + n → names (unseen i n) v ≡ true
names_unseen i zero v a b = absurd (omega (arith, a, b))
names_unseen i (suc n) v a b =
    elim (cases_eq i v) [
      | inl e ↦ or_left _ _ (eq-eqb i v e)
      | inr ne ↦ or_right (nat_eq i v) _ (names_unseen (i + 1) n v (omega (arith, a, ne)) (omega (arith, b)))
    ]

unseen_passed : (nests : List (List ℕ)) (i n : ℕ) → i + n ≤ length nests → All (Passed nests []) (unseen i n)
unseen_passed nests i zero l = All-nil (Passed nests [])
unseen_passed nests i (suc n) l =
    All-cons (Passed nests []) _ (unseen (i + 1) n) (record { there = omega (arith, l); free = refl; passed = refl }) (unseen_passed nests (i + 1) n (omega (arith, l)))

pub begun : (nests : List (List ℕ)) (t : Sorter) → t.numbered.keys ≡ [] → t.ready.keys ≡ [] → t.waiting.entries ≡ [] → Standing nests [] (unseen 0 (length nests)) t
begun nests t numbered ready waiting = record {
  numbered = λ v. rw numbered refl;
  whole = λ v e. absurd (both_ways false refl e);
  ready = λ v e. absurd (both_ways false refl (ap (λ keys. list_any (is_at (nat_cmp v)) keys) (sym ready) ∙ e));
  waiting = λ w. let e : waiting_at t.waiting w ≡ [] = rw waiting refl in subst (λ rows. All (Waits nests [] w) rows) (sym e) (All-nil (Waits nests [] w));
  looked = unseen_passed nests 0 (length nests) (omega arith);
  all = λ v l. inr (inr (inl (names_unseen 0 (length nests) v (omega arith) (omega (arith, l)))));
}

pub unseen_next : (nests : List (List ℕ)) (i n m : ℕ) (t : Sorter) → n ≡ suc m → Standing nests [] (unseen i n) t → Standing nests [] (record { volume = i; at = 0 } ∷ unseen (i + 1) m) t
unseen_next nests i n m t e h = subst (λ k. Standing nests [] (unseen i k) t) e h

pub turn_taken : (nests : List (List ℕ)) (order : List ℕ) (i k : ℕ) (nest : List ℕ) → i < length nests → nest ≡ get_or nests i nest → next_in nests order ≡ Some k
    → turns nests (drop i nests) order ≡ turns nests (drop (i + 1) nests) (order ++ k ∷ [])
unfolding turns
turn_taken nests order i k nest l e n =
    ap (λ xs. turns nests xs order) (head_drop nests i nest l e) ∙ one
  where
    one : turns nests (nest ∷ drop (i + 1) nests) order ≡ turns nests (drop (i + 1) nests) (order ++ k ∷ [])
    one = rw n refl

pub turn_stuck : (nests : List (List ℕ)) (order : List ℕ) (xs : List (List ℕ)) → next_in nests order ≡ None → turns nests xs order ≡ order
unfolding turns
turn_stuck nests order [] n = refl
turn_stuck nests order (x ∷ xs) n = rw n refl

pub turns_end : (nests : List (List ℕ)) (order : List ℕ) (i : ℕ) → length nests ≤ i → turns nests (drop i nests) order ≡ order
unfolding turns
turns_end nests order i l = rw (drop_all i nests l) refl
