-- Volumes that hold themselves.
use Rattle.std.proofs.Common.{◌≡◌, ◌∙◌, ℕ, ◌+◌, ◌<◌, ◌≤◌, Bool, true, false, ◌||◌, ◌&&◌, if◌then◌else◌, not, cond, nat_eq, nat_le, ◌-◌, List, [], ◌∷◌, ◌++◌, length, Some, None, refl, sym, ap, subst, inl, inr, arith, ◌⊎◌, zero, suc}
use Rattle.std.specs.List.{list_any, list_all, flat_map, find, range_with_len}
use Rattle.std.specs.BTreeSet.{contains}
use Rattle.std.specs.Ordering.{nat_cmp}
use Rattle.std.proofs.lemmas.Bool.{cases_Bool, cases_eq, cases_lt, or_cases, or_left, or_right, or_parts, and_parts, eqb-true, eq-eqb, both_ways, false_from_ne_true, not-false}
use Rattle.std.proofs.lemmas.Bool.Decides.{nat_tests}
use Rattle.std.proofs.lemmas.List.{get_or_past}
use Rattle.std.proofs.lemmas.List.Folds.{list_any-append}
use Rattle.volume_nesting.specs.Numbering.{has, nest_of, holds_by, is_loop}
use Rattle.volume_nesting.specs.Looping.{Within, Saw, Reached, rank_at, falls, all_fall, stays, may_loop}
use Rattle.volume_nesting.specs.declared.loops.Level.{Level}

-- two tests that hold together are the same
pub same_test : (a b : Bool) → (a ≡ true → b ≡ true) → (b ≡ true → a ≡ true) → a ≡ b
same_test true b to from = sym (to refl)
same_test false true to from = from refl
same_test false false to from = refl

-- what passes a test for one of some numbers
pub passing : (test : ℕ → Bool) (xs : List ℕ) → list_any test xs ≡ true → (r : ℕ) × (has xs r ≡ true) × (test r ≡ true)
passing test [] h = absurd (both_ways false refl h)
passing test (x ∷ xs) h =
    elim (or_cases (test x) (list_any test xs) h) [
      | inl t ↦ (x, or_left _ _ (eq-eqb x x refl), t)
      | inr later ↦ let (r, there, t) = passing test xs later in (r, or_right (nat_eq x r) _ there, t)
    ]

pub passes : (test : ℕ → Bool) (xs : List ℕ) (r : ℕ) → has xs r ≡ true → test r ≡ true → list_any test xs ≡ true
passes test [] r there t = absurd (both_ways false refl there)
passes test (x ∷ xs) r there t =
    elim (or_cases (nat_eq x r) (has xs r) there) [
      | inl e ↦ or_left _ _ (ap test (eqb-true x r e) ∙ t)
      | inr later ↦ or_right (test x) _ (passes test xs r later t)
    ]

pub passed_all : (test : ℕ → Bool) (xs : List ℕ) (r : ℕ) → list_all test xs ≡ true → has xs r ≡ true → test r ≡ true
passed_all test [] r all there = absurd (both_ways false refl there)
passed_all test (x ∷ xs) r all there =
    let both = and_parts (test x) (list_all test xs) all in
    elim (or_cases (nat_eq x r) (has xs r) there) [
      | inl e ↦ ap test (sym (eqb-true x r e)) ∙ both.0
      | inr later ↦ passed_all test xs r both.1 later
    ]

-- one of what some volumes hold
held_in : (nests : List (List ℕ)) (xs : List ℕ) (q : ℕ) → has (flat_map (nest_of nests) xs) q ≡ true → (r : ℕ) × (has xs r ≡ true) × (has (nest_of nests r) q ≡ true)
held_in nests [] q h = absurd (both_ways false refl h)
held_in nests (x ∷ xs) q h =
    elim (or_cases (has (nest_of nests x) q) (has (flat_map (nest_of nests) xs) q) (sym (list_any-append (λ r. nat_eq r q) (nest_of nests x) (flat_map (nest_of nests) xs)) ∙ h)) [
      | inl t ↦ (x, or_left _ _ (eq-eqb x x refl), t)
      | inr later ↦ let (r, there, t) = held_in nests xs q later in (r, or_right (nat_eq x r) _ there, t)
    ]

in_held : (nests : List (List ℕ)) (xs : List ℕ) (r q : ℕ) → has xs r ≡ true → has (nest_of nests r) q ≡ true → has (flat_map (nest_of nests) xs) q ≡ true
in_held nests [] r q there h = absurd (both_ways false refl there)
in_held nests (x ∷ xs) r q there h =
    list_any-append (λ y. nat_eq y q) (nest_of nests x) (flat_map (nest_of nests) xs)
    ∙ elim (or_cases (nat_eq x r) (has xs r) there) [
      | inl e ↦ or_left _ _ (ap (λ y. has (nest_of nests y) q) (eqb-true x r e) ∙ h)
      | inr later ↦ or_right (has (nest_of nests x) q) _ (in_held nests xs r q later h)
    ]

-- by the first step and the others, and by the last and those before
within_first : (nests : List (List ℕ)) (p r k q : ℕ) → has (nest_of nests p) r ≡ true → Within nests r k q → Within nests p (suc k) q
within_first nests p r zero q h w = inr (record { on = r; reached = h; held = w })
within_first nests p r (suc k) q h (inl w) = inl (within_first nests p r k q h w)
within_first nests p r (suc k) q h (inr via) = inr (record { on = via.on; reached = within_first nests p r k via.on h via.reached; held = via.held })

within_more : (nests : List (List ℕ)) (p k q : ℕ) → has (nest_of nests p) q ≡ true → Within nests p k q
within_more nests p zero q h = h
within_more nests p (suc k) q h = inl (within_more nests p k q h)

within_held : (nests ns : List (List ℕ)) (p q : ℕ) → holds_by nests ns p q ≡ true → Within nests p (length ns) q
unfolding holds_by
within_held nests [] p q h = h
within_held nests (n ∷ ns) p q h =
    elim (or_cases (has (nest_of nests p) q) (list_any (λ r. holds_by nests ns r q) (nest_of nests p)) h) [
      | inl t ↦ inl (within_more nests p (length ns) q t)
      | inr later ↦ let (r, there, t) = passing (λ r. holds_by nests ns r q) (nest_of nests p) later in within_first nests p r (length ns) q there (within_held nests ns r q t)
    ]

held_one : (nests ns : List (List ℕ)) (p q : ℕ) → has (nest_of nests p) q ≡ true → holds_by nests ns p q ≡ true
unfolding holds_by
held_one nests [] p q h = h
held_one nests (n ∷ ns) p q h = or_left _ _ h

held_more : (nests ns : List (List ℕ)) (n : List ℕ) (p q : ℕ) → holds_by nests ns p q ≡ true → holds_by nests (n ∷ ns) p q ≡ true
unfolding holds_by
held_more nests [] n p q h = or_left _ _ h
held_more nests (m ∷ ms) n p q h =
    elim (or_cases (has (nest_of nests p) q) (list_any (λ r. holds_by nests ms r q) (nest_of nests p)) h) [
      | inl t ↦ or_left _ _ t
      | inr later ↦
          let (r, there, t) = passing (λ r. holds_by nests ms r q) (nest_of nests p) later in
          or_right (has (nest_of nests p) q) _ (passes (λ r. holds_by nests (m ∷ ms) r q) (nest_of nests p) r there (held_more nests ms m r q t))
    ]

held_last : (nests ns : List (List ℕ)) (n : List ℕ) (p r q : ℕ) → holds_by nests ns p r ≡ true → has (nest_of nests r) q ≡ true → holds_by nests (n ∷ ns) p q ≡ true
unfolding holds_by
held_last nests [] n p r q h t = or_right (has (nest_of nests p) q) _ (passes (λ x. holds_by nests [] x q) (nest_of nests p) r h t)
held_last nests (m ∷ ms) n p r q h t =
    elim (or_cases (has (nest_of nests p) r) (list_any (λ x. holds_by nests ms x r) (nest_of nests p)) h) [
      | inl one ↦ or_right (has (nest_of nests p) q) _ (passes (λ x. holds_by nests (m ∷ ms) x q) (nest_of nests p) r one (held_one nests (m ∷ ms) r q t))
      | inr later ↦
          let (x, there, s) = passing (λ x. holds_by nests ms x r) (nest_of nests p) later in
          or_right (has (nest_of nests p) q) _ (passes (λ y. holds_by nests (m ∷ ms) y q) (nest_of nests p) x there (held_last nests ms m x r q s t))
    ]

held_within : (nests ns : List (List ℕ)) (p q : ℕ) → Within nests p (length ns) q → holds_by nests ns p q ≡ true
unfolding holds_by
held_within nests [] p q w = w
held_within nests (n ∷ ns) p q (inl w) = held_more nests ns n p q (held_within nests ns p q w)
held_within nests (n ∷ ns) p q (inr via) = held_last nests ns n p via.on q (held_within nests ns p via.on via.reached) via.held

-- volumes that are looked at
pub saw_known : (volume : ℕ) (level : Level) → contains nat_cmp level.seen volume ≡ true → Saw (volume ∷ []) level level
saw_known volume level there = record {
  seen = λ q. same_test _ _ (λ t. or_left _ _ t) (λ t. elim (or_cases (contains nat_cmp level.seen q) (has (volume ∷ []) q) t) [ inl s ↦ s | inr e ↦ one q e ]);
  fresh = λ q t. inl t;
  shown = λ q t. inl t;
  kept = λ q t. t;
}
  where
    one : (q : ℕ) → has (volume ∷ []) q ≡ true → contains nat_cmp level.seen q ≡ true
    one q e =
        elim (or_cases (nat_eq volume q) false e) [
          | inl s ↦ subst (λ x. contains nat_cmp level.seen x ≡ true) (eqb-true volume q s) there
          | inr none ↦ absurd (both_ways false refl none)
        ]

pub saw_new : (volume : ℕ) (old new : Level) → new.edge ≡ old.edge ++ volume ∷ []
    → ((q : ℕ) → contains nat_cmp new.seen q ≡ cond (nat_eq volume q) true (contains nat_cmp old.seen q)) → Saw (volume ∷ []) old new
saw_new volume old new edge seen = record {
  seen = λ q. seen q ∙ turned q (nat_eq volume q) (contains nat_cmp old.seen q);
  fresh = λ q t.
      elim (cases_Bool (nat_eq volume q)) [
        | inl e ↦ inr (at_edge q (or_right (has old.edge q) _ (or_left _ false e)))
        | inr e ↦ inl (sym (seen q ∙ ap (λ b. cond b true (contains nat_cmp old.seen q)) e) ∙ t)
      ];
  shown = λ q t. or_cases (has old.edge q) (has (volume ∷ []) q) (sym (joined q) ∙ t);
  kept = λ q t. at_edge q (or_left _ _ t);
}
  where
    joined : (q : ℕ) → has new.edge q ≡ (has old.edge q || has (volume ∷ []) q)
    joined q = ap (λ xs. has xs q) edge ∙ list_any-append (λ x. nat_eq x q) old.edge (volume ∷ [])

    at_edge : (q : ℕ) → (has old.edge q || has (volume ∷ []) q) ≡ true → has new.edge q ≡ true
    at_edge q t = joined q ∙ t

    turned : (q : ℕ) (a b : Bool) → cond a true b ≡ (b || (a || false))
    turned q true true = refl
    turned q true false = refl
    turned q false true = refl
    turned q false false = refl

pub saw_none : (level : Level) → Saw [] level level
saw_none level = record {
  seen = λ q. same_test _ _ (λ t. or_left _ _ t) (λ t. elim (or_cases (contains nat_cmp level.seen q) false t) [ inl s ↦ s | inr none ↦ absurd (both_ways false refl none) ]);
  fresh = λ q t. inl t;
  shown = λ q t. inl t;
  kept = λ q t. t;
}

pub saw_both : (xs ys : List ℕ) (a b c : Level) → Saw xs a b → Saw ys b c → Saw (xs ++ ys) a c
saw_both xs ys a b c first second = record {
  seen = λ q. second.seen q ∙ ap (λ t. t || has ys q) (first.seen q) ∙ moved (contains nat_cmp a.seen q) (has xs q) (has ys q) ∙ ap (λ t. contains nat_cmp a.seen q || t) (sym (list_any-append (λ x. nat_eq x q) xs ys));
  fresh = λ q t.
      elim (second.fresh q t) [
        | inl s ↦ elim (first.fresh q s) [ inl r ↦ inl r | inr e ↦ inr (second.kept q e) ]
        | inr e ↦ inr e
      ];
  shown = λ q t.
      elim (second.shown q t) [
        | inl s ↦ elim (first.shown q s) [ inl r ↦ inl r | inr e ↦ inr (joined q (or_left _ _ e)) ]
        | inr e ↦ inr (joined q (or_right (has xs q) _ e))
      ];
  kept = λ q t. second.kept q (first.kept q t);
}
  where
    moved : (x y z : Bool) → ((x || y) || z) ≡ (x || (y || z))
    moved true y z = refl
    moved false y z = refl

    joined : (q : ℕ) → (has xs q || has ys q) ≡ true → has (xs ++ ys) q ≡ true
    joined q t = list_any-append (λ x. nat_eq x q) xs ys ∙ t

-- one step more
reached_more : (nests : List (List ℕ)) (p k : ℕ) (old bare new : Level) → Reached nests p k old → bare.seen ≡ old.seen → bare.edge ≡ []
    → Saw (flat_map (nest_of nests) old.edge) bare new → Reached nests p (suc k) new
reached_more nests p k old bare new h same none saw = record {
  sound = λ q t. sound q (or_cases (contains nat_cmp bare.seen q) (has (flat_map (nest_of nests) old.edge) q) (sym (saw.seen q) ∙ t));
  whole = λ q w. whole q w;
  edge = λ q t.
      elim (saw.shown q t) [
        | inl s ↦ absurd (both_ways false refl (sym (ap (λ xs. has xs q) none) ∙ s))
        | inr e ↦ saw.seen q ∙ or_right (contains nat_cmp bare.seen q) _ e
      ];
  closed = λ r t.
      elim (saw.fresh r t) [
        | inl s ↦ inr (λ q e. below r (before r s) q e)
        | inr e ↦ inl e
      ];
}
  where
    before : (q : ℕ) → contains nat_cmp bare.seen q ≡ true → contains nat_cmp old.seen q ≡ true
    before q t = ap (λ s. contains nat_cmp s q) (sym same) ∙ t

    stays_seen : (q : ℕ) → contains nat_cmp old.seen q ≡ true → contains nat_cmp new.seen q ≡ true
    stays_seen q t = saw.seen q ∙ or_left _ _ (ap (λ s. contains nat_cmp s q) same ∙ t)

    below : (r : ℕ) → contains nat_cmp old.seen r ≡ true → (q : ℕ) → has (nest_of nests r) q ≡ true → contains nat_cmp new.seen q ≡ true
    below r t q e =
        elim (h.closed r t) [
          | inl at ↦ saw.seen q ∙ or_right (contains nat_cmp bare.seen q) _ (in_held nests old.edge r q at e)
          | inr all ↦ stays_seen q (all q e)
        ]

    sound : (q : ℕ) → (contains nat_cmp bare.seen q ≡ true) ⊎ (has (flat_map (nest_of nests) old.edge) q ≡ true) → Within nests p (suc k) q
    sound q (inl t) = inl (h.sound q (before q t))
    sound q (inr e) = let (r, at, held) = held_in nests old.edge q e in inr (record { on = r; reached = h.sound r (h.edge r at); held = held })

    whole : (q : ℕ) → Within nests p (suc k) q → contains nat_cmp new.seen q ≡ true
    whole q (inl w) = stays_seen q (h.whole q w)
    whole q (inr via) = below via.on (h.whole via.on via.reached) q via.held

pub reached_next : (nests : List (List ℕ)) (p k : ℕ) (old bare new : Level) → Reached nests p k old → bare.seen ≡ old.seen → bare.edge ≡ []
    → Saw (flat_map (nest_of nests) old.edge) bare new → Reached nests p (k + 1) new
reached_next nests p k old bare new h same none saw =
    let next : suc k ≡ k + 1 = omega arith in
    subst (λ n. Reached nests p n new) next (reached_more nests p k old bare new h same none saw)

pub reached_first : (nests : List (List ℕ)) (p : ℕ) (bare new : Level) → bare.seen.keys ≡ [] → bare.edge ≡ [] → Saw (nest_of nests p) bare new → Reached nests p 0 new
reached_first nests p bare new none bare_edge saw = record {
  sound = λ q t.
      elim (or_cases (contains nat_cmp bare.seen q) (has (nest_of nests p) q) (sym (saw.seen q) ∙ t)) [
        | inl s ↦ absurd (both_ways false refl (sym (empty q) ∙ s))
        | inr e ↦ e
      ];
  whole = λ q w. saw.seen q ∙ or_right (contains nat_cmp bare.seen q) _ w;
  edge = λ q t.
      elim (saw.shown q t) [
        | inl s ↦ absurd (both_ways false refl (sym (ap (λ xs. has xs q) bare_edge) ∙ s))
        | inr e ↦ saw.seen q ∙ or_right (contains nat_cmp bare.seen q) _ e
      ];
  closed = λ r t.
      elim (saw.fresh r t) [
        | inl s ↦ absurd (both_ways false refl (sym (empty r) ∙ s))
        | inr e ↦ inl e
      ];
}
  where
    empty : (q : ℕ) → contains nat_cmp bare.seen q ≡ false
    empty q = rw none refl

-- after as many steps as there are volumes
pub loop_seen : (nests : List (List ℕ)) (p k : ℕ) (level : Level) → Reached nests p k level → k ≡ length nests → contains nat_cmp level.seen p ≡ is_loop nests p
loop_seen nests p k level h e =
    same_test _ _
    (λ t. held_within nests nests p p (subst (λ n. Within nests p n p) e (h.sound p t)))
    (λ t. h.whole p (subst (λ n. Within nests p n p) (sym e) (within_held nests nests p p t)))

within_later : (nests : List (List ℕ)) (p k m q : ℕ) → Within nests p k q → Within nests p (k + m) q
within_later nests p k zero q w = let same : k + 0 ≡ k = omega arith in subst (λ n. Within nests p n q) (sym same) w
within_later nests p k (suc m) q w =
    let same : k + suc m ≡ suc (k + m) = omega arith in
    let one : Within nests p (suc (k + m)) q = inl (within_later nests p k m q w) in
    subst (λ n. Within nests p n q) (sym same) one

-- where nothing is at the edge no step comes to anything new
seen_all : (nests : List (List ℕ)) (p k m : ℕ) (level : Level) → Reached nests p k level → level.edge ≡ [] → (q : ℕ) → Within nests p m q → contains nat_cmp level.seen q ≡ true
seen_all nests p k zero level h none q w = h.whole q (within_more nests p k q w)
seen_all nests p k (suc m) level h none q (inl w) = seen_all nests p k m level h none q w
seen_all nests p k (suc m) level h none q (inr via) =
    elim (h.closed via.on (seen_all nests p k m level h none via.on via.reached)) [
      | inl at ↦ absurd (both_ways false refl (sym (ap (λ xs. has xs via.on) none) ∙ at))
      | inr all ↦ all q via.held
    ]

pub loop_ended : (nests : List (List ℕ)) (p k : ℕ) (level : Level) → Reached nests p k level → level.edge ≡ [] → k ≤ length nests → contains nat_cmp level.seen p ≡ is_loop nests p
loop_ended nests p k level h none l =
    same_test _ _
    (λ t. held_within nests nests p p (subst (λ n. Within nests p n p) whole (within_later nests p k (length nests - k) p (h.sound p t))))
    (λ t. seen_all nests p k (length nests) level h none p (within_held nests nests p p t))
  where
    whole : k + (length nests - k) ≡ length nests
    whole = omega (arith, l)

-- ranks that never rise along what is held
all_in_range : (test : ℕ → Bool) (a n p : ℕ) → list_all test (range_with_len a n) ≡ true → a ≤ p → p < a + n → test p ≡ true
all_in_range test a zero p h low high = absurd (omega (arith, low, high))
all_in_range test a (suc n) p h low high =
    let both = and_parts (test a) (list_all test (range_with_len (a + 1) n)) h in
    elim (cases_eq a p) [
      | inl e ↦ ap test (sym e) ∙ both.0
      | inr ne ↦ all_in_range test (a + 1) n p both.1 (omega (arith, low, ne)) (omega (arith, high))
    ]

-- a test of the numbers from one on, one number further
pub all_step : (test : ℕ → Bool) (a n : ℕ) → a < n → test a ≡ true → list_all test (range_with_len (a + 1) (n - (a + 1))) ≡ list_all test (range_with_len a (n - a))
all_step test a n l t = sym (ap (λ k. list_all test (range_with_len a k)) more ∙ ap (λ b. b && list_all test (range_with_len (a + 1) (n - (a + 1)))) t)
  where
    more : n - a ≡ suc (n - (a + 1))
    more = omega (arith, l)

pub find_step : (test : ℕ → Bool) (a n : ℕ) → a < n → test a ≡ false → find test (range_with_len (a + 1) (n - (a + 1))) ≡ find test (range_with_len a (n - a))
find_step test a n l f = sym (ap (λ k. find test (range_with_len a k)) more ∙ ap (λ b. if b then Some a else find test (range_with_len (a + 1) (n - (a + 1)))) f)
  where
    more : n - a ≡ suc (n - (a + 1))
    more = omega (arith, l)

pub find_here : (test : ℕ → Bool) (a n : ℕ) → a < n → test a ≡ true → find test (range_with_len a (n - a)) ≡ Some a
find_here test a n l t = ap (λ k. find test (range_with_len a k)) more ∙ ap (λ b. if b then Some a else find test (range_with_len (a + 1) (n - (a + 1)))) t
  where
    more : n - a ≡ suc (n - (a + 1))
    more = omega (arith, l)

pub find_end : (test : ℕ → Bool) (a n : ℕ) → n ≤ a → find test (range_with_len a (n - a)) ≡ None
find_end test a n l = ap (λ k. find test (range_with_len a k)) none
  where
    none : n - a ≡ 0
    none = omega (arith, l)

at_most : (a b : ℕ) → nat_le a b ≡ true → a ≤ b
at_most a b h = grind (arith, nat_tests)

more_than : (a b : ℕ) → nat_le a b ≡ false → b < a
more_than a b h = grind (arith, nat_tests)

there : (nests : List (List ℕ)) (p q : ℕ) → has (nest_of nests p) q ≡ true → p < length nests
there nests p q h =
    elim (cases_lt p (length nests)) [
      | inl l ↦ l
      | inr n ↦ absurd (both_ways false refl (sym (ap (λ xs. has xs q) (get_or_past nests p [] n)) ∙ h))
    ]

no_rise : (nests : List (List ℕ)) (ranks : List ℕ) → all_fall nests ranks ≡ true → (p q : ℕ) → has (nest_of nests p) q ≡ true → rank_at ranks q ≤ rank_at ranks p
no_rise nests ranks all p q h =
    at_most (rank_at ranks q) (rank_at ranks p)
    (passed_all (λ r. nat_le (rank_at ranks r) (rank_at ranks p)) (nest_of nests p) q
    (all_in_range (falls nests ranks) 0 (length nests) p all (omega arith) (let l = there nests p q h in omega (arith, l))) h)

falls_within : (nests : List (List ℕ)) (ranks : List ℕ) → all_fall nests ranks ≡ true → (p k q : ℕ) → stays nests ranks p ≡ false → Within nests p k q → rank_at ranks q < rank_at ranks p
falls_within nests ranks all p zero q s w =
    more_than (rank_at ranks p) (rank_at ranks q)
    (false_from_ne_true _ (λ t. both_ways _ s (passes (λ r. nat_le (rank_at ranks p) (rank_at ranks r)) (nest_of nests p) q w t)))
falls_within nests ranks all p (suc k) q s (inl w) = falls_within nests ranks all p k q s w
falls_within nests ranks all p (suc k) q s (inr via) =
    let a = no_rise nests ranks all via.on q via.held in
    let b = falls_within nests ranks all p k via.on s via.reached in
    omega (arith, a, b)

pub no_loop : (nests : List (List ℕ)) (ranks : List ℕ) (fall : Bool) (p : ℕ) → fall ≡ all_fall nests ranks → may_loop nests ranks fall p ≡ false → is_loop nests p ≡ false
no_loop nests ranks fall p e none =
    let parts = or_parts (not fall) (stays nests ranks p) none in
    let all : all_fall nests ranks ≡ true = sym e ∙ not-false fall parts.0 in
    false_from_ne_true _ (λ t. let l = falls_within nests ranks all p (length nests) p parts.1 (within_held nests nests p p t) in absurd (omega (arith, l)))
