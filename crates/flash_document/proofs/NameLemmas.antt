-- Names in lower case and their places.
use Rattle.std.proofs.Common.{◌≡◌, ◌∙◌, ℕ, ◌+◌, ◌<◌, Bool, true, false, cond, nat_eq, if◌then◌else◌, List, [], ◌∷◌, ◌++◌, length, map, get_or, Option, Some, None, refl, sym, ap, inl, inr, arith, ◌⊎◌, suc}
use Rattle.std.specs.Prelude.{is_some}
use Rattle.std.specs.Global.{Vec}
use Rattle.std.specs.HashMap.{HashMap, get}
use Rattle.std.specs.Cmp.Lexicographic.{pointwise, same_text}
use Rattle.std.proofs.lemmas.Bool.{cases_Bool, or_cases, eqb-true, both_ways}
use Rattle.build_base.specs.First.{or_else}
use Rattle.flash_document.specs.Names.{lower_case, same_key, place_from, Places}
use Rattle.volume_nesting.specs.Numbering.{has}

pub or_none : {T : Type 0} (o : Option T) → or_else o None ≡ o
or_none None = refl
or_none (Some x) = refl

impossible : {X : Type 0} → false ≡ true → X
impossible e = absurd cc

none_of : (o : Option ℕ) → is_some o ≡ false → o ≡ None
none_of None e = refl
none_of (Some x) e = absurd cc

place_push : (n : ℕ) (key : List ℕ) (vs : List (List ℕ)) (v : List ℕ)
    → place_from n key (vs ++ v ∷ []) ≡ or_else (place_from n key vs) (if pointwise nat_eq (lower_case v) key then Some (n + length vs) else None)
unfolding place_from
place_push n key [] v =
    let none : n + 0 ≡ n = omega arith in
    rw none refl
place_push n key (w ∷ vs) v =
    elim (pointwise nat_eq (lower_case w) key) as (λ b. (if b then Some n else place_from (n + 1) key (vs ++ v ∷ []))
    ≡ or_else (if b then Some n else place_from (n + 1) key vs) (if pointwise nat_eq (lower_case v) key then Some (n + length (w ∷ vs)) else None)) [
      | true ↦ refl
      | false ↦
          let places : n + 1 + length vs ≡ n + length (w ∷ vs) = omega arith in
          place_push (n + 1) key vs v ∙ ap (λ k. or_else (place_from (n + 1) key vs) (if pointwise nat_eq (lower_case v) key then Some k else None)) places
    ]

place_more : (key : List ℕ) (vs : List (List ℕ)) (v : List ℕ)
    → place_from 0 key (vs ++ v ∷ []) ≡ or_else (place_from 0 key vs) (if pointwise nat_eq (lower_case v) key then Some (length vs) else None)
place_more key vs v =
    let place : 0 + length vs ≡ length vs = omega arith in
    place_push 0 key vs v ∙ ap (λ k. or_else (place_from 0 key vs) (if pointwise nat_eq (lower_case v) key then Some k else None)) place

-- a name that is there changes nothing
kept_at : (test : Bool) (i : ℕ) (found : Option ℕ) → (test ≡ true → is_some found ≡ true) → found ≡ or_else found (if test then Some i else None)
kept_at test i (Some n) some = refl
kept_at false i None some = refl
kept_at true i None some = impossible (some refl)

pub places_kept : {S : Type 0} (above : List (List ℕ)) (v : List ℕ) (m : HashMap (Vec ℕ) ℕ S) (k : Vec ℕ)
    → k.items ≡ lower_case v → is_some (get same_key m k) ≡ true → Places above m → Places (above ++ v ∷ []) m
places_kept above v m k is there h = λ q.
    let some : pointwise nat_eq (lower_case v) q.items ≡ true → is_some (place_from 0 q.items above) ≡ true =
    λ t. let same : lower_case v ≡ q.items = same_text _ _ (sym t) in
    rw (← same, ← is, ← h k) there in
    h q ∙ kept_at (pointwise nat_eq (lower_case v) q.items) (length above) (place_from 0 q.items above) some ∙ sym (place_more q.items above v)

added_at : (test : Bool) (i : ℕ) (old found : Option ℕ) → (test ≡ true → found ≡ None) → old ≡ found → cond test (Some i) old ≡ or_else found (if test then Some i else None)
added_at true i old found none e = rw (none refl) refl
added_at false i old found none e = e ∙ sym (or_none found)

pub places_added : {S : Type 0} (above : List (List ℕ)) (v : List ℕ) (m n : HashMap (Vec ℕ) ℕ S) (k : Vec ℕ) (i : ℕ)
    → k.items ≡ lower_case v → i ≡ length above → is_some (get same_key m k) ≡ false → Places above m
    → ((q : Vec ℕ) → get same_key n q ≡ cond (same_key k q) (Some i) (get same_key m q)) → Places (above ++ v ∷ []) n
places_added above v m n k i is place absent h update = λ q.
    let none : pointwise nat_eq (lower_case v) q.items ≡ true → place_from 0 q.items above ≡ None =
    λ t. let same : lower_case v ≡ q.items = same_text _ _ (sym t) in
    none_of (place_from 0 q.items above) (rw (← same, ← is, ← h k) absent) in
    update q ∙ rw (is, place) (added_at (pointwise nat_eq (lower_case v) q.items) (length above) (get same_key m q) (place_from 0 q.items above) none (h q))
    ∙ sym (place_more q.items above v)

-- no name is in an empty table
pub places_none : {S : Type 0} (m : HashMap (Vec ℕ) ℕ S) → m.entries ≡ [] → Places [] m
unfolding place_from
places_none m e = λ q. rw e refl

-- a place of a name is that of one of them which is this name
pub place_named : (n : ℕ) (key : List ℕ) (names : List (List ℕ)) (q : ℕ) → place_from n key names ≡ Some q
    → (i : ℕ) × (q ≡ n + i) × (pointwise nat_eq (lower_case (get_or names i [])) key ≡ true)
unfolding place_from
place_named n key [] q h = absurd cc
place_named n key (name ∷ names) q h =
    elim (cases_Bool (pointwise nat_eq (lower_case name) key)) [
      | inl t ↦ (0, one n q (sym (ap (λ b. if b then Some n else place_from (n + 1) key names) t) ∙ h), t)
      | inr f ↦
          let (i, e, t) = place_named (n + 1) key names q (sym (ap (λ b. if b then Some n else place_from (n + 1) key names) f) ∙ h) in
          (suc i, omega (arith, e), t)
    ]
  where
    one : (a b : ℕ) → Some a ≡ Some b → b ≡ a + 0
    one a b e = let same : a ≡ b = cc in omega (arith, same)

-- among names of which one stands at a number, the place of that name is no greater
pub named_among : (n : ℕ) (key : List ℕ) (name : ℕ → List ℕ) (above rest : List ℕ) (q : ℕ) → has above q ≡ true → pointwise nat_eq (lower_case (name q)) key ≡ true
    → (u : ℕ) × (place_from n key (map name (above ++ rest)) ≡ Some u) × (u < n + length above)
unfolding place_from
named_among n key name [] rest q h t = absurd (both_ways false refl h)
named_among n key name (p ∷ above) rest q h t =
    elim (cases_Bool (pointwise nat_eq (lower_case (name p)) key)) [
      | inl e ↦ (n, ap (λ b. if b then Some n else place_from (n + 1) key (map name (above ++ rest))) e, omega arith)
      | inr f ↦
          let (u, e, l) = named_among (n + 1) key name above rest q (later f (or_cases (nat_eq p q) (has above q) h)) t in
          (u, ap (λ b. if b then Some n else place_from (n + 1) key (map name (above ++ rest))) f ∙ e, omega (arith, l))
    ]
  where
    later : pointwise nat_eq (lower_case (name p)) key ≡ false → (nat_eq p q ≡ true) ⊎ (has above q ≡ true) → has above q ≡ true
    later f (inl e) = absurd (both_ways _ f (ap (λ x. pointwise nat_eq (lower_case (name x)) key) (eqb-true p q e) ∙ t))
    later f (inr h) = h
