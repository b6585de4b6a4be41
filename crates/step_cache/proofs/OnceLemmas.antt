-- Pools in which each text stands once.
use Rattle.std.proofs.Common.{◌≡◌, ◌∙◌, ◌++◌, ◌<◌, ◌+◌, ◌||◌, ◌⊎◌, inl, inr, ℕ, List, [], ◌∷◌, Bool, true, false, not, cond, length, sym, ap, refl, zero, suc, arith, Some, append_assoc, append-nil, subst}
use Rattle.std.specs.Prelude.{slice_get}
use Rattle.std.specs.List.{list_any, position_or_len}
use Rattle.step_cache.specs.Checking.{each_new}
use Rattle.step_cache.specs.Pools.{text_is, has_text, with_text, with_texts, number_in}
use Rattle.step_cache.proofs.PoolLemmas.{text_is-same, number_more, number_last}

-- a number beyond the texts of the pool is that of a text which it lacks
pub number_below : (pool : List (List ℕ)) (text : List ℕ) → has_text pool text ≡ true → number_in pool text < length pool
unfolding has_text number_in
number_below [] text h = cc
number_below (p ∷ pool) text h = step (text_is text p) h (number_below pool text)
  where
    step : (b : Bool) → (b || list_any (text_is text) pool) ≡ true
        → (list_any (text_is text) pool ≡ true → position_or_len (text_is text) pool < length pool)
        → cond (not b) (1 + position_or_len (text_is text) pool) 0 < length (p ∷ pool)
    step true e rest = omega arith
    step false e rest = omega (arith, rest e)

pub number_end : (pool : List (List ℕ)) (text : List ℕ) → has_text pool text ≡ false → number_in pool text ≡ length pool
unfolding has_text number_in
number_end [] text h = refl
number_end (p ∷ pool) text h = step (text_is text p) h (number_end pool text)
  where
    step : (b : Bool) → (b || list_any (text_is text) pool) ≡ false
        → (list_any (text_is text) pool ≡ false → position_or_len (text_is text) pool ≡ length pool)
        → cond (not b) (1 + position_or_len (text_is text) pool) 0 ≡ length (p ∷ pool)
    step true e rest = cc
    step false e rest = omega (arith, rest e)

-- a text that stands in a pool is there
pub has_at : (pool : List (List ℕ)) (n : ℕ) (text : List ℕ) → slice_get pool n ≡ Some text → has_text pool text ≡ true
unfolding has_text
has_at [] n text e = cc
has_at (p ∷ pool) zero text e =
    let same : p ≡ text = cc in
    ap (λ (t : List ℕ). text_is text t || list_any (text_is text) pool) same ∙ ap (λ (b : Bool). b || list_any (text_is text) pool) (text_is-same text)
has_at (p ∷ pool) (suc n) text e = or_right (text_is text p) (list_any (text_is text) pool) (has_at pool n text e)
  where
    or_right : (a b : Bool) → b ≡ true → (a || b) ≡ true
    or_right true b e = refl
    or_right false b e = e

get_push : (pool : List (List ℕ)) (text : List ℕ) (n : ℕ) (x : List ℕ) → slice_get (pool ++ text ∷ []) n ≡ Some x
    → (slice_get pool n ≡ Some x) ⊎ ((n ≡ length pool) × (x ≡ text))
get_push [] text zero x e = let same : x ≡ text = cc in inr (refl, same)
get_push [] text (suc n) x e = cc
get_push (p ∷ pool) text zero x e = inl e
get_push (p ∷ pool) text (suc n) x e = (elim (get_push pool text n x e) as (λ _. (slice_get pool n ≡ Some x) ⊎ ((suc n ≡ length (p ∷ pool)) × (x ≡ text))) [
  | inl l ↦ inl l
  | inr r ↦ inr (omega (arith, r.0), r.1)
])

pub get_middle : (before : List (List ℕ)) (text : List ℕ) (after : List (List ℕ)) → slice_get (before ++ text ∷ after) (length before) ≡ Some text
get_middle [] text after = refl
get_middle (b ∷ before) text after = get_middle before text after

-- each text has the number of its place
abbrev pub EachOnce : List (List ℕ) → Type 0
EachOnce pool = (n : ℕ) (text : List ℕ) → slice_get pool n ≡ Some text → number_in pool text ≡ n

pub once_none : EachOnce []
once_none n text e = cc

pub once_push : (pool : List (List ℕ)) (text : List ℕ) → EachOnce pool → has_text pool text ≡ false → EachOnce (pool ++ text ∷ [])
once_push pool text once none n x e =
    elim (get_push pool text n x e) as (λ _. number_in (pool ++ text ∷ []) x ≡ n) [
      | inl l ↦ number_more pool (text ∷ []) x (has_at pool n x l) ∙ once n x l
      | inr r ↦
          ap (λ (t : List ℕ). number_in (pool ++ text ∷ []) t) r.1 ∙ number_last pool text none ∙ number_end pool text none ∙ sym r.0
    ]

once_with : (pool : List (List ℕ)) (text : List ℕ) → EachOnce pool → EachOnce (with_text pool text)
unfolding with_text
once_with pool text once = step (has_text pool text) refl
  where
    step : (b : Bool) → has_text pool text ≡ b → EachOnce (cond b pool (pool ++ text ∷ []))
    step true e = once
    step false e = once_push pool text once e

pub once_texts : (pool texts : List (List ℕ)) → EachOnce pool → EachOnce (with_texts pool texts)
once_texts pool [] once = once
once_texts pool (t ∷ texts) once = once_texts (with_text pool t) texts (once_with pool t once)

-- what the test says of a pool
pub once_all : (before texts : List (List ℕ)) → EachOnce before → each_new before texts ≡ true → EachOnce (before ++ texts)
unfolding each_new
once_all before [] once e = subst EachOnce (sym (append-nil before)) once
once_all before (t ∷ texts) once e = step (has_text before t) refl e (λ o f. once_all (before ++ t ∷ []) texts o f)
  where
    step : (b : Bool) → has_text before t ≡ b → cond b false (each_new (before ++ t ∷ []) texts) ≡ true
        → (EachOnce (before ++ t ∷ []) → each_new (before ++ t ∷ []) texts ≡ true → EachOnce ((before ++ t ∷ []) ++ texts)) → EachOnce (before ++ t ∷ texts)
    step true h e more = cc
    step false h e more = subst EachOnce (append_assoc before (t ∷ []) texts) (more (once_push before t once h) e)

pub new_all : (before texts : List (List ℕ)) → EachOnce (before ++ texts) → each_new before texts ≡ true
unfolding each_new
new_all before [] once = refl
new_all before (t ∷ texts) once =
    step (has_text before t) refl (new_all (before ++ t ∷ []) texts (subst EachOnce (sym (append_assoc before (t ∷ []) texts)) once))
  where
    step : (b : Bool) → has_text before t ≡ b → each_new (before ++ t ∷ []) texts ≡ true → cond b false (each_new (before ++ t ∷ []) texts) ≡ true
    step true h more =
        let here = once (length before) t (get_middle before t texts) in
        let there = number_more before (t ∷ texts) t h in
        absurd (omega (arith, here, there, number_below before t h))
    step false h more = more
