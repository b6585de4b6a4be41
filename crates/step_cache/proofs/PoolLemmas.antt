-- A pool and the texts that it has.
use Rattle.std.proofs.Common.{◌≡◌, ◌∙◌, ◌++◌, ◌+◌, ◌||◌, ℕ, List, [], ◌∷◌, Bool, true, false, not, cond, sym, ap, refl, suc, arith, Some, rules}
use Rattle.std.specs.Prelude.{slice_get}
use Rattle.std.specs.List.{list_any, position_or_len}
use Rattle.step_cache.specs.Decoding.{HasTexts}
use Rattle.step_cache.specs.Pools.{text_is, has_text, with_text, with_texts, number_in}

pub text_is-true : (a b : List ℕ) → text_is a b ≡ true → a ≡ b
unfolding text_is
text_is-true a b e = search rules

pub text_is-same : (a : List ℕ) → text_is a a ≡ true
unfolding text_is
text_is-same a = search rules

-- a text that the pool has is found by its number
pub found_by_number : (pool : List (List ℕ)) (text : List ℕ) → has_text pool text ≡ true → slice_get pool (number_in pool text) ≡ Some text
unfolding has_text number_in
found_by_number [] text h = cc
found_by_number (p ∷ pool) text h = step (text_is text p) refl h (found_by_number pool text)
  where
    step : (b : Bool) → text_is text p ≡ b → (b || list_any (text_is text) pool) ≡ true
        → (list_any (text_is text) pool ≡ true → slice_get pool (position_or_len (text_is text) pool) ≡ Some text)
        → slice_get (p ∷ pool) (cond (not b) (1 + position_or_len (text_is text) pool) 0) ≡ Some text
    step true e has more = ap Some (sym (text_is-true text p e))
    step false e has more = at_one_more (position_or_len (text_is text) pool) (more has)
      where
        at_one_more : (n : ℕ) → slice_get pool n ≡ Some text → slice_get (p ∷ pool) (1 + n) ≡ Some text
        at_one_more n f = let e : 1 + n ≡ suc n = omega arith in rw e f

pub has_push : (pool : List (List ℕ)) (text : List ℕ) → has_text (pool ++ text ∷ []) text ≡ true
unfolding has_text
has_push [] text = ap (λ b. b || false) (text_is-same text)
has_push (p ∷ pool) text = or_right (text_is text p) _ (has_push pool text)
  where
    or_right : (a b : Bool) → b ≡ true → (a || b) ≡ true
    or_right true b e = refl
    or_right false b e = e

pub has_more : (pool more : List (List ℕ)) (text : List ℕ) → has_text pool text ≡ true → has_text (pool ++ more) text ≡ true
unfolding has_text
has_more [] more text h = cc
has_more (p ∷ pool) more text h = step (text_is text p) h (has_more pool more text)
  where
    step : (a : Bool) → (a || list_any (text_is text) pool) ≡ true
        → (list_any (text_is text) pool ≡ true → list_any (text_is text) (pool ++ more) ≡ true)
        → (a || list_any (text_is text) (pool ++ more)) ≡ true
    step true e rest = refl
    step false e rest = rest e

pub number_more : (pool more : List (List ℕ)) (text : List ℕ) → has_text pool text ≡ true → number_in (pool ++ more) text ≡ number_in pool text
unfolding has_text number_in
number_more [] more text h = cc
number_more (p ∷ pool) more text h = step (text_is text p) h (number_more pool more text)
  where
    step : (b : Bool) → (b || list_any (text_is text) pool) ≡ true
        → (list_any (text_is text) pool ≡ true → position_or_len (text_is text) (pool ++ more) ≡ position_or_len (text_is text) pool)
        → cond (not b) (1 + position_or_len (text_is text) (pool ++ more)) 0 ≡ cond (not b) (1 + position_or_len (text_is text) pool) 0
    step true e rest = refl
    step false e rest = ap (λ (n : ℕ). 1 + n) (rest e)

pub has_added : (pool : List (List ℕ)) (text : List ℕ) → has_text (with_text pool text) text ≡ true
unfolding with_text
has_added pool text = step (has_text pool text) refl
  where
    step : (b : Bool) → has_text pool text ≡ b → has_text (cond b pool (pool ++ text ∷ [])) text ≡ true
    step true e = e
    step false e = has_push pool text

-- what the one pool has, the other has at the same number
pub record Extends (pool more : List (List ℕ)) : Type 0 where
  pub has : (text : List ℕ) → has_text pool text ≡ true → has_text more text ≡ true
  pub number : (text : List ℕ) → has_text pool text ≡ true → number_in more text ≡ number_in pool text

extends-same : (pool : List (List ℕ)) → Extends pool pool
extends-same pool = record { has = λ text h. h; number = λ text h. refl }

pub extends-one : (pool : List (List ℕ)) (added : List ℕ) → Extends pool (with_text pool added)
unfolding with_text
extends-one pool added = step (has_text pool added)
  where
    step : (b : Bool) → Extends pool (cond b pool (pool ++ added ∷ []))
    step true = extends-same pool
    step false = record {
      has = λ text h. has_more pool (added ∷ []) text h;
      number = λ text h. number_more pool (added ∷ []) text h;
    }

pub extends-then : (a b c : List (List ℕ)) → Extends a b → Extends b c → Extends a c
extends-then a b c e f = record {
  has = λ text h. f.has text (e.has text h);
  number = λ text h. f.number text (e.has text h) ∙ e.number text h;
}

pub extends-all : (pool texts : List (List ℕ)) → Extends pool (with_texts pool texts)
extends-all pool [] = extends-same pool
extends-all pool (t ∷ texts) =
    extends-then pool (with_text pool t) (with_texts (with_text pool t) texts) (extends-one pool t) (extends-all (with_text pool t) texts)

pub has_texts-more : (pool more texts : List (List ℕ)) → Extends pool more → HasTexts pool texts → HasTexts more texts
has_texts-more pool more [] e h = tt
has_texts-more pool more (t ∷ texts) e h = (e.has t h.0, has_texts-more pool more texts e h.1)

pub has_left : (pool texts more : List (List ℕ)) → HasTexts pool (texts ++ more) → HasTexts pool texts
has_left pool [] more h = tt
has_left pool (t ∷ texts) more h = (h.0, has_left pool texts more h.1)

pub has_right : (pool texts more : List (List ℕ)) → HasTexts pool (texts ++ more) → HasTexts pool more
has_right pool [] more h = h
has_right pool (t ∷ texts) more h = has_right pool texts more h.1

-- a pool has the texts that were put
pub all_there : (pool texts : List (List ℕ)) → HasTexts (with_texts pool texts) texts
all_there pool [] = tt
all_there pool (t ∷ texts) =
    ((extends-all (with_text pool t) texts).has t (has_added pool t), all_there (with_text pool t) texts)

pub with_texts-append : (pool texts more : List (List ℕ)) → with_texts pool (texts ++ more) ≡ with_texts (with_texts pool texts) more
with_texts-append pool [] more = refl
with_texts-append pool (t ∷ texts) more = with_texts-append (with_text pool t) texts more

pub number_last : (pool : List (List ℕ)) (text : List ℕ) → has_text pool text ≡ false → number_in (pool ++ text ∷ []) text ≡ number_in pool text
unfolding has_text number_in
number_last [] text h = rw (text_is-same text) refl
number_last (p ∷ pool) text h = step (text_is text p) h (number_last pool text)
  where
    step : (b : Bool) → (b || list_any (text_is text) pool) ≡ false
        → (list_any (text_is text) pool ≡ false → position_or_len (text_is text) (pool ++ text ∷ []) ≡ position_or_len (text_is text) pool)
        → cond (not b) (1 + position_or_len (text_is text) (pool ++ text ∷ [])) 0 ≡ cond (not b) (1 + position_or_len (text_is text) pool) 0
    step true e rest = refl
    step false e rest = ap (λ (n : ℕ). 1 + n) (rest e)

-- a text that is put has the number that it had, or that of the end
pub number_put : (pool : List (List ℕ)) (text : List ℕ) → number_in (with_text pool text) text ≡ number_in pool text
unfolding with_text
number_put pool text = step (has_text pool text) refl
  where
    step : (b : Bool) → has_text pool text ≡ b → number_in (cond b pool (pool ++ text ∷ [])) text ≡ number_in pool text
    step true e = refl
    step false e = number_last pool text e
