-- Noted numbers of answers to parts, and answers that are the same since their numbers are.
use Rattle.std.proofs.Common.{◌≡◌, ◌∙◌, ◌-◌, ◌<◌, ℕ, length, take, drop, take_all, get_or, List, [], ◌∷◌, Option, Some, None, Contains, inl, inr, refl, sym, ap, subst, arith, option_map}
use Rattle.step_engine.proofs.Caches.{Contains-cons, Contains-cons_cases}
use Rattle.step_engine.specs.Agreeing.{HasPair, Agree}
use Rattle.step_engine.specs.declared.talk.Answer.{Answer}
use Rattle.step_engine.specs.declared.talk.Batch.{Batch}
use Rattle.step_engine.specs.declared.talk.Entry.{Entry}
use Rattle.step_engine.specs.declared.talk.Outcome.{Outcome}
use Rattle.step_engine.specs.declared.talk.Pair.{Pair}
use Rattle.step_pack.specs.declared.key.Key.{Key}
use Rattle.step_pack.specs.declared.out.Out.{Out}
use Rattle.step_cache.specs.Agreement.{Table, IsNoted, Notes, HasIn, HasAskIn, AreOne}
use Rattle.step_cache.specs.Decoding.{value_at, consed, all_some, pair_of, pair_at, batch_of, batch_at, entry_with, entry_at}
use Rattle.step_cache.specs.declared.numbered.Asked.{Asked}
use Rattle.step_cache.specs.declared.numbered.Numbered.{Numbered}

notes_none : {B : Type 0} (Has : B → Asked → Type 0) (known : Table) → Notes (HasIn Has []) known known
notes_none Has known = record { noted = λ asked h. absurd (omega (arith, h.1.1)); keeps = λ p m h. h }

-- the asks of one more item
notes_more : {B : Type 0} (Has : B → Asked → Type 0) (x : B) (xs : List B) (old mid new : Table) → Notes (Has x) old mid → Notes (HasIn Has xs) mid new
    → Notes (HasIn Has (x ∷ xs)) old new
notes_more {B} Has x xs old mid new one rest = record {
  noted = λ asked h. (elim (Contains-cons_cases x xs h.0 h.1) as (λ _. IsNoted new asked) [
    | inl e ↦ (
        let here : Has x asked = subst (λ (y : B). Has y asked) (sym e) h.2 in
        λ part is. rest.keeps part asked.number (one.noted asked here part is))
    | inr c ↦ rest.noted asked (h.0, c, h.2)
  ]);
  keeps = λ p m h. rest.keeps p m (one.keeps p m h);
}

-- one more item of a loop was noted
pub one_noted : {B : Type 0} (Has : B → Asked → Type 0) (left whole : List B) (x : B) (old known mid : Table) (count : ℕ) → count ≡ length left → 0 < length left → x ≡ get_or left 0 x
    → Notes (Has x) known mid → ((new : Table) → Notes (HasIn Has left) known new → Notes (HasIn Has whole) old new)
    → (new : Table) → Notes (HasIn Has (take (count - 1) (drop 1 left))) mid new → Notes (HasIn Has whole) old new
one_noted Has [] whole x old known mid count e some is one all new rest = absurd (omega (arith, some))
one_noted {B} Has (y ∷ ys) whole x old known mid count e some is one all new rest =
    let here : Notes (Has y) known mid = subst (λ (z : B). Notes (Has z) known mid) is one in
    let whole_rest : take (count - 1) ys ≡ ys = take_all (count - 1) ys (omega (arith, e)) in
    all new (notes_more Has y ys known mid new here (subst (λ (zs : List B). Notes (HasIn Has zs) mid new) whole_rest rest))

-- all were noted
pub all_noted : {B : Type 0} (Has : B → Asked → Type 0) (left whole : List B) (old known : Table) → length left < 1
    → ((new : Table) → Notes (HasIn Has left) known new → Notes (HasIn Has whole) old new) → Notes (HasIn Has whole) old known
all_noted Has [] whole old known none all = all known (notes_none Has known)
all_noted Has (y ∷ ys) whole old known none all = absurd (omega (arith, none))

pub one_each : (entries : List Numbered) (old new : Table) → Notes (HasAskIn entries) old new → AreOne entries
one_each entries old new notes part a b ha hb pa pb =
    let both : Some a.number ≡ Some b.number = sym (notes.noted a ha part pa) ∙ notes.noted b hb part pb in
    cc

-- what is given is given for an item of the list
given_for : {A B : Type 0} (f : B → Option A) (y : B) (ys : List B) (xs : List A) (x : A) (a : Option A) (b : Option (List A)) → f y ≡ a → consed a b ≡ Some xs → Contains xs x
    → ((zs : List A) → b ≡ Some zs → Contains zs x → (w : B) × Contains ys w × (f w ≡ Some x)) → (w : B) × Contains (y ∷ ys) w × (f w ≡ Some x)
given_for f y ys xs x None b fa e c rest = cc
given_for f y ys xs x (Some z) None fa e c rest = cc
given_for {A} {B} f y ys xs x (Some z) (Some zs) fa e c rest =
    let is : xs ≡ z ∷ zs = cc in
    elim (Contains-cons_cases z zs x (subst (λ (l : List A). Contains l x) is c)) as (λ _. (w : B) × Contains (y ∷ ys) w × (f w ≡ Some x)) [
      | inl q ↦ (y, (0, omega arith, refl), fa ∙ ap Some q)
      | inr r ↦ (let i = rest zs refl r in (i.0, Contains-cons y ys i.0 i.1, i.2))
    ]

from_all : {A B : Type 0} (f : B → Option A) (ys : List B) (xs : List A) (x : A) → all_some f ys ≡ Some xs → Contains xs x → (y : B) × Contains ys y × (f y ≡ Some x)
from_all {A} f [] xs x e c =
    let none : xs ≡ [] = cc in
    let h = subst (λ (l : List A). Contains l x) none c in
    absurd (omega (arith, h.1))
from_all f (y ∷ ys) xs x e c = given_for f y ys xs x (f y) (all_some f ys) refl e c (λ zs g h. from_all f ys zs x g h)

module _ (answers : List (Option (Answer Out))) (results : List (Option (Outcome Out))) where
  pair_from : (asked : Asked) (pair : Pair Key Out) → pair_at answers asked ≡ Some pair → (asked.ask ≡ pair.ask) × (value_at answers asked.number ≡ Some pair.answer)
  pair_from asked pair e = step (value_at answers asked.number) refl e
    where
      step : (a : Option (Answer Out)) → value_at answers asked.number ≡ a → option_map (pair_of asked) a ≡ Some pair
          → (asked.ask ≡ pair.ask) × (value_at answers asked.number ≡ Some pair.answer)
      step None fa e = cc
      step (Some given) fa e =
          let is : pair_of asked given ≡ pair = cc in
          (ap (λ (p : Pair Key Out). p.ask) is, fa ∙ ap (λ (p : Pair Key Out). Some p.answer) is)

  batch_from : (asked : List Asked) (batch : Batch Key Out) → batch_at answers asked ≡ Some batch → all_some (pair_at answers) asked ≡ Some batch.pairs
  batch_from asked batch e = step (all_some (pair_at answers) asked) refl e
    where
      step : (a : Option (List (Pair Key Out))) → all_some (pair_at answers) asked ≡ a → option_map batch_of a ≡ Some batch → all_some (pair_at answers) asked ≡ Some batch.pairs
      step None fa e = cc
      step (Some pairs) fa e =
          let is : batch_of pairs ≡ batch = cc in
          fa ∙ ap (λ (b : Batch Key Out). Some b.pairs) is

  talk_from : (number : Numbered) (entry : Entry Key Out) → entry_at answers results number ≡ Some entry → all_some (batch_at answers) number.batches ≡ Some entry.talk.batches
  talk_from number entry e = step (all_some (batch_at answers) number.batches) (value_at results number.result) refl e
    where
      step : (a : Option (List (Batch Key Out))) (b : Option (Outcome Out)) → all_some (batch_at answers) number.batches ≡ a → entry_with number.key a b ≡ Some entry
          → all_some (batch_at answers) number.batches ≡ Some entry.talk.batches
      step None b fa e = cc
      step (Some batches) None fa e = cc
      step (Some batches) (Some given) fa e =
          let is : record { key = number.key; talk = record { batches = batches }; result = given } ≡ entry = cc in
          fa ∙ ap (λ (x : Entry Key Out). Some x.talk.batches) is

  -- a pair is that of an ask
  asked_from : (numbers : List Numbered) (entries : List (Entry Key Out)) (p : Pair Key Out) → all_some (entry_at answers results) numbers ≡ Some entries → HasPair entries p
      → (a : Asked) × HasAskIn numbers a × (a.ask ≡ p.ask) × (value_at answers a.number ≡ Some p.answer)
  asked_from numbers entries p e h =
      let number = from_all (entry_at answers results) numbers entries h.0 e h.2 in
      let batch = from_all (batch_at answers) number.0.batches h.0.talk.batches h.1 (talk_from number.0 h.0 number.2) h.3 in
      let asked = from_all (pair_at answers) batch.0 h.1.pairs p (batch_from batch.0 h.1 batch.2) h.4 in
      let is = pair_from asked.0 p asked.2 in
      (asked.0, (number.0, number.1, (batch.0, batch.1, (asked.0, asked.1, refl))), is.0, is.1)

  pub agree_one : (numbers : List Numbered) (entries : List (Entry Key Out)) → all_some (entry_at answers results) numbers ≡ Some entries → AreOne numbers → Agree entries
  agree_one numbers entries e one part p q hp hq ip iq =
      let a = asked_from numbers entries p e hp in
      let b = asked_from numbers entries q e hq in
      let n : a.0.number ≡ b.0.number = one part a.0 b.0 a.1 b.1 (a.2 ∙ ip) (b.2 ∙ iq) in
      let same : Some p.answer ≡ Some q.answer = sym a.3 ∙ ap (value_at answers) n ∙ b.3 in
      cc
