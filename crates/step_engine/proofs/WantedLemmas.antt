-- All parts that are wanted.
use Rattle.std.proofs.Common.{◌≡◌, ℕ, zero, suc, ◌+◌, ◌<◌, ◌≤◌, ◌++◌, ◌⊎◌, List, [], ◌∷◌, Some, refl, sym, ap, ◌∙◌, subst, Contains, inl, inr, arith, length, get_or, slice_get}
use Rattle.std.proofs.lemmas.List.Elements.{Contains-push_cases, Contains-append_left}
use Rattle.std.proofs.lemmas.List.{get_or_default}
use Rattle.std.proofs.lemmas.Option.{slice_get_read}
use borrow.Author.Count.{below_more}
use Rattle.step_engine.specs.Meaning.{asks_of}
use Rattle.step_engine.specs.Table.{Known, IsDone}
use Rattle.step_engine.specs.Items.{item_key}
use Rattle.step_engine.specs.Wanting.{IsAskedBy}
use Rattle.step_engine.specs.Forward.{Wants, Misses, AreDone}
use Rattle.step_engine.specs.declared.talk.Ask.{Ask}
use Rattle.step_engine.specs.declared.talk.Ask.TheVariants as ask
use Rattle.step_engine.specs.declared.talk.Pair.{Pair}
use Rattle.step_engine.specs.declared.talk.Batch.{Batch}
use Rattle.step_engine.specs.declared.items.Item.{Item}
use Rattle.step_engine.specs.declared.items.Asked.{Asked}
use Rattle.step_engine.specs.declared.items.Check.{Check}
use Rattle.step_engine.specs.declared.items.Item.TheVariants as item
use Rattle.step_engine.proofs.Moves.{none_in}

-- the part is that of one of the first asks
abbrev pub PartAt : {K : Type 0} → List (Ask K) → ℕ → K → Type 0
PartAt {K} asks i p = (j : ℕ) × (j < i) × (get_or asks j (ask.Part p) ≡ ask.Part p)

module _ {K : Type 0} (rank : K → ℕ) (t : Known K) (k : K) where
  pub wants_start : (asks : List (Ask K)) (old : List K) → Wants rank t k (PartAt asks 0) old old
  wants_start asks old = record {
    lower = λ p h. inl h;
    kept = λ p h. h;
    whole = λ p h l. absurd (omega (arith, h.1));
  }

  pub wants_step : (asks : List (Ask K)) (i : ℕ) (a : Ask K) (old mid new : List K) → Wants rank t k (PartAt asks i) old mid → Wants rank t k (λ p. a ≡ ask.Part p) mid new → ((d : Ask K) → get_or asks i d ≡ a) → Wants rank t k (PartAt asks (i + 1)) old new
  wants_step asks i a old mid new f h is = record {
    lower = λ p c. (elim (h.lower p c) as (λ _. Contains old p ⊎ (rank p < rank k)) [ inl l ↦ f.lower p l | inr r ↦ inr r ]);
    kept = λ p c. h.kept p (f.kept p c);
    whole = λ p q l.
        let P : ℕ → Type 0 = λ j. get_or asks j (ask.Part p) ≡ ask.Part p → IsDone (t p) ⊎ Contains new p in
        let below : (j : ℕ) → j < i → P j = λ j m e. (elim (f.whole p (j, m, e) l) as (λ _. IsDone (t p) ⊎ Contains new p) [ inl d ↦ inl d | inr c ↦ inr (h.kept p c) ]) in
        let here : P i = λ e. h.whole p (sym (is (ask.Part p)) ∙ e) l in
        below_more P i below here q.0 q.1 q.2;
  }

  pub wants_all : (asks : List (Ask K)) (i : ℕ) (old new : List K) → Wants rank t k (PartAt asks i) old new → length asks ≤ i → Wants rank t k (λ p. Contains asks (ask.Part p)) old new
  wants_all asks i old new f l = record {
    lower = f.lower;
    kept = f.kept;
    whole = λ p h m. f.whole p (h.0, omega (arith, h.1), h.2) m;
  }

pub ask_at : {K : Type 0} (asks xs : List (Ask K)) (i : ℕ) (a : Ask K) → xs ≡ asks → i < length xs → a ≡ get_or xs i a → (d : Ask K) → get_or asks i d ≡ a
ask_at {K} asks xs i a same l e d = subst (λ (ys : List (Ask K)). get_or ys i d ≡ a) same (get_or_default xs i d a l ∙ sym e)

asks_read : {K O : Type 0} (ps : List (Pair K O)) (i : ℕ) (p : Pair K O) (d : Ask K) → i < length ps → p ≡ get_or ps i p → get_or (asks_of ps) i d ≡ p.ask
asks_read [] i p d l e = absurd (omega (arith, l))
asks_read {K} {O} (q ∷ ps) zero p d l e = ap (λ (p : Pair K O). p.ask) (sym e)
asks_read (q ∷ ps) (suc i) p d l e = asks_read ps i p d (omega (arith, l)) e

pub pair_at : {K O : Type 0} (pairs xs : List (Pair K O)) (i : ℕ) (p : Pair K O) → xs ≡ pairs → i < length xs → p ≡ get_or xs i p → (d : Ask K) → get_or (asks_of pairs) i d ≡ p.ask
pair_at {K} {O} pairs xs i p same l e d = subst (λ (ys : List (Pair K O)). get_or (asks_of ys) i d ≡ p.ask) same (asks_read xs i p d l e)

pub asks_length : {K O : Type 0} (ps : List (Pair K O)) → length (asks_of ps) ≡ length ps
asks_length [] = refl
asks_length (p ∷ ps) = ap suc (asks_length ps)

pub asks_end : {K O : Type 0} (pairs xs : List (Pair K O)) (i : ℕ) → xs ≡ pairs → length xs ≤ i → length (asks_of pairs) ≤ i
asks_end {K} {O} pairs xs i same l = omega (arith, asks_length pairs, ap (λ (ys : List (Pair K O)). length ys) same)

pub wants_asked : {K O : Type 0} (rank : K → ℕ) (t : Known K) (i : Item K O) (a : Asked K O) (old new : List K) → i ≡ item.Asked a → Wants rank t a.key (λ p. Contains a.asks (ask.Part p)) old new → Wants rank t (item_key i) (λ p. IsAskedBy p i) old new
wants_asked rank t i a old new e h = rw e h

pub wants_check : {K O : Type 0} (rank : K → ℕ) (t : Known K) (i : Item K O) (c : Check K O) (xs : List (Batch K O)) (b : Batch K O) (old new : List K) → i ≡ item.Check c → xs ≡ c.entry.talk.batches → c.batch < length xs → b ≡ get_or xs c.batch b → Wants rank t c.entry.key (λ p. Contains (asks_of b.pairs) (ask.Part p)) old new → Wants rank t (item_key i) (λ p. IsAskedBy p i) old new
wants_check {K} {O} rank t i c xs b old new e same l g h =
    let here : slice_get c.entry.talk.batches c.batch ≡ Some b = subst (λ (ys : List (Batch K O)). slice_get ys c.batch ≡ Some b) same (slice_get_read xs (length xs) c.batch b refl l g) in
    rw e (record {
      lower = h.lower;
      kept = h.kept;
      whole = λ p q m. (let f : Some q.0 ≡ Some b = sym q.1 ∙ here in let s : q.0 ≡ b = cc in h.whole p (subst (λ (b : Batch K O). Contains (asks_of b.pairs) (ask.Part p)) s q.2) m);
    })

-- one part is taken off
module _ {K : Type 0} (t : Known K) (all xs ys : List K) (part : K) (is : xs ≡ ys ++ part ∷ []) (among : (p : K) → Contains xs p → Contains all p) (rest : (p : K) → Contains all p → IsDone (t p) ⊎ Contains xs p) where
  pub misses : (IsDone (t part) → ⊥) → Misses t all ys part
  misses out = record {
    undone = out;
    among = λ p c. among p (subst (λ (zs : List K). Contains zs p) (sym is) c);
    rest = λ p c. (elim (rest p c) as (λ _. IsDone (t p) ⊎ Contains (ys ++ part ∷ []) p) [ inl l ↦ inl l | inr r ↦ inr (subst (λ (zs : List K). Contains zs p) is r) ]);
  }

  pub misses_among : (p : K) → Contains ys p → Contains all p
  misses_among p c = among p (subst (λ (zs : List K). Contains zs p) (sym is) (Contains-append_left ys (part ∷ []) p c))

  pub misses_rest : IsDone (t part) → (p : K) → Contains all p → IsDone (t p) ⊎ Contains ys p
  misses_rest d p c = elim (rest p c) as (λ _. IsDone (t p) ⊎ Contains ys p) [
    | inl l ↦ inl l
    | inr r ↦ (elim (Contains-push_cases ys part p (subst (λ (zs : List K). Contains zs p) is r)) as (λ _. IsDone (t p) ⊎ Contains ys p) [
      | inl m ↦ inr m
      | inr e ↦ inl (subst (λ (p : K). IsDone (t p)) e d)
    ])
  ]

pub misses_none : {K : Type 0} (t : Known K) (all xs : List K) → xs ≡ [] → ((p : K) → Contains all p → IsDone (t p) ⊎ Contains xs p) → AreDone t all
misses_none {K} t all xs e rest p c = elim (rest p c) as (λ _. IsDone (t p)) [ inl l ↦ l | inr r ↦ absurd (none_in p (subst (λ (zs : List K). Contains zs p) e r)) ]
