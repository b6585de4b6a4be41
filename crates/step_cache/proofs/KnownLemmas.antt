-- Noted numbers, in a pool that grows.
use Rattle.std.proofs.Common.{◌≡◌, ◌∙◌, ◌++◌, inl, inr, ◌<◌, ℕ, Bool, true, cond, List, [], ◌∷◌, Some, Contains, length, get_or, sym, ap, subst}
use Rattle.step_engine.specs.Agreeing.{HasPair, Agree}
use Rattle.step_engine.specs.Table.{IsPlaced}
use Rattle.step_engine.specs.declared.talk.Answer.{Answer}
use Rattle.step_engine.specs.declared.talk.Ask.{Ask}
use Rattle.step_engine.specs.declared.talk.Ask.TheVariants as ask
use Rattle.step_engine.specs.declared.talk.Batch.{Batch}
use Rattle.step_engine.specs.declared.talk.Entry.{Entry}
use Rattle.step_engine.specs.declared.talk.Pair.{Pair}
use Rattle.step_pack.specs.declared.key.Key.{Key}
use Rattle.step_pack.specs.declared.out.Out.{Out}
use Rattle.packed_outcomes.specs.Talk.{answer_encoding}
use Rattle.step_cache.specs.CacheText.{pair_text, pair_is_value, numbered_pair}
use Rattle.step_cache.specs.Known.{number_at, IsKnown, IsNumbered, AreNoted, Notes, AreAmong, AreAllAmong}
use Rattle.step_cache.specs.Pools.{has_text, with_text, number_in}
use Rattle.step_cache.proofs.PoolLemmas.{Extends, extends-one, has_added}

pub noted_none : (entries : List (Entry Key Out)) (pool : List (List ℕ)) → AreNoted entries pool []
noted_none entries pool n p h k = absurd (cc)

pub noted_more : (entries : List (Entry Key Out)) (pool more : List (List ℕ)) (known : List (Key × ℕ)) → Extends pool more → AreNoted entries pool known → AreNoted entries more known
noted_more entries pool more known e noted n p h k =
    let is = noted n p h k in
    record { has = e.has (pair_text p) is.has; number = e.number (pair_text p) is.has ∙ is.number; value = is.value }

-- a noted number
with_there : (pool : List (List ℕ)) (text : List ℕ) → has_text pool text ≡ true → pool ≡ with_text pool text
unfolding with_text
with_there pool text h = ap (λ (b : Bool). cond true pool (pool ++ text ∷ [])) h ∙ ap (λ (b : Bool). cond b pool (pool ++ text ∷ [])) (sym h)

pub noted_is : (entries : List (Entry Key Out)) (pool : List (List ℕ)) (known : List (Key × ℕ)) (p : Pair Key Out) (n : ℕ) → AreNoted entries pool known
    → HasPair entries p → IsKnown known p.ask n → IsNumbered pool p n
noted_is entries pool known p n noted h is = noted n p h is

pub noted_text : (entries : List (Entry Key Out)) (pool : List (List ℕ)) (known : List (Key × ℕ)) (p : Pair Key Out) (n : ℕ) → AreNoted entries pool known
    → HasPair entries p → IsKnown known p.ask n → pool ≡ with_text pool (pair_text p)
noted_text entries pool known p n noted h is = with_there pool (pair_text p) (noted n p h is).has

pub known_pair : (pool : List (List ℕ)) (p : Pair Key Out) (n : ℕ) (own : Ask Key) → IsNumbered pool p n → own ≡ p.ask
    → record { ask = own; number = n } ≡ numbered_pair pool p
known_pair pool p n own is same =
    ap (λ (a : Ask Key). record { ask = a; number = n }) same ∙ ap (λ (m : ℕ). record { ask = p.ask; number = m }) (sym is.number)

-- a number that was just given
pub given_number : (old new : List (List ℕ)) (p : Pair Key Out) (n : ℕ) → new ≡ with_text old (pair_text p) → n ≡ number_in new (pair_text p)
    → pair_is_value p ≡ true → IsNumbered new p n
given_number old new p n is number value = record {
  has = subst (λ (pool : List (List ℕ)). has_text pool (pair_text p) ≡ true) (sym is) (has_added old (pair_text p));
  number = sym number;
  value = value;
}

same_part : (a b : Key) → ask.Part a ≡ ask.Part b → a ≡ b
same_part a b e = cc

-- where all answers to a part are the same, the number of one is that of all
pub noted_put : (entries : List (Entry Key Out)) (p : Pair Key Out) (part : Key) (n : ℕ) (old new : List (Key × ℕ)) → Agree entries → p.ask ≡ ask.Part part
    → IsPlaced part n (number_at old) (number_at new) → Notes entries p n old new
noted_put entries p part n old new agree asks placed pool h is noted m q hq k =
    elim (placed.cases k.0) as (λ _. IsNumbered pool q m) [
      | inl both ↦
          let same : q.ask ≡ ask.Part part = k.1 ∙ ap (λ (j : Key). ask.Part j) (sym both.0) in
          let answers : p.answer ≡ q.answer = agree part p q h hq asks same in
          let number : n ≡ m = some_is (sym both.1 ∙ k.2) in
          record {
            has = ap (λ (a : Answer Out). has_text pool (answer_encoding.encode a)) (sym answers) ∙ is.has;
            number = ap (λ (a : Answer Out). number_in pool (answer_encoding.encode a)) (sym answers) ∙ is.number ∙ number;
            value = ap (λ (a : Answer Out). answer_encoding.is_value a) (sym answers) ∙ is.value;
          }
      | inr other ↦ noted m q hq (k.0, k.1, sym other ∙ k.2)
    ]
  where
    some_is : Some n ≡ Some m → n ≡ m
    some_is e = cc

-- the items of a list are among it
pub item_in : {A : Type 0} (xs : List A) (i : ℕ) (x : A) → i < length xs → x ≡ get_or xs i x → Contains xs x
item_in xs i x lt e = (i, lt, sym e)

pub among_at : (entries : List (Entry Key Out)) (pairs items : List (Pair Key Out)) (i : ℕ) (x : Pair Key Out) → AreAmong entries pairs → items ≡ pairs
    → i < length items → x ≡ get_or items i x → HasPair entries x
among_at entries pairs items i x among is lt e =
    among x (subst (λ (ps : List (Pair Key Out)). Contains ps x) is (item_in items i x lt e))

pub entry_among : (entries : List (Entry Key Out)) (e : Entry Key Out) → Contains entries e → AreAllAmong entries e.talk.batches
entry_among entries e h b hb p hp = (e, b, h, hb, hp)

pub talk_among : (entries : List (Entry Key Out)) (e : Entry Key Out) (talk : List (Batch Key Out)) → Contains entries e → talk ≡ e.talk.batches → AreAllAmong entries talk
talk_among entries e talk h is = subst (AreAllAmong entries) (sym is) (entry_among entries e h)

-- one text more was put
pub noted_with : (entries : List (Entry Key Out)) (old new : List (List ℕ)) (text : List ℕ) (known : List (Key × ℕ)) → new ≡ with_text old text
    → AreNoted entries old known → AreNoted entries new known
noted_with entries old new text known is noted =
    noted_more entries old new known (subst (Extends old) (sym is) (extends-one old text)) noted

-- the answer of a pair was put, and its number noted
pub noted_new : (entries : List (Entry Key Out)) (p : Pair Key Out) (n : ℕ) (old new : List (List ℕ)) (before after : List (Key × ℕ))
    → Notes entries p n before after → HasPair entries p → new ≡ with_text old (pair_text p) → n ≡ number_in new (pair_text p) → pair_is_value p ≡ true
    → AreNoted entries old before → AreNoted entries new after
noted_new entries p n old new before after notes h is number value noted =
    notes new h (given_number old new p n is number value) (noted_with entries old new (pair_text p) before is noted)

-- nothing was noted
pub noted_same : (entries : List (Entry Key Out)) (p : Pair Key Out) (n : ℕ) (old new : List (Key × ℕ)) → new ≡ old → Notes entries p n old new
noted_same entries p n old new is pool h numbered noted = subst (AreNoted entries pool) (sym is) noted
