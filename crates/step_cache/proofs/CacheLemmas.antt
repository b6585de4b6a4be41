-- A text is that of one cache.
use Rattle.std.proofs.Common.{◌≡◌, ◌∙◌, ℕ, List, [], ◌∷◌, Bool, true, drop, map, sym, ap, ap₂, refl, Some, subst}
use Rattle.std.specs.Prelude.{slice_get}
use Rattle.std.specs.List.{list_all, flat_map}
use Rattle.packed_values.specs.Encoding.{Encoding}
use Rattle.packed_values.specs.Plain.{and_left}
use Rattle.packed_values.specs.Parts.{and_right}
use Rattle.packed_values.proofs.WholeLemmas.{encoded_once}
use Rattle.packed_outcomes.specs.Talk.{answer_encoding, outcome_encoding}
use Rattle.step_engine.specs.declared.talk.Answer.{Answer}
use Rattle.step_engine.specs.declared.talk.Ask.{Ask}
use Rattle.step_engine.specs.declared.talk.Batch.{Batch}
use Rattle.step_engine.specs.declared.talk.Entry.{Entry}
use Rattle.step_engine.specs.declared.talk.Outcome.{Outcome}
use Rattle.step_engine.specs.declared.talk.Pair.{Pair}
use Rattle.step_pack.specs.declared.key.Key.{Key}
use Rattle.step_pack.specs.declared.out.Out.{Out}
use Rattle.step_cache.specs.CacheText.{pair_texts, batch_texts, entry_texts, cache_texts, numbered_pair, numbered_batch, numbered, pooled, pair_is_value, batch_is_value, entry_is_value, IsTextOf}
use Rattle.step_cache.specs.Decoding.{HasTexts}
use Rattle.step_cache.specs.Numbered.{pooled_encoding}
use Rattle.step_cache.specs.Pools.{has_text, number_in, pool_of}
use Rattle.step_cache.specs.declared.numbered.Asked.{Asked}
use Rattle.step_cache.specs.declared.numbered.Numbered.{Numbered}
use Rattle.step_cache.specs.declared.numbered.Pooled.{Pooled}
use Rattle.step_cache.proofs.PoolLemmas.{found_by_number, has_left, has_right, all_there}
use Rattle.step_cache.proofs.TextLemmas.{body_encoded}

-- items with one number are the same
abbrev pub TellsApart : {A B : Type 0} → List (List ℕ) → (A → B) → (A → Bool) → (A → List (List ℕ)) → Type 0
TellsApart {A} pool number value texts = (x y : A) → value x ≡ true → value y ≡ true → HasTexts pool (texts x) → HasTexts pool (texts y) → number x ≡ number y → x ≡ y

apart_list : {A B : Type 0} (pool : List (List ℕ)) (number : A → B) (value : A → Bool) (texts : A → List (List ℕ))
    → TellsApart pool number value texts → TellsApart pool (map number) (list_all value) (flat_map texts)
apart_list pool number value texts apart [] [] vx vy hx hy e = refl
apart_list pool number value texts apart [] (y ∷ ys) vx vy hx hy e = cc
apart_list pool number value texts apart (x ∷ xs) [] vx vy hx hy e = cc
apart_list {A} {B} pool number value texts apart (x ∷ xs) (y ∷ ys) vx vy hx hy e =
    let row : A → List A → List A = λ a b. a ∷ b in
    let heads : number x ≡ number y = cc in
    let tails : map number xs ≡ map number ys = cc in
    ap₂ row
    (apart x y (and_left (value x) (list_all value xs) vx) (and_left (value y) (list_all value ys) vy)
    (has_left pool (texts x) (flat_map texts xs) hx) (has_left pool (texts y) (flat_map texts ys) hy) heads)
    (apart_list pool number value texts apart xs ys (and_right (value x) (list_all value xs) vx) (and_right (value y) (list_all value ys) vy)
    (has_right pool (texts x) (flat_map texts xs) hx) (has_right pool (texts y) (flat_map texts ys) hy) tails)

apart_value : {A : Type 0} (encoding : Encoding A) (pool : List (List ℕ)) (x y : A) → encoding.is_value x ≡ true → encoding.is_value y ≡ true
    → has_text pool (encoding.encode x) ≡ true → has_text pool (encoding.encode y) ≡ true
    → number_in pool (encoding.encode x) ≡ number_in pool (encoding.encode y) → x ≡ y
apart_value encoding pool x y vx vy hx hy e =
    let same : Some (encoding.encode x) ≡ Some (encoding.encode y) =
    sym (found_by_number pool (encoding.encode x) hx) ∙ ap (slice_get pool) e ∙ found_by_number pool (encoding.encode y) hy in
    let texts : encoding.encode x ≡ encoding.encode y = cc in
    encoded_once encoding (encoding.encode y) x y (record { value = vx; text = sym texts }) (record { value = vy; text = refl })

module _ (pool : List (List ℕ)) where
  apart_pair : TellsApart pool (numbered_pair pool) pair_is_value pair_texts
  apart_pair p q vx vy hx hy e =
      let pair : Ask Key → Answer Out → Pair Key Out = λ a b. record { ask = a; answer = b } in
      ap₂ pair (ap (λ (a : Asked). a.ask) e) (apart_value answer_encoding pool p.answer q.answer vx vy hx.0 hy.0 (ap (λ (a : Asked). a.number) e))

  apart_batch : TellsApart pool (numbered_batch pool) batch_is_value batch_texts
  apart_batch a b vx vy hx hy e =
      ap (λ (pairs : List (Pair Key Out)). record { pairs = pairs }) (apart_list pool (numbered_pair pool) pair_is_value pair_texts apart_pair a.pairs b.pairs vx vy hx hy e)

  apart_entry : TellsApart pool (numbered pool) entry_is_value entry_texts
  apart_entry a b vx vy hx hy e =
      let first = flat_map batch_texts a.talk.batches in
      let second = flat_map batch_texts b.talk.batches in
      let one = outcome_encoding.encode a.result ∷ [] in
      let two = outcome_encoding.encode b.result ∷ [] in
      let talks = apart_list pool (numbered_batch pool) batch_is_value batch_texts apart_batch a.talk.batches b.talk.batches
      (and_left (list_all batch_is_value a.talk.batches) (outcome_encoding.is_value a.result) vx) (and_left (list_all batch_is_value b.talk.batches) (outcome_encoding.is_value b.result) vy)
      (has_left pool first one hx) (has_left pool second two hy) (ap (λ (n : Numbered). n.batches) e) in
      let results = apart_value outcome_encoding pool a.result b.result
      (and_right (list_all batch_is_value a.talk.batches) (outcome_encoding.is_value a.result) vx) (and_right (list_all batch_is_value b.talk.batches) (outcome_encoding.is_value b.result) vy)
      (has_right pool first one hx).0 (has_right pool second two hy).0 (ap (λ (n : Numbered). n.result) e) in
      let keys : a.key ≡ b.key = ap (λ (n : Numbered). n.key) e in
      let entry : Key → List (Batch Key Out) → Outcome Out → Entry Key Out = λ k talk r. record { key = k; talk = record { batches = talk }; result = r } in
      ap (λ (k : Key). entry k a.talk.batches a.result) keys ∙ ap₂ (entry b.key) talks results

-- parts are those of one cache
same_parts : (a b : List (Entry Key Out)) → pooled a ≡ pooled b → list_all entry_is_value a ≡ true → list_all entry_is_value b ≡ true → a ≡ b
unfolding pooled
same_parts a b e va vb =
    let pool = pool_of (cache_texts b) in
    let pools : pool_of (cache_texts a) ≡ pool = ap (λ (p : Pooled). p.pool) e in
    let numbers : map (numbered pool) a ≡ map (numbered pool) b =
    ap (λ (p : List (List ℕ)). map (numbered p) a) (sym pools) ∙ ap (λ (p : Pooled). p.entries) e in
    apart_list pool (numbered pool) entry_is_value entry_texts (apart_entry pool) a b va vb
    (subst (λ (p : List (List ℕ)). HasTexts p (cache_texts a)) pools (all_there [] (cache_texts a))) (all_there [] (cache_texts b)) numbers

pub same_cache : (d e : ℕ) (a b : List (Entry Key Out)) (text : List ℕ) → IsTextOf d a text → IsTextOf e b text → a ≡ b
same_cache d e a b text s t =
    same_parts a b (encoded_once pooled_encoding (drop 20 text) (pooled a) (pooled b) (body_encoded d a text s) (body_encoded e b text t)) s.answers t.answers
