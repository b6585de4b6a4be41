-- Numbers of a pool that grows.
use Rattle.std.proofs.Common.{◌≡◌, ◌∙◌, ◌++◌, ℕ, List, [], ◌∷◌, map, sym, ap, ap₂, refl, subst, append_assoc, append-nil}
use Rattle.std.specs.List.{flat_map}
use Rattle.std.proofs.lemmas.List.{map-append}
use Rattle.packed_outcomes.specs.Talk.{outcome_encoding}
use Rattle.step_engine.specs.declared.talk.Batch.{Batch}
use Rattle.step_engine.specs.declared.talk.Entry.{Entry}
use Rattle.step_pack.specs.declared.key.Key.{Key}
use Rattle.step_pack.specs.declared.out.Out.{Out}
use Rattle.step_cache.specs.CacheText.{pair_text, pair_texts, batch_texts, entry_texts, numbered_pair, numbered_batch, numbered}
use Rattle.step_cache.specs.Decoding.{HasTexts}
use Rattle.step_cache.specs.Pools.{with_text, with_texts, number_in}
use Rattle.step_cache.specs.declared.numbered.Asked.{Asked}
use Rattle.step_cache.specs.declared.numbered.Numbered.{Numbered}
use Rattle.step_cache.proofs.PoolLemmas.{Extends, extends-one, extends-all, has_left, has_right, all_there, with_texts-append}

-- what a pool gives for something stays as it is where the pool has its texts and grows
abbrev pub Stays : {A B : Type 0} → (List (List ℕ) → A → B) → (A → List (List ℕ)) → Type 0
Stays {A} {B} f texts = (pool more : List (List ℕ)) (x : A) → Extends pool more → HasTexts pool (texts x) → f more x ≡ f pool x

pub stays_map : {A B : Type 0} (f : List (List ℕ) → A → B) (texts : A → List (List ℕ)) → Stays f texts
    → Stays (λ pool xs. map (f pool) xs) (λ xs. flat_map texts xs)
stays_map f texts stays pool more [] e h = refl
stays_map {A} {B} f texts stays pool more (x ∷ xs) e h =
    let row : B → List B → List B = λ a b. a ∷ b in
    ap₂ row (stays pool more x e (has_left pool (texts x) (flat_map texts xs) h))
    (stays_map f texts stays pool more xs e (has_right pool (texts x) (flat_map texts xs) h))

pub flat_map-push : {A : Type 0} (texts : A → List (List ℕ)) (xs : List A) (x : A) → flat_map texts (xs ++ x ∷ []) ≡ flat_map texts xs ++ texts x
flat_map-push texts [] x = append-nil (texts x)
flat_map-push texts (y ∷ xs) x = ap (λ (ts : List (List ℕ)). texts y ++ ts) (flat_map-push texts xs x) ∙ sym (append_assoc (texts y) (flat_map texts xs) (texts x))

module _ {A B : Type 0} (f : List (List ℕ) → A → B) (texts : A → List (List ℕ)) (start pool next : List (List ℕ)) (xs : List A) (x : A)
    (before : pool ≡ with_texts start (flat_map texts xs)) (put : next ≡ with_texts pool (texts x)) where
  -- one more was numbered
  pub pool_step : next ≡ with_texts start (flat_map texts (xs ++ x ∷ []))
  pool_step =
      put ∙ ap (λ (p : List (List ℕ)). with_texts p (texts x)) before ∙ sym (with_texts-append start (flat_map texts xs) (texts x))
      ∙ ap (with_texts start) (sym (flat_map-push texts xs x))

  pub rows_step : Stays f texts → (rows : List B) (y : B) → rows ≡ map (f pool) xs → y ≡ f next x → rows ++ y ∷ [] ≡ map (f next) (xs ++ x ∷ [])
  rows_step stays rows y so_far is =
      let grows : Extends pool next = subst (Extends pool) (sym put) (extends-all pool (texts x)) in
      let there : HasTexts pool (flat_map texts xs) = subst (λ (p : List (List ℕ)). HasTexts p (flat_map texts xs)) (sym before) (all_there start (flat_map texts xs)) in
      let same : rows ≡ map (f next) xs = so_far ∙ sym (stays_map f texts stays pool next xs grows there) in
      ap₂ (λ (a : List B) (b : B). a ++ b ∷ []) same is ∙ sym (map-append (f next) xs (x ∷ []))

pub pair_stays : Stays numbered_pair pair_texts
pair_stays pool more pair e h = ap (λ (n : ℕ). record { ask = pair.ask; number = n }) (e.number (pair_text pair) h.0)

pub batch_stays : Stays numbered_batch batch_texts
batch_stays pool more batch e h = stays_map numbered_pair pair_texts pair_stays pool more batch.pairs e h

pub entry_stays : Stays numbered entry_texts
entry_stays pool more entry e h =
    let talk = flat_map batch_texts entry.talk.batches in
    let last = outcome_encoding.encode entry.result ∷ [] in
    let numbers : List (List Asked) → ℕ → Numbered = λ batches n. record { key = entry.key; batches = batches; result = n } in
    ap₂ numbers (stays_map numbered_batch batch_texts batch_stays pool more entry.talk.batches e (has_left pool talk last h))
    (e.number (outcome_encoding.encode entry.result) (has_right pool talk last h).0)

-- the batches of an entry keep their numbers when its result is put
pub batches_kept : (start pool next : List (List ℕ)) (batches : List (Batch Key Out)) (rows : List (List Asked)) (text : List ℕ)
    → pool ≡ with_texts start (flat_map batch_texts batches) → rows ≡ map (numbered_batch pool) batches → next ≡ with_text pool text
    → rows ≡ map (numbered_batch next) batches
batches_kept start pool next batches rows text before is put =
    let grows : Extends pool next = subst (Extends pool) (sym put) (extends-one pool text) in
    let there : HasTexts pool (flat_map batch_texts batches) = subst (λ (p : List (List ℕ)). HasTexts p (flat_map batch_texts batches)) (sym before) (all_there start (flat_map batch_texts batches)) in
    is ∙ sym (stays_map numbered_batch batch_texts batch_stays pool next batches grows there)

pub entry_pool : (start pool next : List (List ℕ)) (entry : Entry Key Out) → pool ≡ with_texts start (flat_map batch_texts entry.talk.batches)
    → next ≡ with_text pool (outcome_encoding.encode entry.result) → next ≡ with_texts start (entry_texts entry)
entry_pool start pool next entry before put =
    put ∙ ap (λ (p : List (List ℕ)). with_text p (outcome_encoding.encode entry.result)) before
    ∙ sym (with_texts-append start (flat_map batch_texts entry.talk.batches) (outcome_encoding.encode entry.result ∷ []))

pub entry_numbered : (start pool next : List (List ℕ)) (entry : Entry Key Out) (key : Key) (rows : List (List Asked)) (n : ℕ)
    → pool ≡ with_texts start (flat_map batch_texts entry.talk.batches) → rows ≡ map (numbered_batch pool) entry.talk.batches
    → next ≡ with_text pool (outcome_encoding.encode entry.result) → n ≡ number_in next (outcome_encoding.encode entry.result) → key ≡ entry.key
    → record { key = key; batches = rows; result = n } ≡ numbered next entry
entry_numbered start pool next entry key rows n before is put number same =
    let kept = batches_kept start pool next entry.talk.batches rows (outcome_encoding.encode entry.result) before is put in
    rw (kept, number, same) refl
