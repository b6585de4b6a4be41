-- The text of a cache: `EDKSTEPS`, the edition in four bytes, the length of the whole text in
-- eight, the pool of the packed answers and results, and the entries in ascending order of their
-- keys' packed forms, with numbers of the pool in place of answers and results. The rule is this
-- project's own.
use Rattle.std.specs.Prelude.{◌≡◌, ◌++◌, ◌^◌, ◌&&◌, ℕ, Bool, true, List, [], ◌∷◌, length, map, nat_lt}
use Rattle.std.specs.List.{list_all, flat_map}
pub use Rattle.cache_heads.specs.Heads.{newest, oldest, is_edition, head_of, edition_in}
use Rattle.packed_outcomes.specs.Talk.{answer_encoding, outcome_encoding}
use Rattle.step_engine.specs.Caches.{AreInOrder}
use Rattle.step_engine.specs.declared.talk.Batch.{Batch}
use Rattle.step_engine.specs.declared.talk.Entry.{Entry}
use Rattle.step_engine.specs.declared.talk.Pair.{Pair}
use Rattle.step_pack.specs.Keys.{key_cmp}
use Rattle.step_pack.specs.declared.key.Key.{Key}
use Rattle.step_pack.specs.declared.out.Out.{Out}
use Rattle.step_cache.specs.Numbered.{pooled_encoding}
use Rattle.step_cache.specs.Pools.{pool_of, number_in}
use Rattle.step_cache.specs.declared.numbered.Asked.{Asked}
use Rattle.step_cache.specs.declared.numbered.Numbered.{Numbered}
use Rattle.step_cache.specs.declared.numbered.Pooled.{Pooled}

-- the packed answers of an entry, in order, and its packed result
abbrev pub pair_text : Pair Key Out → List ℕ
pair_text pair = answer_encoding.encode pair.answer

abbrev pub pair_texts : Pair Key Out → List (List ℕ)
pair_texts pair = pair_text pair ∷ []

abbrev pub batch_texts : Batch Key Out → List (List ℕ)
batch_texts batch = flat_map pair_texts batch.pairs

abbrev pub entry_texts : Entry Key Out → List (List ℕ)
entry_texts entry = flat_map batch_texts entry.talk.batches
    ++ outcome_encoding.encode entry.result ∷ []

abbrev pub cache_texts : List (Entry Key Out) → List (List ℕ)
cache_texts entries = flat_map entry_texts entries

-- an entry with the numbers of its texts
abbrev pub numbered_pair : List (List ℕ) → Pair Key Out → Asked
numbered_pair pool pair = record { ask = pair.ask; number = number_in pool (pair_text pair) }

abbrev pub numbered_batch : List (List ℕ) → Batch Key Out → List Asked
numbered_batch pool batch = map (numbered_pair pool) batch.pairs

abbrev pub numbered : List (List ℕ) → Entry Key Out → Numbered
numbered pool entry = record {
  key = entry.key;
  batches = map (numbered_batch pool) entry.talk.batches;
  result = number_in pool (outcome_encoding.encode entry.result);
}

unfoldable pub pooled : List (Entry Key Out) → Pooled
pooled entries = record {
  pool = pool_of (cache_texts entries);
  entries = map (numbered (pool_of (cache_texts entries))) entries;
}

abbrev pub body_of : List (Entry Key Out) → List ℕ
body_of entries = pooled_encoding.encode (pooled entries)

unfoldable pub cache_text : ℕ → List (Entry Key Out) → List ℕ
cache_text edition entries = head_of edition (length (body_of entries)) ++ body_of entries

-- the answers and the results are values
abbrev pub pair_is_value : Pair Key Out → Bool
pair_is_value pair = answer_encoding.is_value pair.answer

abbrev pub batch_is_value : Batch Key Out → Bool
batch_is_value batch = list_all pair_is_value batch.pairs

abbrev pub entry_is_value : Entry Key Out → Bool
entry_is_value entry = list_all batch_is_value entry.talk.batches
    && outcome_encoding.is_value entry.result

-- the bytes are the text of a cache of these entries, of an edition
pub record IsTextOf (edition : ℕ) (entries : List (Entry Key Out)) (bytes : List ℕ) : Type 0 where
  pub known : is_edition edition ≡ true
  pub order : AreInOrder key_cmp entries
  pub answers : list_all entry_is_value entries ≡ true
  pub parts : pooled_encoding.is_value (pooled entries) ≡ true
  pub fits : nat_lt (length bytes) (256 ^ 8) ≡ true
  pub text : bytes ≡ cache_text edition entries

-- of the newest edition
abbrev pub IsCacheText : List (Entry Key Out) → List ℕ → Type 0
IsCacheText entries bytes = IsTextOf newest entries bytes

-- they are the text of no cache, in an edition, and in none
abbrev pub IsNoTextOf : ℕ → List ℕ → Type 0
IsNoTextOf edition bytes = (entries : List (Entry Key Out)) → IsTextOf edition entries bytes → ⊥

abbrev pub IsNoText : List ℕ → Type 0
IsNoText bytes = (edition : ℕ) → IsNoTextOf edition bytes
