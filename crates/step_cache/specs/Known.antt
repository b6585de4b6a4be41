-- The numbers of answers to parts, which are the same wherever they agree.
use Rattle.std.specs.Prelude.{◌≡◌, ℕ, true, List, Option, Some, Contains}
use Rattle.std.specs.BTreeMap.{is_at}
use Rattle.std.specs.Map.{lookup}
use Rattle.step_engine.specs.Agreeing.{HasPair}
use Rattle.step_engine.specs.declared.talk.Ask.{Ask}
use Rattle.step_engine.specs.declared.talk.Ask.TheVariants as ask
use Rattle.step_engine.specs.declared.talk.Batch.{Batch}
use Rattle.step_engine.specs.declared.talk.Entry.{Entry}
use Rattle.step_engine.specs.declared.talk.Pair.{Pair}
use Rattle.step_pack.specs.Keys.{key_cmp}
use Rattle.step_pack.specs.declared.key.Key.{Key}
use Rattle.step_pack.specs.declared.out.Out.{Out}
use Rattle.step_cache.specs.CacheText.{pair_text, pair_is_value}
use Rattle.step_cache.specs.Pools.{has_text, number_in}

-- the number that is noted of a part
abbrev pub number_at : List (Key × ℕ) → Key → Option ℕ
number_at known part = lookup (is_at (key_cmp part)) known

-- the ask is of a part whose number is noted
abbrev pub IsKnown : List (Key × ℕ) → Ask Key → ℕ → Type 0
IsKnown known asked n = (part : Key) × (asked ≡ ask.Part part) × (number_at known part ≡ Some n)

-- the pool has the pair's answer, a value, at the number
pub record IsNumbered (pool : List (List ℕ)) (p : Pair Key Out) (n : ℕ) : Type 0 where
  pub has : has_text pool (pair_text p) ≡ true
  pub number : number_in pool (pair_text p) ≡ n
  pub value : pair_is_value p ≡ true

-- each answer of the entries to a part that is noted has the number
abbrev pub AreNoted : List (Entry Key Out) → List (List ℕ) → List (Key × ℕ) → Type 0
AreNoted entries pool known = (n : ℕ) (p : Pair Key Out) → HasPair entries p →
    IsKnown known p.ask n → IsNumbered pool p n

-- the number of a pair of the entries may be noted
abbrev pub Notes : List (Entry Key Out) → Pair Key Out → ℕ → List (Key × ℕ) → List (Key × ℕ) →
    Type 0
Notes entries p n old new = (pool : List (List ℕ)) → HasPair entries p → IsNumbered pool p n →
    AreNoted entries pool old → AreNoted entries pool new

-- each pair of a batch, of batches, and of entries stands in the entries
abbrev pub AreAmong : List (Entry Key Out) → List (Pair Key Out) → Type 0
AreAmong entries pairs = (p : Pair Key Out) → Contains pairs p → HasPair entries p

abbrev pub AreAllAmong : List (Entry Key Out) → List (Batch Key Out) → Type 0
AreAllAmong entries batches = (b : Batch Key Out) → Contains batches b → AreAmong entries b.pairs
