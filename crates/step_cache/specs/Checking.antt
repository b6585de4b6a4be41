-- What is asked of the parts of a text: that each text of the pool stands once, that the numbers
-- use them in order and all of them, and that the entries ascend.
use Rattle.std.specs.Prelude.{◌≡◌, ◌++◌, ◌+◌, ℕ, Bool, true, false, List, [], ◌∷◌, Option, Some, None, length, nat_lt, nat_eq, if◌then◌else◌}
use Rattle.std.specs.List.{list_all}
use Rattle.std.specs.Ordering.{is_lt}
use Rattle.step_engine.specs.Caches.{AreInOrder}
use Rattle.step_engine.specs.declared.talk.Entry.{Entry}
use Rattle.step_pack.specs.Keys.{key_cmp}
use Rattle.step_pack.specs.declared.key.Key.{Key}
use Rattle.step_pack.specs.declared.out.Out.{Out}
use Rattle.step_cache.specs.CacheText.{pooled, entry_is_value}
use Rattle.step_cache.specs.Pools.{has_text}
use Rattle.step_cache.specs.declared.numbered.Asked.{Asked}
use Rattle.step_cache.specs.declared.numbered.Numbered.{Numbered}
use Rattle.step_cache.specs.declared.numbered.Pooled.{Pooled}

-- no text stands among those before it
unfoldable pub each_new : List (List ℕ) → List (List ℕ) → Bool
each_new before [] = true
each_new before (text ∷ texts) =
    if has_text before text then false else each_new (before ++ text ∷ []) texts

-- whether a text was added, since it wasn't there
abbrev pub Adds : List (List ℕ) → List ℕ → List (List ℕ) → Bool → Type 0
Adds old text new true = (has_text old text ≡ false) × (new ≡ old ++ text ∷ [])
Adds old text new false = has_text old text ≡ true

-- how many texts of so many are used after one more number, where it is that of a used one or of
-- the next
unfoldable pub use_number : ℕ → ℕ → ℕ → Option ℕ
use_number count seen number =
    if nat_lt number seen then Some seen
    else if nat_eq number seen then (if nat_lt seen count then Some (seen + 1) else None)
    else None

abbrev pub then_uses : Option ℕ → (ℕ → Option ℕ) → Option ℕ
then_uses None more = None
then_uses (Some seen) more = more seen

abbrev pub uses_all : {B : Type 0} → (B → ℕ → Option ℕ) → List B → ℕ → Option ℕ
uses_all f [] seen = Some seen
uses_all f (y ∷ ys) seen = then_uses (f y seen) (uses_all f ys)

abbrev pub ask_uses : ℕ → Asked → ℕ → Option ℕ
ask_uses count asked seen = use_number count seen asked.number

abbrev pub asks_use : ℕ → List Asked → ℕ → Option ℕ
asks_use count asked seen = uses_all (ask_uses count) asked seen

abbrev pub batches_use : ℕ → List (List Asked) → ℕ → Option ℕ
batches_use count batches seen = uses_all (asks_use count) batches seen

abbrev pub entry_uses : ℕ → Numbered → ℕ → Option ℕ
entry_uses count number seen =
    then_uses (batches_use count number.batches seen) (λ now. use_number count now number.result)

abbrev pub entries_use : ℕ → List Numbered → ℕ → Option ℕ
entries_use count numbers seen = uses_all (entry_uses count) numbers seen

abbrev pub is_all : ℕ → Option ℕ → Bool
is_all count None = false
is_all count (Some seen) = nat_eq seen count

unfoldable pub are_used : Pooled → Bool
are_used parts =
    if each_new [] parts.pool
    then is_all (length parts.pool) (entries_use (length parts.pool) parts.entries 0)
    else false

-- the first of the entries has a higher key
abbrev pub is_below : Key → List (Entry Key Out) → Bool
is_below key [] = true
is_below key (next ∷ more) = is_lt (key_cmp key next.key)

unfoldable pub ascend : List (Entry Key Out) → Bool
ascend [] = true
ascend (entry ∷ entries) = if is_below entry.key entries then ascend entries else false

-- the parts are those of a cache of these entries
pub record IsCacheOf (parts : Pooled) (entries : List (Entry Key Out)) : Type 0 where
  pub order : AreInOrder key_cmp entries
  pub answers : list_all entry_is_value entries ≡ true
  pub is : parts ≡ pooled entries
