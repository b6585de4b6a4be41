-- What is kept from one run to the next: the text of a cache. One of an older edition stands for
-- the entries that still hold. Where nothing is kept, or bytes that are the text of no cache, as
-- those that a store left that failed, it stands for the empty cache. The rule is this project's
-- own.
use Rattle.std.specs.Prelude.{◌≡◌, ◌⊎◌, ℕ, List, [], Option, Some, None}
use Rattle.std.specs.Option.{IfSome}
use Rattle.build_rules.specs.Adopting.{adopted}
use Rattle.step_cache.specs.CacheText.{IsCacheText, IsNoText, IsTextOf}
use Rattle.step_engine.specs.Entries.{AreSound}
use Rattle.step_engine.specs.declared.talk.Entry.{Entry}
use Rattle.step_pack.specs.declared.key.Key.{Key}
use Rattle.step_pack.specs.declared.out.Out.{Out}
use Rattle.edk_build.specs.Building.{means}

-- the cache is what holds of the one whose text the bytes are, by the text's edition
pub record IsOfText (bytes : List ℕ) (cache : List (Entry Key Out)) : Type 0 where
  pub edition : ℕ
  pub entries : List (Entry Key Out)
  pub text : IsTextOf edition entries bytes
  pub holds : cache ≡ adopted edition entries

-- the cache that what is kept stands for
abbrev pub StandsFor : Option (List ℕ) → List (Entry Key Out) → Type 0
StandsFor None cache = cache ≡ []
StandsFor (Some bytes) cache = IsOfText bytes cache ⊎ (IsNoText bytes × (cache ≡ []))

-- what is kept is the text, where it is told
abbrev pub IsKept : Option (Option (List ℕ)) → List ℕ → Type 0
IsKept told text = IfSome told (λ kept. kept ≡ Some text)

-- what is kept is the text of the cache, where it is told, and the cache has one
abbrev pub HasText : Option (Option (List ℕ)) → List (Entry Key Out) → Type 0
HasText told cache = (text : List ℕ) × IsCacheText cache text × IsKept told text

-- it stands for no cache that isn't sound
abbrev pub IsSoundKept : Option (List ℕ) → Type 0
IsSoundKept kept = (cache : List (Entry Key Out)) → StandsFor kept cache → AreSound means cache

-- of the cache that what is kept stands for, where the keeper tells it, and else of some cache
abbrev pub OfKept : Option (Option (List ℕ)) → (List (Entry Key Out) → Type 0) → Type 0
OfKept told P = (cache : List (Entry Key Out)) × IfSome told (λ kept. StandsFor kept cache)
    × P cache

-- where both tell what they keep, and it stood for no unsound cache before, it stands for none now
abbrev pub StaysSound : Option (Option (List ℕ)) → Option (Option (List ℕ)) → Type 0
StaysSound old new = IfSome old (λ before. IfSome new (λ now. IsSoundKept before → IsSoundKept now))
