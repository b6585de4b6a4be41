-- What a keeper's calls do.
use Rattle.std.specs.Prelude.{◌≡◌, ◌⊎◌, ◌++◌, ℕ, List, Option, Some, None, Result, Ok, Err}
use Rattle.build_base.specs.Outside.{HasFailed}
use Rattle.build_base.specs.declared.outside.KeeperFailed.{KeeperFailed}
use Rattle.build_base.specs.declared.outside.KeeperFailed.TheVariants.{Failed, WantOfMemory}

-- what contracts see of a keeper in memory: what is kept, where it tells it, what it shows, and the
-- bytes that it has room for
pub record KeeperState : Type 0 where
  pub kept : Option (Option (List ℕ))
  pub shown : Option (List ℕ)
  pub room : ℕ

-- what a call of a keeper does to its count
abbrev pub KeeperCause : {T : Type 0} → ℕ → ℕ → Result T KeeperFailed → Type 0
KeeperCause before now (Ok x) = now ≡ before
KeeperCause before now (Err Failed) = HasFailed before now
KeeperCause before now (Err WantOfMemory) = now ≡ before

-- after a store that failed: the old bytes, nothing, or a prefix of the new
abbrev pub IsLeftBehind : Option (List ℕ) → Option (List ℕ) → List ℕ → Type 0
IsLeftBehind old new bytes =
    (new ≡ old) ⊎ (new ≡ None)
    ⊎ ((kept : List ℕ) × (rest : List ℕ) × (bytes ≡ kept ++ rest) × (new ≡ Some kept))

-- What is told at the end was told before, and is what a store leaves.
abbrev pub Stores : Option (Option (List ℕ)) → Option (Option (List ℕ)) → List ℕ
    → Result (Unit {0}) KeeperFailed → Type 0
Stores old None bytes r = Unit {0}
Stores old (Some new) bytes (Ok x) = new ≡ Some bytes
Stores old (Some new) bytes (Err e) = (before : Option (List ℕ)) × (old ≡ Some before)
    × IsLeftBehind before new bytes
