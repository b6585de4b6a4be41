-- A keeper in memory whose calls fail that it is told.
use Rattle.std.specs.Prelude.{◌≡◌, ℕ, ◌==◌, nat_le, List, [], ◌∷◌, length, take, Option, None, Some, IsSome, Result, Ok, Err, if◌then◌else◌}
use Rattle.std.specs.Option.{option_map}
use Rattle.build_base.specs.declared.outside.KeeperFailed.{KeeperFailed}
use Rattle.build_base.specs.declared.outside.KeeperFailed.TheVariants.{Failed, WantOfMemory}
use Rattle.cache_keepers.specs.declared.memory_keeper.KeeperFail.{KeeperFail}
use Rattle.cache_keepers.specs.declared.memory_keeper.Left.{Left}
use Rattle.cache_keepers.specs.declared.memory_keeper.Left.TheVariants.{Old, Nothing, Prefix}

-- what is kept, where it is told, the bytes that there is room for, the count of faults, the calls
-- that are to fail, and how many there were
pub record MemoryKeeperState : Type 0 where
  pub kept : Option (Option (List ℕ))
  pub room : ℕ
  pub faults : ℕ
  pub fails : List KeeperFail
  pub calls : ℕ

-- what the call of this number leaves, where it is to fail: what the first entry of the number says
abbrev pub left_at : List KeeperFail → ℕ → Option Left
left_at [] call = None
left_at (fail ∷ fails) call = if fail.call == call then Some fail.left else left_at fails call

-- what is kept after a store: the bytes, or where it is to fail what it is to leave
abbrev pub after_store : Option Left → Option (List ℕ) → List ℕ → Option (List ℕ)
after_store None before bytes = Some bytes
after_store (Some Old) before bytes = before
after_store (Some Nothing) before bytes = None
after_store (Some (Prefix count)) before bytes = Some (take count bytes)

-- it is told for as long as no store is given more bytes than there is room for
abbrev pub stored : Option Left → Option (Option (List ℕ)) → ℕ → List ℕ → Option (Option (List ℕ))
stored left kept room bytes = if nat_le (length bytes) room
    then option_map (λ before. after_store left before bytes) kept else None

-- A call fails exactly where it is to fail.
abbrev pub FailsWhere : {T : Type 0} → Option Left → Result T KeeperFailed → Type 0
FailsWhere left (Ok x) = left ≡ None
FailsWhere left (Err Failed) = IsSome left
FailsWhere left (Err WantOfMemory) = left ≡ None
