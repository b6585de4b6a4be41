-- Files in memory.
use Rattle.std.specs.Prelude.{◌≡◌, ℕ, nat_eq, Bool, true, false, List, [], ◌∷◌, Option, Some, None, Result, Ok, Err, if◌then◌else◌}
use Rattle.std.specs.Cmp.Lexicographic.{pointwise}
use Rattle.std.specs.List.{list_any}
use Rattle.build_base.specs.declared.memory_tree.Held.{Held}
use Rattle.build_base.specs.declared.outside.TreeFailed.{TreeFailed}
use Rattle.build_base.specs.declared.outside.TreeFailed.TheVariants.{Failed, WantOfMemory}

-- what the first entry of a path holds
abbrev pub file_at : List Held → List ℕ → Option (List ℕ)
file_at [] path = None
file_at (entry ∷ entries) path = if pointwise nat_eq entry.path path then Some entry.bytes
    else file_at entries path

-- the files with another one at a path
abbrev pub with_file : (List ℕ → Option (List ℕ)) → List ℕ → List ℕ → List ℕ → Option (List ℕ)
with_file files path bytes other = if pointwise nat_eq path other then Some bytes else files other

-- the files with none at a path
abbrev pub without_file : (List ℕ → Option (List ℕ)) → List ℕ → List ℕ → Option (List ℕ)
without_file files path other = if pointwise nat_eq path other then None else files other

-- whether the call of this number is to fail
abbrev pub is_failing : List ℕ → ℕ → Bool
is_failing fails call = list_any (λ number. nat_eq number call) fails

-- the call fails exactly where it is to fail
abbrev pub FailsWhere : {T : Type 0} → Bool → Result T TreeFailed → Type 0
FailsWhere failing (Ok x) = failing ≡ false
FailsWhere failing (Err Failed) = failing ≡ true
FailsWhere failing (Err WantOfMemory) = failing ≡ false
