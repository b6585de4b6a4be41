-- Where a number of a list stands next. The rules are this project's own.
use Rattle.std.specs.Prelude.{◌≡◌, ℕ, nat_eq, ◌<◌, ◌≤◌, ◌+◌, List, length, get_or, Option, Some, None}
use Rattle.std.specs.HashMap.{HashMap, get}
use Rattle.number_chains.specs.declared.chains.Chains.{Chains}

-- of the places from one on the first at which the number stands; where it stands at none, one
-- behind the list
pub record IsNext (numbers : List ℕ) (start number place : ℕ) : Type 0 where
  pub above : start ≤ place
  pub between : (k : ℕ) → start ≤ k → k < place → k < length numbers
      → get_or numbers k 0 ≡ number → ⊥
  pub stands : place < length numbers → get_or numbers place 0 ≡ number

-- what a table has of a number
abbrev pub place_in : ℕ → Option ℕ → ℕ
place_in behind None = behind
place_in behind (Some place) = place

-- the places from one on are chained
pub record IsChainedFrom {S : Type 0} (numbers : List ℕ) (start : ℕ) (first : HashMap ℕ ℕ S)
    (next : List ℕ) : Type 0 where
  pub count : length next ≡ length numbers
  pub firsts : (number : ℕ)
      → IsNext numbers start number (place_in (length numbers) (get nat_eq first number))
  pub nexts : (k : ℕ) → start ≤ k → k < length numbers
      → IsNext numbers (k + 1) (get_or numbers k 0) (get_or next k 0)

abbrev pub IsChained : List ℕ → Chains → Type 0
IsChained numbers chains = IsChainedFrom numbers 0 chains.first chains.next.items
