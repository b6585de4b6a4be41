-- Rows whose numbers are chained, and those of them whose numbers are marked. The rules are this
-- project's own.
use Rattle.std.specs.Prelude.{◌≡◌, ℕ, Bool, true, false, nat_eq, List, map, filter, get_or}
use Rattle.number_chains.specs.declared.chains.Chains.{Chains}
use Rattle.number_chains.specs.Chains.{IsChained}

-- the rows have numbers that are chained
pub record AreChained {X : Type 0} (rows : List X) (chains : Chains) : Type 0 where
  pub number_of : X → ℕ
  pub chained : IsChained (map number_of rows) chains

-- a row has the number
abbrev pub has : {X : Type 0} → (X → ℕ) → ℕ → X → Bool
has number_of number x = nat_eq (number_of x) number

-- whatever is kept of the rows of a marked number is kept of those that are found, in its order
abbrev pub AreMarked : {X : Type 0} → (X → ℕ) → List Bool → List X → List X → Type 0
AreMarked number_of marks rows found = (number : ℕ) (keep : _ → Bool)
    → get_or marks number false ≡ true
    → ((x : _) → keep x ≡ true → number_of x ≡ number)
    → filter keep found ≡ filter keep rows
