-- What is known while volumes that hold themselves are sought.
use Rattle.std.specs.Prelude.{◌≡◌, ◌⊎◌, ℕ, Bool, true, ◌||◌, not, nat_le, List, length, get_or, zero, suc}
use Rattle.std.specs.List.{list_any, list_all, range_with_len}
use Rattle.std.specs.BTreeSet.{contains}
use Rattle.std.specs.Ordering.{nat_cmp}
use Rattle.volume_nesting.specs.Numbering.{has, nest_of}
use Rattle.volume_nesting.specs.declared.loops.Level.{Level}

-- one of these volumes holds another
pub record Via (by : ℕ → Type 0) (nests : List (List ℕ)) (q : ℕ) : Type 0 where
  pub on : ℕ
  pub reached : by on
  pub held : has (nest_of nests on) q ≡ true

-- a volume holds another, by one step and at most k more
abbrev pub Within : List (List ℕ) → ℕ → ℕ → ℕ → Type 0
Within nests p zero q = has (nest_of nests p) q ≡ true
Within nests p (suc k) q = Within nests p k q ⊎ Via (Within nests p k) nests q

-- some volumes were looked at: those that were new stand at the edge
pub record Saw (places : List ℕ) (old new : Level) : Type 0 where
  pub seen : (q : ℕ) → contains nat_cmp new.seen q ≡ (contains nat_cmp old.seen q || has places q)
  pub fresh : (q : ℕ) → contains nat_cmp new.seen q ≡ true → (contains nat_cmp old.seen q ≡ true)
      ⊎ (has new.edge q ≡ true)
  pub shown : (q : ℕ) → has new.edge q ≡ true → (has old.edge q ≡ true) ⊎ (has places q ≡ true)
  pub kept : (q : ℕ) → has old.edge q ≡ true → has new.edge q ≡ true

-- the volumes that one holds by one step and at most k more are seen, and what those hold that
-- aren't at the edge
pub record Reached (nests : List (List ℕ)) (p k : ℕ) (level : Level) : Type 0 where
  pub sound : (q : ℕ) → contains nat_cmp level.seen q ≡ true → Within nests p k q
  pub whole : (q : ℕ) → Within nests p k q → contains nat_cmp level.seen q ≡ true
  pub edge : (q : ℕ) → has level.edge q ≡ true → contains nat_cmp level.seen q ≡ true
  pub closed : (r : ℕ) → contains nat_cmp level.seen r ≡ true
      → (has level.edge r ≡ true)
      ⊎ ((q : ℕ) → has (nest_of nests r) q ≡ true → contains nat_cmp level.seen q ≡ true)

abbrev pub rank_at : List ℕ → ℕ → ℕ
rank_at ranks p = get_or ranks p 0

-- what a volume holds has no greater rank than the volume
abbrev pub falls : List (List ℕ) → List ℕ → ℕ → Bool
falls nests ranks p = list_all (λ q. nat_le (rank_at ranks q) (rank_at ranks p)) (nest_of nests p)

abbrev pub all_fall : List (List ℕ) → List ℕ → Bool
all_fall nests ranks = list_all (falls nests ranks) (range_with_len 0 (length nests))

-- and one of what it holds has the same
abbrev pub stays : List (List ℕ) → List ℕ → ℕ → Bool
stays nests ranks p = list_any (λ q. nat_le (rank_at ranks p) (rank_at ranks q)) (nest_of nests p)

-- a volume that may hold itself
abbrev pub may_loop : List (List ℕ) → List ℕ → Bool → ℕ → Bool
may_loop nests ranks fall p = not fall || stays nests ranks p
