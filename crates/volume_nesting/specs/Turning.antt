-- What is kept while volumes get their numbers.
use Rattle.std.specs.Prelude.{◌≡◌, ◌⊎◌, ℕ, ◌<◌, Bool, true, false, nat_eq, List, [], length, take, map, unwrap_or}
use Rattle.std.specs.List.{All, list_any, range_with_len}
use Rattle.std.specs.HashMap.{HashMap, get}
use Rattle.std.specs.BTreeSet.{contains}
use Rattle.std.specs.Ordering.{nat_cmp}
use Rattle.volume_nesting.specs.Numbering.{has, nest_of, all_among}
use Rattle.volume_nesting.specs.declared.numbering.Waiting.{Waiting}
use Rattle.volume_nesting.specs.declared.numbering.Sorter.{Sorter}

-- the volume of one of these is this one
abbrev pub names : List Waiting → ℕ → Bool
names rows v = list_any (λ row. nat_eq row.volume v) rows

abbrev pub waiting_at : {S : Type 0} → HashMap ℕ (List Waiting) S → ℕ → List Waiting
waiting_at table w = unwrap_or (get nat_eq table w) []

-- a volume without a number, and how far those that it holds have one
pub record Passed (nests : List (List ℕ)) (order : List ℕ) (row : Waiting) : Type 0 where
  pub there : row.volume < length nests
  pub free : has order row.volume ≡ false
  pub passed : all_among order (take row.at (nest_of nests row.volume)) ≡ true

-- it waits for a volume that it holds
pub record Waits (nests : List (List ℕ)) (order : List ℕ) (w : ℕ) (row : Waiting) : Type 0 where
  pub there : row.volume < length nests
  pub held : has (nest_of nests row.volume) w ≡ true
  pub passed : all_among order (take row.at (nest_of nests row.volume)) ≡ true

-- a volume without a number may come
pub record Ready (nests : List (List ℕ)) (order : List ℕ) (v : ℕ) : Type 0 where
  pub there : v < length nests
  pub free : has order v ≡ false
  pub whole : all_among order (nest_of nests v) ≡ true

-- a volume that it holds has no number, and it waits there
pub record Held {S : Type 0} (nests : List (List ℕ)) (order : List ℕ)
    (table : HashMap ℕ (List Waiting) S) (v : ℕ) : Type 0 where
  pub on : ℕ
  pub free : has order on ≡ false
  pub held : has (nest_of nests v) on ≡ true
  pub waits : names (waiting_at table on) v ≡ true

-- where a volume stands: it has a number, it may come, it is still to be looked at, or it waits
abbrev pub Stands : List (List ℕ) → List ℕ → List Waiting → Sorter → ℕ → Type 0
Stands nests order rest turns v =
    (has order v ≡ true)
    ⊎ ((contains nat_cmp turns.ready v ≡ true)
    ⊎ ((names rest v ≡ true) ⊎ Held nests order turns.waiting v))

-- the volumes with numbers, and the others, of which some are still to be looked at
pub record Standing (nests : List (List ℕ)) (order : List ℕ) (rest : List Waiting) (turns : Sorter)
    : Type 0 where
  pub numbered : (v : ℕ) → contains nat_cmp turns.numbered v ≡ has order v
  pub whole : (v : ℕ) → has order v ≡ true → all_among order (nest_of nests v) ≡ true
  pub ready : (v : ℕ) → contains nat_cmp turns.ready v ≡ true → Ready nests order v
  pub waiting : (w : ℕ) → All (Waits nests order w) (waiting_at turns.waiting w)
  pub looked : All (Passed nests order) rest
  pub all : (v : ℕ) → v < length nests → Stands nests order rest turns v

-- all but one, which may come, and is to get its number now
pub record StandingBut (nests : List (List ℕ)) (order : List ℕ) (chosen : ℕ) (turns : Sorter)
    : Type 0 where
  pub numbered : (v : ℕ) → contains nat_cmp turns.numbered v ≡ has order v
  pub whole : (v : ℕ) → has order v ≡ true → all_among order (nest_of nests v) ≡ true
  pub comes : Ready nests order chosen
  pub ready : (v : ℕ) → contains nat_cmp turns.ready v ≡ true → Ready nests order v
  pub gone : (v : ℕ) → contains nat_cmp turns.ready v ≡ true → nat_eq chosen v ≡ false
  pub waiting : (w : ℕ) → All (Waits nests order w) (waiting_at turns.waiting w)
  pub all : (v : ℕ) → v < length nests → (nat_eq chosen v ≡ true) ⊎ Stands nests order [] turns v

-- all volumes from one on, of which nothing is known
abbrev pub unseen : ℕ → ℕ → List Waiting
unseen i n = map (λ v. record { volume = v; at = 0 }) (range_with_len i n)
