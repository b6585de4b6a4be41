-- The numbers of volumes (EDK II FDF specification, [FV] sections and FV_IMAGE). That a volume
-- comes behind those that it holds is this project's own rule. Volumes are told by their places in
-- the file, from 0.
use Rattle.std.specs.Prelude.{ℕ, Bool, ◌&&◌, ◌||◌, not, nat_eq, List, [], ◌∷◌, ◌++◌, length, get_or, Option, Some, None}
use Rattle.std.specs.List.{list_any, list_all, find, range_with_len}

-- a number is one of some
abbrev pub has : List ℕ → ℕ → Bool
has places p = list_any (λ q. nat_eq q p) places

-- the volumes that a volume holds
abbrev pub nest_of : List (List ℕ) → ℕ → List ℕ
nest_of nests p = get_or nests p []

-- all of some places are among others
abbrev pub all_among : List ℕ → List ℕ → Bool
all_among order places = list_all (has order) places

-- a volume has no number, and all that it holds have one
abbrev pub may_come : List (List ℕ) → List ℕ → ℕ → Bool
may_come nests order p = not (has order p) && all_among order (nest_of nests p)

-- the first in file order that may come
unfoldable pub next_in : List (List ℕ) → List ℕ → Option ℕ
next_in nests order = find (may_come nests order) (range_with_len 0 (length nests))

abbrev pub given : (List ℕ → List ℕ) → List ℕ → Option ℕ → List ℕ
given more order None = order
given more order (Some p) = more (order ++ p ∷ [])

-- the volumes in the order of their numbers, after one turn for each of these
unfoldable pub turns : List (List ℕ) → List (List ℕ) → List ℕ → List ℕ
turns nests [] order = order
turns nests (n ∷ ns) order = given (turns nests ns) order (next_in nests order)

-- at each turn comes the first that may
abbrev pub topological_order : List (List ℕ) → List ℕ
topological_order nests = turns nests nests []

-- a volume holds another, by as many steps from one to the next as there are rows behind the first
unfoldable pub holds_by : List (List ℕ) → List (List ℕ) → ℕ → ℕ → Bool
holds_by nests [] p q = has (nest_of nests p) q
holds_by nests (n ∷ ns) p q = has (nest_of nests p) q
    || list_any (λ r. holds_by nests ns r q) (nest_of nests p)

-- a volume holds itself, by at most as many steps as there are volumes, and one
abbrev pub is_loop : List (List ℕ) → ℕ → Bool
is_loop nests p = holds_by nests nests p p

-- the first in file order that holds itself
unfoldable pub first_loop : List (List ℕ) → Option ℕ
first_loop nests = find (is_loop nests) (range_with_len 0 (length nests))
