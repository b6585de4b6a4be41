-- Where the keys of a build stand.
use Rattle.std.specs.Prelude.{◌≡◌, ℕ, ◌⊎◌, ◌++◌, List, [], ◌∷◌, Option, Some, Contains, slice_get, length, if◌then◌else◌}
use Rattle.std.specs.BTreeMap.{is_at}
use Rattle.std.specs.Map.{lookup}
use Rattle.std.specs.declared.cmp.Ordering.{Ordering}
use Rattle.step_engine.specs.declared.talk.Entry.{Entry}
use Rattle.step_engine.specs.declared.places.Place.{Place}
use Rattle.step_engine.specs.declared.places.Place.TheVariants.{Running, Done}

abbrev pub Known : Type 0 → Type 0
Known K = K → Option Place

-- what is noted of a key
abbrev pub place_at : {K : Type 0} → (K → K → Ordering) → List (K × Place) → Known K
place_at cmp entries k = lookup (is_at (cmp k)) entries

-- this stands at the key, and all else is as before
abbrev pub Sets : {K V : Type 0} → (K → K → Ordering) → K → Option V → List (K × V)
    → List (K × V) → Type 0
Sets {K} cmp k x old new =
    (j : K) → lookup (is_at (cmp j)) new
    ≡ (if is_at (cmp k) j then x else lookup (is_at (cmp j)) old)

-- the value stands at the key, and all else is as before
abbrev pub Puts : {K V : Type 0} → (K → K → Ordering) → K → V → List (K × V) → List (K × V)
    → Type 0
Puts cmp k x = Sets cmp k (Some x)

-- at the key stands this, and at all others what stood there
pub record IsPlaced {K V : Type 0} (k : K) (p : V) (t u : K → Option V) : Type 0 where
  pub here : u k ≡ Some p
  pub cases : (j : K) → ((k ≡ j) × (u j ≡ Some p)) ⊎ (u j ≡ t j)

abbrev pub IsDone : Option Place → Type 0
IsDone p = (i : ℕ) × (p ≡ Some (Done i))

-- its step was granted a permit, or its entry is made
abbrev pub IsStarted : Option Place → Type 0
IsStarted p = (p ≡ Some Running) ⊎ IsDone p

-- the number of a key that is done is that of its entry
abbrev pub Finds : {K O : Type 0} → Known K → List (Entry K O) → Type 0
Finds {K} {O} t fresh = (k : K) (i : ℕ) → t k ≡ Some (Done i) → (e : Entry K O)
    × (slice_get fresh i ≡ Some e) × (e.key ≡ k)

pub record IsTable {K O : Type 0} (t : Known K) (added : List K) (fresh : List (Entry K O))
    : Type 0 where
  pub one : (i : ℕ) (e : Entry K O) → slice_get fresh i ≡ Some e → t e.key ≡ Some (Done i)
  pub started : (k : K) → Contains added k → IsStarted (t k)
  pub running : (k : K) → t k ≡ Some Running → Contains added k
  pub finds : Finds t fresh

-- a key that stood at the place has its entry made, at the end of the entries; one that didn't is
-- left as it was
abbrev pub IsMadeAt : {K O : Type 0} → Place → Entry K O → Known K → Known K → List (Entry K O)
    → List (Entry K O) → Type 0
IsMadeAt p e t u fresh fresh' = ((fresh' ≡ fresh) × (u ≡ t))
    ⊎ ((t e.key ≡ Some p) × (fresh' ≡ fresh ++ e ∷ []) × IsPlaced e.key (Done (length fresh)) t u)
