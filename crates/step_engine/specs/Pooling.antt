-- The keys under way.
use Rattle.std.specs.Prelude.{◌≡◌, ◌⊎◌, List, Some, Contains}
use Rattle.std.specs.BTreeMap.{is_at}
use Rattle.std.specs.Map.{lookup}
use Rattle.std.specs.declared.cmp.Ordering.{Ordering}
use Rattle.step_engine.specs.declared.items.Item.{Item}
use Rattle.step_engine.specs.declared.items.Waiting.{Waiting}
use Rattle.step_engine.specs.declared.items.Queue.{Queue}
use Rattle.step_engine.specs.declared.pool.Pool.{Pool}

-- one of them is of the item
abbrev pub Holds : {K O : Type 0} → List (Waiting K O) → Item K O → Type 0
Holds {K} {O} waiting a = (w : Waiting K O) × Contains waiting w × (w.item ≡ a)

-- it waits for a part
abbrev pub Parks : {K O : Type 0} → (K → K → Ordering) → List (K × Queue K O) → Item K O → Type 0
Parks {K} {O} cmp parked a = (k : K) × (q : Queue K O) × (lookup (is_at (cmp k)) parked ≡ Some q)
    × Holds q.list.items a

-- it is under way
abbrev pub IsIn : {K O : Type 0} → (K → K → Ordering) → Pool K O → Item K O → Type 0
IsIn cmp pool a = Contains pool.news.items a ⊎ (Holds pool.woken.items a ⊎ Parks cmp pool.parked a)
