-- The bytes of a text: its own, few ones in place, shared ones, or a part of those.
use Rattle.std.specs.Prelude.{ℕ, List, take, drop}
use Rattle.std.specs.Arc.{arc_value}
use Rattle.build_base.specs.declared.store.Store.{Store}
use Rattle.build_base.specs.declared.store.Store.TheVariants.{Own, Small, Shared, Part}

abbrev pub store_bytes : Store → List ℕ
store_bytes (Own bytes) = bytes.items
store_bytes (Small bytes count) = take count bytes
store_bytes (Shared bytes) = (arc_value bytes).items
store_bytes (Part bytes start count) = take count (drop start (arc_value bytes).items)
