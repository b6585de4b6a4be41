use Rattle.std.proofs.Common.{◌≡◌, map, take, true}
use Rattle.std.specs.List.{flat_map, list_all}
use Rattle.step_cache.specs.CacheText.{numbered, entry_texts, entry_is_value}
use Rattle.step_cache.specs.Known.{AreNoted}
use Rattle.step_cache.specs.Pools.{with_texts}
use Rattle.step_cache.proofs.writing.numbered_entries.Given as goal

abbrev pub invariant-loop-entry : goal.invariant-loop-entry
invariant-loop-entry l = record {
  pool : l.pool ≡ with_texts l.fn.pool (flat_map entry_texts (take l.entry-index l.entry-items));
  rows : l.rows ≡ map (numbered l.pool) (take l.entry-index l.entry-items);
  noted : AreNoted l.cache l.pool l.known;
  values : list_all entry_is_value (take l.entry-index l.entry-items) ≡ true;
}
