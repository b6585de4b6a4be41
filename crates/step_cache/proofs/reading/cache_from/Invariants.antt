use Rattle.std.proofs.Common.{◌≡◌, take}
use Rattle.step_cache.proofs.reading.cache_from.Given as goal

abbrev pub invariant-loop-entry : goal.invariant-loop-entry
invariant-loop-entry l = l.cache ≡ take l.entry-index l.entries
