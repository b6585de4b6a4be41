use Rattle.std.proofs.Common.{take}
use Rattle.std.specs.List.{AllZip}
use Rattle.packed_outcomes.specs.Talk.{outcome_encoding}
use Rattle.step_cache.specs.Decoding.{IsDecoded}
use Rattle.step_cache.proofs.decoding.outcomes_of.Given as goal

abbrev pub invariant-loop-text : goal.invariant-loop-text
invariant-loop-text l = AllZip (IsDecoded outcome_encoding) (take l.text-index l.pool) l.rows
