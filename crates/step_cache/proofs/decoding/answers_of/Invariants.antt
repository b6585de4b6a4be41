use Rattle.std.proofs.Common.{take}
use Rattle.std.specs.List.{AllZip}
use Rattle.packed_outcomes.specs.Talk.{answer_encoding}
use Rattle.step_cache.specs.Decoding.{IsDecoded}
use Rattle.step_cache.proofs.decoding.answers_of.Given as goal

abbrev pub invariant-loop-text : goal.invariant-loop-text
invariant-loop-text l = AllZip (IsDecoded answer_encoding) (take l.text-index l.pool) l.rows
