-- A part is taken off each time; those taken off are done.
use Rattle.std.proofs.Common.{vec_len, Contains, ◌⊎◌}
use Rattle.step_engine.specs.Table.{place_at, IsDone}
use Rattle.step_engine.proofs.wanted.missing.Given as goal

abbrev pub decreases-loop-part : goal.decreases-loop-part
decreases-loop-part g l = vec_len l.parts

abbrev pub invariant-loop-part : goal.invariant-loop-part
invariant-loop-part g l = record {
  among : (p : _) → Contains l.parts.items p → Contains l.fn.parts.items p;
  rest : (p : _) → Contains l.fn.parts.items p → IsDone (place_at g.K.Ord.cmp l.places p) ⊎ Contains l.parts.items p;
}
