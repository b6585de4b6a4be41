use Rattle.std.proofs.Common.{drop}
use Rattle.volume_nesting.specs.Looping.{Saw}
use Rattle.volume_nesting.specs.declared.loops.Level.{Level}
use Rattle.volume_nesting.proofs.loops.Level.see_all.Given as goal

abbrev pub invariant-loop-volume : goal.invariant-loop-volume
invariant-loop-volume l = (last : Level) → Saw (drop l.volume-index l.fn.volumes) l.self last → Saw l.fn.volumes l.initial.self last
