use Rattle.volume_nesting.specs.Looping.{Reached}
use Rattle.volume_nesting.proofs.loops.is_loop.Given as goal

abbrev pub invariant-loop-nest : goal.invariant-loop-nest
invariant-loop-nest l = Reached l.fn.nests l.fn.volume l._nest-index l.level
