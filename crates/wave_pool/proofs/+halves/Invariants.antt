-- The part of a wave gets shorter.
use Rattle.std.proofs.Common.{◌+◌, ◌*◌}
use Rattle.wave_pool.proofs.+halves.Given as goal

abbrev pub decreases-halves : goal.decreases-halves
decreases-halves g l = 2 * l.low.len

abbrev pub decreases-front : goal.decreases-front
decreases-front g l = 2 * l.low.len + 1

abbrev pub decreases-back : goal.decreases-back
decreases-back g l = 2 * l.high.len + 1
