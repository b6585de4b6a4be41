-- The workers get fewer.
use Rattle.std.proofs.Common.{◌+◌, ◌*◌}
use Rattle.drawn_waves.proofs.wave.+share_out.Given as goal

abbrev pub decreases-share_out : goal.decreases-share_out
decreases-share_out g l = 2 * l.workers

abbrev pub decreases-front : goal.decreases-front
decreases-front g l = 2 * l.ours + 1

abbrev pub decreases-back : goal.decreases-back
decreases-back g l = 2 * l.theirs + 1
