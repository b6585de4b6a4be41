use Rattle.std.proofs.Common.{◌≡◌, length}
use Rattle.build_stages.specs.Known.{known_at, with_first}
use Rattle.step_pack.specs.Keys.{key_cmp}
use Rattle.library_steps.specs.HeldInfs.{held_infs}
use Rattle.library_steps.proofs.held_infs.all_held.Given as goal

abbrev pub invariant-loop-left : goal.invariant-loop-left
invariant-loop-left l = with_first l.infs (held_infs (known_at key_cmp l.known) l.left) ≡ held_infs (known_at key_cmp l.known) l.paths

abbrev pub decreases-loop-left : goal.decreases-loop-left
decreases-loop-left l = length l.left
