use Rattle.std.proofs.Common.{◌≡◌, ◌++◌, length}
use Rattle.std.specs.List.{filter_map}
use Rattle.job_fields.specs.Readings.{behind}
use Rattle.job_fields.proofs.images.names_behind.Given as goal

abbrev pub invariant-loop-left : goal.invariant-loop-left
invariant-loop-left l = l.names ++ filter_map (behind l.kind) l.left ≡ filter_map (behind l.kind) l.lines

abbrev pub decreases-loop-left : goal.decreases-loop-left
decreases-loop-left l = length l.left
