use Rattle.std.proofs.Common.{◌≡◌, ◌-◌, length}
use Rattle.std.specs.List.{list_all, range_with_len}
use Rattle.volume_nesting.specs.Looping.{falls, all_fall}
use Rattle.volume_nesting.proofs.loops.all_fall.Given as goal

abbrev pub invariant-loop-volume : goal.invariant-loop-volume
invariant-loop-volume l = list_all (falls l.fn.nests l.fn.ranks) (range_with_len l.volume (length l.fn.nests - l.volume)) ≡ all_fall l.fn.nests l.fn.ranks
