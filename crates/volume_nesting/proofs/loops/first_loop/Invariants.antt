use Rattle.std.proofs.Common.{◌≡◌, ◌-◌, length}
use Rattle.std.specs.List.{find, range_with_len}
use Rattle.volume_nesting.specs.Numbering.{is_loop, first_loop}
use Rattle.volume_nesting.proofs.loops.first_loop.Given as goal

abbrev pub invariant-loop-volume : goal.invariant-loop-volume
invariant-loop-volume l = find (is_loop l.fn.nests) (range_with_len l.volume (length l.fn.nests - l.volume)) ≡ first_loop l.fn.nests
