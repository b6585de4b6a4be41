use Rattle.std.proofs.Common.{◌-◌, [], length}
use Rattle.volume_nesting.specs.Turning.{Standing, unseen}
use Rattle.volume_nesting.proofs.numbering.Sorter.begin.Given as goal

abbrev pub invariant-loop-volume : goal.invariant-loop-volume
invariant-loop-volume l = Standing l.fn.nests [] (unseen l.volume (length l.fn.nests - l.volume)) l.turns
