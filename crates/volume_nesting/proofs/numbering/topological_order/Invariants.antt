use Rattle.std.proofs.Common.{◌≡◌, [], drop}
use Rattle.volume_nesting.specs.Numbering.{turns, topological_order}
use Rattle.volume_nesting.specs.Turning.{Standing}
use Rattle.volume_nesting.proofs.numbering.topological_order.Given as goal

abbrev pub invariant-loop-nest : goal.invariant-loop-nest
invariant-loop-nest l = Standing l.fn.nests l.order [] l.turns × (turns l.fn.nests (drop l._nest-index l.fn.nests) l.order ≡ topological_order l.fn.nests)
