-- The items so far have their answers.
use Rattle.std.proofs.Common.{Ok}
use Rattle.wave_pool.proofs.Zip.{IsWorking}
use Rattle.wave_pool.proofs.in_order.Given as goal

abbrev pub invariant-loop-item : goal.invariant-loop-item
invariant-loop-item g l = IsWorking (λ i r. goal.F-post g l.work i (Ok r)) l.fn.items.items l.item-iterator.rest.items l.results.items
