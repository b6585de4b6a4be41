use Rattle.std.proofs.Common.{length, ◌≡◌, fold}
use Rattle.build_base.specs.First.{or_else}
use Rattle.flash_document.specs.Columns.{column}
use Rattle.flash_document.specs.Devices.{keys_in, pairs, block_pairs, first_size, with_blocks, total_of}
use Rattle.flash_document.proofs.device.block_sum.Given as goal

abbrev pub invariant-loop-left : goal.invariant-loop-left
invariant-loop-left l =
    (or_else l.sum.first (first_size (pairs (column keys_in l.k l.left) l.sum.waiting)) ≡ first_size (block_pairs l.k l.lines))
    × (fold with_blocks l.sum.total (pairs (column keys_in l.k l.left) l.sum.waiting) ≡ total_of (block_pairs l.k l.lines))

abbrev pub decreases-loop-left : goal.decreases-loop-left
decreases-loop-left l = length l.left
