use Rattle.std.proofs.Common.{◌≡◌, ◌≤◌}
use Rattle.volume_reader.specs.Head.{is_map_end, block_bytes}
use Rattle.volume_reader.proofs.BlockLemmas.{left}
use Rattle.volume_reader.proofs.blocks.fill.Given as goal

abbrev pub invariant-loop-k : goal.invariant-loop-k
invariant-loop-k l = record {
  small : l.total ≤ l.size;
  value : left (is_map_end l.bytes) (block_bytes l.bytes) l.size 0 0 l.last ≡ left (is_map_end l.bytes) (block_bytes l.bytes) l.size l.total l.k l.last;
}
