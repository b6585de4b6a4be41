use Rattle.std.proofs.Common.{◌≡◌, ◌∙◌, sym, false}
use Rattle.volume_reader.specs.Head.{is_map_end, block_bytes}
use Rattle.volume_reader.proofs.BlockLemmas.{left_more}
use Rattle.volume_reader.proofs.blocks.fill.Goals as goal

pub loop-k-preserved : goal.loop-k-preserved
loop-k-preserved c =
    let none : is_map_end c.args.bytes.now c.loop-k.k ≡ false = sym c.is_map_end.ensures ∙ c.if-is_map_end.false in
    record {
      small = c.if-total-size.false;
      value = rw c.block_bytes.ensures (c.loop-k.invariant.value ∙ left_more (is_map_end c.args.bytes.now) (block_bytes c.args.bytes.now) c.args.size c.loop-k.total c.loop-k.k c.args.last c.loop-k-test.true none);
    }
