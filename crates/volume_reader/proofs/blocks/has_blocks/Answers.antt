use Rattle.std.proofs.Common.{arith, ◌∙◌, sym}
use Rattle.volume_reader.proofs.BlockLemmas.{blocks_whole}
use Rattle.volume_reader.proofs.blocks.has_blocks.Goals as goal

pub returns : goal.returns
returns c =
    blocks_whole c.args.bytes.now c.header_length.result c.fv_length.result c.fill.result c.header_length.ensures c.fv_length.ensures c.requires.least (omega arith) (sym c.is_map_end.ensures ∙ c.if-not-is_map_end.false) c.fill.ensures
