use Rattle.std.proofs.Common.{◌∙◌, sym}
use Rattle.volume_reader.proofs.HeadLemmas.{known_of}
use Rattle.volume_reader.proofs.nested.is_whole.Goals as goal

pub fv_length-requires : goal.fv_length-requires
fv_length-requires c = (known_of c.args.content.now (sym c.is_head.ensures ∙ c.if-not-is_head.false)).long
