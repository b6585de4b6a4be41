use Rattle.std.proofs.Common.{arith, ap, length}
use Rattle.volume_reader.proofs.FileLemmas.{body_short}
use Rattle.volume_reader.proofs.file.file_sections.Goals as goal

pub body_sections-requires : goal.body_sections-requires
body_sections-requires c =
    let l = ap length c.body_in.ensures in
    let h = c.header_len.ensures.value in
    let s = body_short c.args.bytes.now c.requires.body in
    let n = c.requires.near in omega arith
