use Rattle.std.proofs.Common.{arith}
use Rattle.volume_reader.proofs.HeadLemmas.{head_known}
use Rattle.volume_reader.proofs.volume.read_list.Goals as goal

pub fv_length-length-requires : goal.fv_length-length-requires
fv_length-length-requires c = (head_known c.args.bytes.now c.requires).long

pub is_ffs3-ffs3-requires : goal.is_ffs3-ffs3-requires
is_ffs3-ffs3-requires c = (head_known c.args.bytes.now c.requires).long

pub header_length-requires : goal.header_length-requires
header_length-requires c = (head_known c.args.bytes.now c.requires).long

pub erase_polarity-requires : goal.erase_polarity-requires
erase_polarity-requires c = (head_known c.args.bytes.now c.requires).long

pub returns-clause-some : goal.returns-clause-some
returns-clause-some c =
    let k = head_known c.args.bytes.now c.requires in
    let l = k.least in
    let w = k.whole in
    let e = c.fv_length-length.ensures in omega arith

pub returns-clause-inside : goal.returns-clause-inside
returns-clause-inside c =
    let i = (head_known c.args.bytes.now c.requires).inside in
    let e = c.fv_length-length.ensures in omega arith
