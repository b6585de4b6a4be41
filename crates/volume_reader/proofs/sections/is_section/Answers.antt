use Rattle.std.proofs.Common.{arith}
use Rattle.volume_reader.proofs.SectionLemmas.{four_least}
use Rattle.volume_reader.proofs.sections.is_section.Goals as goal

pub returns-clause-some : goal.returns-clause-some
returns-clause-some c = λ t. omega (arith, four_least c.args.ffs3 c.args.bytes.now, c.content_at.ensures.value, c.section_size-size.ensures, c.if-size-content_at.false)
