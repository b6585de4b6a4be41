use Rattle.std.proofs.Common.{◌∙◌, sym}
use Rattle.volume_reader.proofs.SectionLemmas.{no_header, no_extended, under_eight}
use Rattle.volume_reader.proofs.sections.has_fields.Goals as goal

pub returns-then-bytes-lt4-clause-no : goal.returns-then-bytes-lt4-clause-no
returns-then-bytes-lt4-clause-no c = λ e. no_header c.args.ffs3 c.args.bytes.now c.if-bytes-lt4.true

pub returns-then-is_extended-clause-no : goal.returns-then-is_extended-clause-no
returns-then-is_extended-clause-no c = λ e. no_extended c.args.ffs3 c.args.bytes.now (sym c.is_extended.ensures ∙ c.if-is_extended.true) (under_eight _ e)
