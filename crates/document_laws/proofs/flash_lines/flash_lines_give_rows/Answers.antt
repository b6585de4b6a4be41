use Rattle.document_laws.proofs.RuleGiven.{line_given}
use Rattle.document_laws.proofs.flash_lines.flash_lines_give_rows.Goals as goal

pub returns : goal.returns
returns c = line_given
