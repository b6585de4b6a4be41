-- What the step of the report gives.
use Rattle.build_laws.proofs.TextLemmas.{report_is}
use Rattle.build_laws.proofs.laws.reports_are_told.Goals as goal

pub returns : goal.returns
returns c = report_is
