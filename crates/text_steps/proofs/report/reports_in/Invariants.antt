use Rattle.std.proofs.Common.{◌≡◌, drop}
use Rattle.build_base.specs.First.{with_front}
use Rattle.text_steps.specs.Report.{reports_in}
use Rattle.text_steps.proofs.report.reports_in.Given as goal

abbrev pub invariant-loop-module : goal.invariant-loop-module
invariant-loop-module l = with_front l.reports (reports_in l.given (drop l.module-index l.modules)) ≡ reports_in l.given l.modules
