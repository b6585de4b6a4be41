use Rattle.std.proofs.Common.{subst, sym}
use Rattle.std.specs.Prelude.{IfOk}
use Rattle.build_base.specs.Answer.{Answers}
use Rattle.fdf_lines.specs.Limits.{WithinLimits}
use Rattle.flash_document.specs.Document.{flash_of_lines}
use Rattle.flash_document.proofs.WholeLemmas.{flash_answers, flash_stopped, where_ok}
use Rattle.flash_document.proofs.reading.read_document.Goals as goal

pub returns-in-Ok-clause-document : goal.returns-in-Ok-clause-document
returns-in-Ok-clause-document c =
    flash_answers c.args.lines.now c.in-Ok.rows c.flash_of_lines.result c.in-Ok.ensures.rows
    (subst (λ rs. Answers c.flash_of_lines.result (flash_of_lines c.args.lines.now.root rs)) c.items.ensures c.flash_of_lines.ensures)

pub returns-in-Ok-clause-limits : goal.returns-in-Ok-clause-limits
returns-in-Ok-clause-limits c = where_ok c.flash_of_lines.result (subst (λ r. IfOk r WithinLimits) (sym c.in-Ok.ensures.rows) c.in-Ok.ensures.limits)

pub returns-in-Err-clause-document : goal.returns-in-Err-clause-document
returns-in-Err-clause-document c = flash_stopped c.args.lines.now c.in-Err.refusal c.in-Err.ensures.rows
