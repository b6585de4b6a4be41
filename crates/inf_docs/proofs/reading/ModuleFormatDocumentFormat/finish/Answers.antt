use Rattle.std.proofs.Common.{subst}
use Rattle.build_base.specs.Answer.{Answers}
use Rattle.inf_docs.proofs.SectionLemmas.{module_told}
use Rattle.inf_docs.proofs.reading.ModuleFormatDocumentFormat.finish.Goals as goal

pub returns : goal.returns
returns c = λ above h. subst (λ outcome. Answers c.finished_document.result outcome) (module_told c.args.lines.now above c.args.self h) c.finished_document.ensures
