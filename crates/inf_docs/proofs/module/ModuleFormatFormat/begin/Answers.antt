use Rattle.std.proofs.Common.{◌∙◌, ◌++◌, sym, ap}
use Rattle.doc_reading.proofs.HeldLemmas.{rows_same}
use Rattle.inf_docs.specs.Depex.{parts_in}
use Rattle.inf_docs.specs.Modules.{no_tables, with_rows}
use Rattle.inf_docs.proofs.SectionLemmas.{section_begun, parts_begun}
use Rattle.inf_docs.proofs.module.ModuleFormatFormat.begin.Goals as goal

pub returns : goal.returns
returns c = λ above h.
    let at = c.args.at.now in
    let scopes = c.args.scopes.now in
    record {
      tables = h.tables ∙ sym (ap (with_rows no_tables) (rows_same above at scopes));
      section = section_begun above at scopes _ (sym c.in_ok-opened_section.ensures);
      parts =
          parts_begun above at scopes c.args.self.now.section c.args.self.now.parts _ h.section h.parts
          (c.in_ok-push_parts.ensures ∙ ap (λ o. c.args.self.now.parts ++ parts_in o) c.replace-ended.ensures.value);
    }
