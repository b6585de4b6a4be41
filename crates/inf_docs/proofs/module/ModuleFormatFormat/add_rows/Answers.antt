use Rattle.std.proofs.Common.{◌∙◌, option_map, sym, ap}
use Rattle.doc_reading.specs.Grammar.{rows_of}
use Rattle.doc_reading.proofs.HeldLemmas.{rows_more}
use Rattle.inf_docs.specs.Depex.{with_terms}
use Rattle.inf_docs.specs.Modules.{no_tables, with_rows}
use Rattle.inf_docs.proofs.SectionLemmas.{section_more, parts_same}
use Rattle.inf_docs.proofs.TableLemmas.{rows_join}
use Rattle.inf_docs.proofs.module.ModuleFormatFormat.add_rows.Goals as goal

pub returns : goal.returns
returns c = λ above h.
    let rows = c.args.rows.items in
    record {
      tables = c.in_ok-take.ensures ∙ ap (λ t. with_rows t rows) h.tables ∙ rows_join no_tables (rows_of above) rows ∙ sym (ap (with_rows no_tables) (rows_more above rows));
      section = section_more above c.args.self.now.section _ rows h.section (c.in_ok-add_terms.ensures ∙ ap (λ rs. option_map (with_terms rs) c.args.self.now.section) c.as_slice.ensures.value);
      parts = parts_same above c.args.self.now.parts rows h.parts;
    }
