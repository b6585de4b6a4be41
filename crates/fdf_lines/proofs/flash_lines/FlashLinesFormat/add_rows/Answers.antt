use Rattle.std.proofs.Common.{◌∙◌, [], ◌∷◌, ◌++◌, fold, sym, ap}
use Rattle.fdf_words.specs.declared.rows.LineRead.TheVariants.{Body}
use Rattle.fdf_lines.specs.declared.section.FlashSection.TheVariants.{Device, Volume, Rule}
use Rattle.fdf_lines.specs.Counts.{one_if, begins_statement}
use Rattle.fdf_lines.specs.Standing.{marks_with}
use Rattle.fdf_lines.proofs.FormatLemmas.{reads_more, heads_kept, statements_kept}
use Rattle.fdf_lines.proofs.StandingLemmas.{marks_more, volume_more}
use Rattle.fdf_lines.proofs.flash_lines.FlashLinesFormat.add_rows.Goals as goal

pub returns : goal.returns
returns c = λ above h.
    let s = c.args.self.now in
    let rows = c.args.rows.items in
    record {
      reads = reads_more s.reads c.push.new.self (Body rows) above h.reads (c.in_ok-push.ensures.ok ∙ ap (λ rs. s.reads ++ Body rs ∷ []) c.from_vec.ensures);
      marks =
          c.marks_after-self.ensures ∙ ap (fold marks_with s.marks) c.as_slice.ensures.value ∙ ap (λ m. fold marks_with m rows) h.marks ∙ sym (marks_more above rows);
      volume = h.volume ∙ sym (volume_more above rows);
      statements =
          statements_kept above rows s.statements c.saturating_add-self.result c.statements_of.result h.statements
          (c.statements_of.ensures ∙ ap (λ rs. one_if (begins_statement rs)) c.as_slice-2.ensures.value)
          c.saturating_add-self.ensures;
      devices = heads_kept Device above rows s.devices h.devices;
      volumes = heads_kept Volume above rows s.volumes h.volumes;
      rules = heads_kept Rule above rows s.rules h.rules;
    }
