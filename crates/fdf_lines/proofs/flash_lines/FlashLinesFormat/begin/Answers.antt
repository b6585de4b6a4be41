use Rattle.std.proofs.Common.{◌∙◌, [], ◌∷◌, ◌++◌, sym, ap}
use Rattle.fdf_words.specs.declared.rows.LineRead.TheVariants.{Heads}
use Rattle.fdf_lines.specs.declared.section.FlashSection.TheVariants.{Device, Volume, Rule}
use Rattle.fdf_lines.specs.Counts.{saturated}
use Rattle.fdf_lines.proofs.CountLemmas.{statements_begun}
use Rattle.fdf_lines.proofs.FormatLemmas.{reads_more, heads_begun}
use Rattle.fdf_lines.proofs.StandingLemmas.{marks_begin, volume_begin}
use Rattle.fdf_lines.proofs.flash_lines.FlashLinesFormat.begin.Goals as goal

pub returns : goal.returns
returns c = λ above h.
    let s = c.args.self.now in
    let at = c.args.at.now in
    let scopes = c.args.scopes.now in
    record {
      reads =
          reads_more s.reads c.push.new.self (Heads at scopes) above h.reads
          (c.in_ok-push.ensures.ok ∙ ap (λ p. s.reads ++ Heads p c.in_ok-copied_scopes.field-0 ∷ []) c.in_ok-copy.ensures
          ∙ ap (λ rows. s.reads ++ Heads at rows ∷ []) c.in_ok-copied_scopes.ensures);
      marks = c.marks_begun-self.ensures ∙ sym (marks_begin above at scopes);
      volume = c.has_volume-self.ensures ∙ sym (volume_begin above at scopes);
      statements = ap saturated (sym (statements_begun above at scopes));
      devices = heads_begun Device above at scopes s.devices c.with_scopes-self.result h.devices c.with_scopes-self.ensures;
      volumes = heads_begun Volume above at scopes s.volumes c.with_scopes-self-2.result h.volumes c.with_scopes-self-2.ensures;
      rules = heads_begun Rule above at scopes s.rules c.with_scopes-self-3.result h.rules c.with_scopes-self-3.ensures;
    }
