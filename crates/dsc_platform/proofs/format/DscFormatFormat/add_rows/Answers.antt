use Rattle.std.proofs.Common.{◌≡◌, ◌∙◌, [], ◌∷◌, ◌++◌, sym, ap, subst}
use Rattle.std.specs.List.{flat_map}
use Rattle.doc_reading.specs.Grammar.{rows_of, gave}
use Rattle.doc_reading.proofs.HeldLemmas.{rows_more}
use Rattle.dsc_platform.specs.Cutting.{lines_of, BlocksHeld}
use Rattle.dsc_platform.specs.SkuUses.{row_uses, uses_in}
use Rattle.dsc_lines.specs.Standing.{parts_in, said_marks, last_mark, open_below}
use Rattle.dsc_platform.specs.Stating.{nothing, with_rows}
use Rattle.dsc_platform.proofs.BlockLemmas.{lines_more, open_more}
use Rattle.dsc_platform.proofs.StatedLemmas.{rows_join, flat_push}
use Rattle.dsc_platform.proofs.format.DscFormatFormat.add_rows.Goals as goal

pub returns : goal.returns
returns c = λ above h.
    let s = c.args.self.now in
    let rows = c.args.rows.items in
    let done = c.take_parts.new.done in
    let first = c.take_parts.new.first.items in
    let rest = c.take_parts.new.rest.items in
    let parts : c.keep_rows.new.parts.items ≡ flat_map parts_in rows = c.in_ok-keep_rows.ensures.parts ∙ ap (λ ps. ps ++ flat_map parts_in rows) c.new-parts.ensures.items in
    record {
      stated =
          c.in_ok-keep_rows.ensures.stated ∙ ap (λ z. with_rows z rows) h.stated ∙ rows_join nothing (rows_of above) rows
          ∙ sym (ap (with_rows nothing) (rows_more above rows));
      standing =
          c.standing_below-self.ensures
          ∙ ap (λ rs. last_mark s.standing (flat_map said_marks rs)) c.as_slice.ensures.value
          ∙ ap (λ standing. last_mark standing (flat_map said_marks rows)) h.standing
          ∙ sym (ap open_below (rows_more above rows) ∙ open_more (rows_of above) rows);
      names = c.in_ok-keep_rows.ensures.names h.names;
      uses =
          c.in_ok-push_rows.ensures ∙ ap (λ rs. s.uses ++ flat_map row_uses rs) c.as_slice-2.ensures.value
          ∙ ap (λ us. us ++ flat_map row_uses rows) h.uses ∙ sym (flat_push uses_in above (gave rows));
      blocks =
          subst (λ lines. BlocksHeld lines done first rest) (sym (lines_more above rows))
          (subst (λ ps. BlocksHeld (lines_of above ++ ps ∷ []) done first rest) parts (c.in_ok-take_parts.ensures (lines_of above) h.blocks));
    }
