use Rattle.std.proofs.Common.{◌∙◌, ◌++◌, sym, ap, subst}
use Rattle.std.specs.List.{flat_map}
use Rattle.doc_reading.specs.Grammar.{entered}
use Rattle.doc_reading.proofs.HeldLemmas.{rows_same}
use Rattle.dsc_platform.specs.Cutting.{BlocksHeld}
use Rattle.dsc_platform.specs.SkuUses.{head_uses, uses_in}
use Rattle.dsc_lines.specs.Standing.{open_below}
use Rattle.dsc_platform.specs.Stating.{nothing, with_rows}
use Rattle.dsc_platform.proofs.BlockLemmas.{lines_same}
use Rattle.dsc_platform.proofs.StatedLemmas.{flat_push}
use Rattle.dsc_platform.proofs.format.DscFormatFormat.begin.Goals as goal

pub returns : goal.returns
returns c = λ above h.
    let s = c.args.self.now in
    let at = c.args.at.now in
    let scopes = c.args.scopes.now in
    record {
      stated = h.stated ∙ ap (with_rows nothing) (sym (rows_same above at scopes));
      standing = h.standing ∙ ap open_below (sym (rows_same above at scopes));
      names = h.names;
      uses = c.in_ok-push_heads.ensures ∙ ap (λ us. us ++ flat_map (head_uses at) scopes) h.uses ∙ sym (flat_push uses_in above (entered at scopes));
      blocks = subst (λ lines. BlocksHeld lines s.done s.first.items s.rest.items) (sym (lines_same above at scopes)) h.blocks;
    }
