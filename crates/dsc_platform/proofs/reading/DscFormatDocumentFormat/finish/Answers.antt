use Rattle.std.proofs.Common.{◌≡◌, ◌∙◌, sym, ap, subst}
use Rattle.build_base.specs.Answer.{Answers}
use Rattle.doc_reading.specs.Grammar.{rows_of}
use Rattle.dsc_platform.specs.Cutting.{lines_of, components_of}
use Rattle.dsc_platform.specs.Platform.{document_of, platform_made}
use Rattle.dsc_lines.specs.SkuNames.{Placed}
use Rattle.dsc_platform.specs.SkuUses.{uses_of}
use Rattle.dsc_platform.specs.Stating.{nothing, with_rows, names_of}
use Rattle.dsc_platform.proofs.BlockLemmas.{block_ended}
use Rattle.dsc_platform.proofs.reading.DscFormatDocumentFormat.finish.Goals as goal

pub returns : goal.returns
unfolding platform_made
returns c = λ above holds.
    let lines = c.args.lines.now in
    let f = c.args.self in
    let e = c.in_ok-ended.ended in
    let stated : e.stated ≡ with_rows nothing (rows_of above) = c.in_ok-ended.ensures.stated ∙ holds.stated in
    let components : e.components ≡ components_of above = block_ended (lines_of above) f.done e.components f.first.items f.rest.items holds.blocks c.in_ok-ended.ensures.components in
    let uses : e.uses ≡ uses_of above = c.in_ok-ended.ensures.uses ∙ holds.uses in
    let placed : Placed (names_of e.stated.skus) e.names =
    subst (λ s. Placed (names_of s.skus) e.names) (sym c.in_ok-ended.ensures.stated) (subst (λ t. Placed (names_of f.stated.skus) t) (sym c.in_ok-ended.ensures.names) holds.names) in
    let is : platform_made lines above ≡ document_of lines e.stated e.components e.uses =
    ap (λ s. document_of lines s (components_of above) (uses_of above)) (sym stated)
    ∙ ap (λ cs. document_of lines e.stated cs (uses_of above)) (sym components)
    ∙ ap (document_of lines e.stated e.components) (sym uses) in
    subst (λ o. Answers c.document.result o) (sym is) (c.document.ensures placed)
