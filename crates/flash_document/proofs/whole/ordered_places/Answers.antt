use Rattle.std.proofs.Common.{◌≡◌, ◌∙◌, map, get_or, [], ap, subst}
use Rattle.std.specs.Prelude.{IfOk}
use Rattle.flash_document.specs.Document.{ordered_names}
use Rattle.flash_document.specs.Names.{Places}
use Rattle.flash_document.specs.Whole.{names_of}
use Rattle.flash_document.proofs.whole.ordered_places.Goals as goal

pub returns : goal.returns
returns c = λ parts s.
    let names : c.in_ok-names.names ≡ ordered_names parts =
    c.in_ok-names.ensures ∙ ap (λ ns. map (λ p. get_or ns p []) c.items-2.result.now) (c.items.ensures ∙ s.names)
    ∙ ap (map (λ p. get_or (names_of parts) p [])) (c.items-2.ensures ∙ s.order) in
    subst (λ ns. IfOk c.places_of.result (Places ns)) (c.items-3.ensures ∙ names) c.places_of.ensures
