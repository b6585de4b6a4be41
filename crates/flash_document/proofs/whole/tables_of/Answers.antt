use Rattle.std.proofs.Common.{◌∙◌, subst}
use Rattle.flash_document.specs.Names.{Places}
use Rattle.flash_document.specs.Whole.{volumes_of, names_of}
use Rattle.flash_document.proofs.WholeLemmas.{names_lent}
use Rattle.flash_document.proofs.whole.tables_of.Goals as goal

pub returns : goal.returns
returns c = λ h.
    let parts = c.args.parts.now in
    let names = c.in_ok-names.ensures ∙ names_lent c.args.volumes.now (volumes_of parts) h in
    let places : Places (names_of parts) c.in_ok-places.places = subst (λ ns. Places ns c.in_ok-places.places) (c.items.ensures ∙ names) c.in_ok-places.ensures in
    c.tables_with.ensures parts h names places c.in_ok-sizes.ensures
