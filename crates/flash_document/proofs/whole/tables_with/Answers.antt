use Rattle.std.proofs.Common.{◌∙◌, ap}
use Rattle.volume_nesting.specs.Numbering.{topological_order}
use Rattle.flash_document.specs.Whole.{volumes_of, names_of}
use Rattle.flash_document.proofs.WholeLemmas.{nests_lent}
use Rattle.flash_document.proofs.whole.tables_with.Goals as goal

pub returns : goal.returns
returns c = λ parts h named placed sized.
    let nests = c.in_ok-nests.ensures (names_of parts) placed ∙ nests_lent (names_of parts) c.args.volumes.now (volumes_of parts) h in
    record {
      names = named;
      places = placed;
      sizes = sized;
      nests = nests;
      order = c.in_ok-order.ensures ∙ ap topological_order (c.items.ensures ∙ nests);
    }
