use Rattle.std.proofs.Common.{◌∙◌, ap}
use Rattle.flash_document.specs.Names.{lower_case}
use Rattle.flash_document.specs.Whole.{held_by}
use Rattle.flash_document.proofs.held.held_in.Goals as goal

pub returns : goal.returns
returns c = λ regions h. c.copied.ensures ∙ c.get.ensures.value ∙ h c.in_ok-key.key ∙ ap (λ key. held_by key regions) (c.in_ok-key.ensures ∙ ap lower_case c.bytes.ensures)
