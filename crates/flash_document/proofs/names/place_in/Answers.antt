use Rattle.std.proofs.Common.{◌∙◌, ap}
use Rattle.flash_document.specs.Names.{place_from}
use Rattle.flash_document.proofs.names.place_in.Goals as goal

pub returns : goal.returns
returns c = λ names h. c.copied.ensures ∙ c.get.ensures.value ∙ h c.in_ok-key.key ∙ ap (λ key. place_from 0 key names) c.in_ok-key.ensures
