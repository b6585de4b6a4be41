use Rattle.std.proofs.Common.{◌∙◌, subst}
use Rattle.std.specs.Prelude.{IfOk}
use Rattle.flash_document.specs.Held.{Sizes}
use Rattle.flash_document.proofs.whole.region_sizes.Goals as goal

pub returns : goal.returns
returns c = subst (λ rs. IfOk c.sizes_of.result (Sizes rs)) (c.items.ensures ∙ c.in_ok-regions.ensures) c.sizes_of.ensures
