use Rattle.flash_document.proofs.HeldLemmas.{sizes_none}
use Rattle.flash_document.proofs.held.sizes_of.Goals as goal

pub loop-region-init : goal.loop-region-init
loop-region-init c = sizes_none c.new-sizes.result c.new-sizes.ensures.empty
