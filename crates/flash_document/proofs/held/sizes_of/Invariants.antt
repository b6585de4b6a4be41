use Rattle.std.proofs.Common.{take}
use Rattle.flash_document.specs.Held.{Sizes}
use Rattle.flash_document.proofs.held.sizes_of.Given as goal

abbrev pub invariant-loop-region : goal.invariant-loop-region
invariant-loop-region l = Sizes (take l.region-index l.regions) l.sizes
