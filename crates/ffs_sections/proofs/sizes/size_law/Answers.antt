use Rattle.ffs_sections.proofs.SizeLemmas.{sizes_same}
use Rattle.ffs_sections.proofs.sizes.size_law.Goals as goal

pub returns : goal.returns
returns c = let n = rw c.requires at c.told-name in sizes_same c.args.plan.now n
