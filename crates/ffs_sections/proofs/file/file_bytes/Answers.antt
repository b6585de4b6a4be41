use Rattle.ffs_sections.proofs.HeadLemmas.{file_shape}
use Rattle.ffs_sections.proofs.SizeLemmas.{length_file}
use Rattle.ffs_sections.proofs.file.file_bytes.Goals as goal

pub returns-clause-head : goal.returns-clause-head
returns-clause-head c = let n = rw c.requires.name at c.told-name in rw c.in_ok-text.ensures (file_shape c.args.plan.now c.args.body.now n)

pub returns-clause-size : goal.returns-clause-size
returns-clause-size c = let n = rw c.requires.name at c.told-name in rw c.in_ok-text.ensures (length_file c.args.plan.now c.args.body.now n)
