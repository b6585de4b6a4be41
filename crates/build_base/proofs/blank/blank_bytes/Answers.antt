use Rattle.std.proofs.lemmas.List.{take-replicate}
use Rattle.build_base.proofs.blank.blank_bytes.Goals as goal

pub returns-then-ones : goal.returns-then-ones
returns-then-ones c = rw c.if-ones.true (take-replicate c.args.size 65536 255 c.requires)

pub returns-else-ones : goal.returns-else-ones
returns-else-ones c = rw c.if-ones.false (take-replicate c.args.size 65536 0 c.requires)
