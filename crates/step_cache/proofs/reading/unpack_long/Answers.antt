use Rattle.std.proofs.Common.{rules}
use Rattle.step_cache.proofs.TextLemmas.{none_at_all, other_edition, other_head}
use Rattle.step_cache.proofs.reading.unpack_long.Goals as goal

pub returns-then-not-is_edition : goal.returns-then-not-is_edition
returns-then-not-is_edition c = other_edition c.args.bytes.now (search rules)

pub returns-then-not-branch : goal.returns-then-not-branch
returns-then-not-branch c = other_head c.args.bytes.now (search rules)

pub returns-in-None : goal.returns-in-None
returns-in-None c = none_at_all c.args.bytes.now (search rules)
