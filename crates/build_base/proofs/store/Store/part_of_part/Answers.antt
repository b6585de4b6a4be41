use Rattle.std.proofs.Common.{rules}
use Rattle.build_base.proofs.PartLemmas.{part_of_part}
use Rattle.build_base.proofs.store.Store.part_of_part.Goals as goal

pub returns-in_ok-try_clone-in-Some : goal.returns-in_ok-try_clone-in-Some
returns-in_ok-try_clone-in-Some c =
    rw (part_of_part c.args.within.0 c.args.within.1 c.args.start c.args.count _) search rules
