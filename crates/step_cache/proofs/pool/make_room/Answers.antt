use Rattle.std.proofs.Common.{rules}
use Rattle.step_cache.proofs.PoolTextLemmas.{same_texts, roomy}
use Rattle.step_cache.proofs.pool.make_room.Goals as goal

pub returns-in_ok-extend_from_slice-clause-pool : goal.returns-in_ok-extend_from_slice-clause-pool
returns-in_ok-extend_from_slice-clause-pool c =
    roomy c.args.bytes.now.items c.extend_from_slice.new.self.items c.args.spans.now c.args.table.now c.requires (search rules) (search rules)

pub returns-in_ok-extend_from_slice-clause-texts : goal.returns-in_ok-extend_from_slice-clause-texts
returns-in_ok-extend_from_slice-clause-texts c =
    same_texts c.args.bytes.now.items c.extend_from_slice.new.self.items c.args.spans.now c.args.table.now c.requires (search rules)
