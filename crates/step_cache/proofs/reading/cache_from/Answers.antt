use Rattle.std.proofs.Common.{arith, take, ◌+◌, ◌≡◌, ◌++◌, ◌∷◌, []}
use Rattle.std.proofs.lemmas.Grind.{common_steps}
use Rattle.step_cache.proofs.OrderLemmas.{put_next}
use Rattle.step_cache.proofs.reading.cache_from.Goals as goal

pub loop-entry-preserved : goal.loop-entry-preserved
loop-entry-preserved c =
    let xs = c.args.entries.now in
    let x = c.entry-item.result in
    let more : take (c.loop-entry.entry-index + 1) xs ≡ take c.loop-entry.entry-index xs ++ x ∷ [] = grind (arith, common_steps) in
    put_next xs x c.loop-entry.entry-index c.loop-entry.cache c.put.new.self c.in_ok-own.own c.requires more c.loop-entry.invariant c.in_ok-own.ensures c.in_ok-put.ensures.ok
