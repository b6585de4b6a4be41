use Rattle.std.proofs.Common.{arith, take, ◌+◌, ◌≡◌, ◌++◌, ◌∷◌, []}
use Rattle.std.proofs.lemmas.Grind.{common_steps}
use Rattle.packed_outcomes.specs.Talk.{outcome_encoding}
use Rattle.step_cache.specs.Decoding.{IsDecoded}
use Rattle.step_cache.proofs.GivenLemmas.{decoded_push}
use Rattle.step_cache.proofs.decoding.outcomes_of.Goals as goal

pub loop-text-preserved : goal.loop-text-preserved
loop-text-preserved c =
    let xs = c.args.pool.now in
    let x = c.text-item.result in
    let done = take c.loop-text.text-index xs in
    let more : take (c.loop-text.text-index + 1) xs ≡ done ++ x ∷ [] = grind (arith, common_steps) in
    let encoded : IsDecoded outcome_encoding x c.in_ok-outcome.outcome = c.in_ok-outcome.ensures in
    rw (more, c.in_ok-push.ensures.ok) (decoded_push outcome_encoding done c.loop-text.rows x c.in_ok-outcome.outcome c.loop-text.invariant encoded)
