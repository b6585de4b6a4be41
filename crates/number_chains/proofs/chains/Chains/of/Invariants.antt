use Rattle.std.proofs.Common.{length, ◌≤◌}
use Rattle.number_chains.specs.Chains.{IsChainedFrom}
use Rattle.number_chains.proofs.chains.Chains.of.Given as goal

abbrev pub invariant-loop-place : goal.invariant-loop-place
invariant-loop-place l =
    (l.place ≤ length l.numbers) × IsChainedFrom l.numbers l.place l.first l.next.items

abbrev pub decreases-loop-place : goal.decreases-loop-place
decreases-loop-place l = l.place
