-- What is left over.
use Rattle.std.proofs.Common.{refl, sym, true≢false, inl}
use Rattle.step_engine.proofs.Ending.{left_joined}
use Rattle.step_engine.proofs.brought.with_others.Goals as goal

pub returns-then-is_bad-clause-left : goal.returns-then-is_bad-clause-left
returns-then-is_bad-clause-left g c = left_joined _ _ _ (c.if-is_bad.ensures.0 refl) _ c.join_entries.ensures.joined

pub returns-clause-left : goal.returns-clause-left
returns-clause-left g c = inl (λ b. true≢false (sym (c.if-is_bad.ensures.1 b)), refl)
