-- Answers, and asks whose parts aren't done.
use Rattle.std.proofs.Common.{◌≡◌, ℕ, Option, Some, None, Bool, subst, IfSome, MatchOption}
use Rattle.build_base.specs.Outside.{Files}
use Rattle.step_engine.specs.Build.{Setting}
use Rattle.step_engine.specs.Agreeing.{IsCompared, AreCompared}
use Rattle.step_engine.specs.Engine.{State, state, AreKept, IsCheckedPair}
use Rattle.step_engine.specs.Loops.{IsUnderWay}
use Rattle.step_engine.proofs.Moves.{moves_none, moves_compared}
use Rattle.step_engine.proofs.Steps.{at_held, way_moves, answered_part}
use Rattle.step_engine.specs.declared.talk.Pair.{Pair}
use Rattle.step_engine.specs.declared.talk.Ask.TheVariants as ask
use Rattle.step_engine.specs.declared.talk.Answer.TheVariants as answer
use Rattle.step_engine.specs.Items.{IsStill}

-- it isn't
pub still_none : {K O : Type 0} (s : Setting K O) (k : K) (x : State K O) → AreKept s x → IsStill s k x x
still_none s k x q = record { moves = moves_none s k x; kept = q }

pub still_then : {K O : Type 0} (s : Setting K O) (k : K) (h1 : Option Files) (c0 c1 : ℕ) (x y z : State K O) → IsUnderWay s k h1 c0 c1 x y → IsStill (at_held s h1) k y z → IsStill s k x z
still_then s k h1 c0 c1 x y z way d = record {
  moves = way_moves s k h1 c0 c1 x y z way d.moves;
  kept = subst (λ h. AreKept (at_held s h) z) way.held_is d.kept;
}

-- the old answer to a part is compared
module _ {K O : Type 0} (s : Setting K O) (k part : K) (p : Pair K O) (x : State K O) (compared : K → Option Bool) where
  kept_compared : AreKept s x → AreCompared s.old x.fresh compared → AreKept s (state x.fresh (record { files = x.learned.files; compared = compared }) x.ran x.reads)
  kept_compared q h = record { sound = q.sound; right = q.right; closed = q.closed; known = q.known; within = q.within; compared = h }

  pub checked_part : (r : Option Bool) → AreKept s x → AreCompared s.old x.fresh compared → p.ask ≡ ask.Part part → IfSome r (λ same. IsCompared x.fresh part same p.answer) → MatchOption r (IsStill s k x (state x.fresh (record { files = x.learned.files; compared = compared }) x.ran x.reads)) (IsCheckedPair s k p x (state x.fresh (record { files = x.learned.files; compared = compared }) x.ran x.reads))
  checked_part None q h e i = record { moves = moves_compared s k x compared; kept = kept_compared q h }
  checked_part (Some same) q h e i = (answer.Part i.0, rw e (answered_part s k part x (state x.fresh (record { files = x.learned.files; compared = compared }) x.ran x.reads) i.0 (moves_compared s k x compared) (kept_compared q h) i.1), i.2)
