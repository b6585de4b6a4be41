-- What a build has come to when its key has its outcome, and what it leaves.
use Rattle.std.specs.Prelude.{◌≡◌, ◌⊎◌, List}
use Rattle.step_engine.specs.Build.{Setting}
use Rattle.step_engine.specs.Needed.{IsBad}
use Rattle.step_engine.specs.Caches.{IsJoined}
use Rattle.step_engine.specs.Engine.{State, state}
use Rattle.step_engine.specs.Rounds.{IsGoing, IsEnd, AreSame}
use Rattle.step_engine.specs.Table.{Known}
use Rattle.step_engine.specs.declared.talk.Outcome.{Outcome}
use Rattle.step_engine.specs.declared.talk.Entry.{Entry}

-- the entries made are those of a build whose key has its outcome, and the book is that build's
pub record IsReached {K O : Type 0} (s : Setting K O) (top : K) (book book' : List K)
    (r : Outcome O) (made : List (Entry K O)) : Type 0 where
  pub begin : State K O
  pub end : State K O
  pub known : Known K
  pub before : begin.ran ≡ book
  pub after : end.ran ≡ book'
  pub going : IsGoing s top begin end known
  pub same : AreSame end.fresh made
  pub ended : IsEnd s top (state made end.learned end.ran end.reads) going.added r

-- the entries made, and where the outcome is a fault the old ones of other keys too
abbrev pub IsLeftOver : {K O : Type 0} → List (Entry K O) → List (Entry K O) → Outcome O
    → List (Entry K O) → Type 0
IsLeftOver old made r left = ((IsBad r → ⊥) × (left ≡ made)) ⊎ (IsBad r × IsJoined made old left)
