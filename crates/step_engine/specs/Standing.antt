-- What a build goes by, and what it has so far, as its calls are handed both.
use Rattle.std.specs.Prelude.{ℕ, List, Option}
use Rattle.std.specs.declared.cmp.Ordering.{Ordering}
use Rattle.build_base.specs.Outside.{Files}
use Rattle.step_engine.specs.Meaning.{Meaning}
use Rattle.step_engine.specs.Build.{Setting, setting}
use Rattle.step_engine.specs.Edits.{over}
use Rattle.step_engine.specs.Engine.{State, state}
use Rattle.step_engine.specs.Reading.{knowledge}
use Rattle.step_engine.specs.declared.fixed.Fixed.{Fixed}
use Rattle.step_engine.specs.declared.progress.Progress.{Progress}

-- what stays during a build, over what the tree tells
abbrev pub setting_of : {R K O : Type 0} → Meaning K O → Fixed R K O → Option Files → Setting K O
setting_of means fixed held =
    setting means (over fixed.edits.now held) fixed.job.now fixed.old.now

-- what grows: the entries made and what was learned, with the keys in the book and the paths that
-- the tree tells as read
abbrev pub state_of : {K O : Type 0} → (K → K → Ordering) → Progress K O → List K
    → Option (List (List ℕ)) → State K O
state_of cmp progress ran reads =
    state progress.fresh.items (knowledge cmp progress.learned) ran reads
