-- What a replay reads of the tree: the script, and then line by line.
use Rattle.std.specs.Prelude.{◌≡◌, ◌⊎◌, ◌++◌, ℕ, List, [], ◌∷◌, Option, Some, None, Contains, map}
use Rattle.std.specs.Option.{IfSome}
use Rattle.build_base.specs.Outside.{Files, got_of}
use Rattle.build_base.specs.declared.outside.Got.{Got}
use Rattle.build_base.specs.World.{file_limit}
use Rattle.step_engine.specs.Build.{added_to}
use Rattle.step_engine.specs.Needed.{AreDistinct}
use Rattle.edk_build.specs.History.{script_in}
use Rattle.edk_build.specs.declared.replay_state.ReplayState.{ReplayState}
use Rattle.edk_build.specs.declared.script.ScriptCommand.{ScriptCommand}
use Rattle.edk_build.specs.declared.script.ScriptCommand.TheVariants.{Put, Drop, Build}
use Rattle.edk_build.specs.declared.script.ScriptLine.{ScriptLine}

-- A line that puts reads at most the file whose bytes it takes. One that drops reads nothing. A build
-- reads no path twice, and none that has an edit.
abbrev pub LineReads : List (List ℕ) → ScriptCommand → Option (List (List ℕ))
    → Option (List (List ℕ)) → Type 0
LineReads edited (Put path from) a b = (b ≡ a) ⊎ (b ≡ added_to a (from ∷ []))
LineReads edited (Drop path) a b = b ≡ a
LineReads edited (Build job) a b =
    (paths : List (List ℕ)) × (b ≡ added_to a paths) × AreDistinct paths
    × ((p : List ℕ) → Contains paths p → Contains edited p → ⊥)

-- the paths that have an edit, as often as they have one
abbrev pub edited_paths : ReplayState → List (List ℕ)
edited_paths s = map (λ e. e.path) s.edits

-- the paths that have an edit behind a line
abbrev pub edited_behind : ScriptCommand → List (List ℕ) → List (List ℕ)
edited_behind (Put path from) edited = edited ++ path ∷ []
edited_behind (Drop path) edited = edited ++ path ∷ []
edited_behind (Build job) edited = edited

-- lines read one after the other, up to one where the replay stops
unfoldable pub LinesRead : List (List ℕ) → List ScriptLine → Option (List (List ℕ))
    → Option (List (List ℕ)) → Type 0
LinesRead edited [] a b = b ≡ a
LinesRead edited (line ∷ lines) a b =
    (mid : Option (List (List ℕ))) × LineReads edited line.order a mid
    × ((b ≡ mid) ⊎ LinesRead (edited_behind line.order edited) lines mid b)

-- of a script that isn't in the grammar no line reads
abbrev pub ScriptReads : Option (List ScriptLine) → Option (List (List ℕ))
    → Option (List (List ℕ)) → Type 0
ScriptReads None a b = b ≡ a
ScriptReads (Some lines) a b = (b ≡ a) ⊎ LinesRead [] lines a b

-- a replay reads nothing, where the tree fails, or the script, and then what its lines read
abbrev pub ReplayReads : Option Files → List ℕ → Option (List (List ℕ))
    → Option (List (List ℕ)) → Type 0
ReplayReads held at a b =
    (b ≡ a)
    ⊎ ((script : Got) × IfSome held (λ files. script ≡ got_of file_limit (files at))
    × ScriptReads (script_in script) (added_to a (at ∷ [])) b)
