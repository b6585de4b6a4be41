-- What the code of the expansion stands for.
use Rattle.std.specs.Prelude.{◌≡◌, ℕ, List, [], ◌∷◌, ◌-◌, length, take, drop, map, reverse, Vec, Option, Some, None, Result, Ok, Err}
use Rattle.std.specs.declared.alloc.Global.{Global}
use Rattle.build_base.specs.declared.lines.Taken.{Taken as Line}
use Rattle.macro_conditions.specs.declared.known.Located.{Located as CodeLocated}
use Rattle.macro_conditions.specs.declared.known.Located.TheVariants as located
use Rattle.macro_conditions.specs.declared.work.Work.{Work}
use Rattle.macro_conditions.specs.declared.work.SourceLine.{SourceLine}
use Rattle.macro_conditions.specs.declared.work.LinePlace.{LinePlace}
use Rattle.macro_conditions.specs.declared.work.Stopped.{Stopped}
use Rattle.macro_conditions.specs.declared.work.Stopped.TheVariants as stopped
use Rattle.macro_conditions.specs.declared.work.Mode as code_mode
use Rattle.macro_conditions.specs.declared.work.Mode.TheVariants as modes
use Rattle.macro_conditions.specs.declared.work.Frame as code_frame
use Rattle.build_base.specs.declared.lines.Lines.{Lines}
use Rattle.build_base.specs.declared.refusal.Refusal.{Refusal}
use Rattle.build_base.specs.declared.refusal.Refusal.TheVariants as refusals
use Rattle.macro_conditions.specs.declared.expansion.Turned.{Turned}
use Rattle.macro_conditions.specs.declared.expansion.Turned.TheVariants as turned
use Rattle.macro_conditions.specs.Sources.{Located, wanted, missing, over_limit, there}
use Rattle.macro_conditions.specs.LineStack.{State, Mode, taking, waiting, passing, Frame}
use Rattle.macro_conditions.specs.Expansion.{Env, Stop, bad, need, line_at}
use Rattle.meta_lexer.specs.Lines.{TextLine}

abbrev pub located_view : CodeLocated → Located
located_view (located.Wanted path) = wanted path
located_view located.Missing = missing
located_view (located.OverLimit path) = over_limit path
located_view (located.There path bytes) = there path bytes.now

abbrev pub source_view : SourceLine → Line
source_view line =
    record { at = record { path = line.path.now; line = line.number }; text = line.text.now }

-- so many bytes of a text behind a start
abbrev pub text_at : List ℕ → LinePlace → List ℕ
text_at bytes p = take p.count (drop p.start bytes)

abbrev pub text_line : List ℕ → LinePlace → TextLine
text_line bytes p = record { number = p.number; text = text_at bytes p }

-- the line of a file at a place
abbrev pub line_in : List ℕ → List ℕ → LinePlace → Line
line_in path bytes p = line_at path (text_line bytes p)

abbrev pub mode_view : code_mode.Mode → Mode
mode_view modes.Taking = taking
mode_view modes.Waiting = waiting
mode_view modes.Passing = passing

module _ (path bytes : List ℕ) where
  abbrev pub frame_view : code_frame.Frame → Frame
  frame_view f =
      record { opener = line_in path bytes f.opener; mode = mode_view f.mode; last = f.last }

  -- the code keeps the innermost last
  abbrev pub frames_of : List code_frame.Frame → List Frame
  frames_of fs = reverse (map frame_view fs)

abbrev pub env_of : Work → Env
env_of w = record { rows = w.rows; macros = w.macros; open_files = w.open_files.items }

abbrev pub state_of : List ℕ → List ℕ → Vec code_frame.Frame Global → Work → State Env
state_of path bytes fs w = record { frames = frames_of path bytes fs.items; found = env_of w }

-- the innermost file is open no more
abbrev pub left_last : Env → Env
left_last e =
    record {
      rows = e.rows;
      macros = e.macros;
      open_files =
          take (length e.open_files - 1) e.open_files;
    }

-- includes that do nothing, where it doesn't matter what they do
abbrev pub idle : Line → Env → Result Env Stop
idle line e = Ok e

abbrev pub stop_in : {A : Type 0} → Result A Stop → Option Stop
stop_in (Ok x) = None
stop_in (Err stop) = Some stop

-- a refusal is this stop, unless memory was wanting
abbrev pub Halts : Stopped → Option Stop → Type 0
Halts (stopped.Bad fault) stop = stop ≡ Some (bad fault)
Halts (stopped.Need path) stop = stop ≡ Some (need path)
Halts stopped.WantOfMemory stop = Unit {0}

-- what an answer stands for is this outcome, unless memory was wanting
abbrev pub Agrees : {X Y : Type 0} → (X → Y) → Result X Stopped → Result Y Stop → Type 0
Agrees view (Ok x) outcome = outcome ≡ Ok (view x)
Agrees view (Err e) outcome = Halts e (stop_in outcome)

-- What the public call answers is this outcome, unless memory was wanting.
abbrev pub Expands : Result Turned Refusal → Result Lines Stop → Type 0
Expands (Ok (turned.Whole lines)) outcome = outcome ≡ Ok lines
Expands (Ok (turned.Need paths)) outcome = (path : List ℕ) × (paths ≡ path ∷ [])
    × (outcome ≡ Err (need path))
Expands (Err (refusals.Bad fault)) outcome = outcome ≡ Err (bad fault)
Expands (Err refusals.WantOfMemory) outcome = Unit {0}
