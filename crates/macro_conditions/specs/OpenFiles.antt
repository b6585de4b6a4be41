-- What is left of a document whose expansion has stopped. The form is this project's own.
use Rattle.std.specs.Prelude.{◌≡◌, ◌<◌, ℕ, zero, suc, ◌+◌, ◌-◌, ◌*◌, Bool, true, false, if◌then◌else◌, List, [], ◌∷◌, ◌++◌, length, drop, get_or, map, reverse, Option, Some, None, Result, Ok, Err}
use Rattle.build_base.specs.declared.lines.Macro.{Macro}
use Rattle.build_base.specs.declared.lines.Taken.{Taken as Line}
use Rattle.macro_conditions.specs.declared.directive.Directive.TheVariants.{Act}
use Rattle.macro_conditions.specs.declared.work.LinePlace.{LinePlace}
use Rattle.macro_conditions.specs.declared.work.OpenFile.{OpenFile}
use Rattle.macro_conditions.specs.declared.work.Left.{Left}
use Rattle.macro_conditions.specs.declared.work.Halted.{Halted}
use Rattle.macro_conditions.specs.declared.work.Halted.TheVariants as halted
use Rattle.macro_conditions.specs.declared.work.Stopped.{Stopped}
use Rattle.macro_conditions.specs.declared.work.Stopped.TheVariants as stopped
use Rattle.macro_conditions.specs.declared.work.Next.{Next}
use Rattle.macro_conditions.specs.declared.work.Next.TheVariants as next
use Rattle.macro_conditions.specs.Directives.{kind_of, is_include}
use Rattle.macro_conditions.specs.LineMeaning.{◌>>=◌}
use Rattle.macro_conditions.specs.LineStack.{Frame, State, active, step, run}
use Rattle.macro_conditions.specs.Sources.{Source}
use Rattle.macro_conditions.specs.Worlds.{MoreAnswers}
use Rattle.macro_conditions.specs.declared.expansion.Turned.{Turned}
use Rattle.build_base.specs.declared.refusal.Refusal.{Refusal}
use Rattle.build_base.specs.declared.outside.Got.{Got}
use Rattle.build_base.specs.declared.outside.Got.TheVariants.{File, Absent, TooLong}
use Rattle.build_base.specs.FaultText.{fault_of}
use Rattle.build_base.specs.FaultCodes.{FILE_ABSENT, INCLUDE_LOOP, INCLUDE_TOO_DEEP}
use Rattle.macro_conditions.specs.Expansion.{Env, Stop, bad, need, fault_at, is_open, place_of, too_long, settled, line_at, acts, included, inside, outside, lines_read, document, expansion}
use Rattle.macro_conditions.specs.Work.{text_line, line_in, frames_of, env_of, Halts, stop_in, Expands}

-- an open file: its path, its open conditionals, and the lines that are still to come
pub record Opened : Type 0 where
  pub path : List ℕ
  pub frames : List Frame
  pub lines : List Line

-- the paths of open files, of which the innermost is the first
abbrev pub names : List Opened → List (List ℕ)
names [] = []
names (f ∷ fs) = names fs ++ f.path ∷ []

-- the environment behind a file that these are around
abbrev pub behind : List Opened → Env → Env
behind fs x = record { rows = x.rows; macros = x.macros; open_files = names fs }

abbrev pub begun_at : Opened → Env → State Env
begun_at f e = record { frames = f.frames; found = e }

-- What open files come to: the lines that are left of the innermost, then the file around it.
unfoldable pub rest : Source → List Macro → List Opened → Env → Result Env Stop
rest known fixed [] e = Ok e
rest known fixed (f ∷ fs) e =
    run (acts fixed (included known fixed (31 - length fs))) (Ok (begun_at f e)) f.lines
    >>= (λ x. rest known fixed fs (behind fs x))

abbrev pub fresh_file : List ℕ → List Line → Opened
fresh_file path lines = record { path = path; frames = []; lines = lines }

-- a file that is opened, at its first line
abbrev pub opened : List ℕ → List ℕ → Result Opened Stop
opened path bytes = settled (lines_read path bytes)
    >>= (λ lines. Ok (fresh_file path (map (line_at path) lines)))

abbrev pub lines_at : List ℕ → List ℕ → List LinePlace → List Line
lines_at path bytes places = map (line_at path) (map (text_line bytes) places)

abbrev pub opened_of : OpenFile → Opened
opened_of f = record {
  path = f.path;
  frames = frames_of f.path f.text f.frames.items;
  lines = drop f.next (lines_at f.path f.text f.lines.items);
}

-- the code keeps the innermost last
abbrev pub stack_of : List OpenFile → List Opened
stack_of fs = reverse (map opened_of fs)

-- an include that is to be carried out
pub record IsInclude (frames : List Frame) (l : Line) : Type 0 where
  pub kind : kind_of l.text ≡ Act
  pub takes : active frames ≡ true
  pub word : is_include l.text ≡ true

abbrev pub Include : Type 0
Include = Line → Env → Result Env Stop

-- a line does what it does whatever an include does, or it is an include and waits
abbrev pub Steps : List Macro → Line → State Env → State Env → Result Bool Stopped → Type 0
Steps fixed l old new (Ok true) = (new ≡ old) × IsInclude old.frames l
Steps fixed l old new (Ok false) = (i : Include) → step (acts fixed i) old l ≡ Ok new
Steps fixed l old new (Err e) = (i : Include) → Halts e (stop_in (step (acts fixed i) old l))

-- lines of a file go on up to a place, whatever an include does
abbrev pub Goes : List Macro → List Line → ℕ → State Env → State Env → Result ℕ Stopped → Type 0
Goes fixed lines from old new (Ok at) = (i : Include)
    → run (acts fixed i) (Ok old) (drop from lines) ≡ run (acts fixed i) (Ok new) (drop at lines)
Goes fixed lines from old new (Err e) =
    (i : Include) → Halts e (stop_in (run (acts fixed i) (Ok old) (drop from lines)))

-- what is left stays the same, for all that is known more
pub record Moves (known : Source) (fixed : List Macro) (old : List Opened) (before : Env)
    (new : List Opened) (after : Env) : Type 0 where
  pub keeps : (more : Source) → MoreAnswers known more
      → rest more fixed old before ≡ rest more fixed new after
  pub named : after.open_files ≡ names new

-- an include comes to the file that it opens, for all that is known more
abbrev pub Opens : Source → List Macro → ℕ → Line → Env → Opened → Type 0
Opens known fixed levels l e f =
    (0 < levels) × (f.frames ≡ [])
    × ((more : Source) → MoreAnswers known more → included more fixed levels l e
    ≡ run (acts fixed (included more fixed (levels - 1))) (Ok (begun_at f (inside f.path e))) f.lines
    >>= (λ x. Ok (outside e x)))

abbrev pub OpensFile : Source → List Macro → ℕ → Line → Env → Result OpenFile Stopped → Type 0
OpensFile known fixed levels l e (Ok f) = Opens known fixed levels l e (opened_of f)
OpensFile known fixed levels l e (Err stop) = Halts stop (stop_in (included known fixed levels l e))

-- the files that are open behind a turn of the innermost one
abbrev pub behind_turn : Next → List Opened → List Opened
behind_turn next.Ended fs = fs
behind_turn (next.Within f inner) fs = opened_of inner ∷ opened_of f ∷ fs
behind_turn (next.Wants f path) fs = opened_of f ∷ fs

-- what so many lines and their end count, where one counts so much
abbrev pub cost : ℕ → ℕ → ℕ
cost zero w = w
cost (suc n) w = w + cost n w

-- what a line counts in a file within which so many more may be open: more than all lines of a file
-- that it includes
unfoldable pub worth : ℕ → ℕ
worth zero = 1
worth (suc n) = 18446744073709551617 * worth n

abbrev pub weight : List Opened → ℕ
weight [] = 0
weight (f ∷ fs) = cost (length f.lines) (worth (31 - length fs)) + weight fs

-- a path is wanted, or less is left
abbrev pub Outcome : Source → List Macro → List Opened → List Opened → Env → Next → Type 0
Outcome known fixed old new x next.Ended = weight new < weight old
Outcome known fixed old new x (next.Within f inner) = weight new < weight old
Outcome known fixed old new x (next.Wants f path) = rest known fixed new x ≡ Err (need path)

-- the innermost file goes on, within any files
abbrev pub Turns : Source → List Macro → ℕ → Opened → Env → Env → Result Next Stopped → Type 0
Turns known fixed levels f e x (Ok next) = (fs : List Opened) → levels ≡ 31 - length fs
    → e.open_files ≡ names (f ∷ fs)
    → Moves known fixed (f ∷ fs) e (behind_turn next fs) x
    × Outcome known fixed (f ∷ fs) (behind_turn next fs) x next
Turns known fixed levels f e x (Err stop) =
    (fs : List Opened) → levels ≡ 31 - length fs
    → Halts stop (stop_in (rest known fixed (f ∷ fs) e))

-- files that are open in an environment are what is left of a document, for all that is known more
pub record IsLeft (known : Source) (root : List ℕ) (macros fixed : List Macro) (fs : List Opened)
    (e : Env) : Type 0 where
  pub is : (more : Source) → MoreAnswers known more
      → expansion more root macros fixed ≡ rest more fixed fs e >>= (λ x. document root x)
  pub named : e.open_files ≡ names fs

-- the file that an include of this path finds, where so many files more may be open
abbrev pub found_file : ℕ → Line → List ℕ → List ℕ → List ℕ → Env → Result Opened Stop
found_file zero l path p bytes e = Err (bad (fault_at INCLUDE_TOO_DEEP l path))
found_file (suc n) l path p bytes e =
    if is_open p e then Err (bad (fault_at INCLUDE_LOOP l path)) else opened p bytes

-- the next line of a file is an include
abbrev pub AtInclude : OpenFile → Type 0
AtInclude f = (f.next < length f.lines.items)
    × ((d : LinePlace) → IsInclude (frames_of f.path f.text f.frames.items)
    (line_in f.path f.text (get_or f.lines.items f.next d)))

-- the files that are open, and their environment
abbrev pub files_of : Left → List Opened
files_of l = stack_of l.files.items

abbrev pub within : Left → Env
within l = env_of l.work

-- what is left comes to the end, or stops at a path that is wanted
abbrev pub Ends : Source → List Macro → List Opened → Env → Result Halted Stopped → Type 0
Ends known fixed fs e (Ok (halted.Whole work)) = rest known fixed fs e ≡ Ok (env_of work)
Ends known fixed fs e (Ok (halted.Wants path left)) =
    Moves known fixed fs e (files_of left) (within left)
    × (rest known fixed fs e ≡ Err (need path))
Ends known fixed fs e (Err stop) = Halts stop (stop_in (rest known fixed fs e))

-- what is left of a document, unless it is at its beginning
abbrev pub IsPause : Source → List ℕ → List Macro → List Macro → Option Left → Type 0
IsPause known root macros fixed None = Unit {0}
IsPause known root macros fixed (Some left) =
    IsLeft known root macros fixed (files_of left) (within left)

-- what a document comes to, or where it stops
abbrev pub Comes : Source → List ℕ → List Macro → List Macro → Result (Turned × Option Left) Refusal
    → Type 0
Comes known root macros fixed (Ok (turned, left)) =
    Expands (Ok turned) (expansion known root macros fixed)
    × IsPause known root macros fixed left
Comes known root macros fixed (Err refusal) =
    Expands (Err refusal) (expansion known root macros fixed)

-- the root of a document, at its first line
abbrev pub root_file : List ℕ → Option Got → Result Opened Stop
root_file root None = Err (need root)
root_file root (Some Absent) = Err (bad (fault_of FILE_ABSENT (place_of root 0) root))
root_file root (Some TooLong) = Err (too_long root)
root_file root (Some (File bytes)) = opened root bytes

-- a document at its beginning
abbrev pub Begins : Source → List ℕ → List Macro → List Macro → Result Left Stopped → Type 0
Begins known root macros fixed (Ok left) =
    IsLeft known root macros fixed (files_of left) (within left)
Begins known root macros fixed (Err stop) =
    Halts stop (stop_in (expansion known root macros fixed))

-- the innermost of the files that are open goes on, up to an include or to its end
abbrev pub Tops : Source → List Macro → List Opened → Env → List Opened → Env
    → Result (Option (List ℕ)) Stopped → Type 0
Tops known fixed old e new x (Ok None) = e.open_files ≡ names old
    → Moves known fixed old e new x × (weight new < weight old)
Tops known fixed old e new x (Ok (Some path)) = e.open_files ≡ names old
    → Moves known fixed old e new x × (rest known fixed new x ≡ Err (need path))
Tops known fixed old e new x (Err stop) = Halts stop (stop_in (rest known fixed old e))

-- an outcome, and what is left behind it
abbrev pub paired : Result Turned Refusal → Option Left → Result (Turned × Option Left) Refusal
paired (Ok turned) left = Ok (turned, left)
paired (Err refusal) left = Err refusal

-- a file whose include stops waits where a path is wanted
abbrev pub StopsAt : OpenFile → Stopped → Result Next Stopped → Type 0
StopsAt f s (Ok n) = (path : List ℕ) × (s ≡ stopped.Need path) × (n ≡ next.Wants f path)
StopsAt f s (Err e) = e ≡ s
