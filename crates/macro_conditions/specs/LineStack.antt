-- The same with a stack, line by line.
use Rattle.std.specs.Prelude.{Bool, true, false, if◌then◌else◌, List, [], ◌∷◌, Option, Some, None, Result, Ok, Err}
use Rattle.build_base.specs.declared.lines.Taken.{Taken as Line}
use Rattle.macro_conditions.specs.declared.directive.Directive.{Directive}
use Rattle.macro_conditions.specs.Directives.{kind_of}
use Rattle.macro_conditions.specs.declared.directive.Directive.TheVariants.{Act, If, Elseif, Else, Endif}
use Rattle.macro_conditions.specs.LineMeaning.{Acts, ◌>>=◌, at_end}

-- a branch is taken, or none was yet, or none is taken any more
pub data Mode : Type 0 where
  taking : Mode
  waiting : Mode
  passing : Mode

-- an open conditional: its `!if`, its mode, and whether its `!else` was seen
pub record Frame : Type 0 where
  pub opener : Line
  pub mode : Mode
  pub last : Bool

pub record State (E : Type 0) : Type 0 where
  pub frames : List Frame
  pub found : E

abbrev pub is_taking : Mode → Bool
is_taking taking = true
is_taking waiting = false
is_taking passing = false

abbrev pub active : List Frame → Bool
active [] = true
active (f ∷ fs) = is_taking f.mode

abbrev pub mode_by : Bool → Mode
mode_by true = taking
mode_by false = waiting

abbrev pub frame : Line → Mode → Frame
frame l m = record { opener = l; mode = m; last = false }

-- the outermost that is open
abbrev pub outermost : List Frame → Option Line → Option Line
outermost [] o = o
outermost (f ∷ fs) o = outermost fs (Some f.opener)

module _ {E F : Type 0} (a : Acts E F) where
  abbrev pub open_frame : List Frame → Line → E → Result Mode F
  open_frame fs l e = if active fs then (a.test l e >>= (λ b. Ok (mode_by b))) else Ok passing

  -- the mode after an `!elseif` or an `!else`
  abbrev pub next_mode : Mode → Line → E → Result Mode F
  next_mode taking l e = Ok passing
  next_mode waiting l e = a.test l e >>= (λ b. Ok (mode_by b))
  next_mode passing l e = Ok passing

  abbrev pub turn_frame : Bool → List Frame → E → Line → Result (State E) F
  turn_frame last [] e l = Err (a.unbalanced l)
  turn_frame last (f ∷ fs) e l =
      if f.last then Err (a.unbalanced l)
      else next_mode f.mode l e
      >>=
      (λ m.
      Ok
      (record { frames = record { opener = f.opener; mode = m; last = last } ∷ fs; found = e }))

  abbrev pub shut : List Frame → E → Line → Result (State E) F
  shut [] e l = Err (a.unbalanced l)
  shut (f ∷ fs) e l = Ok (record { frames = fs; found = e })

  abbrev pub step_by : Directive → List Frame → E → Line → Result (State E) F
  step_by Act fs e l = if active fs
      then (a.act l e >>= (λ x. Ok (record { frames = fs; found = x })))
      else Ok (record { frames = fs; found = e })
  step_by If fs e l = open_frame fs l e
      >>= (λ m. Ok (record { frames = frame l m ∷ fs; found = e }))
  step_by Elseif fs e l = turn_frame false fs e l
  step_by Else fs e l = turn_frame true fs e l
  step_by Endif fs e l = shut fs e l

  abbrev pub step : State E → Line → Result (State E) F
  step s l = step_by (kind_of l.text) s.frames s.found l

  unfoldable pub run : Result (State E) F → List Line → Result E F
  run s [] = s >>= (λ x. at_end a (outermost x.frames None) x.found)
  run s (l ∷ ls) = run (s >>= (λ x. step x l)) ls
