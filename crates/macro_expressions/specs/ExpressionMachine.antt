-- A machine that reads terms one by one, with a stack of what waits for an operand.
use Rattle.std.specs.Prelude.{ℕ, ◌+◌, nat_lt, nat_le, if◌then◌else◌, List, [], ◌∷◌, map, reverse, Option, Some, None}
use Rattle.macro_expressions.specs.declared.operator.BinaryOperator.{BinaryOperator}
use Rattle.macro_expressions.specs.declared.operator.PrefixOperator.{PrefixOperator}
use Rattle.macro_expressions.specs.declared.machine.Waiting.{Waiting}
use Rattle.macro_expressions.specs.declared.machine.Waiting.TheVariants as waiting
use Rattle.macro_expressions.specs.Values.{Outcome, level, apply, apply_prefix, view}
use Rattle.macro_expressions.specs.ExpressionTree.{Symbol, value, binary, prefix, open_mark, close_mark, unknown}

pub data Wait : Type 0 where
  group : Wait
  front : PrefixOperator → Wait
  left : Outcome → BinaryOperator → Wait

-- what waits, the innermost first, and the operand that has been read
pub record Held : Type 0 where
  pub waits : List Wait
  pub operand : Outcome

pub record State : Type 0 where
  pub waits : List Wait
  pub operand : Option Outcome

abbrev pub depth_of : List Wait → ℕ
depth_of [] = 0
depth_of (group ∷ ws) = depth_of ws + 1
depth_of (front op ∷ ws) = depth_of ws + 1
depth_of (left v op ∷ ws) = depth_of ws

-- prefix operators take their operand at once
abbrev pub settle : List Wait → Outcome → Held
settle [] v = record { waits = []; operand = v }
settle (group ∷ ws) v = record { waits = group ∷ ws; operand = v }
settle (front op ∷ ws) v = settle ws (apply_prefix op v)
settle (left u op ∷ ws) v = record { waits = left u op ∷ ws; operand = v }

-- operators of the level n or above it take their right operand
abbrev pub reduce : ℕ → List Wait → Outcome → Held
reduce n [] v = record { waits = []; operand = v }
reduce n (group ∷ ws) v = record { waits = group ∷ ws; operand = v }
reduce n (front op ∷ ws) v = record { waits = front op ∷ ws; operand = v }
reduce n (left u op ∷ ws) v = if nat_le n (level op) then reduce n ws (apply op u v)
    else record { waits = left u op ∷ ws; operand = v }

abbrev pub holding : Held → State
holding h = record { waits = h.waits; operand = Some h.operand }

abbrev pub wanting : List Wait → State
wanting ws = record { waits = ws; operand = None }

abbrev pub deeper : Wait → List Wait → Option State
deeper w ws = if nat_lt (depth_of ws) 64 then Some (wanting (w ∷ ws)) else None

abbrev pub closed : List Wait → Outcome → Option State
closed [] v = None
closed (group ∷ ws) v = Some (holding (settle ws v))
closed (front op ∷ ws) v = None
closed (left u op ∷ ws) v = None

abbrev pub step_wanting : List Wait → Symbol → Option State
step_wanting ws (value v) = Some (holding (settle ws v))
step_wanting ws (binary op) = None
step_wanting ws (prefix op) = deeper (front op) ws
step_wanting ws open_mark = deeper group ws
step_wanting ws close_mark = None
step_wanting ws unknown = None

abbrev pub step_holding : List Wait → Outcome → Symbol → Option State
step_holding ws v (value u) = None
step_holding ws v (binary op) = let h = reduce (level op) ws v
    in Some (wanting (left h.operand op ∷ h.waits))
step_holding ws v (prefix op) = None
step_holding ws v open_mark = None
step_holding ws v unknown = None
step_holding ws v close_mark = let h = reduce 0 ws v in closed h.waits h.operand

abbrev pub step_by : List Wait → Option Outcome → Symbol → Option State
step_by ws None t = step_wanting ws t
step_by ws (Some v) t = step_holding ws v t

abbrev pub step : State → Symbol → Option State
step s t = step_by s.waits s.operand t

abbrev pub whole : List Wait → Outcome → Option Outcome
whole [] v = Some v
whole (w ∷ ws) v = None

abbrev pub ended_by : List Wait → Option Outcome → Option Outcome
ended_by ws None = None
ended_by ws (Some v) = let h = reduce 0 ws v in whole h.waits h.operand

abbrev pub ended : State → Option Outcome
ended s = ended_by s.waits s.operand

abbrev pub next : Option State → Symbol → Option State
next None t = None
next (Some s) t = step s t

abbrev pub result_of : Option State → Option Outcome
result_of None = None
result_of (Some s) = ended s

unfoldable pub run : Option State → List Symbol → Option Outcome
run s [] = result_of s
run s (t ∷ ts) = run (next s t) ts

abbrev pub wait_view : Waiting → Wait
wait_view waiting.Group = group
wait_view (waiting.Front op) = front op
wait_view (waiting.Left o op) = left (view o) op

-- the code keeps the innermost last
abbrev pub waits_of : List Waiting → List Wait
waits_of ws = reverse (map wait_view ws)

abbrev pub rest : List Wait → List Wait
rest [] = []
rest (w ∷ ws) = ws

abbrev pub front_of : List Wait → Option PrefixOperator
front_of [] = None
front_of (group ∷ ws) = None
front_of (front op ∷ ws) = Some op
front_of (left v op ∷ ws) = None

abbrev pub left_of : ℕ → List Wait → Option (Outcome × BinaryOperator)
left_of n [] = None
left_of n (group ∷ ws) = None
left_of n (front op ∷ ws) = None
left_of n (left v op ∷ ws) = if nat_le n (level op) then Some (v, op) else None

abbrev pub top_of : List Wait → Option Wait
top_of [] = None
top_of (w ∷ ws) = Some w
