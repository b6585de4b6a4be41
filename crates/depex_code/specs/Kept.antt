-- What the compiler keeps, as the machine's states.
use Rattle.std.specs.Prelude.{◌≡◌, Bool, true, false, ℕ, List, [], ◌∷◌, Option, Some, None, Result, Ok, Err, map, reverse}
use Rattle.std.specs.Option.{option_map}
use Rattle.build_base.specs.declared.fault.Place.{Place}
use Rattle.build_base.specs.declared.guid.Guid.{Guid}
use Rattle.build_base.specs.declared.refusal.Refusal.{Refusal}
use Rattle.build_base.specs.Answer.{Finds}
use Rattle.depex_code.specs.declared.token.Token.{Token}
use Rattle.build_base.specs.FaultText.{fault_of}
use Rattle.depex_code.specs.Compiled.{own_code, term_code}
use Rattle.depex_code.specs.declared.measure.Measure.{Measure}
use Rattle.depex_code.specs.declared.piece.Piece.{Piece}
use Rattle.depex_code.specs.declared.piece.Code.{Code}
use Rattle.depex_code.specs.declared.waiting.Waiting.{Waiting}
use Rattle.depex_code.specs.declared.waiting.Waiting.TheVariants as waiting
use Rattle.depex_code.specs.declared.waiting.Stage.{Stage}
use Rattle.depex_code.specs.declared.waiting.Stage.TheVariants as stage
use Rattle.depex_code.specs.Sizes.{Size, Reach, Form}
use Rattle.depex_code.specs.Terms.{Wait, group, front, left, State, wanting, pointing, holding, wrong, is_right}

abbrev pub reach_view : Measure → Reach
reach_view m = record { deep = m.deep; count = m.count }

abbrev pub guids_view : List Guid → List (List ℕ)
guids_view guids = map (λ g. g.0) guids

abbrev pub form_view : Code → Form
form_view code =
    record { bytes = code.bytes.items; guids = option_map (λ v. guids_view v.items) code.guids }

abbrev pub piece_size : Piece → Size
piece_size p = record { form = form_view p.code; reach = reach_view p.measure; alone = p.alone }

abbrev pub wait_view : Waiting → Wait Size
wait_view waiting.Group = group
wait_view (waiting.Front p) = front p
wait_view (waiting.Left a op) = left (piece_size a) op

-- the code keeps the innermost last
abbrev pub waits_of : List Waiting → List (Wait Size)
waits_of ws = reverse (map wait_view ws)

abbrev pub state_of : List Waiting → Stage → State Size
state_of ws stage.Wanting = wanting (waits_of ws)
state_of ws (stage.Pointing e) = pointing e (waits_of ws)
state_of ws (stage.Holding p) = holding (waits_of ws) (piece_size p)

-- a joiner may follow an operand here
abbrev pub IsBase : List (Wait Size) → Type 0
IsBase [] = Unit {0}
IsBase (group ∷ ws) = Unit {0}
IsBase (front p ∷ ws) = ⊥
IsBase (left a op ∷ ws) = ⊥

abbrev pub is_base : List (Wait Size) → Bool
is_base [] = true
is_base (group ∷ ws) = true
is_base (front p ∷ ws) = false
is_base (left a op ∷ ws) = false

abbrev pub Popped : List (Wait Size) → Option (Wait Size) → List (Wait Size) → Type 0
Popped old None new = (old ≡ []) × (new ≡ [])
Popped old (Some w) new = old ≡ w ∷ new

-- what takes an operand is taken off
abbrev pub Took : List (Wait Size) → Option (Wait Size) → List (Wait Size) → Type 0
Took old None new = (new ≡ old) × IsBase old
Took old (Some group) new = ⊥
Took old (Some (front p)) new = old ≡ front p ∷ new
Took old (Some (left a op)) new = old ≡ left a op ∷ new

abbrev pub HasNoGroup : List (Wait Size) → Type 0
HasNoGroup [] = Unit {0}
HasNoGroup (group ∷ ws) = ⊥
HasNoGroup (front p ∷ ws) = Unit {0}
HasNoGroup (left a op ∷ ws) = Unit {0}

abbrev pub Closed : List (Wait Size) → Bool → List (Wait Size) → Type 0
Closed old true new = old ≡ group ∷ new
Closed old false new = (new ≡ old) × HasNoGroup old

-- a step goes to a state, or is wrong
abbrev pub Steps : State Size → List Waiting → Option Stage → Type 0
Steps next new None = next ≡ wrong
Steps next new (Some s) = next ≡ state_of new s

-- one more term leads to a state, or is at fault
abbrev pub TermRead : Place → Bool → Token → List ℕ → State Size → List Waiting
    → Result Stage Refusal → Type 0
TermRead at edge k term next new (Ok s) = (next ≡ state_of new s) × (own_code edge term k ≡ None)
TermRead at edge k term next new (Err e) =
    Finds e (option_map (λ code. fault_of code at term) (term_code (is_right next) edge term k))
