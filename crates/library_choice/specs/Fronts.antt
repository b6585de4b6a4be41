-- How far a queue is passed that doesn't move when more INF files are known.
use Rattle.std.specs.Prelude.{◌≡◌, ℕ, Bool, true, false, ◌&&◌, not, List, [], take, Option, None}
use Rattle.std.specs.List.{filter_map, All}
use Rattle.doc_types.specs.declared.module.InfDoc.{InfDoc}
use Rattle.library_choice.specs.declared.front.Front.{Front}
use Rattle.library_choice.specs.declared.front.Fronts.{Fronts}
use Rattle.library_choice.specs.Closure.{same_path, is_known, is_unknown, instance_of, next, nulls}
use Rattle.library_choice.specs.Found.{is_in}
use Rattle.library_choice.specs.Lines.{Setting}
use Rattle.library_choice.specs.Search.{Stands, First, Finds}

-- of what is fixed another function gives the same
abbrev pub Agrees : {X : Type 0} → (X → Bool) → (X → List X) → (X → List X) → Type 0
Agrees {X} fixed next other = (x : X) → fixed x ≡ true → other x ≡ next x

-- a queue stands at a place, whatever those give that aren't fixed
abbrev pub StandsFixed : {X : Type 0} → (X → X → Bool) → (X → Bool) → (X → List X) → List X → List X
    → ℕ → Type 0
StandsFixed {X} eq fixed next starts found at =
    (other : X → List X) → Agrees fixed next other → Stands eq other [] starts found at

-- the front of a queue: all that is passed is known
pub record IsFrontOf (s : Setting) (starts : List (List ℕ)) (f : Front) : Type 0 where
  pub known : All (λ path. is_known s.infs path ≡ true) (take f.at f.found)
  pub stands : StandsFixed same_path (is_known s.infs) (next s) starts f.found f.at

-- the front of the queue that begins with the classes of a module
abbrev pub LeadsClasses : Setting → InfDoc → Front → Type 0
LeadsClasses s inf f = IsFrontOf s (filter_map (instance_of s) inf.classes) f

-- the front of the queue that begins with the NULL lines
abbrev pub LeadsNulls : Setting → Front → Type 0
LeadsNulls s f = IsFrontOf s (nulls s) f

-- both fronts of a module
pub record AreFronts (s : Setting) (inf : InfDoc) (f : Fronts) : Type 0 where
  pub classes : LeadsClasses s inf f.classes
  pub nulls : LeadsNulls s f.nulls

-- a queue went on from one place to another, past what is fixed alone
pub record PassedKnown {X : Type 0} (eq : X → X → Bool) (fixed : X → Bool) (next : X → List X)
    (old : List X) (from : ℕ) (new : List X) (at : ℕ) : Type 0 where
  pub stands : (starts : List X) → StandsFixed eq fixed next starts old from
      → StandsFixed eq fixed next starts new at
  pub known : All (λ x. fixed x ≡ true) (take from old) → All (λ x. fixed x ≡ true) (take at new)

-- the instances of a module, or that they are too many
abbrev pub FindsFor : Setting → InfDoc → Option (List (List ℕ)) → Type 0
FindsFor s inf found =
    Finds same_path (next s) (filter_map (instance_of s) inf.classes) (nulls s) found

-- a queue has ended
abbrev pub Ends : Setting → List (List ℕ) → List (List ℕ) → Type 0
Ends s starts found = First same_path (next s) starts found

-- both queues of a module have ended, or there are too many
abbrev pub BothEnd : Setting → InfDoc → List (List ℕ) → List (List ℕ) → Bool → Type 0
BothEnd s inf first second true =
    Ends s (filter_map (instance_of s) inf.classes) first × Ends s (nulls s) second
BothEnd s inf first second false = FindsFor s inf None

-- no INF file of a path is known, and it isn't among the first
unfoldable pub is_apart : Setting → List (List ℕ) → List ℕ → Bool
is_apart s first path = is_unknown s.infs path && not (is_in same_path first path)
