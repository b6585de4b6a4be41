-- What the instances are to which one leads, by their places in the list of what is found.
use Rattle.std.specs.Prelude.{◌≡◌, ◌≤◌, ℕ, Bool, true, nat_eq, List, [], length, get_or, map}
use Rattle.std.specs.List.{position_or_len}
use Rattle.library_calls.specs.declared.caller.WithCalls.{WithCalls}
use Rattle.library_choice.specs.Closure.{next, same_path}
use Rattle.library_choice.specs.Found.{add, ends, is_in}
use Rattle.library_choice.specs.Lines.{Setting}
use Rattle.library_choice.specs.Search.{AllIn, Closed}

-- all ends of walks from one: none is longer than this
abbrev pub LedTo : {X : Type 0} → (X → X → Bool) → (X → List X) → X → List X → Type 0
LedTo eq next from found = (n : ℕ) → 1024 ≤ n → add eq [] (ends next (next from) n) ≡ found

-- one is among those of a whole list, which has at most 1,024
pub record IsWithin {X : Type 0} (eq : X → X → Bool) (next : X → List X) (from : X) : Type 0 where
  pub found : List X
  pub closed : Closed eq next found
  pub few : length found ≤ 1024
  pub there : is_in eq found from ≡ true

pub record IsWhole (s : Setting) (found : List (List ℕ)) : Type 0 where
  pub closed : Closed same_path (next s) found
  pub few : length found ≤ 1024

-- the place of a path; one that isn't there has the place behind the list
unfoldable pub place_in : List (List ℕ) → List ℕ → ℕ
place_in found path = position_or_len (λ y. same_path y path) found

-- the places one step on from a place
abbrev pub next_at : List (List ℕ) → ℕ → List ℕ
next_at nexts place = get_or nexts place []

-- of each instance the places of those one step on
abbrev pub nexts_in : Setting → List (List ℕ) → List (List ℕ)
nexts_in s found = map (λ path. map (place_in found) (next s path)) found

-- a walk of one or more steps leads from one place to another
unfoldable pub leads_at : List (List ℕ) → ℕ → ℕ → Bool
leads_at nexts y x = is_in nat_eq (ends (next_at nexts) (next_at nexts y) 1025) x

-- the places of the instances that have something called
abbrev pub caller_places : List (List ℕ) → List WithCalls → List ℕ
caller_places found cs = map (λ (c : WithCalls). place_in found c.inf) cs

-- they are all found
abbrev pub AreFound : List (List ℕ) → List WithCalls → Type 0
AreFound found cs = AllIn same_path found (map (λ (c : WithCalls). c.inf) cs)

-- row y says of each x whether y leads to it
abbrev pub reach_at : List (List ℕ) → List ℕ → List ℕ → List (List Bool)
reach_at nexts ys xs = map (λ y. map (leads_at nexts y) xs) ys
