-- The rule of a wave's table, and what each step on it tells. The rule is this project's own.
-- The table has one word, which is how many numbers were drawn, and a slot for each item of the
-- wave.
use Rattle.std.specs.Prelude.{◌≡◌, ℕ, zero, suc, ◌+◌, ◌-◌, ◌/◌, ◌^◌, ◌<◌, ◌≤◌, leb, cond, List, [], ◌∷◌, ◌++◌, map, length, slice_get, Option, Some, All, sum_by}
use mathlib.Core.Option.{none, some}
use mathlib.Core.Option as maybe
use lib.ListN.{get_elem?}
use Rattle.atomic_table.specs.Table.{State, Me, Step}
use Rattle.drawn_waves.specs.declared.table.WorkerView.{WorkerView}

-- the numbers below n, in order
unfoldable pub upto : ℕ → List ℕ
upto zero = []
upto (suc n) = upto n ++ n ∷ []

-- 1 where the number is at or past the wave's length
abbrev pub past : ℕ → ℕ → ℕ
past length number = cond (leb length number) 1 0

-- how many numbers are at or past the wave's length
abbrev pub count_past : ℕ → List ℕ → ℕ
count_past length numbers = sum_by (past length) numbers

-- the slots where so many numbers were drawn: those below are out, and each other one has its item
unfoldable pub at_home : {I : Type 0} → ℕ → List I → List (maybe.Option (Option I))
at_home zero items = map (λ item. some (Some item)) items
at_home (suc drawn) [] = []
at_home (suc drawn) (item ∷ items) = none ∷ at_home drawn items

abbrev Sat : Type 0 → Type 0
Sat I = Me (Option I) (WorkerView I)

module _ {I : Type 0} where
  abbrev pub hand : ℕ → List ℕ → List I → ℕ → WorkerView I
  hand share numbers items workers =
      record { share = share; numbers = numbers; items = items; workers = workers }

  -- what is left of a view that another one took over
  abbrev pub spent_view : WorkerView I
  spent_view = hand 0 [] [] 0

  abbrev pub longer_view : WorkerView I → ℕ → WorkerView I
  longer_view v number = hand v.share (v.numbers ++ number ∷ []) v.items v.workers

  -- the two halves of a view
  abbrev pub kept_half : WorkerView I → WorkerView I
  kept_half v = hand (v.share - v.share / 2) v.numbers v.items v.workers

  abbrev pub given_half : WorkerView I → WorkerView I
  given_half v = hand (v.share / 2) [] v.items v.workers

  abbrev pub joined_view : WorkerView I → WorkerView I → WorkerView I
  joined_view v w = hand (v.share + w.share) (v.numbers ++ w.numbers) v.items v.workers

  -- a view with a share is live: it knows the wave, and has at most as many numbers at or past the
  -- wave's length as its share. One without is spent
  pub record IsWorkerView (items : List I) (workers : ℕ) (v : WorkerView I) : Type 0 where
    pub idle : v.share ≡ 0 → v.numbers ≡ []
    pub items_are : 0 < v.share → v.items ≡ items
    pub workers_are : 0 < v.share → v.workers ≡ workers
    pub ends : count_past (length items) v.numbers ≤ v.share

  -- The shares add up to the workers. However numbers are weighed, those of the views weigh what
  -- the numbers below the word weigh: they are these, each in one view and once there
  pub record Drawn (items : List I) (workers : ℕ) (s : State (Option I) (WorkerView I)) : Type 0 where
    pub drawn : ℕ
    pub word_is : s.words ≡ drawn ∷ []
    pub homes_are : s.homes ≡ at_home drawn items
    pub short : length items ≤ 2 ^ 62
    pub few : workers ≤ 64
    pub shares : sum_by (λ v. v.share) s.views ≡ workers
    pub numbers : (weight : ℕ → ℕ) → sum_by (λ v. sum_by weight v.numbers) s.views
        ≡ sum_by weight (upto drawn)
    pub each : (seat : ℕ) (v : WorkerView I) → get_elem? s.views seat ≡ some v → IsWorkerView items workers v

  -- the share and the wave are as before, and numbers were added at most
  pub record HasTaken (v w : WorkerView I) : Type 0 where
    pub share : w.share ≡ v.share
    pub items : w.items ≡ v.items
    pub workers : w.workers ≡ v.workers
    pub numbers : (more : List ℕ) × (w.numbers ≡ v.numbers ++ more)

  -- the number was drawn, and the slot with the item of that number was taken. The number is greater
  -- than those before, and less than the wave's length and 64. A view with all shares draws every
  -- number, from 0 on
  pub record Drew (m : Sat I) (number : ℕ) (after : Sat I) : Type 0 where
    pub view : after.0 ≡ longer_view m.0 number
    pub greater : All (λ x. x < number) m.0.numbers
    pub near : number < length m.0.items + 64
    pub next : m.0.share ≡ m.0.workers → number ≡ length m.0.numbers
    pub slot : (item : I) → slice_get m.0.items number ≡ Some item
        → after.1 ≡ (number, Some item) ∷ m.1

  -- nothing changed, and where the view has all shares its numbers are those below the word
  pub record Looked (m : Sat I) (word : ℕ) (after : Sat I) : Type 0 where
    pub same : after ≡ m
    pub all : m.0.share ≡ m.0.workers → (weight : ℕ → ℕ)
        → sum_by weight m.0.numbers ≡ sum_by weight (upto word)

  abbrev pub drew : Step (Option I) → Sat I → ℕ → Sat I → Type 0
  drew step m number after = Drew m number after

  abbrev pub looked : Step (Option I) → Sat I → ℕ → Sat I → Type 0
  looked step m word after = Looked m word after
