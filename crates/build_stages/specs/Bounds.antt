-- The bounds of stages, word by word, and what stages one after the other give; the form is this
-- project's own.
use Rattle.std.specs.Bool.{if◌then◌else◌}
use Rattle.std.specs.Prelude.{◌&&◌}
use Rattle.std.proofs.Common.{Bool, true, false, ◌≡◌, ℕ, ◌<◌, ◌≤◌, ◌+◌, ◌-◌, arith, refl, map, [], ◌∷◌, Some, None, Result, Ok, Err, All}
use Rattle.std.proofs.lemmas.List.Elements.{All-nil, All-cons}
use Rattle.build_base.specs.First.{and_then}
use Rattle.build_base.specs.declared.fault.Fault.{Fault}
use Rattle.step_engine.specs.declared.talk.Ask.{Ask}
use Rattle.step_engine.specs.declared.talk.Answer.{Answer}
use Rattle.build_stages.specs.Stages.{Stages, end, stage, with_answers, bind, Fits, Known, first_stop, unless_stopped, run, gather, advance, AreLower, IsWithin}
use Rattle.build_stages.specs.Writing.{attempt, when}

pub attempt_lower : {K O A B : Type 0} (rank : K → ℕ) (bound : ℕ) (r : Result A Fault)
    (next : A → Stages K O B) → ((x : A) → AreLower rank bound (next x))
    → AreLower rank bound (attempt r next)
attempt_lower rank bound (Ok x) next h = h x
attempt_lower rank bound (Err fault) next h = tt

pub attempt_within : {K O A B : Type 0} (n : ℕ) (r : Result A Fault)
    (next : A → Stages K O B) → ((x : A) → IsWithin n (next x))
    → IsWithin n (attempt r next)
attempt_within n (Ok x) next h = h x
attempt_within n (Err fault) next h = tt

pub bind_lower : {K O A B : Type 0} (rank : K → ℕ) (bound : ℕ) (s : Stages K O A)
    (f : A → Stages K O B) → AreLower rank bound s → ((x : A) → AreLower rank bound (f x))
    → AreLower rank bound (bind s f)
bind_lower rank bound (end (Ok x)) f l h = h x
bind_lower rank bound (end (Err fault)) f l h = tt
bind_lower rank bound (stage asks next) f l h =
    (l.0, λ given. bind_lower rank bound (next given) f (l.1 given) h)

-- fewer batches are also within more
pub within_more : {K O A : Type 0} (n m : ℕ) (s : Stages K O A) → n ≤ m
    → IsWithin n s → IsWithin m s
within_more n m (end r) l w = tt
within_more n m (stage asks next) l w = (
  let some : 0 < n = w.0 in omega (arith, l, some),
  λ given. within_more (n - 1) (m - 1) (next given) (omega (arith, l)) (w.1 given),
)

pub bind_within : {K O A B : Type 0} (n m : ℕ) (s : Stages K O A)
    (f : A → Stages K O B) → IsWithin n s → ((x : A) → IsWithin m (f x))
    → IsWithin (n + m) (bind s f)
bind_within n m (end (Ok x)) f w h = within_more m (n + m) (f x) (omega arith) (h x)
bind_within n m (end (Err fault)) f w h = tt
bind_within n m (stage asks next) f w h = (
  let some : 0 < n = w.0 in omega (arith, some),
  λ given.
      within_more ((n - 1) + m) ((n + m) - 1) (bind (next given) f)
      (let some : 0 < n = w.0 in omega (arith, some))
      (bind_within (n - 1) m (next given) f (w.1 given) h),
)

-- what one after the other gives by known answers, and in a world
pub advance_bind : {K O A B : Type 0} (same : Ask K → Ask K → Bool) (fits : Fits K O)
    (known : Known K O) (s : Stages K O A) (f : A → Stages K O B)
    → advance same fits known (bind s f)
    ≡ and_then (advance same fits known s) (λ x. advance same fits known (f x))
advance_bind same fits known (end (Ok x)) f = refl
advance_bind same fits known (end (Err fault)) f = refl
advance_bind {K} {O} {A} {B} same fits known (stage asks next) f =
    elim (gather same fits known asks)
    as (λ g. and_then g (λ given. advance same fits known (bind (next given) f))
    ≡ and_then (and_then g (λ given. advance same fits known (next given)))
    (λ x. advance same fits known (f x))) [
      | Ok given ↦ advance_bind same fits known (next given) f
      | Err h ↦ refl
    ]

pub run_bind : {K O A B : Type 0} (fits : Fits K O) (answers : Ask K → Answer O) (s : Stages K O A)
    (f : A → Stages K O B) → run fits answers (bind s f)
    ≡ and_then (run fits answers s) (λ x. run fits answers (f x))
run_bind fits answers (end (Ok x)) f = refl
run_bind fits answers (end (Err fault)) f = refl
run_bind {K} {O} {A} {B} fits answers (stage asks next) f =
    elim (first_stop fits asks (map answers asks))
    as (λ q. unless_stopped q Err
    (run fits answers (bind (next (with_answers asks (map answers asks))) f))
    ≡ and_then (unless_stopped q Err (run fits answers (next (with_answers asks (map answers asks)))))
    (λ x. run fits answers (f x))) [
      | Some fault ↦ refl
      | None ↦ run_bind fits answers (next (with_answers asks (map answers asks))) f
    ]

-- short lists of asks
pub all_one : {A : Type 0} (P : A → Type 0) (a : A) → P a → All P (a ∷ [])
all_one P a p = All-cons P a [] p (All-nil P)

pub all_two : {A : Type 0} (P : A → Type 0) (a b : A) → P a → P b → All P (a ∷ b ∷ [])
all_two P a b p q = All-cons P a (b ∷ []) p (all_one P b q)

-- one of two ways
pub choose_lower : {K O A : Type 0} (rank : K → ℕ) (bound : ℕ) (b : Bool) (s t : Stages K O A)
    → AreLower rank bound s → AreLower rank bound t → AreLower rank bound (if b then s else t)
choose_lower rank bound true s t h k = h
choose_lower rank bound false s t h k = k

pub choose_within : {K O A : Type 0} (n : ℕ) (b : Bool) (s t : Stages K O A)
    → IsWithin n s → IsWithin n t → IsWithin n (if b then s else t)
choose_within n true s t h k = h
choose_within n false s t h k = k

-- what holds may be taken for granted
pub when_lower : {K O A : Type 0} (rank : K → ℕ) (bound : ℕ) (b : Bool) (s : Stages K O A)
    → (b ≡ true → AreLower rank bound s) → AreLower rank bound (when b s)
when_lower rank bound true s h = h refl
when_lower rank bound false s h = tt

pub when_within : {K O A : Type 0} (n : ℕ) (b : Bool) (s : Stages K O A)
    → IsWithin n s → IsWithin n (when b s)
when_within n true s w = w
when_within n false s w = tt

pub both_hold : (a b : Bool) → (a && b) ≡ true → (a ≡ true) × (b ≡ true)
both_hold true b e = (refl, e)
both_hold false b e = absurd (cc)
