-- One world and one cache, one build; one script over the same files, one replay.
use Rattle.std.proofs.Common.{◌≡◌, ◌⊎◌, ◌+◌, ◌-◌, ◌<◌, ◌≤◌, ◌++◌, ℕ, zero, suc, List, [], ◌∷◌, length, refl, sym, ap, ◌∙◌, subst, inl, inr, arith, Some}
use Rattle.std.specs.Prelude.{Contains, slice_index_or}
use Rattle.build_base.specs.Outside.{Files, got_of}
use Rattle.build_base.specs.Spelling.{Output}
use Rattle.build_base.specs.World.{World, file_limit}
use Rattle.build_base.specs.declared.outside.Got.{Got}
use Rattle.build_base.specs.declared.outside.Got.TheVariants.{File}
use Rattle.job_fields.specs.declared.job.Job.{Job}
use Rattle.step_engine.specs.Needed.{AreDistinct, IsNeededCount}
use Rattle.step_engine.specs.declared.talk.Entry.{Entry}
use Rattle.step_pack.specs.declared.key.Key.{Key}
use Rattle.step_pack.specs.declared.key.Key.TheVariants as key
use Rattle.step_pack.specs.declared.out.Out.{Out}
use Rattle.edk_build.specs.Building.{means, IsStepCount, IsCounted, Leaves}
use Rattle.edk_build.specs.Emitting.{emitted}
use Rattle.edk_build.specs.History.{label_of, after_edit, after_build, world_at, IsBuild, IsCarriedOut, AreCarriedOut}
use Rattle.edk_build.specs.Outcome.{outcome}
use Rattle.edk_build.specs.declared.replay_state.ReplayState.{ReplayState}
use Rattle.edk_build.specs.declared.script.ScriptCommand.{ScriptCommand}
use Rattle.edk_build.specs.declared.script.ScriptCommand.TheVariants.{Put, Drop, Build}
use Rattle.edk_build.specs.declared.script.ScriptLine.{ScriptLine}

-- a list without one of its items
record Without {A : Type 0} (ys : List A) (x : A) : Type 0 where
  pub rest : List A
  pub shorter : length ys ≡ suc (length rest)
  pub others : (k : A) → Contains ys k → (k ≡ x) ⊎ Contains rest k

module _ {A : Type 0} where
  first_or_rest : (y : A) (ys : List A) (x : A) → y ≡ x → (k : A) (i : ℕ) → i < suc (length ys) → slice_index_or (y ∷ ys) i k ≡ k → (k ≡ x) ⊎ Contains ys k
  first_or_rest y ys x e k zero l d = inl (sym d ∙ e)
  first_or_rest y ys x e k (suc i) l d = inr (i, omega (arith, l), d)

  behind : (y : A) (ys rest : List A) (x : A) → ((k : A) → Contains ys k → (k ≡ x) ⊎ Contains rest k) → (k : A) (i : ℕ) → i < suc (length ys) → slice_index_or (y ∷ ys) i k ≡ k → (k ≡ x) ⊎ Contains (y ∷ rest) k
  behind y ys rest x f k zero l d = inr (0, omega arith, d)
  behind y ys rest x f k (suc i) l d = (elim (f k (i, omega (arith, l), d)) as (λ _. (k ≡ x) ⊎ Contains (y ∷ rest) k) [ inl e ↦ inl e | inr c ↦ inr (suc c.0, omega (arith, c.1), c.2) ])

  without : (ys : List A) (x : A) (i : ℕ) → i < length ys → slice_index_or ys i x ≡ x → Without ys x
  without [] x i l e = absurd (omega (arith, l))
  without (y ∷ ys) x zero l e = record { rest = ys; shorter = refl; others = λ k c. first_or_rest y ys x e k c.0 c.1 c.2 }
  without (y ∷ ys) x (suc i) l e = let r = without ys x i (omega (arith, l)) e in
      record { rest = y ∷ r.rest; shorter = ap suc r.shorter; others = λ k c. behind y ys r.rest x r.others k c.0 c.1 c.2 }

  -- a list without repeats is no longer than one that has all its items
  no_longer : (xs ys : List A) → AreDistinct xs → ((k : A) → Contains xs k → Contains ys k) → length xs ≤ length ys
  no_longer [] ys d f = omega arith
  no_longer (x ∷ xs) ys d f = let h = f x (0, omega arith, refl) in let r = without ys x h.0 h.1 h.2 in
      let l = no_longer xs r.rest d.1 (λ k c. (elim (r.others k (f k (suc c.0, omega (arith, c.1), c.2))) as (λ _. Contains r.rest k) [ inl e ↦ absurd (d.0 (subst (Contains xs) e c)) | inr h ↦ h ])) in
      omega (arith, r.shorter, l)

  as_long : (xs ys : List A) → AreDistinct xs → AreDistinct ys → ((k : A) → Contains xs k → Contains ys k) → ((k : A) → Contains ys k → Contains xs k) → length xs ≡ length ys
  as_long xs ys d e f g = omega (arith, no_longer xs ys d f, no_longer ys xs e g)

pub leaves_one : (w : World) (old a b : List (Entry Key Out)) → Leaves w old a → Leaves w old b → a ≡ b
leaves_one w old a b x y = y.only a x.order x.left

steps_one : (w : World) (cache : List (Entry Key Out)) (m n : ℕ) → IsStepCount w cache m → IsStepCount w cache n → m ≡ n
steps_one w cache m n x y =
    sym x.number ∙ as_long x.keys y.keys x.distinct y.distinct (λ k c. (y.are_steps k).1 ((x.are_steps k).0 c)) (λ k c. (x.are_steps k).1 ((y.are_steps k).0 c)) ∙ y.number

needed_one : (w : World) (m n : ℕ) → IsNeededCount means w key.All m → IsNeededCount means w key.All n → m ≡ n
needed_one w m n x y =
    sym x.number ∙ as_long x.keys y.keys x.distinct y.distinct (λ k c. (y.are_needed k).1 ((x.are_needed k).0 c)) (λ k c. (x.are_needed k).1 ((y.are_needed k).0 c)) ∙ y.number

pub counted_one : (w : World) (cache : List (Entry Key Out)) (m k n l : ℕ) → IsCounted w cache m k → IsCounted w cache n l → (m ≡ n) × (k ≡ l)
counted_one w cache m k n l x y = (steps_one w cache m n x.ran y.ran, needed_one w k l x.all y.all)

abbrev bytes_in : Got → List ℕ
bytes_in (File bytes) = bytes
bytes_in _ = []

bytes_one : (g : Got) (x y : List ℕ) → g ≡ File x → g ≡ File y → x ≡ y
bytes_one g x y d e = sym (ap bytes_in d) ∙ ap bytes_in e

build_one : (files : Files) (job : Job) (s : ReplayState) (a c : List Key) (out other : List Output) (next after : ReplayState) (b d : List Key) → IsBuild (Some files) job s a out next b
    → IsBuild (Some files) job s c other after d → (out ≡ other) × (next ≡ after)
build_one files job s a c out other next after b d x y =
    let w : World = world_at files s job in
    let g = x.told.gives in
    let h = y.told.gives in
    let n = counted_one w s.cache g.steps g.needed h.steps h.needed g.counted h.counted in (
      g.list ∙ ap (λ k. emitted (label_of (s.builds + 1)) (outcome w) k (g.needed - k)) n.0 ∙ ap (λ k. emitted (label_of (s.builds + 1)) (outcome w) h.steps (k - h.steps)) n.1 ∙ sym h.list,
      x.stands ∙ ap (after_build s) (leaves_one w s.cache next.cache after.cache x.told.leaves y.told.leaves) ∙ sym y.stands,
    )

order_one : (files : Files) (order : ScriptCommand) (s : ReplayState) (a c : List Key) (out other : List Output) (next after : ReplayState) (b d : List Key)
    → IsCarriedOut (Some files) order s a out next b → IsCarriedOut (Some files) order s c other after d → (out ≡ other) × (next ≡ after)
order_one files (Put path from) s a c out other next after b d x y = (
  x.1 ∙ sym y.1,
  x.0.2 ∙ ap (λ bytes. after_edit s path (Some bytes)) (bytes_one (got_of file_limit (files from)) x.0.0 y.0.0 x.0.1 y.0.1) ∙ sym y.0.2,
)
order_one files (Drop path) s a c out other next after b d x y = (x.1 ∙ sym y.1, x.0 ∙ sym y.0)
order_one files (Build job) s a c out other next after b d x y = build_one files job s a c out other next after b d x y

pub lines_one : (files : Files) (lines : List ScriptLine) (s : ReplayState) (a c : List Key) (out other : List Output) (next after : ReplayState) (b d : List Key)
    → AreCarriedOut (Some files) lines s a out next b → AreCarriedOut (Some files) lines s c other after d → (out ≡ other) × (next ≡ after)
unfolding AreCarriedOut
lines_one files [] s a c out other next after b d x y = (x.1 ∙ sym y.1, x.0 ∙ sym y.0)
lines_one files (line ∷ lines) s a c out other next after b d x y =
    let o = order_one files line.order s a c x.0 y.0 x.1 y.1 x.2 y.2 x.4 y.4 in
    let r = lines_one files lines x.1 x.2 y.2 x.3 y.3 next after b d x.5 (subst (λ z. AreCarriedOut (Some files) lines z y.2 y.3 after d) (sym o.1) y.5) in
    (x.6 ∙ ap (λ z. z ++ x.3) o.0 ∙ ap (λ z. y.0 ++ z) r.0 ∙ sym y.6, r.1)
