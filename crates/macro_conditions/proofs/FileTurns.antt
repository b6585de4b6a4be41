-- One line more of a file.
use Rattle.std.proofs.Common.{◌≡◌, ℕ, zero, suc, add-one, ◌+◌, ◌<◌, ◌≤◌, List, [], ◌∷◌, length, get_or, drop, Option, Some, None, Result, Ok, Err, refl, sym, ap, ◌∙◌, subst, arith}
use Rattle.std.proofs.lemmas.List.{drop_all}
use Rattle.std.proofs.Math.ListN.{length-map}
use Rattle.build_base.specs.declared.lines.Macro.{Macro}
use Rattle.build_base.specs.declared.lines.Taken.{Taken as Line}
use Rattle.macro_conditions.specs.declared.work.LinePlace.{LinePlace}
use Rattle.macro_conditions.specs.declared.work.Stopped.{Stopped}
use Rattle.macro_conditions.specs.declared.work.Stopped.TheVariants as stopped
use Rattle.macro_conditions.specs.LineMeaning.{Acts, ◌>>=◌, at_end}
use Rattle.macro_conditions.specs.LineStack.{State, step, run, outermost}
use Rattle.macro_conditions.specs.Expansion.{Env, Stop, acts}
use Rattle.macro_conditions.specs.Work.{Halts, stop_in, idle, line_in}
use Rattle.macro_conditions.specs.OpenFiles.{lines_at}
use Rattle.macro_conditions.proofs.StackIsTree.{run_err}

pub drop-lines : (path bytes : List ℕ) (ls : List LinePlace) (i : ℕ) (d : LinePlace) → i < length ls → drop i (lines_at path bytes ls) ≡ line_in path bytes (get_or ls i d) ∷ drop (i + 1) (lines_at path bytes ls)
drop-lines path bytes [] i d l = absurd (omega arith)
drop-lines path bytes (x ∷ ls) zero d l = refl
drop-lines path bytes (x ∷ ls) (suc i) d l = let ih : drop i (lines_at path bytes ls) ≡ line_in path bytes (get_or ls i d) ∷ drop (i + 1) (lines_at path bytes ls) = drop-lines path bytes ls i d (omega arith) in rw add-one (rw add-one at ih)

module _ {E F : Type 0} (a : Acts E F) where
  pub run_cons : (s : State E) (l : Line) (ls : List Line) → run a (Ok s) (l ∷ ls) ≡ run a (step a s l) ls
  unfolding run
  run_cons s l ls = refl

  run_one : (s : State E) (path bytes : List ℕ) (ls : List LinePlace) (i : ℕ) (d : LinePlace) → i < length ls → run a (Ok s) (drop i (lines_at path bytes ls)) ≡ run a (step a s (line_in path bytes (get_or ls i d))) (drop (i + 1) (lines_at path bytes ls))
  run_one s path bytes ls i d l = ap (run a (Ok s)) (drop-lines path bytes ls i d l) ∙ run_cons s (line_in path bytes (get_or ls i d)) (drop (i + 1) (lines_at path bytes ls))

  pub run_last : (s : State E) (path bytes : List ℕ) (ls : List LinePlace) (i : ℕ) → length ls ≤ i → run a (Ok s) (drop i (lines_at path bytes ls)) ≡ at_end a (outermost s.frames None) s.found
  unfolding run
  run_last s path bytes ls i l = ap (run a (Ok s)) (drop_all i (lines_at path bytes ls) (simp length-map l))

pub no_stop : {A : Type 0} (e : Stopped) (r : Result A Stop) → Halts e None → Halts e (stop_in r)
no_stop (stopped.Bad fault) r h = cc
no_stop (stopped.Need path) r h = cc
no_stop stopped.WantOfMemory r h = tt

module _ {E : Type 0} (a : Acts E Stop) where
  pub halts_run : (e : Stopped) (r : Result (State E) Stop) (ls : List Line) → Halts e (stop_in r) → Halts e (stop_in (run a r ls))
  halts_run e (Ok s) ls h = no_stop e (run a (Ok s) ls) h
  halts_run e (Err stop) ls h = subst (λ (o : Result E Stop). Halts e (stop_in o)) (sym (run_err a stop ls)) h

  -- a line that stops the file
  pub file_stops : (e : Stopped) (s : State E) (path bytes : List ℕ) (ls : List LinePlace) (i : ℕ) (d : LinePlace) (l : Line) (r : Result E Stop) → i < length ls → l ≡ line_in path bytes (get_or ls i d) → Halts e (stop_in (step a s l)) → run a (Ok s) (drop i (lines_at path bytes ls)) ≡ r → Halts e (stop_in r)
  file_stops e s path bytes ls i d l r k is h whole =
      subst (λ (o : Result E Stop). Halts e (stop_in o)) (sym (run_one a s path bytes ls i d k) ∙ whole)
      (halts_run e (step a s (line_in path bytes (get_or ls i d))) (drop (i + 1) (lines_at path bytes ls)) (subst (λ x. Halts e (stop_in (step a s x))) is h))

  -- a line after which the file goes on
  pub file_goes : (s n : State E) (path bytes : List ℕ) (ls : List LinePlace) (i : ℕ) (d : LinePlace) (l : Line) (r : Result E Stop) → i < length ls → l ≡ line_in path bytes (get_or ls i d) → step a s l ≡ Ok n → run a (Ok s) (drop i (lines_at path bytes ls)) ≡ r → run a (Ok n) (drop (i + 1) (lines_at path bytes ls)) ≡ r
  file_goes s n path bytes ls i d l r k is h whole =
      ap (λ o. run a o (drop (i + 1) (lines_at path bytes ls))) (sym h ∙ ap (step a s) is) ∙ sym (run_one a s path bytes ls i d k) ∙ whole

  -- the end of the file
  file_ends : (s : State E) (path bytes : List ℕ) (ls : List LinePlace) (i : ℕ) (r : Result E Stop) → length ls ≤ i → run a (Ok s) (drop i (lines_at path bytes ls)) ≡ r → at_end a (outermost s.frames None) s.found ≡ r
  file_ends s path bytes ls i r k whole = sym (run_last a s path bytes ls i k) ∙ whole

-- what an include does doesn't matter at the end
end_same : (fixed : List Macro) (include : Line → Env → Result Env Stop) (o : Option Line) (e : Env) → at_end (acts fixed idle) o e ≡ at_end (acts fixed include) o e
end_same fixed include None e = refl
end_same fixed include (Some l) e = refl

pub file_end : (fixed : List Macro) (include : Line → Env → Result Env Stop) (s : State Env) (path bytes : List ℕ) (ls : List LinePlace) (i : ℕ) (r : Result Env Stop) → length ls ≤ i → run (acts fixed include) (Ok s) (drop i (lines_at path bytes ls)) ≡ r → at_end (acts fixed idle) (outermost s.frames None) s.found ≡ r
file_end fixed include s path bytes ls i r k whole = end_same fixed include (outermost s.frames None) s.found ∙ file_ends (acts fixed include) s path bytes ls i r k whole

-- what stops one part stops the whole
pub halts_bind : {A B : Type 0} (e : Stopped) (r : Result A Stop) (f : A → Result B Stop) → Halts e (stop_in r) → Halts e (stop_in (r >>= f))
halts_bind e (Ok x) f h = no_stop e (f x) h
halts_bind e (Err stop) f h = h

pub stop_is : {A : Type 0} (r : Result A Stop) (stop : Stop) → stop_in r ≡ Some stop → r ≡ Err stop
stop_is (Ok x) stop e = cc
stop_is (Err s) stop e = let same : s ≡ stop = cc in ap (λ x. Err x) same

pub ruleset stops = (stop_is)
