-- What lines read, one after the other.
use Rattle.std.proofs.Common.{◌≡◌, refl, sym, ap, ◌∙◌, ℕ, ◌-◌, ◌≤◌, ◌<◌, List, [], ◌∷◌, length, take, drop, get_or, map, cond, true, false, nat_eq, ◌++◌, ◌⊎◌, Contains, Option, Some, None, inl, inr, arith, subst}
use Rattle.std.specs.Option.{IfSome}
use Rattle.std.specs.Cmp.Lexicographic.{pointwise}
use Rattle.std.proofs.lemmas.Cmp.{nat_list_eq_equiv}
use Rattle.std.proofs.lemmas.List.{append_cancel_left, map-append}
use Rattle.std.proofs.lemmas.List.Elements.{Contains-append_cases, Contains-push_cases}
use Rattle.build_base.specs.Outside.{Files, Emission, got_of}
use Rattle.build_base.specs.declared.outside.Got.{Got}
use Rattle.build_base.specs.World.{file_limit}
use Rattle.step_engine.specs.Needed.{AreDistinct}
use Rattle.step_engine.specs.Build.{Setting, HasRead, HasReadUnedited, added_to}
use Rattle.step_engine.specs.Edits.{last_edit}
use Rattle.step_engine.specs.declared.edits.Edit.{Edit}
use Rattle.step_pack.specs.declared.key.Key.{Key}
use Rattle.step_pack.specs.declared.out.Out.{Out}
use Rattle.edk_build.specs.History.{start, script_in, WasCarriedOut}
use Rattle.edk_build.specs.ReplayReads.{LineReads, LinesRead, ScriptReads, ReplayReads, edited_paths, edited_behind}
use Rattle.edk_build.specs.declared.replay_state.ReplayState.{ReplayState}
use Rattle.edk_build.specs.declared.script.ScriptCommand.{ScriptCommand}
use Rattle.edk_build.specs.declared.script.ScriptCommand.TheVariants as order
use Rattle.edk_build.specs.declared.script.ScriptLine.{ScriptLine}
use Rattle.edk_build.proofs.ReplayLemmas.{behind}
use Rattle.job_fields.specs.declared.job.Job.{Job}

-- behind an edit there is one
some_edit : (edits : List Edit) (e : Edit) (p : List ℕ) → last_edit (Some e) edits p ≡ None → ⊥
some_edit [] e p n = absurd cc
some_edit (f ∷ edits) e p n =
    elim (pointwise nat_eq f.path p) as (λ b. last_edit (cond b (Some f) (Some e)) edits p ≡ None → ⊥) [
      | true ↦ λ h. some_edit edits f p h
      | false ↦ λ h. some_edit edits e p h
    ] n

head_or_tail : (x : List ℕ) (xs : List (List ℕ)) (p : List ℕ) → Contains (x ∷ xs) p → (x ≡ p) ⊎ Contains xs p
head_or_tail x xs p c = elim (Contains-append_cases (x ∷ []) xs p c) as (λ _. (x ≡ p) ⊎ Contains xs p) [
  | inl one ↦ elim (Contains-push_cases [] x p one) as (λ _. (x ≡ p) ⊎ Contains xs p) [
    | inl none ↦ absurd (omega (arith, none.1))
    | inr same ↦ inl same
  ]
  | inr more ↦ inr more
]

-- a path without a last edit has none
not_edited : (edits : List Edit) (found : Option Edit) (p : List ℕ) → last_edit found edits p ≡ None → Contains (map (λ e. e.path) edits) p → ⊥
not_edited [] found p n c = absurd (omega (arith, c.1))
not_edited (e ∷ edits) found p n c = elim (head_or_tail e.path (map (λ f. f.path) edits) p c) as (λ _. ⊥) [
  | inl same ↦
      let is : pointwise nat_eq e.path p ≡ true = rw same (nat_list_eq_equiv.refl p) in
      some_edit edits e p (subst (λ b. last_edit (cond b (Some e) found) edits p ≡ None) is n)
  | inr more ↦ not_edited edits (cond (pointwise nat_eq e.path p) (Some e) found) p n more
]

some_one : (xs ys : List (List ℕ)) → Some xs ≡ Some ys → xs ≡ ys
some_one xs ys e = cc e

-- both lists that reads grew by are one, where the reads are told
two_lists : (a b : Option (List (List ℕ))) (xs ys : List (List ℕ)) → b ≡ added_to a xs → b ≡ added_to a ys → (P Q : List (List ℕ) → Type 0) → P xs → Q ys → Q [] → P [] → (zs : List (List ℕ)) × (b ≡ added_to a zs) × P zs × Q zs
two_lists None b xs ys e f P Q p q q' p' = ([], e, p', q')
two_lists (Some paths) b xs ys e f P Q p q q' p' =
    let same : paths ++ ys ≡ paths ++ xs = some_one (paths ++ ys) (paths ++ xs) (sym f ∙ e) in
    (xs, e, p, subst Q (append_cancel_left paths ys xs same) q)

pub build_reads : (s : Setting Key Out) (top : Key) (job : Job) (edits : List Edit) (a b : Option (List (List ℕ))) → HasRead s top a b → HasReadUnedited edits a b
    → LineReads (map (λ e. e.path) edits) (order.Build job) a b
unfolding HasReadUnedited
build_reads s top job edits a b r u =
    two_lists a b r.0 u.0 r.1 u.1 AreDistinct (λ paths. (p : List ℕ) → Contains paths p → Contains (map (λ e. e.path) edits) p → ⊥) r.2
    (λ p c. not_edited edits None p (u.2 p c)) (λ p c. absurd (omega (arith, c.1))) tt

-- the paths that have an edit behind an order that was carried out
edited_next : (held : Option Files) (o : ScriptCommand) (s : ReplayState) (a : List Key) (next : ReplayState) (b : List Key) (old new : Option (List Emission)) → WasCarriedOut held o s a next b old new
    → edited_paths next ≡ edited_behind o (edited_paths s)
edited_next held (order.Put path from) s a next b old new w = ap edited_paths w.done.0.2 ∙ map-append (λ e. e.path) s.edits _
edited_next held (order.Drop path) s a next b old new w = ap edited_paths w.done.0 ∙ map-append (λ e. e.path) s.edits _
edited_next held (order.Build job) s a next b old new w = ap edited_paths w.done.stands

-- what the lines left read, behind a line that was carried out, and before it
pub more_read : (held : Option Files) (left : List ScriptLine) (line d : ScriptLine) (s : ReplayState) (k : List Key) (next : ReplayState) (l : List Key) (old new : Option (List Emission)) (a mid b : Option (List (List ℕ)))
    → 1 ≤ length left → line ≡ get_or left 0 d → WasCarriedOut held line.order s k next l old new → LineReads (edited_paths s) line.order a mid
    → LinesRead (edited_paths next) (take (length left - 1) (drop 1 left)) mid b → LinesRead (edited_paths s) left a b
unfolding LinesRead
more_read held [] line d s k next l old new a mid b some e w one more = absurd (omega (arith, some))
more_read held (x ∷ left) line d s k next l old new a mid b some e w one more = (
  mid,
  subst (λ z. LineReads (edited_paths s) z.order a mid) e one,
  inr (subst (λ z. LinesRead z left mid b) (edited_next held line.order s k next l old new w ∙ ap (λ z. edited_behind z.order (edited_paths s)) e)
      (subst (λ z. LinesRead (edited_paths next) z mid b) (behind x left) more)),
)

-- the replay stops at the first line that is left
pub last_read : (edited : List (List ℕ)) (left : List ScriptLine) (line d : ScriptLine) (a b : Option (List (List ℕ))) → 1 ≤ length left → line ≡ get_or left 0 d → LineReads edited line.order a b
    → LinesRead edited left a b
unfolding LinesRead
last_read edited [] line d a b l e one = absurd (omega (arith, l))
last_read edited (x ∷ left) line d a b l e one = (b, subst (λ z. LineReads edited z.order a b) e one, inl refl)

-- no line is left
pub none_read : (edited : List (List ℕ)) (left : List ScriptLine) (a : Option (List (List ℕ))) → length left < 1 → LinesRead edited left a a
unfolding LinesRead
none_read edited [] a l = refl
none_read edited (line ∷ left) a l = absurd (omega (arith, l))

-- nothing has an edit before the first line
pub first_read : (s : ReplayState) (lines : List ScriptLine) (a b : Option (List (List ℕ))) → s ≡ start → LinesRead (edited_paths s) lines a b → LinesRead [] lines a b
first_read s lines a b e r = subst (λ z. LinesRead (edited_paths z) lines a b) e r

pub script_read : (script : Option (List ScriptLine)) (lines : List ScriptLine) (a b : Option (List (List ℕ))) → script ≡ Some lines → LinesRead [] lines a b → ScriptReads script a b
script_read script lines a b e r = subst (λ z. ScriptReads z a b) (sym e) (inr r)

pub nothing_read : (script : Option (List ScriptLine)) (a b : Option (List (List ℕ))) → b ≡ a → ScriptReads script a b
nothing_read None a b e = e
nothing_read (Some lines) a b e = inl e

pub replay_read : (held : Option Files) (at : List ℕ) (script : Got) (a mid b : Option (List (List ℕ))) → IfSome held (λ files. script ≡ got_of file_limit (files at)) → mid ≡ added_to a (at ∷ [])
    → ScriptReads (script_in script) mid b → ReplayReads held at a b
replay_read held at script a mid b g m r = inr (script, g, subst (λ z. ScriptReads (script_in script) z b) m r)
