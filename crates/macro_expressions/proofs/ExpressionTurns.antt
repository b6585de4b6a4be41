-- One turn of the loop over terms.
use Rattle.std.proofs.Common.{◌≡◌, ℕ, zero, suc, add-one, ◌+◌, ◌<◌, ◌≤◌, List, [], ◌∷◌, length, get_or, drop, map, Some, None, refl, ap, ◌∙◌, arith}
use Rattle.std.proofs.lemmas.List.{drop_all}
use Rattle.std.proofs.Math.ListN.{length-map}
use Rattle.macro_expressions.specs.ExpressionTree.{Symbol, term_view}
use Rattle.macro_expressions.specs.declared.operand.Term.{Term}
use Rattle.macro_expressions.specs.ExpressionMachine.{State, step, ended, run}

run-none : (ts : List Symbol) → run None ts ≡ None
unfolding run
run-none [] = refl
run-none (t ∷ ts) = run-none ts

run-cons : (s : State) (t : Symbol) (ts : List Symbol) → run (Some s) (t ∷ ts) ≡ run (step s t) ts
unfolding run
run-cons s t ts = refl

drop-map : (ts : List Term) (i : ℕ) (d : Term) → i < length ts → drop i (map term_view ts) ≡ term_view (get_or ts i d) ∷ drop (i + 1) (map term_view ts)
drop-map [] i d l = absurd (omega arith)
drop-map (t ∷ ts) zero d l = refl
drop-map (t ∷ ts) (suc i) d l = let ih : drop i (map term_view ts) ≡ term_view (get_or ts i d) ∷ drop (i + 1) (map term_view ts) = drop-map ts i d (omega arith) in rw add-one (rw add-one at ih)

-- one term more
pub run_goes : (s next : State) (ts : List Term) (i : ℕ) (d : Term) → i < length ts → step s (term_view (get_or ts i d)) ≡ Some next → run (Some s) (drop i (map term_view ts)) ≡ run (Some next) (drop (i + 1) (map term_view ts))
run_goes s next ts i d l e = ap (run (Some s)) (drop-map ts i d l) ∙ run-cons s (term_view (get_or ts i d)) (drop (i + 1) (map term_view ts)) ∙ ap (λ o. run o (drop (i + 1) (map term_view ts))) e

pub run_stops : (s : State) (ts : List Term) (i : ℕ) (d : Term) → i < length ts → step s (term_view (get_or ts i d)) ≡ None → run (Some s) (drop i (map term_view ts)) ≡ None
run_stops s ts i d l e = ap (run (Some s)) (drop-map ts i d l) ∙ run-cons s (term_view (get_or ts i d)) (drop (i + 1) (map term_view ts)) ∙ ap (λ o. run o (drop (i + 1) (map term_view ts))) e ∙ run-none (drop (i + 1) (map term_view ts))

pub run_ends : (s : State) (ts : List Term) (i : ℕ) → length ts ≤ i → run (Some s) (drop i (map term_view ts)) ≡ ended s
unfolding run
run_ends s ts i l = ap (run (Some s)) (drop_all i (map term_view ts) (simp length-map l))
