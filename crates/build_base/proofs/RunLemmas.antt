-- Images as runs.
use Rattle.std.proofs.Common.{◌≡◌, ℕ, ◌+◌, ◌-◌, ◌<◌, ◌≤◌, Bool, true, false, List, [], ◌∷◌, ◌++◌, length, get_or, take, drop, refl, ap, sym, ◌∙◌, arith, append_assoc, append-nil, length-append, length-drop}
use Rattle.std.specs.Prelude.{◌&&◌}
use Rattle.std.proofs.lemmas.List.{drop_all, take_all}
use Rattle.build_base.proofs.Steps.{head_drop}
use Rattle.build_base.specs.declared.run.Run.{Run}
use Rattle.build_base.specs.declared.run.Run.TheVariants.{Fill, Bytes}
use Rattle.build_base.specs.Runs.{run_bytes, runs_bytes, run_kept, kept_bytes, is_blank, are_blank, Written}

-- one run more
pub runs_more : (runs : List Run) (run : Run) → runs_bytes (runs ++ run ∷ []) ≡ runs_bytes runs ++ run_bytes run
unfolding runs_bytes
runs_more [] run = append-nil (run_bytes run)
runs_more (r ∷ runs) run = ap (λ z. run_bytes r ++ z) (runs_more runs run) ∙ sym (append_assoc (run_bytes r) (runs_bytes runs) (run_bytes run))

pub kept_more : (runs : List Run) (run : Run) → kept_bytes (runs ++ run ∷ []) ≡ kept_bytes runs + run_kept run
unfolding kept_bytes
kept_more [] run = omega arith
kept_more (r ∷ runs) run = let e = kept_more runs run in omega arith

pub blank_both : (a b c : Bool) → a && b ≡ true → (b ≡ true → c ≡ true) → a && c ≡ true
blank_both true b c h f = f h
blank_both false b c h f = absurd cc

pub blank_parts : (a b : Bool) → a && b ≡ true → (a ≡ true) × (b ≡ true)
blank_parts true b h = (refl, h)
blank_parts false b h = absurd cc

pub blank_more : (runs : List Run) (run : Run) → are_blank runs ≡ true → is_blank run ≡ true → are_blank (runs ++ run ∷ []) ≡ true
unfolding are_blank
blank_more [] run h b = rw b refl
blank_more (r ∷ runs) run h b = blank_both (is_blank r) (are_blank runs) (are_blank (runs ++ run ∷ [])) h (λ t. blank_more runs run t b)

-- no runs
pub runs_none : runs_bytes [] ≡ []
unfolding runs_bytes
runs_none = refl

pub kept_none : kept_bytes [] ≡ 0
unfolding kept_bytes
kept_none = refl

pub blank_none : are_blank [] ≡ true
unfolding are_blank
blank_none = refl

pub runs_next : (run : Run) (runs : List Run) → runs_bytes (run ∷ runs) ≡ run_bytes run ++ runs_bytes runs
unfolding runs_bytes
runs_next run runs = refl

pub blank_next : (run : Run) (runs : List Run) → are_blank (run ∷ runs) ≡ true → (is_blank run ≡ true) × (are_blank runs ≡ true)
unfolding are_blank
blank_next run runs h = blank_parts (is_blank run) (are_blank runs) h

-- what is left of runs begins with the next one
pub runs_left : (runs : List Run) (i : ℕ) (run : Run) → i < length runs → run ≡ get_or runs i run → runs_bytes (drop i runs) ≡ run_bytes run ++ runs_bytes (drop (i + 1) runs)
runs_left runs i run h e = ap runs_bytes (head_drop runs i run h e) ∙ runs_next run (drop (i + 1) runs)

pub blank_left : (runs : List Run) (i : ℕ) (run : Run) → i < length runs → run ≡ get_or runs i run → are_blank (drop i runs) ≡ true → (is_blank run ≡ true) × (are_blank (drop (i + 1) runs) ≡ true)
blank_left runs i run h e b = blank_next run (drop (i + 1) runs) (sym (ap are_blank (head_drop runs i run h e)) ∙ b)

-- a suffix, as a range gives it
pub tail_is : {X : Type 0} (xs : List X) (k : ℕ) → take (length xs - k) (drop k xs) ≡ drop k xs
tail_is xs k = take_all (length xs - k) (drop k xs) (omega (arith, length-drop k xs))

pub runs_tail : (runs : List Run) (k : ℕ) → runs_bytes (take (length runs - k) (drop k runs)) ≡ runs_bytes (drop k runs)
runs_tail runs k = ap runs_bytes (tail_is runs k)

pub blank_tail : (runs : List Run) (k : ℕ) → are_blank (drop k runs) ≡ true → are_blank (take (length runs - k) (drop k runs)) ≡ true
blank_tail runs k h = ap are_blank (tail_is runs k) ∙ h

pub runs_end : (runs : List Run) (k : ℕ) → length runs ≤ k → runs_bytes (drop k runs) ≡ []
runs_end runs k h = ap runs_bytes (drop_all k runs h) ∙ runs_none

pub front_none : (xs ys : List ℕ) → xs ++ ys ≡ [] → xs ≡ []
front_none [] ys h = refl
front_none (x ∷ xs) ys h = absurd cc

run_kept_less : (run : Run) → run_kept run ≤ length (run_bytes run)
run_kept_less (Fill byte count) = omega arith
run_kept_less (Bytes bytes) = omega arith

-- what is written so far and the runs that are left
pub record Copied (old now : Written) (runs rest : List Run) : Type 0 where
  pub bytes : now.bytes ++ runs_bytes rest ≡ old.bytes ++ runs_bytes runs
  pub kept : now.kept + length (runs_bytes rest) ≤ old.kept + length (runs_bytes runs)
  pub free : now.free ≡ old.free
  pub blank : are_blank rest ≡ true

pub copied_more : (old now next : Written) (runs : List Run) (i : ℕ) (run copy : Run) → Copied old now runs (drop i runs) → i < length runs → run ≡ get_or runs i run → copy ≡ run
    → next.bytes ≡ now.bytes ++ run_bytes copy → next.kept ≡ now.kept + run_kept copy → next.free ≡ now.free → Copied old next runs (drop (i + 1) runs)
copied_more old now next runs i run copy s h e p b k f =
    let rest : List Run = drop (i + 1) runs in
    let l = runs_left runs i run h e in
    let n = ap length l ∙ length-append (run_bytes run) (runs_bytes rest) in
    record {
      bytes = rw (b, p) (append_assoc now.bytes (run_bytes run) (runs_bytes rest) ∙ ap (λ z. now.bytes ++ z) (sym l) ∙ s.bytes);
      kept = let w : next.kept ≡ now.kept + run_kept run = rw p at k in omega (arith, n, s.kept, run_kept_less run);
      free = f ∙ s.free;
      blank = (blank_left runs i run h e s.blank).1;
    }
