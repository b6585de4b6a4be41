-- Components that are found along the places of a number.
use Rattle.std.proofs.Common.{◌≡◌, ◌∙◌, ℕ, ◌+◌, ◌<◌, Bool, true, false, ◌&&◌, cond, nat_eq, List, [], ◌∷◌, ◌++◌, Some, length, get_or, drop, map, find, filter, refl, sym, ap, arith, append_assoc}
use Rattle.std.proofs.lemmas.Grind.{common_steps}
use Rattle.std.specs.Cmp.Lexicographic.{pointwise, same_text}
use Rattle.build_base.specs.Digest.{digest}
use Rattle.build_base.proofs.Steps.{head_drop}
use Rattle.number_chains.specs.Chains.{IsNext}
use Rattle.number_chains.proofs.SkipLemmas.{skipped}
use Rattle.doc_types.specs.declared.arch.Arch.{Arch}
use Rattle.doc_types.specs.declared.platform.Component.{Component}
use Rattle.doc_types.specs.Arches.{covers}
use Rattle.doc_types.specs.Components.{is_component, inf_number, has_lines, lines_number}

other_inf : (inf : List ℕ) (arch : Arch) (x : Component) (b : Bool) → pointwise nat_eq x.inf inf ≡ b → (inf_number x ≡ digest inf → ⊥) → is_component inf arch x ≡ false
other_inf inf arch x true e differs = absurd (differs (ap digest (same_text x.inf inf (sym e))))
other_inf inf arch x false e differs = ap (λ a. a && covers x.arch arch) e

adds_none : (p : Component → Bool) (x : Component) (rest : List Component) → p x ≡ false → find p (x ∷ rest) ≡ find p rest
adds_none p x rest e = ap (λ b. cond b (Some x) (find p rest)) e

-- up to the next component whose INF file has the number, none is of the INF file
pub found_behind : (inf : List ℕ) (arch : Arch) (xs : List Component) (start place : ℕ) → IsNext (map inf_number xs) start (digest inf) place
    → find (is_component inf arch) (drop start xs) ≡ find (is_component inf arch) (drop place xs)
found_behind inf arch xs start place h =
    skipped (find (is_component inf arch)) inf_number (digest inf)
    (λ x rest differs. adds_none (is_component inf arch) x rest (other_inf inf arch x (pointwise nat_eq x.inf inf) refl differs)) xs start place h

pub passed : (p : Component → Bool) (xs : List Component) (place : ℕ) (x : Component) → place < length xs → x ≡ get_or xs place x → p x ≡ false → find p (drop place xs) ≡ find p (drop (place + 1) xs)
passed p xs place x h e f = ap (find p) (head_drop xs place x h e) ∙ adds_none p x (drop (place + 1) xs) f

pub found_here : (p : Component → Bool) (xs : List Component) (place : ℕ) (x : Component) → place < length xs → x ≡ get_or xs place x → p x ≡ true → find p (drop place xs) ≡ Some x
found_here p xs place x h e t = ap (find p) (head_drop xs place x h e) ∙ ap (λ b. cond b (Some x) (find p (drop (place + 1) xs))) t

without_lines : (x : Component) (b : Bool) → has_lines x ≡ b → (lines_number x ≡ 1 → ⊥) → has_lines x ≡ false
without_lines x true e differs = absurd (differs (ap {B = ℕ} (λ a. cond a 1 0) e))
without_lines x false e differs = e

with_its_lines : (x : Component) (b : Bool) → has_lines x ≡ b → lines_number x ≡ 1 → has_lines x ≡ true
with_its_lines x true e is = e
with_its_lines x false e is = let z : lines_number x ≡ 0 = ap {B = ℕ} (λ a. cond a 1 0) e in absurd (omega (arith, is, z))

-- up to the next component that has lines, none has
pub lines_behind : (xs : List Component) (start place : ℕ) → IsNext (map lines_number xs) start 1 place → filter has_lines (drop start xs) ≡ filter has_lines (drop place xs)
lines_behind xs start place h =
    skipped (filter has_lines) lines_number 1
    (λ x rest differs. ap (λ b. cond b (x ∷ filter has_lines rest) (filter has_lines rest)) (without_lines x (has_lines x) refl differs)) xs start place h

lines_here : (xs : List Component) (place : ℕ) (x : Component) → place < length xs → x ≡ get_or xs place x → lines_number x ≡ 1 → filter has_lines (drop place xs) ≡ x ∷ filter has_lines (drop (place + 1) xs)
lines_here xs place x h e is =
    ap (filter has_lines) (head_drop xs place x h e)
    ∙ ap (λ b. cond b (x ∷ filter has_lines (drop (place + 1) xs)) (filter has_lines (drop (place + 1) xs))) (with_its_lines x (has_lines x) refl is)

-- one more that has lines, and then those behind it
pub lines_kept : (found : List Component) (xs : List Component) (place next : ℕ) (x : Component) → place < length xs → x ≡ get_or xs place x → get_or (map lines_number xs) place 0 ≡ 1 → IsNext (map lines_number xs) (place + 1) 1 next
    → (found ++ x ∷ []) ++ filter has_lines (drop next xs) ≡ found ++ filter has_lines (drop place xs)
lines_kept found xs place next x h e is n =
    append_assoc found (x ∷ []) (filter has_lines (drop next xs))
    ∙ ap (λ l. found ++ x ∷ l) (sym (lines_behind xs (place + 1) next n))
    ∙ ap (λ l. found ++ l) (sym (lines_here xs place x h e (grind (arith, common_steps, is, e, h))))
