-- Macros that aren't filled in, from a place on.
use Rattle.std.proofs.Common.{◌≡◌, ◌∙◌, ℕ, ◌+◌, ◌-◌, ◌<◌, false, ◌||◌, List, length, length-drop, take, drop, sym, ap, arith}
use Rattle.std.proofs.lemmas.List.{at_drop_more, take_all}
use Rattle.fdf_lines.specs.Rules.{is_other, holds_other}
use Rattle.fdf_lines.specs.RuleNumbers.{begins_another, holds_another}

rest_whole : (xs : List ℕ) (i : ℕ) → take (length xs - i) (drop i xs) ≡ drop i xs
rest_whole xs i = take_all (length xs - i) (drop i xs) (omega (arith, length-drop {A = ℕ}))

pub others_below : (xs : List ℕ) (i : ℕ) → i < length xs → is_other (take (length xs - i) (drop i xs)) ≡ false → holds_other (drop i xs) ≡ holds_other (drop (i + 1) xs)
unfolding holds_other
others_below xs i l e =
    at_drop_more holds_other xs i 0 l
    ∙ ap (λ t. t || holds_other (drop (i + 1) xs)) (sym (at_drop_more is_other xs i 0 l) ∙ ap is_other (sym (rest_whole xs i)) ∙ e)

pub another_below : (xs : List ℕ) (i : ℕ) → i < length xs → begins_another (take (length xs - i) (drop i xs)) ≡ false → holds_another (drop i xs) ≡ holds_another (drop (i + 1) xs)
unfolding holds_another
another_below xs i l e =
    at_drop_more holds_another xs i 0 l
    ∙ ap (λ t. t || holds_another (drop (i + 1) xs)) (sym (at_drop_more begins_another xs i 0 l) ∙ ap begins_another (sym (rest_whole xs i)) ∙ e)
