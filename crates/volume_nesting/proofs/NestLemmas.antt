-- A volume's number is greater than those of the volumes that it holds.
use Rattle.std.proofs.Common.{◌≡◌, ◌∙◌, ℕ, Bool, true, if◌then◌else◌, List, [], ◌∷◌, ◌++◌, length, Option, Some, None, refl, sym, ap, subst, inl, inr, append_assoc, append-nil}
use Rattle.std.specs.List.{find, range_with_len}
use Rattle.std.proofs.lemmas.Bool.{cases_Bool, and_parts}
use Rattle.volume_nesting.specs.Numbering.{nest_of, all_among, may_come, next_in, given, turns, topological_order}

-- what each volume of an order holds stands before it
abbrev pub IsOrdered : List (List ℕ) → List ℕ → List ℕ → Type 0
IsOrdered nests above [] = Unit {0}
IsOrdered nests above (p ∷ ps) = (all_among above (nest_of nests p) ≡ true) × IsOrdered nests (above ++ p ∷ []) ps

ordered_push : (nests : List (List ℕ)) (above order : List ℕ) (p : ℕ) → IsOrdered nests above order → all_among (above ++ order) (nest_of nests p) ≡ true
    → IsOrdered nests above (order ++ p ∷ [])
ordered_push nests above [] p h all = (subst (λ xs. all_among xs (nest_of nests p) ≡ true) (append-nil above) all, tt)
ordered_push nests above (q ∷ order) p h all =
    (h.0, ordered_push nests (above ++ q ∷ []) order p h.1 (subst (λ xs. all_among xs (nest_of nests p) ≡ true) (sym (append_assoc above (q ∷ []) order)) all))

found_passes : (test : ℕ → Bool) (xs : List ℕ) (p : ℕ) → find test xs ≡ Some p → test p ≡ true
found_passes test [] p h = absurd cc
found_passes test (x ∷ xs) p h =
    elim (cases_Bool (test x)) [
      | inl t ↦ subst (λ y. test y ≡ true) (one x p (sym (ap (λ b. if b then Some x else find test xs) t) ∙ h)) t
      | inr f ↦ found_passes test xs p (sym (ap (λ b. if b then Some x else find test xs) f) ∙ h)
    ]
  where
    one : (a b : ℕ) → Some a ≡ Some b → a ≡ b
    one a b e = cc

next_comes : (nests : List (List ℕ)) (order : List ℕ) (p : ℕ) → next_in nests order ≡ Some p → all_among order (nest_of nests p) ≡ true
unfolding next_in
next_comes nests order p h = (and_parts _ _ (found_passes (may_come nests order) (range_with_len 0 (length nests)) p h)).1

given_ordered : (nests : List (List ℕ)) (more : List ℕ → List ℕ) (order : List ℕ) (next : Option ℕ) → ((longer : List ℕ) → IsOrdered nests [] longer → IsOrdered nests [] (more longer))
    → IsOrdered nests [] order → ((p : ℕ) → next ≡ Some p → all_among order (nest_of nests p) ≡ true) → IsOrdered nests [] (given more order next)
given_ordered nests more order None later h comes = h
given_ordered nests more order (Some p) later h comes = later (order ++ p ∷ []) (ordered_push nests [] order p h (comes p refl))

turns_ordered : (nests ns : List (List ℕ)) (order : List ℕ) → IsOrdered nests [] order → IsOrdered nests [] (turns nests ns order)
unfolding turns
turns_ordered nests [] order h = h
turns_ordered nests (n ∷ ns) order h = given_ordered nests (turns nests ns) order (next_in nests order) (λ longer more. turns_ordered nests ns longer more) h (next_comes nests order)

pub order_ordered : (nests : List (List ℕ)) → IsOrdered nests [] (topological_order nests)
order_ordered nests = turns_ordered nests nests [] tt
