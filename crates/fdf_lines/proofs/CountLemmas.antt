-- Counts, with one line more.
use Rattle.std.proofs.Common.{◌≡◌, ◌∙◌, ℕ, ◌+◌, ◌≤◌, nat_lt, nat_le, Bool, true, false, if◌then◌else◌, ◌||◌, List, [], ◌∷◌, ◌++◌, length, drop, refl, sym, ap, arith}
use Rattle.std.specs.List.{list_any}
use Rattle.std.proofs.lemmas.Bool.Decides.{nat_tests}
use Rattle.std.proofs.lemmas.List.{drop_all}
use Rattle.build_base.specs.declared.fault.Place.{Place}
use Rattle.doc_reading.specs.Blocks.{are_heads}
use Rattle.doc_reading.specs.Grammar.{Read, entered, gave}
use Rattle.fdf_words.specs.declared.rows.Row.{Row}
use Rattle.fdf_words.specs.declared.rows.Scope.{Scope}
use Rattle.fdf_lines.specs.Counts.{count_of, saturated, statements_in, lines_here, statements_here}

-- a count past 64 bits stands still
pub saturated_twice : (a b : ℕ) → saturated (saturated a + saturated b) ≡ saturated (a + b)
saturated_twice a b = grind (arith, nat_tests)

pub saturated_once : (a b : ℕ) → saturated (saturated a + b) ≡ saturated (a + b)
saturated_once a b = grind (arith, nat_tests)

pub above_limit : (n : ℕ) → nat_lt 65535 (saturated n) ≡ nat_lt 65535 n
above_limit n = grind (arith, nat_tests)

pub at_limit : (n : ℕ) → nat_le 65535 (saturated n) ≡ nat_le 65535 n
at_limit n = grind (arith, nat_tests)

nat_assoc : (a b c : ℕ) → a + (b + c) ≡ a + b + c
nat_assoc a b c = omega arith

plus_none : (n : ℕ) → n ≡ n + 0
plus_none n = omega arith

bounded : (n : ℕ) → n ≤ 18446744073709551615 → n ≡ saturated n
bounded n l = grind (arith, nat_tests)

-- all items of a loop
pub counted_all : {T : Type 0} (counts : T → ℕ) (xs : List T) (i count : ℕ) → length xs ≤ i → count ≤ 18446744073709551615
    → count ≡ saturated (count + count_of counts (drop i xs))
counted_all counts xs i count l b =
    bounded count b ∙ ap saturated (plus_none count) ∙ ap (λ ys. saturated (count + count_of counts ys)) (sym (drop_all i xs l))

-- one more at the end
pub count_push : {T : Type 0} (counts : T → ℕ) (xs : List T) (x : T) → count_of counts (xs ++ x ∷ []) ≡ count_of counts xs + counts x
count_push counts [] x = omega arith
count_push counts (y ∷ xs) x = ap (λ n. counts y + n) (count_push counts xs x) ∙ nat_assoc (counts y) (count_of counts xs) (counts x)

or_false : (t : Bool) → (t || false) ≡ (false || t)
or_false true = refl
or_false false = refl

pub or_join : (a b c : Bool) → (a || (b || c)) ≡ ((a || b) || c)
or_join true b c = refl
or_join false b c = refl

or_true : (t : Bool) → (t || true) ≡ true
or_true true = refl
or_true false = refl

pub or_none : (t : Bool) → (t || false) ≡ t
or_none true = refl
or_none false = refl

pub any_end : {T : Type 0} (test : T → Bool) (xs : List T) (x : T) → list_any test (xs ++ x ∷ []) ≡ (list_any test xs || test x)
any_end test [] x = or_false (test x)
any_end test (y ∷ xs) x = ap (λ t. test y || t) (any_end test xs x) ∙ or_join (test y) (list_any test xs) (test x)

here_begun : (above : List (Read Scope Row)) (at : Place) (scopes : List Scope) → lines_here (above ++ entered at scopes ∷ []) ≡ entered at scopes ∷ []
here_begun [] at scopes = refl
here_begun (r ∷ above) at scopes =
    ap (λ t. if t then lines_here (above ++ entered at scopes ∷ []) else r ∷ (above ++ entered at scopes ∷ [])) (any_end are_heads above (entered at scopes) ∙ or_true (list_any are_heads above))
    ∙ here_begun above at scopes

here_if : (t : Bool) (r : Read Scope Row) (above : List (Read Scope Row)) (rows : List Row) → lines_here (above ++ gave rows ∷ []) ≡ lines_here above ++ gave rows ∷ []
    → (if t then lines_here (above ++ gave rows ∷ []) else r ∷ (above ++ gave rows ∷ [])) ≡ (if t then lines_here above else r ∷ above) ++ gave rows ∷ []
here_if true r above rows e = e
here_if false r above rows e = refl

here_more : (above : List (Read Scope Row)) (rows : List Row) → lines_here (above ++ gave rows ∷ []) ≡ lines_here above ++ gave rows ∷ []
here_more [] rows = refl
here_more (r ∷ above) rows =
    ap (λ t. if t then lines_here (above ++ gave rows ∷ []) else r ∷ (above ++ gave rows ∷ [])) (any_end are_heads above (gave rows) ∙ or_none (list_any are_heads above))
    ∙ here_if (list_any are_heads above) r above rows (here_more above rows)

-- no statement stands below heads yet
pub statements_begun : (above : List (Read Scope Row)) (at : Place) (scopes : List Scope) → statements_here (above ++ entered at scopes ∷ []) ≡ 0
statements_begun above at scopes = ap (count_of statements_in) (here_begun above at scopes)

pub statements_more : (above : List (Read Scope Row)) (rows : List Row) → statements_here (above ++ gave rows ∷ []) ≡ statements_here above + statements_in (gave rows)
statements_more above rows = ap (count_of statements_in) (here_more above rows) ∙ count_push statements_in (lines_here above) (gave rows)
