-- Rows of a number, and of marked numbers.
use Rattle.std.proofs.Common.{◌≡◌, ◌∙◌, ℕ, zero, suc, Bool, true, false, ◌&&◌, cond, nat_eq, nat_lt, ◌<◌, ◌+◌, List, [], ◌∷◌, ◌++◌, length, get_or, drop, map, filter, refl, sym, ap, arith, append_assoc}
use Rattle.std.proofs.lemmas.Bool.{eqb-true, eq-eqb, lt-ltb}
use Rattle.std.proofs.lemmas.Bool.Decides.{nat_tests}
use Rattle.std.proofs.lemmas.Grind.{common_steps}
use Rattle.std.proofs.lemmas.List.{get_or-map, append-nil}
use Rattle.std.proofs.lemmas.List.Elements.{filter-append}
use Rattle.build_base.proofs.Steps.{head_drop}
use Rattle.number_chains.specs.Chains.{IsNext}
use Rattle.number_chains.specs.Marks.{has, AreMarked}
use Rattle.number_chains.proofs.SkipLemmas.{skipped}

-- what a row adds to those that are kept
taken : {X : Type 0} (p : X → Bool) (x : X) (xs : List X) → p x ≡ true → filter p (x ∷ xs) ≡ x ∷ filter p xs
taken p x xs e = ap (λ b. cond b (x ∷ filter p xs) (filter p xs)) e

left_out : {X : Type 0} (p : X → Bool) (x : X) (xs : List X) → p x ≡ false → filter p (x ∷ xs) ≡ filter p xs
left_out p x xs e = ap (λ b. cond b (x ∷ filter p xs) (filter p xs)) e

differs_so : (a b : ℕ) (v : Bool) → nat_eq a b ≡ v → (a ≡ b → ⊥) → nat_eq a b ≡ false
differs_so a b true e differs = absurd (differs (eqb-true a b e))
differs_so a b false e differs = e

-- up to the next row of a number, none has it
pub rows_behind : {X : Type 0} (number_of : X → ℕ) (number : ℕ) (xs : List X) (start place : ℕ) → IsNext (map number_of xs) start number place
    → filter (has number_of number) (drop start xs) ≡ filter (has number_of number) (drop place xs)
rows_behind number_of number xs start place h =
    skipped (filter (has number_of number)) number_of number
    (λ x rest differs. left_out (has number_of number) x rest (differs_so (number_of x) number (nat_eq (number_of x) number) refl differs)) xs start place h

has_it : {X : Type 0} (number_of : X → ℕ) (number : ℕ) (xs : List X) (place : ℕ) (x : X) → place < length xs → x ≡ get_or xs place x → get_or (map number_of xs) place 0 ≡ number → has number_of number x ≡ true
has_it number_of number xs place x h e is =
    eq-eqb (number_of x) number (ap number_of e ∙ sym (get_or-map number_of xs place x 0 h) ∙ is)

-- one more row of a number, and then those behind it
pub row_kept : {X : Type 0} (number_of : X → ℕ) (number : ℕ) (found xs : List X) (place next : ℕ) (x : X) → place < length xs → x ≡ get_or xs place x → get_or (map number_of xs) place 0 ≡ number → IsNext (map number_of xs) (place + 1) number next
    → (found ++ x ∷ []) ++ filter (has number_of number) (drop next xs) ≡ found ++ filter (has number_of number) (drop place xs)
row_kept number_of number found xs place next x h e is n =
    append_assoc found (x ∷ []) (filter (has number_of number) (drop next xs))
    ∙ ap (λ l. found ++ x ∷ l) (sym (rows_behind number_of number xs (place + 1) next n))
    ∙ ap (λ l. found ++ l) (sym (ap (filter (has number_of number)) (head_drop xs place x h e) ∙ taken (has number_of number) x (drop (place + 1) xs) (has_it number_of number xs place x h e is)))

-- of rows of a number, what is kept of them that has another number
kept_apart : {X : Type 0} (number_of : X → ℕ) (number other : ℕ) (keep : X → Bool) → ((x : X) → keep x ≡ true → number_of x ≡ other) → (other ≡ number → ⊥) → (x : X) (b : Bool) → has number_of number x ≡ true → keep x ≡ b → keep x ≡ false
kept_apart number_of number other keep same differs x true h e = absurd (differs (sym (same x e) ∙ eqb-true (number_of x) number h))
kept_apart number_of number other keep same differs x false h e = e

one_apart : {X : Type 0} (number_of : X → ℕ) (number other : ℕ) (keep : X → Bool) → ((x : X) → keep x ≡ true → number_of x ≡ other) → (other ≡ number → ⊥) → (x : X) (xs : List X) (b : Bool) → has number_of number x ≡ b
    → filter keep (filter (has number_of number) (x ∷ xs)) ≡ filter keep (filter (has number_of number) xs)
one_apart number_of number other keep same differs x xs true e =
    ap (filter keep) (taken (has number_of number) x xs e)
    ∙ left_out keep x (filter (has number_of number) xs) (kept_apart number_of number other keep same differs x (keep x) e refl)
one_apart number_of number other keep same differs x xs false e = ap (filter keep) (left_out (has number_of number) x xs e)

pub none_kept : {X : Type 0} (number_of : X → ℕ) (number other : ℕ) (keep : X → Bool) → ((x : X) → keep x ≡ true → number_of x ≡ other) → (other ≡ number → ⊥) → (xs : List X) → filter keep (filter (has number_of number) xs) ≡ []
none_kept number_of number other keep same differs [] = refl
none_kept number_of number other keep same differs (x ∷ xs) =
    one_apart number_of number other keep same differs x xs (has number_of number x) refl ∙ none_kept number_of number other keep same differs xs

-- a row that isn't kept
not_kept : {X : Type 0} (p keep : X → Bool) (x : X) (xs : List X) (b : Bool) → keep x ≡ false → p x ≡ b → filter keep (filter p (x ∷ xs)) ≡ filter keep (filter p xs)
not_kept p keep x xs true off e = ap (filter keep) (taken p x xs e) ∙ left_out keep x (filter p xs) off
not_kept p keep x xs false off e = ap (filter keep) (left_out p x xs e)

one_kept : {X : Type 0} (number_of : X → ℕ) (number : ℕ) (keep : X → Bool) → ((x : X) → keep x ≡ true → number_of x ≡ number) → (x : X) (xs : List X) (b : Bool) → keep x ≡ b
    → filter keep (filter (has number_of number) xs) ≡ filter keep xs → filter keep (filter (has number_of number) (x ∷ xs)) ≡ filter keep (x ∷ xs)
one_kept number_of number keep same x xs true e rest =
    ap (filter keep) (taken (has number_of number) x xs (eq-eqb (number_of x) number (same x e)))
    ∙ taken keep x (filter (has number_of number) xs) e
    ∙ ap (λ l. x ∷ l) rest
    ∙ sym (taken keep x xs e)
one_kept number_of number keep same x xs false e rest =
    not_kept (has number_of number) keep x xs (has number_of number x) e refl ∙ rest ∙ sym (left_out keep x xs e)

-- what is kept of rows that all have a number is kept of those of the number
pub all_kept : {X : Type 0} (number_of : X → ℕ) (number : ℕ) (keep : X → Bool) → ((x : X) → keep x ≡ true → number_of x ≡ number) → (xs : List X) → filter keep (filter (has number_of number) xs) ≡ filter keep xs
all_kept number_of number keep same [] = refl
all_kept number_of number keep same (x ∷ xs) = one_kept number_of number keep same x xs (keep x) refl (all_kept number_of number keep same xs)

true_false : true ≡ false → ⊥
true_false e = cc

-- of the marked numbers below one all rows are found, and none of the others
abbrev pub AreMarkedBelow : {X : Type 0} → (X → ℕ) → ℕ → List Bool → List X → List X → Type 0
AreMarkedBelow number_of below marks rows found = (number : ℕ) (keep : _ → Bool)
    → ((x : _) → keep x ≡ true → number_of x ≡ number)
    → filter keep found ≡ cond (nat_lt number below && get_or marks number false) (filter keep rows) []

none_under : (number : ℕ) → nat_lt number 0 ≡ false
none_under number = grind (arith, common_steps, nat_tests)

pub none_below : {X : Type 0} (number_of : X → ℕ) (marks : List Bool) (rows found : List X) → found ≡ [] → AreMarkedBelow number_of 0 marks rows found
none_below number_of marks rows found e = λ number keep same.
    ap (filter keep) e ∙ ap (λ b. cond (b && get_or marks number false) (filter keep rows) []) (sym (none_under number))

one_further : (number at : ℕ) (b : Bool) → nat_eq number at ≡ b → nat_lt number (at + 1) ≡ cond b true (nat_lt number at)
one_further number at true e = lt-ltb number (at + 1) (let same : number ≡ at = eqb-true number at e in omega (arith, same))
one_further number at false e = grind (arith, common_steps, nat_tests, e)

-- a number that isn't marked has no rows found
pub unmarked_below : {X : Type 0} (number_of : X → ℕ) (at : ℕ) (marks : List Bool) (rows found : List X) → get_or marks at false ≡ false → AreMarkedBelow number_of at marks rows found → AreMarkedBelow number_of (at + 1) marks rows found
unmarked_below number_of at marks rows found off h = λ number keep same. h number keep same ∙ ap (λ b. cond b (filter keep rows) []) (by_number number (nat_eq number at) refl)
  where
    by_number : (number : ℕ) (b : Bool) → nat_eq number at ≡ b → (nat_lt number at && get_or marks number false) ≡ (nat_lt number (at + 1) && get_or marks number false)
    by_number number true e =
        let same : number ≡ at = eqb-true number at e in
        let not_marked : get_or marks number false ≡ false = ap (λ n. get_or marks n false) same ∙ off in
        grind (arith, common_steps, nat_tests, not_marked)
    by_number number false e = ap (λ b. b && get_or marks number false) (sym (one_further number at false e))

-- of a number that is marked all rows are found
pub marked_below : {X : Type 0} (number_of : X → ℕ) (at : ℕ) (marks : List Bool) (rows found more : List X) → get_or marks at false ≡ true → more ≡ found ++ filter (has number_of at) rows → AreMarkedBelow number_of at marks rows found → AreMarkedBelow number_of (at + 1) marks rows more
marked_below number_of at marks rows found more on e h = λ number keep same.
    ap (filter keep) e ∙ filter-append keep found (filter (has number_of at) rows) ∙ by_number number keep same (nat_eq number at) refl
  where
    by_number : (number : ℕ) (keep : _ → Bool) → ((x : _) → keep x ≡ true → number_of x ≡ number) → (b : Bool) → nat_eq number at ≡ b
        → filter keep found ++ filter keep (filter (has number_of at) rows) ≡ cond (nat_lt number (at + 1) && get_or marks number false) (filter keep rows) []
    by_number number keep same true e =
        let is : number ≡ at = eqb-true number at e in
        let none : (nat_lt number at && get_or marks number false) ≡ false = grind (arith, common_steps, nat_tests, is) in
        let is_on : get_or marks number false ≡ true = ap (λ n. get_or marks n false) is ∙ on in
        let counts : (nat_lt number (at + 1) && get_or marks number false) ≡ true = grind (arith, common_steps, nat_tests, is, is_on) in
        ap (λ l. l ++ filter keep (filter (has number_of at) rows)) (h number keep same ∙ ap (λ b. cond b (filter keep rows) []) none)
        ∙ all_kept number_of at keep (λ x k. same x k ∙ is) rows
        ∙ sym (ap (λ b. cond b (filter keep rows) []) counts)
    by_number number keep same false e =
        ap (λ l. filter keep found ++ l) (none_kept number_of at number keep same (λ is. true_false (sym (eq-eqb number at is) ∙ e)) rows)
        ∙ append-nil (filter keep found)
        ∙ h number keep same
        ∙ ap (λ b. cond (b && get_or marks number false) (filter keep rows) []) (sym (one_further number at false e))

marked_within : (marks : List Bool) (number : ℕ) → get_or marks number false ≡ true → number < length marks
marked_within [] number e = absurd (let f : false ≡ true = e in cc)
marked_within (mark ∷ marks) zero e = omega arith
marked_within (mark ∷ marks) (suc number) e = let below : number < length marks = marked_within marks number e in omega (arith, below)

pub all_marked : {X : Type 0} (number_of : X → ℕ) (below : ℕ) (marks : List Bool) (rows found : List X) → (below < length marks → ⊥) → AreMarkedBelow number_of below marks rows found → AreMarked number_of marks rows found
all_marked number_of below marks rows found ends h = λ number keep on same.
    let within : number < length marks = marked_within marks number on in
    let counts : (nat_lt number below && get_or marks number false) ≡ true = ap (λ b. b && get_or marks number false) (lt-ltb number below (omega (arith, within, ends))) ∙ on in
    h number keep same ∙ ap (λ b. cond b (filter keep rows) []) counts
