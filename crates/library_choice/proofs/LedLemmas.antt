-- To what one leads.
use Rattle.std.proofs.Common.{◌≡◌, ◌∙◌, ◌||◌, ℕ, Bool, true, false, cond, nat_eq, List, [], ◌∷◌, ◌++◌, map, refl, sym, ap, subst, arith}
use Rattle.std.proofs.lemmas.List.Folds.{list_any-append}
use Rattle.library_choice.specs.Found.{is_in, put, add, ends}
use Rattle.library_choice.specs.Reaching.{LedTo, next_at, leads_at}
use Rattle.library_choice.specs.Search.{Same}
use Rattle.library_choice.proofs.PathLemmas.{number_same}

or-false : (a : Bool) → a || false ≡ a
or-false true = refl
or-false false = refl

or-shift : (a b c : Bool) → (a || b) || c ≡ a || (b || c)
or-shift true b c = refl
or-shift false b c = refl

or-there : (a b : Bool) → (b ≡ true → a ≡ true) → a ≡ a || b
or-there true b h = refl
or-there false true h = h refl
or-there false false h = refl

pub in-put : {X : Type 0} (eq : X → X → Bool) → Same eq → (b : List X) (y x : X) (v : Bool) → is_in eq b y ≡ v → is_in eq (cond v b (b ++ y ∷ [])) x ≡ is_in eq b x || eq y x
in-put eq s b y x true e = or-there (is_in eq b x) (eq y x) (λ same. subst (λ z. is_in eq b z ≡ true) (s.same y x same) e)
in-put eq s b y x false e = list_any-append (λ z. eq z x) b (y ∷ []) ∙ ap (λ v. is_in eq b x || v) (or-false (eq y x))

-- what is added is there, and nothing else
pub in-add : {X : Type 0} (eq : X → X → Bool) → Same eq → (b xs : List X) (x : X) → is_in eq (add eq b xs) x ≡ is_in eq b x || is_in eq xs x
unfolding add
in-add eq s b [] x = sym (or-false (is_in eq b x))
in-add eq s b (y ∷ ys) x =
    in-add eq s (put eq b y) ys x ∙ ap (λ v. v || is_in eq ys x) (in-put eq s b y x (is_in eq b y) refl) ∙ or-shift (is_in eq b x) (eq y x) (is_in eq ys x)

-- a row of what was reached
pub row-led : (nexts : List (List ℕ)) (from : ℕ) (found : List ℕ) → LedTo nat_eq (next_at nexts) from found → (xs : List ℕ) → map (is_in nat_eq found) xs ≡ map (leads_at nexts from) xs
unfolding leads_at
row-led nexts from found led [] = refl
row-led nexts from found led (x ∷ xs) =
    ap (λ v. v ∷ map (is_in nat_eq found) xs) (ap (λ l. is_in nat_eq l x) (sym (led 1025 (omega arith))) ∙ in-add nat_eq number_same [] (ends (next_at nexts) (next_at nexts from) 1025) x)
    ∙ ap (λ l. leads_at nexts from x ∷ l) (row-led nexts from found led xs)
