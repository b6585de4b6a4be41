-- What the front of a text comes to.
use Rattle.std.proofs.Common.{◌≡◌, ◌==◌, not, add-one, Bool, true, false, ℕ, zero, suc, ◌+◌, ◌-◌, ◌<◌, ◌≤◌, List, [], ◌∷◌, ◌++◌, length, take, drop, Option, Some, None, cond, append_assoc, refl, sym, ap, ◌∙◌, arith}
use Rattle.std.specs.List.{position_or_len}
use Rattle.std.specs.Option.{option_or}
use Rattle.std.proofs.lemmas.Bool.{and_parts, not-true}
use Rattle.std.proofs.lemmas.List.{drop_all, take_all}
use Rattle.build_base.specs.declared.lines.Macro.{Macro}
use Rattle.macro_expressions.specs.declared.macros.Undefined.{Undefined}
use Rattle.macro_expressions.specs.Macros.{value_from, value_of, same_text, use_at, used, meaning, is_plain, replaced_after, replaced}

after-drop : (u : Undefined) (ms : List Macro) (k : ℕ) (xs : List ℕ) → replaced_after u ms k xs ≡ replaced u ms (drop k xs)
unfolding replaced_after
after-drop u ms zero [] = refl
after-drop u ms (suc k) [] = refl
after-drop u ms zero (b ∷ bs) = refl
after-drop u ms (suc k) (b ∷ bs) = after-drop u ms k bs

pub front_by : (u : Undefined) (ms : List Macro) (b : ℕ) (bs : List ℕ) (o : Option ℕ) → use_at (b ∷ bs) ≡ o → replaced u ms (b ∷ bs) ≡ used u ms o (b ∷ bs) b (replaced_after u ms 0 bs) (λ n. replaced_after u ms (n + 2) bs)
unfolding replaced_after
front_by u ms b bs o e = ap (λ o. used u ms o (b ∷ bs) b (replaced_after u ms 0 bs) (λ n. replaced_after u ms (n + 2) bs)) e

-- a use of a macro
pub front_use : (u : Undefined) (ms : List Macro) (xs : List ℕ) (n : ℕ) → 0 < length xs → use_at xs ≡ Some n → meaning u ms n xs ++ replaced u ms (drop (n + 3) xs) ≡ replaced u ms xs
front_use u ms [] n l e = absurd (omega arith)
front_use u ms (b ∷ bs) n l e =
    let three : n + 3 ≡ suc (n + 2) = omega arith in
    sym (front_by u ms b bs (Some n) e ∙ ap (λ ys. meaning u ms n (b ∷ bs) ++ ys) (after-drop u ms (n + 2) bs ∙ ap (λ k. replaced u ms (drop k (b ∷ bs))) (sym three)))

no_use : (b : ℕ) (bs : List ℕ) → (b == 36) ≡ false → use_at (b ∷ bs) ≡ None
unfolding use_at
no_use b bs e = rw e refl

-- all that stands before the next byte that may begin a use
plain_run : (u : Undefined) (ms : List Macro) (xs : List ℕ) → take (position_or_len (λ b. b == 36) xs) xs ++ replaced u ms (drop (position_or_len (λ b. b == 36) xs) xs) ≡ replaced u ms xs
plain_run u ms [] = refl
plain_run u ms (b ∷ bs) =
    let n : ℕ = position_or_len (λ b. b == 36) bs in
    (elim (b == 36) as (λ t. (b == 36) ≡ t → take (cond (not t) (1 + n) 0) (b ∷ bs) ++ replaced u ms (drop (cond (not t) (1 + n) 0) (b ∷ bs)) ≡ replaced u ms (b ∷ bs)) [
      | true ↦ λ e. refl
      | false ↦ λ e.
          let one : 1 + n ≡ suc n = omega arith in
          ap (λ k. take k (b ∷ bs) ++ replaced u ms (drop k (b ∷ bs))) one
          ∙ ap (λ (ys : List ℕ). b ∷ ys) (plain_run u ms bs) ∙ sym (front_by u ms b bs None (no_use b bs e))
    ]) refl

-- a text without a `$` is what it comes to
pub plain_whole : (u : Undefined) (ms : List Macro) (xs : List ℕ) → is_plain xs ≡ true → replaced u ms xs ≡ xs
unfolding replaced_after
plain_whole u ms [] e = refl
plain_whole u ms (b ∷ bs) e =
    let here = and_parts (not (b == 36)) (is_plain bs) e in
    front_by u ms b bs None (no_use b bs (not-true (b == 36) here.0)) ∙ ap (λ (ys : List ℕ). b ∷ ys) (plain_whole u ms bs here.1)

pub behind_first : (xs : List ℕ) → take (length xs - 1) (drop 1 xs) ≡ drop 1 xs
behind_first [] = refl
behind_first (b ∷ bs) = take_all (length (b ∷ bs) - 1) bs (omega arith)

pub front_plain : (u : Undefined) (ms : List Macro) (xs : List ℕ) → 0 < length xs → use_at xs ≡ None
    → take (position_or_len (λ b. b == 36) (drop 1 xs) + 1) xs ++ replaced u ms (drop (position_or_len (λ b. b == 36) (drop 1 xs) + 1) xs) ≡ replaced u ms xs
front_plain u ms [] l e = absurd (omega arith)
front_plain u ms (b ∷ bs) l e =
    let n : ℕ = position_or_len (λ b. b == 36) bs in
    ap (λ k. take k (b ∷ bs) ++ replaced u ms (drop k (b ∷ bs))) (add-one n)
    ∙ ap (λ (ys : List ℕ). b ∷ ys) (plain_run u ms bs) ∙ sym (front_by u ms b bs None e)

pub replaced-end : (u : Undefined) (ms : List Macro) (xs : List ℕ) (i : ℕ) → length xs ≤ i → replaced u ms (drop i xs) ≡ []
unfolding replaced_after
replaced-end u ms xs i l = ap (replaced u ms) (drop_all i xs l)

-- a front that has been written
pub written_front : (u : Undefined) (ms : List Macro) (out new front xs rest : List ℕ) → new ≡ out ++ front → front ++ replaced u ms rest ≡ replaced u ms xs → new ++ replaced u ms rest ≡ out ++ replaced u ms xs
written_front u ms out new front xs rest e f = ap (λ o. o ++ replaced u ms rest) e ∙ append_assoc out front (replaced u ms rest) ∙ ap (λ ys. out ++ ys) f

-- the last of two lists
pub value_from_two : (found : Option (List ℕ)) (name : List ℕ) (xs ys : List Macro) → value_from found name (xs ++ ys) ≡ value_from (value_from found name xs) name ys
unfolding value_from
value_from_two found name [] ys = refl
value_from_two found name (m ∷ xs) ys = value_from_two (cond (same_text m.name name) (Some m.value) found) name xs ys

-- one that was found before holds where there is none
pub value_from_found : (found : Option (List ℕ)) (name : List ℕ) (ms : List Macro) → value_from found name ms ≡ option_or (value_of name ms) found
unfolding value_from
value_from_found found name [] = refl
value_from_found found name (m ∷ ms) =
    let here : Option (List ℕ) = cond (same_text m.name name) (Some m.value) None in
    value_from_found (cond (same_text m.name name) (Some m.value) found) name ms
    ∙ by_case (value_of name ms) (same_text m.name name)
    ∙ ap (λ o. option_or o found) (sym (value_from_found here name ms))
  where
    by_case : (o : Option (List ℕ)) (b : Bool) → option_or o (cond b (Some m.value) found) ≡ option_or (option_or o (cond b (Some m.value) None)) found
    by_case (Some v) b = refl
    by_case None true = refl
    by_case None false = refl

pub value_of_two : (name : List ℕ) (xs ys : List Macro) → value_of name (xs ++ ys) ≡ option_or (value_of name ys) (value_of name xs)
value_of_two name xs ys = value_from_two None name xs ys ∙ value_from_found (value_of name xs) name ys
