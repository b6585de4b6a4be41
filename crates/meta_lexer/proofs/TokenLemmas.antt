-- Tokens, one by one.
use Rattle.std.proofs.Common.{◌≡◌, ℕ, zero, suc, ◌+◌, ◌-◌, ◌<◌, ◌≤◌, true, false, List, [], ◌∷◌, ◌++◌, length, get_or, drop, append_assoc, refl, sym, ap, ◌∙◌, arith}
use Rattle.std.proofs.lemmas.List.{drop_all}
use Rattle.meta_lexer.specs.Lines.{is_blank}
use Rattle.meta_lexer.specs.Tokens.{Front, front_of, token_at, onward, tokens_after}

after-drop : (at k : ℕ) (xs : List ℕ) → tokens_after at k xs ≡ tokens_after (at + k) 0 (drop k xs)
unfolding tokens_after
after-drop at zero [] = refl
after-drop at (suc k) [] = refl
after-drop at zero (b ∷ bs) = let z : at ≡ at + 0 = omega arith in ap (λ n. tokens_after n 0 (b ∷ bs)) z
after-drop at (suc k) (b ∷ bs) = let z : at + 1 + k ≡ at + suc k = omega arith in after-drop (at + 1) k bs ∙ ap (λ n. tokens_after n 0 (drop k bs)) z

-- a blank is passed over
pub front_blank : (at : ℕ) (xs : List ℕ) → 0 < length xs → is_blank (get_or xs 0 0) ≡ true → tokens_after (at + 1) 0 (drop 1 xs) ≡ tokens_after at 0 xs
unfolding tokens_after
front_blank at [] l e = absurd (omega arith)
front_blank at (b ∷ bs) l e = ap (λ t. onward at (b ∷ bs) t (tokens_after (at + 1) 0 bs) (λ n. tokens_after (at + 1) (n - 1) bs)) (sym e)

front_by : (at n : ℕ) (b : ℕ) (bs : List ℕ) → 0 < n → tokens_after (at + 1) (n - 1) bs ≡ tokens_after (at + n) 0 (drop n (b ∷ bs))
front_by at zero b bs l = absurd (omega arith)
front_by at (suc n) b bs l =
    let m : suc n - 1 ≡ n = omega arith in
    let z : at + 1 + n ≡ at + suc n = omega arith in
    ap (λ k. tokens_after (at + 1) k bs) m ∙ after-drop (at + 1) n bs ∙ ap (λ k. tokens_after k 0 (drop n bs)) z

-- any other byte begins a token
pub front_token : (at : ℕ) (xs : List ℕ) (f : Front) → 0 < length xs → is_blank (get_or xs 0 0) ≡ false → f ≡ front_of xs → 0 < f.size → token_at at f ∷ tokens_after (at + f.size) 0 (drop f.size xs) ≡ tokens_after at 0 xs
unfolding tokens_after
front_token at [] f l e is some = absurd (omega arith)
front_token at (b ∷ bs) f l e is some =
    sym (ap (λ t. onward at (b ∷ bs) t (tokens_after (at + 1) 0 bs) (λ n. tokens_after (at + 1) (n - 1) bs)) e
    ∙ ap (λ (g : Front). token_at at g ∷ tokens_after (at + 1) (g.size - 1) bs) (sym is)
    ∙ ap (λ ts. token_at at f ∷ ts) (front_by at f.size b bs some))

-- what has been found, and the rest
pub found_more : {A : Type 0} (old new front rest whole : List A) → new ≡ old ++ front → front ++ rest ≡ whole → new ++ rest ≡ old ++ whole
found_more old new front rest whole e f = ap (λ o. o ++ rest) e ∙ append_assoc old front rest ∙ ap (λ ys. old ++ ys) f

pub tokens_end : (at : ℕ) (xs : List ℕ) (i : ℕ) → length xs ≤ i → tokens_after at 0 (drop i xs) ≡ []
unfolding tokens_after
tokens_end at xs i l = ap (tokens_after at 0) (drop_all i xs l)
