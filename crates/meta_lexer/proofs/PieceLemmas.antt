-- Lines, piece by piece.
use Rattle.std.proofs.Common.{◌≡◌, ◌≢◌, ℕ, ◌+◌, ◌-◌, ◌<◌, ◌≤◌, false, eqb, List, [], ◌∷◌, length, take, drop, get_or, length-drop, refl, sym, ap, ◌∙◌, subst, arith, rules, tests}
use Rattle.std.proofs.lemmas.Grind.{common_steps}
use Rattle.std.proofs.lemmas.List.Splits.{slice_split_first, length-slice_split, slice_split_none}
use Rattle.std.specs.List.{slice_split, position_or_len, before_first, after_first}
use Rattle.std.proofs.lemmas.List.Sums.{position_or_len_is, fails_before_first}
use Rattle.std.proofs.lemmas.List.{take_rest}
use Rattle.std.proofs.lemmas.Bool.Decides.{nat_tests}
use Rattle.std.proofs.lemmas.List.Elements.{All-from_get_or}
use Rattle.meta_lexer.specs.Lines.{is_feed, numbered, pieces_from, without_return}

numbered-last : (n at m from : ℕ) (p : List ℕ) → 0 < length (without_return p) → numbered n at (p ∷ []) ≡ record { number = n; start = at; bytes = p } ∷ numbered m from ([] ∷ [])
unfolding numbered
numbered-last n at m from p h = let e : eqb (length (without_return p)) 0 ≡ false = search (rules, tests) in rw e refl

numbered-cons : (n at : ℕ) (p : List ℕ) (qs : List (List ℕ)) → 0 < length qs → numbered n at (p ∷ qs) ≡ record { number = n; start = at; bytes = p } ∷ numbered (n + 1) (at + length p + 1) qs
unfolding numbered
numbered-cons n at p [] h = absurd (omega arith)
numbered-cons n at p (q ∷ qs) h = refl

pub feed_is : (xs : List ℕ) (i : ℕ) → i ≤ length xs → ((k : ℕ) → k < i → get_or xs k 0 ≢ 10) → (i < length xs → get_or xs i 0 ≡ 10) → i ≡ position_or_len is_feed xs
feed_is xs i le below here = sym (position_or_len_is is_feed xs i 0 le (λ k h. let e = below k h in search (rules, tests)) (λ h. let e = here h in search (rules, tests)))

-- a piece that ends with a line feed
pub pieces_cut : (rest : List ℕ) (n at : ℕ) → position_or_len is_feed rest < length rest → pieces_from n at rest ≡ record { number = n; start = at; bytes = take (position_or_len is_feed rest) rest } ∷ pieces_from (n + 1) (at + position_or_len is_feed rest + 1) (drop (position_or_len is_feed rest + 1) rest)
pieces_cut rest n at h =
    let i : ℕ = position_or_len is_feed rest in
    let more = slice_split is_feed (after_first is_feed rest) in
    let le : i ≤ length rest = omega arith in
    let len : length (before_first is_feed rest) ≡ i = grind (arith, common_steps) in
    ap (numbered n at) (slice_split_first is_feed rest 0 h)
    ∙ numbered-cons n at (before_first is_feed rest) more (omega (arith, length-slice_split is_feed (after_first is_feed rest)))
    ∙ ap (λ k. record { number = n; start = at; bytes = before_first is_feed rest } ∷ numbered (n + 1) (at + k + 1) more) len

-- the last piece, which has none
pub pieces_last : (rest : List ℕ) (n at m from : ℕ) → length rest ≤ position_or_len is_feed rest → 0 < length (without_return rest) → pieces_from n at rest ≡ record { number = n; start = at; bytes = rest } ∷ pieces_from m from []
pieces_last rest n at m from h full =
    let none = slice_split_none is_feed rest (All-from_get_or (λ x. is_feed x ≡ false) rest 0 (λ k l. fails_before_first is_feed rest k 0 (omega arith))) in
    ap (numbered n at) none ∙ numbered-last n at m from rest full

-- the same, as the code has it
pub pieces_cut_at : (rest : List ℕ) (n at i : ℕ) → i ≡ position_or_len is_feed rest → i < length rest → let after = take (length rest - (i + 1)) (drop (i + 1) rest) in pieces_from n at rest ≡ record { number = n; start = at; bytes = take i rest } ∷ pieces_from (n + 1) (at + (length rest - length after)) after
pieces_cut_at rest n at i e h =
    let Q : ℕ → Type 0 = λ j. pieces_from n at rest ≡ record { number = n; start = at; bytes = take j rest } ∷ pieces_from (n + 1) (at + j + 1) (drop (j + 1) rest) in
    let cut : Q i = subst Q (sym e) (pieces_cut rest n at (omega arith)) in
    let step : at + i + 1 ≡ at + (length rest - length (drop (i + 1) rest)) = simp length-drop (omega arith) in
    rw (take_rest rest (i + 1), ← step) cut

-- the whole text begins at place 0
pub whole_at : (xs : List ℕ) → pieces_from 1 (length xs - length xs) xs ≡ pieces_from 1 0 xs
whole_at xs = let e : length xs - length xs ≡ 0 = omega arith in ap (λ k. pieces_from 1 k xs) e

numbered-end : (n at : ℕ) (p : List ℕ) → length (without_return p) ≡ 0 → numbered n at (p ∷ []) ≡ []
unfolding numbered
numbered-end n at p e = rw e refl

only_return : (x : ℕ) → length (without_return (x ∷ [])) ≡ 0 → x ≡ 13
only_return x e = grind (arith, nat_tests)

too_long : (x y : ℕ) (xs : List ℕ) → length (without_return (x ∷ y ∷ xs)) ≡ 0 → ⊥
too_long x y xs e = grind (arith, nat_tests, common_steps)

-- what is left is an empty piece
pub pieces_end : (rest : List ℕ) (n at : ℕ) → length (without_return rest) ≡ 0 → pieces_from n at rest ≡ []
pieces_end [] n at e = numbered-end n at [] refl
pieces_end (x ∷ []) n at e = subst (λ v. pieces_from n at (v ∷ []) ≡ []) (sym (only_return x e)) (numbered-end n at (13 ∷ []) refl)
pieces_end (x ∷ y ∷ xs) n at e = absurd (too_long x y xs e)
