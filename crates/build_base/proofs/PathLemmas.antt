-- A path's form, segment by segment.
use Rattle.std.proofs.Common.{◌≡◌, ◌∷◌, [], ◌++◌, IsTrue, refl, Bool, Some, None, cond, unwrap_or, nat_lt, ◌==◌, ◌+◌, ◌<◌, ◌&&◌, List, ℕ, nat_eq, rules, length, take, drop, get_or, ap, sym, ◌∙◌, subst, false, true, arith}
use Rattle.std.proofs.lemmas.List.{take-append-drop, at_drop_more}
use Rattle.std.specs.List.{position, position_or_len, list_all, slice_split, onto_first, All}
use Rattle.std.proofs.lemmas.List.Splits.{slice_split_first, slice_split_none, length-slice_split}
use Rattle.std.proofs.lemmas.List.Folds.{list_all-append}
use Rattle.std.proofs.lemmas.List.Sums.{fails_before_first, prefix_len-le-length}
use Rattle.std.proofs.lemmas.Bool.Decides.{nat_tests}
use Rattle.std.proofs.Math.Bool.{and-true}
use Rattle.std.specs.Cmp.Lexicographic.{pointwise}
use Rattle.build_base.specs.Digest.{digest}
use Rattle.build_base.specs.Path.{IsPath, is_path, is_segment}

pub is_path_last : (xs : List ℕ) → position_or_len (λ byte. byte == 47) xs ≡ length xs → is_path xs ≡ is_segment xs
unfolding is_path
is_path_last xs e =
    let all : All (λ x. (x == 47) ≡ false) xs = λ k d h. fails_before_first (λ byte. byte == 47) xs k d (rw e h) in
    ap (list_all is_segment) (slice_split_none (λ byte. byte == 47) xs all) ∙ and-true (is_segment xs)

pub is_path_step : (xs : List ℕ) → position_or_len (λ byte. byte == 47) xs < length xs
    → is_path xs ≡ (is_segment (take (position_or_len (λ byte. byte == 47) xs) xs) && is_path (drop (position_or_len (λ byte. byte == 47) xs + 1) xs))
unfolding is_path
is_path_step xs h = ap (list_all is_segment) (slice_split_first (λ byte. byte == 47) xs 0 h)

pub until_first : (xs : List ℕ) → unwrap_or (position (λ byte. byte == 47) xs) (length xs) ≡ position_or_len (λ byte. byte == 47) xs
until_first xs =
    let p : ℕ → Bool = λ byte. byte == 47 in
    elim (nat_lt (position_or_len p xs) (length xs)) as (λ b. nat_lt (position_or_len p xs) (length xs) ≡ b → unwrap_or (cond b (Some (position_or_len p xs)) None) (length xs) ≡ position_or_len p xs) [
      | true ↦ λ e. refl
      | false ↦ λ e. grind (arith, nat_tests, prefix_len-le-length)
    ] refl

pub is_path_rest : (xs : List ℕ) (n : ℕ) → n ≡ position_or_len (λ byte. byte == 47) xs → n < length xs → is_segment (take n xs) ≡ true → is_path xs ≡ is_path (drop (n + 1) xs)
is_path_rest xs n e h s =
    is_path_step xs (rw e at h) ∙ rw (← e) (ap (λ b. b && is_path (drop (n + 1) xs)) s)

onto_first-append : (x : ℕ) (ls ms : List (List ℕ)) → 0 < length ls → onto_first x (ls ++ ms) ≡ onto_first x ls ++ ms
onto_first-append x [] ms h = absurd (omega arith)
onto_first-append x (l ∷ ls) ms h = refl

pub slice_split-join : (xs ys : List ℕ) → slice_split (λ byte. byte == 47) (xs ++ 47 ∷ ys) ≡ slice_split (λ byte. byte == 47) xs ++ slice_split (λ byte. byte == 47) ys
slice_split-join [] ys = refl
slice_split-join (x ∷ xs) ys =
    let p : ℕ → Bool = λ byte. byte == 47 in
    elim (p x) as (λ b. cond b ([] ∷ slice_split p (xs ++ 47 ∷ ys)) (onto_first x (slice_split p (xs ++ 47 ∷ ys))) ≡ cond b ([] ∷ slice_split p xs) (onto_first x (slice_split p xs)) ++ slice_split p ys) [
      | true ↦ ap (λ ls. [] ∷ ls) (slice_split-join xs ys)
      | false ↦ ap (onto_first x) (slice_split-join xs ys) ∙ onto_first-append x (slice_split p xs) (slice_split p ys) (omega (arith, length-slice_split p xs))
    ]

both_true : (a b : Bool) → IsTrue a → IsTrue b → IsTrue (a && b)
both_true true b h k = k
both_true false b h k = h

pub IsPath-join : (xs ys : List ℕ) → IsPath xs → IsPath ys → IsPath (xs ++ 47 ∷ ys)
unfolding is_path
IsPath-join xs ys a b =
    rw (slice_split-join, list_all-append) (both_true _ _ a b)

left_true : (a b : Bool) → IsTrue (a && b) → IsTrue a
left_true true b h = refl
left_true false b h = h

before_slash : (xs ys : List ℕ) → IsPath (xs ++ 47 ∷ ys) → IsPath xs
unfolding is_path
before_slash xs ys h =
    left_true (is_path xs) (is_path ys) (rw (slice_split-join, list_all-append) at h)

-- what stands before a slash is a path
pub is_path_front : (xs : List ℕ) (i : ℕ) → i < length xs → get_or xs i 0 ≡ 47 → IsPath xs → IsPath (take i xs)
is_path_front xs i l e h =
    let split : xs ≡ take i xs ++ 47 ∷ drop (i + 1) xs = sym (take-append-drop i xs) ∙ ap (λ ys. take i xs ++ ys) (at_drop_more (λ ys. ys) xs i 0 l ∙ ap (λ b. b ∷ drop (i + 1) xs) e) in
    before_slash (take i xs) (drop (i + 1) xs) (subst IsPath split h)

pub ruleset path_joins = (IsPath-join)

-- texts with different digests are different
pub other_digest : (xs ys : List ℕ) (m n : ℕ) → m ≡ digest xs → n ≡ digest ys → nat_eq m n ≡ false → pointwise nat_eq xs ys ≡ false
other_digest xs ys m n of_xs of_ys differ = step (pointwise nat_eq xs ys) refl
  where
    step : (b : Bool) → pointwise nat_eq xs ys ≡ b → b ≡ false
    step true e =
        let same : xs ≡ ys = search (rules, e) in
        let numbers : m ≡ n = of_xs ∙ ap digest same ∙ sym of_ys in
        absurd (search (rules, differ, numbers))
    step false e = refl
