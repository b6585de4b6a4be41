-- A number in decimal digits is a path, and so are the names of a selftest.
use Rattle.std.proofs.Common.{◌≡◌, ◌+◌, ◌%◌, ◌^◌, ◌<◌, ◌≤◌, ◌==◌, ◌&&◌, not, nat_le, Bool, true, false, List, [], ◌∷◌, ◌++◌, ℕ, length, All, Some, None, cond, codes, decimal, refl, ap, ◌∙◌, arith}
use Rattle.std.specs.List.{list_all}
use Rattle.std.proofs.lemmas.Bool.Decides.{nat_tests}
use Rattle.std.proofs.lemmas.List.Folds.{list_all-append}
use Rattle.std.proofs.lemmas.List.Elements.{All-push}
use Rattle.std.proofs.lemmas.List.Splits.{slice_split_none}
use Rattle.std.proofs.lemmas.Fmt.{decimal_by_steps, length-decimal-le}
use Rattle.build_base.specs.Path.{path_field, is_path, is_segment, is_dots, is_path_byte}

-- a digit is a byte of a path, and neither a slash nor a dot
digit_byte : (d : ℕ) → d < 10 → is_path_byte (48 + d) ≡ true
unfolding is_path_byte
digit_byte d l = grind (arith, nat_tests)

digit_no_slash : (d : ℕ) → d < 10 → (48 + d == 47) ≡ false
digit_no_slash d l = grind (arith, nat_tests)

digit_no_dot : (d : ℕ) → d < 10 → (48 + d == 46) ≡ false
digit_no_dot d l = grind (arith, nat_tests)

record AreDigits (ds : List ℕ) : Type 0 where
  pub bytes : list_all is_path_byte ds ≡ true
  pub no_slash : All (λ x. (x == 47) ≡ false) ds
  pub no_dots : list_all (λ x. x == 46) ds ≡ false

first_digit : (m : ℕ) → m < 10 → AreDigits ((48 + m) ∷ [])
first_digit m l = record {
  bytes = ap (λ b. b && true) (digit_byte m l);
  no_slash = All-push (λ x. (x == 47) ≡ false) [] (48 + m) (λ k d h. absurd (omega (arith, h))) (digit_no_slash m l);
  no_dots = ap (λ b. b && true) (digit_no_dot m l);
}

more_digits : (ds : List ℕ) (d : ℕ) → d < 10 → AreDigits ds → AreDigits (ds ++ (48 + d) ∷ [])
more_digits ds d l h = record {
  bytes = list_all-append is_path_byte ds ((48 + d) ∷ []) ∙ ap (λ b. b && (is_path_byte (48 + d) && true)) h.bytes ∙ ap (λ b. b && true) (digit_byte d l);
  no_slash = All-push (λ x. (x == 47) ≡ false) ds (48 + d) h.no_slash (digit_no_slash d l);
  no_dots = list_all-append (λ x. x == 46) ds ((48 + d) ∷ []) ∙ ap (λ b. b && ((48 + d == 46) && true)) h.no_dots;
}

are_digits : (n : ℕ) → n < 2 ^ 64 → AreDigits (decimal n)
are_digits = decimal_by_steps (λ m ds. AreDigits ds) (λ m l. first_digit m l) (λ m ds l h. more_digits ds (m % 10) (omega arith) h)

both_true : (a b : Bool) → a ≡ true → b ≡ false → (a && not b) ≡ true
both_true true false e f = refl
both_true true true e f = absurd cc
both_true false b e f = absurd cc

dots_false : (a b : Bool) → b ≡ false → (a && b) ≡ false
dots_false true b e = e
dots_false false b e = refl

segment_is : (ds : List ℕ) → AreDigits ds → is_segment ds ≡ true
unfolding is_segment is_dots
segment_is ds h = both_true (list_all is_path_byte ds) _ h.bytes (dots_false (nat_le (length ds) 2) _ h.no_dots)

path_is : (ds : List ℕ) → AreDigits ds → is_path ds ≡ true
unfolding is_path
path_is ds h = ap (list_all is_segment) (slice_split_none (λ b. b == 47) ds h.no_slash) ∙ ap (λ b. b && true) (segment_is ds h)

short_is : (n : ℕ) → n < 2 ^ 64 → nat_le (length (decimal n)) 512 ≡ true
short_is n l = let s : length (decimal n) ≤ 20 = length-decimal-le 20 n (omega arith) (omega arith) l in grind (arith, nat_tests)

pub decimal_is_path : (n : ℕ) → n < 2 ^ 64 → path_field (decimal n) ≡ Some (decimal n)
decimal_is_path n l =
    ap (λ b. cond (b && nat_le (length (decimal n)) 512) (Some (decimal n)) None) (path_is (decimal n) (are_digits n l))
    ∙ ap (λ b. cond b (Some (decimal n)) None) (short_is n l)

pub platform_is_path : path_field (codes "T.dsc") ≡ Some (codes "T.dsc")
unfolding is_path is_segment is_dots is_path_byte
platform_is_path = refl

pub first_is_path : path_field (codes "first") ≡ Some (codes "first")
unfolding is_path is_segment is_dots is_path_byte
first_is_path = refl

pub second_is_path : path_field (codes "second") ≡ Some (codes "second")
unfolding is_path is_segment is_dots is_path_byte
second_is_path = refl

pub third_is_path : path_field (codes "third") ≡ Some (codes "third")
unfolding is_path is_segment is_dots is_path_byte
third_is_path = refl
