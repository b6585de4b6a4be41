-- Sums of headers.
use Rattle.std.proofs.Common.{◌≡◌, ℕ, ◌+◌, ◌<◌, ◌%◌, List, sum, get_or, set, length, arith, length-set, ap, ◌∙◌}
use Rattle.std.proofs.lemmas.List.Sums.{sum_by-set}
use Rattle.std.proofs.lemmas.Grind.{elements}
use Rattle.ffs_sections.specs.Sums.{blank_head}

sum-set_zero : (xs : List ℕ) (i y : ℕ) → get_or xs i 0 ≡ 0 → i < length xs → sum (set xs i y) ≡ sum xs + y
sum-set_zero xs i y z h =
    let e : sum (set xs i y) + get_or xs i 0 ≡ sum xs + y = sum_by-set (λ x. x) xs i y 0 h in omega arith

blank_sixteen : (head : List ℕ) → 24 < length head + 1 → get_or (blank_head head) 16 0 ≡ 0
blank_sixteen head n = grind (arith, elements)

length_blank : (head : List ℕ) → 24 < length head + 1 → 16 < length (blank_head head)
length_blank head n = simp length-set (omega arith)

-- the sum with the checksum in its place
pub sum_summed : (head : List ℕ) (n y : ℕ) → 24 < n + 1 → length head ≡ n → (sum (blank_head head) + y) % 256 ≡ 0 → sum (set (blank_head head) 16 y) % 256 ≡ 0
sum_summed head n y h l z =
    let k : 24 < length head + 1 = omega (arith, l, h) in
    ap (λ m. m % 256) (sum-set_zero (blank_head head) 16 y (blank_sixteen head k) (length_blank head k)) ∙ z
