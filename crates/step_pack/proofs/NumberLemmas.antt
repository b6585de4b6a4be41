-- The order of numbers, by their bytes alone.
use Rattle.std.proofs.Common.{◌≡◌, ◌<◌, ◌^◌, ◌+◌, ◌*◌, ℕ, [], ◌∷◌, zero, suc, refl, sym, ap, ◌∙◌, arith}
use Rattle.std.specs.Cmp.{tied_itself, nat_cmp_total, nat_cmp_is, ranks}
use Rattle.std.specs.Int.{to_le_bytes, from_le_bytes, swap_bytes, bytes_low_first, byte_at, w32, w64}
use Rattle.std.specs.Ordering.{nat_cmp, ordering_then, MatchOrdering}
use Rattle.std.specs.Slice.Scan.{big_endian}
use Rattle.std.specs.declared.cmp.Ordering.{Ordering}
use Rattle.std.specs.declared.cmp.Ordering.TheVariants.{Less, Equal, Greater}
use Rattle.std.proofs.lemmas.Map.Lookups.{exact_bytes}
use Rattle.std.proofs.lemmas.Nat.{from_le_bytes-to_le_bytes_4}
use Rattle.step_pack.specs.Keys.{text_cmp, number_cmp}

bytes_exact : (a b : ℕ) → a < 2 ^ 32 → b < 2 ^ 32 → to_le_bytes w32 a ≡ to_le_bytes w32 b → a ≡ b
bytes_exact a b la lb e = sym (from_le_bytes-to_le_bytes_4 a la) ∙ ap (from_le_bytes w32) e ∙ from_le_bytes-to_le_bytes_4 b lb

-- numbers that have the same bytes are the same, so the rest of the order says nothing
pub numbers_by_bytes : (a b : ℕ) → a < 2 ^ 32 → b < 2 ^ 32 → text_cmp (to_le_bytes w32 a) (to_le_bytes w32 b) ≡ number_cmp a b
unfolding number_cmp
numbers_by_bytes a b la lb =
    (elim (text_cmp (to_le_bytes w32 a) (to_le_bytes w32 b)) as (λ o. text_cmp (to_le_bytes w32 a) (to_le_bytes w32 b) ≡ o → o ≡ ordering_then o (nat_cmp a b)) [
      | Less ↦ λ e. refl
      | Greater ↦ λ e. refl
      | Equal ↦ λ e.
          let same : a ≡ b = bytes_exact a b la lb (exact_bytes (to_le_bytes w32 a) (to_le_bytes w32 b) e) in
          sym (ap (λ (x : ℕ). nat_cmp x b) same ∙ tied_itself nat_cmp_total b)
    ]) refl

pub then_assoc : (a b c : Ordering) → ordering_then a (ordering_then b c) ≡ ordering_then (ordering_then a b) c
then_assoc Less b c = refl
then_assoc Equal b c = refl
then_assoc Greater b c = refl

pub then_equal : (a : Ordering) → a ≡ ordering_then a Equal
then_equal Less = refl
then_equal Equal = refl
then_equal Greater = refl

-- numbers with one digit more
ranked_digit : (a b x y : ℕ) (r s : Ordering) → x < 256 → y < 256 → MatchOrdering r (a < b) (a ≡ b) (b < a) → MatchOrdering s (x < y) (x ≡ y) (y < x)
    → MatchOrdering (ordering_then r s) (a * 256 + x < b * 256 + y) (a * 256 + x ≡ b * 256 + y) (b * 256 + y < a * 256 + x)
ranked_digit a b x y Less s l m h k = let g : a < b = h in omega arith
ranked_digit a b x y Greater s l m h k = let g : b < a = h in omega arith
ranked_digit a b x y Equal Less l m h k = let e : a ≡ b = h in let g : x < y = k in omega arith
ranked_digit a b x y Equal Equal l m h k = let e : a ≡ b = h in let g : x ≡ y = k in omega arith
ranked_digit a b x y Equal Greater l m h k = let e : a ≡ b = h in let g : y < x = k in omega arith

digit : (a b x y : ℕ) → x < 256 → y < 256 → nat_cmp (a * 256 + x) (b * 256 + y) ≡ ordering_then (nat_cmp a b) (nat_cmp x y)
digit a b x y l m =
    sym (nat_cmp_is (a * 256 + x) (b * 256 + y) (ordering_then (nat_cmp a b) (nat_cmp x y))
    (ranked_digit a b x y (nat_cmp a b) (nat_cmp x y) l m (ranks a b) (ranks x y)))

byte_small : (i n : ℕ) → byte_at i n < 256
byte_small zero n = omega arith
byte_small (suc i) n = omega arith

-- the order of numbers that are spelled by bytes is that of the bytes, the first one counting most
spelled : (k i a b m n : ℕ) → nat_cmp (big_endian a (bytes_low_first i k m)) (big_endian b (bytes_low_first i k n)) ≡ ordering_then (nat_cmp a b) (text_cmp (bytes_low_first i k m) (bytes_low_first i k n))
spelled zero i a b m n = then_equal (nat_cmp a b)
spelled (suc k) i a b m n =
    spelled k (suc i) (a * 256 + byte_at i m) (b * 256 + byte_at i n) m n
    ∙ ap (λ (o : Ordering). ordering_then o (text_cmp (bytes_low_first (suc i) k m) (bytes_low_first (suc i) k n)))
    (digit a b (byte_at i m) (byte_at i n) (byte_small i m) (byte_small i n))
    ∙ sym (then_assoc (nat_cmp a b) (nat_cmp (byte_at i m) (byte_at i n)) (text_cmp (bytes_low_first (suc i) k m) (bytes_low_first (suc i) k n)))

four : (p q r s : ℕ) → p * 256 ^ 3 + q * 256 ^ 2 + r * 256 ^ 1 + s ≡ big_endian 0 (p ∷ q ∷ r ∷ s ∷ [])
four p q r s = omega arith

eight : (p q r s t u v w : ℕ)
    → p * 256 ^ 7 + q * 256 ^ 6 + r * 256 ^ 5 + s * 256 ^ 4 + t * 256 ^ 3 + u * 256 ^ 2 + v * 256 ^ 1 + w ≡ big_endian 0 (p ∷ q ∷ r ∷ s ∷ t ∷ u ∷ v ∷ w ∷ [])
eight p q r s t u v w = omega arith

spelling32 : (n : ℕ) → swap_bytes w32 n ≡ big_endian 0 (to_le_bytes w32 n)
spelling32 n = four (byte_at 0 n) (byte_at 1 n) (byte_at 2 n) (byte_at 3 n)

spelling64 : (n : ℕ) → swap_bytes w64 n ≡ big_endian 0 (to_le_bytes w64 n)
spelling64 n = eight (byte_at 0 n) (byte_at 1 n) (byte_at 2 n) (byte_at 3 n) (byte_at 4 n) (byte_at 5 n) (byte_at 6 n) (byte_at 7 n)

pub lengths_swapped : (m n : ℕ) → nat_cmp (swap_bytes w64 m) (swap_bytes w64 n) ≡ text_cmp (to_le_bytes w64 m) (to_le_bytes w64 n)
lengths_swapped m n = rw (spelling64 m, spelling64 n) (spelled 8 0 0 0 m n)

pub numbers_swapped : (m n : ℕ) → m < 2 ^ 32 → n < 2 ^ 32 → nat_cmp (swap_bytes w32 m) (swap_bytes w32 n) ≡ number_cmp m n
numbers_swapped m n l k = rw (spelling32 m, spelling32 n) (spelled 4 0 0 0 m n) ∙ numbers_by_bytes m n l k
