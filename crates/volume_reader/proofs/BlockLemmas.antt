-- The entries of a block map, one after another.
use Rattle.std.proofs.Common.{◌≡◌, ℕ, ◌+◌, ◌-◌, ◌/◌, ◌%◌, ◌<◌, ◌≤◌, ◌==◌, ◌&&◌, ◌++◌, ◌∷◌, [], Bool, true, false, not, refl, zero, suc, ap, sym, ◌∙◌, arith, List}
use Rattle.std.proofs.lemmas.Bool.Decides.{nat_tests}
use Rattle.std.proofs.lemmas.List.Sums.{sum_by-cons, sum_by_push}
use Rattle.std.specs.List.{range_with_len, list_any, sum_by}
use Rattle.volume_reader.specs.Head.{header_length, fv_length, block_entries, num_blocks, is_map_end, block_bytes, has_blocks}

-- what is to be found out of the entries from k on, where those before have so many bytes
abbrev pub left : (ℕ → Bool) → (ℕ → ℕ) → ℕ → ℕ → ℕ → ℕ → Bool
left end bytes size total k last = not (list_any end (range_with_len k (last - k))) && (total + sum_by bytes (range_with_len k (last - k))) == size

pub left_more : (end : ℕ → Bool) (bytes : ℕ → ℕ) (size total k last : ℕ) → k < last → end k ≡ false → left end bytes size total k last ≡ left end bytes size (total + bytes k) (k + 1) last
left_more end bytes size total k last h none =
    let e : last - k ≡ suc (last - (k + 1)) = omega arith in
    let s = sum_by-cons bytes k (range_with_len (k + 1) (last - (k + 1))) in
    rw (e, none) (ap (λ n. not (list_any end (range_with_len (k + 1) (last - (k + 1)))) && (n == size)) (omega arith))

pub left_end : (end : ℕ → Bool) (bytes : ℕ → ℕ) (size total k last : ℕ) → k < last → end k ≡ true → left end bytes size total k last ≡ false
left_end end bytes size total k last h found =
    let e : last - k ≡ suc (last - (k + 1)) = omega arith in rw (e, found) refl

pub left_over : (end : ℕ → Bool) (bytes : ℕ → ℕ) (size total k last : ℕ) → size < total → left end bytes size total k last ≡ false
left_over end bytes size total k last h = grind (arith, nat_tests)

pub left_none : (end : ℕ → Bool) (bytes : ℕ → ℕ) (size total k last : ℕ) → last ≤ k → left end bytes size total k last ≡ (total == size)
left_none end bytes size total k last h =
    let e : last - k ≡ 0 = omega arith in rw e (ap (λ n. n == size) (omega arith))

range_more : (a n : ℕ) → range_with_len a (suc n) ≡ range_with_len a n ++ (a + n) ∷ []
range_more a zero = ap (λ k. k ∷ []) (omega arith)
range_more a (suc n) =
    let e : (a + 1) + n ≡ a + suc n = omega arith in
    ap (λ xs. a ∷ xs) (range_more (a + 1) n ∙ ap (λ k. range_with_len (a + 1) n ++ k ∷ []) e)

-- the last entry has no bytes
blank_end : (bytes : List ℕ) (k : ℕ) → is_map_end bytes k ≡ true → block_bytes bytes k ≡ 0
unfolding is_map_end block_bytes
blank_end bytes k h =
    let n : num_blocks bytes k ≡ 0 = grind (arith, nat_tests) in rw n (omega arith)

whole_sum : (bytes : List ℕ) (n : ℕ) → 0 < n → is_map_end bytes (n - 1) ≡ true → sum_by (block_bytes bytes) (range_with_len 0 n) ≡ sum_by (block_bytes bytes) (range_with_len 0 (n - 1))
whole_sum bytes n some h =
    let e : n ≡ suc (n - 1) = omega arith in
    let last : block_bytes bytes (0 + (n - 1)) ≡ 0 = ap (block_bytes bytes) (omega arith) ∙ blank_end bytes (n - 1) h in
    ap (λ m. sum_by (block_bytes bytes) (range_with_len 0 m)) e ∙ ap (sum_by (block_bytes bytes)) (range_more 0 (n - 1))
    ∙ sum_by_push (block_bytes bytes) (range_with_len 0 (n - 1)) (0 + (n - 1)) ∙ omega arith

whole_map : (bytes : List ℕ) → 0x48 ≤ header_length bytes → (header_length bytes - 0x38) % 8 ≡ 0 → is_map_end bytes (block_entries bytes - 1) ≡ true
    → has_blocks bytes ≡ (not (list_any (is_map_end bytes) (range_with_len 0 (block_entries bytes - 1))) && sum_by (block_bytes bytes) (range_with_len 0 (block_entries bytes - 1)) == fv_length bytes)
unfolding has_blocks
whole_map bytes least whole end =
    let some : 0 < block_entries bytes = omega arith in
    rw (whole_sum bytes (block_entries bytes) some end, whole, end) refl

-- a map that fills the header and ends with the entry (0, 0)
pub blocks_whole : (bytes : List ℕ) (header size : ℕ) (filled : Bool) → header ≡ header_length bytes → size ≡ fv_length bytes → 0x48 ≤ header_length bytes → (header - 0x38) % 8 ≡ 0
    → is_map_end bytes ((header - 0x38) / 8 - 1) ≡ true
    → filled ≡ (not (list_any (is_map_end bytes) (range_with_len 0 ((header - 0x38) / 8 - 1))) && sum_by (block_bytes bytes) (range_with_len 0 ((header - 0x38) / 8 - 1)) == size)
    → filled ≡ has_blocks bytes
blocks_whole bytes header size filled h s least whole end f =
    (rw (h, s) at f) ∙ sym (whole_map bytes least (rw h at whole) (rw h at end))
