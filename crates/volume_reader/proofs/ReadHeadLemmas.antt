-- The header of a volume that is written, as it is read.
use Rattle.std.proofs.Common.{◌≡◌, ℕ, zero, suc, ◌+◌, ◌-◌, ◌*◌, ◌/◌, ◌%◌, ◌^◌, ◌<◌, ◌≤◌, ◌==◌, ◌||◌, Bool, true, false, if◌then◌else◌, List, [], ◌∷◌, ◌++◌, length, take, nat_le, codes, refl, ap, sym, ◌∙◌, arith, length-append, eq-eqb, ne_eqb}
use Rattle.std.specs.Prelude.{bit_and}
use Rattle.std.specs.Str.{bytes_eq}
use Rattle.std.specs.List.{range_with_len, sum_by}
use Rattle.std.proofs.lemmas.Bool.Decides.{nat_tests}
use Rattle.std.proofs.lemmas.Nat.Bits.{and_pow}
use Rattle.std.proofs.Math.Nat.{mod-eq_of_lt, div-one, mod-eq-sub-div-mul, div-mul-le_self, div-le_self}
use Rattle.std.proofs.Math.Seq.{take-append_seam}
use Rattle.byteorder.specs.Numbers.{little_from-bytes}
use Rattle.doc_types.specs.declared.volume_head.VolumeHead.{VolumeHead}
use Rattle.fv_compose.specs.Header.{words_sum, zero_word, file_system, head_start, head_front, head_back, extended_place, head_list, head_of}
use Rattle.fv_compose.proofs.HeaderLemmas.{head_length}
use Rattle.volume_reader.specs.Head.{file_system_guid, fv_length, signature, attributes, header_length, revision, num_blocks, block_length, is_map_end, block_bytes, is_ffs3, erase_polarity, has_names, has_lengths, has_blocks, has_sum, is_head}

-- a header by its fields
abbrev pub fields : Bool → ℕ → ℕ → ℕ → ℕ → ℕ → ℕ → List ℕ
fields ffs3 size bits sum place blocks block = head_front ffs3 size bits ++ head_back sum place blocks block

-- what is read of it, whatever stands behind it
pub record Told (ffs3 : Bool) (size bits blocks block : ℕ) (bytes : List ℕ) : Type 0 where
  pub mark : signature bytes ≡ codes "_FVH"
  pub second : revision bytes ≡ 2
  pub system : file_system_guid bytes ≡ file_system ffs3
  pub head : header_length bytes ≡ 0x48
  pub length : fv_length bytes ≡ size
  pub bits_are : attributes bytes ≡ bits
  pub count : num_blocks bytes 0 ≡ blocks
  pub unit : block_length bytes 0 ≡ block
  pub no_count : num_blocks bytes 1 ≡ 0
  pub no_unit : block_length bytes 1 ≡ 0

eight : (n : ℕ) (rest : List ℕ) → n < 2 ^ 64 → n / 256 ^ 0 % 256 ^ 8 ≡ n
eight n rest h = ap (λ z. z % 256 ^ 8) (div-one n) ∙ mod-eq_of_lt h

four : (n : ℕ) (rest : List ℕ) → n < 2 ^ 32 → n / 256 ^ 0 % 256 ^ 4 ≡ n
four n rest h = ap (λ z. z % 256 ^ 4) (div-one n) ∙ mod-eq_of_lt h

told : (ffs3 : Bool) (size bits sum place blocks block : ℕ) (rest : List ℕ) → size < 2 ^ 64 → bits < 2 ^ 32 → blocks < 2 ^ 32 → block < 2 ^ 32
    → Told ffs3 size bits blocks block (fields ffs3 size bits sum place blocks block ++ rest)
unfolding head_front head_start head_back signature revision file_system_guid header_length fv_length attributes num_blocks block_length
told true size bits sum place blocks block rest s b c u = record {
  mark = refl;
  second = refl;
  system = refl;
  head = refl;
  length = little_from-bytes 8 0 size [] ∙ eight size [] s;
  bits_are = little_from-bytes 4 0 bits [] ∙ four bits [] b;
  count = little_from-bytes 4 0 blocks [] ∙ four blocks [] c;
  unit = little_from-bytes 4 0 block [] ∙ four block [] u;
  no_count = refl;
  no_unit = refl;
}
told false size bits sum place blocks block rest s b c u = record {
  mark = refl;
  second = refl;
  system = refl;
  head = refl;
  length = little_from-bytes 8 0 size [] ∙ eight size [] s;
  bits_are = little_from-bytes 4 0 bits [] ∙ four bits [] b;
  count = little_from-bytes 4 0 blocks [] ∙ four blocks [] c;
  unit = little_from-bytes 4 0 block [] ∙ four block [] u;
  no_count = refl;
  no_unit = refl;
}

named_system : (ffs3 : Bool) → (bytes_eq (file_system ffs3) (file_system false) || bytes_eq (file_system ffs3) (file_system true)) ≡ true
named_system true = refl
named_system false = refl

third_system : (ffs3 : Bool) → bytes_eq (file_system ffs3) (file_system true) ≡ ffs3
third_system true = refl
third_system false = refl

pub system_is : (ffs3 : Bool) (size bits blocks block : ℕ) (bytes : List ℕ) → Told ffs3 size bits blocks block bytes → is_ffs3 bytes ≡ ffs3
unfolding is_ffs3
system_is ffs3 size bits blocks block bytes t = ap (λ z. bytes_eq z (file_system true)) t.system ∙ third_system ffs3

names_true : (ffs3 : Bool) (size bits blocks block : ℕ) (bytes : List ℕ) → Told ffs3 size bits blocks block bytes → 0x48 ≤ length bytes → has_names bytes ≡ true
unfolding has_names is_ffs3
names_true ffs3 size bits blocks block bytes t h =
    let l : nat_le 0x48 (length bytes) ≡ true = grind (arith, nat_tests) in
    rw (l, t.mark, t.second, t.system) (named_system ffs3)

lengths_true : (ffs3 : Bool) (size bits blocks block : ℕ) (bytes : List ℕ) → Told ffs3 size bits blocks block bytes → 0x48 ≤ size → size ≤ length bytes → has_lengths bytes ≡ true
unfolding has_lengths
lengths_true ffs3 size bits blocks block bytes t h w =
    let a : nat_le 0x48 size ≡ true = grind (arith, nat_tests) in
    let b : nat_le size (length bytes) ≡ true = grind (arith, nat_tests) in
    rw (t.head, t.length, a, b) refl

first_entry : (ffs3 : Bool) (size bits blocks block : ℕ) (bytes : List ℕ) → Told ffs3 size bits blocks block bytes → 0 < blocks → is_map_end bytes 0 ≡ false
unfolding is_map_end
first_entry ffs3 size bits blocks block bytes t h =
    let c : num_blocks bytes 0 ≡ blocks = t.count in
    let n : (num_blocks bytes 0 == 0) ≡ false = ne_eqb (num_blocks bytes 0) 0 (λ e. omega (arith, e)) in
    rw n refl

last_entry : (ffs3 : Bool) (size bits blocks block : ℕ) (bytes : List ℕ) → Told ffs3 size bits blocks block bytes → is_map_end bytes 1 ≡ true
unfolding is_map_end
last_entry ffs3 size bits blocks block bytes t = rw (t.no_count, t.no_unit) refl

entries_sum : (ffs3 : Bool) (size bits blocks block : ℕ) (bytes : List ℕ) → Told ffs3 size bits blocks block bytes → blocks * block ≡ size → sum_by (block_bytes bytes) (range_with_len 0 2) ≡ size
unfolding block_bytes
entries_sum ffs3 size bits blocks block bytes t e = rw (t.count, t.unit, t.no_count, t.no_unit) (omega arith)

blocks_true : (ffs3 : Bool) (size bits blocks block : ℕ) (bytes : List ℕ) → Told ffs3 size bits blocks block bytes → 0 < blocks → blocks * block ≡ size → has_blocks bytes ≡ true
unfolding has_blocks
blocks_true ffs3 size bits blocks block bytes t some e =
    let f = first_entry ffs3 size bits blocks block bytes t some in
    let l = last_entry ffs3 size bits blocks block bytes t in
    let s : (sum_by (block_bytes bytes) (range_with_len 0 2) == size) ≡ true = eq-eqb (sum_by (block_bytes bytes) (range_with_len 0 2)) size (entries_sum ffs3 size bits blocks block bytes t e) in
    rw (t.head, t.length, f, l, s) refl

-- the words of bytes that begin with whole words
words_append : (n : ℕ) (xs ys : List ℕ) → length xs ≡ n + n → words_sum (xs ++ ys) ≡ words_sum xs + words_sum ys
unfolding words_sum
words_append zero [] ys e = omega arith
words_append zero (x ∷ xs) ys e = absurd (omega (arith, e))
words_append (suc n) [] ys e = absurd (omega (arith, e))
words_append (suc n) (x ∷ []) ys e = absurd (omega (arith, e))
words_append (suc n) (x ∷ y ∷ xs) ys e =
    let ih : words_sum (xs ++ ys) ≡ words_sum xs + words_sum ys = words_append n xs ys (omega (arith, e)) in omega arith

front_length : (ffs3 : Bool) (size bits : ℕ) → length (head_front ffs3 size bits) ≡ 50
unfolding head_front head_start
front_length true size bits = refl
front_length false size bits = refl

-- the checksum is one of the words
back_sum : (sum place blocks block : ℕ) → sum < 65536 → words_sum (head_back sum place blocks block) ≡ sum + words_sum (head_back 0 place blocks block)
unfolding head_back words_sum
back_sum sum place blocks block h =
    let e : sum / 256 ^ 0 % 256 ^ 2 ≡ sum = ap (λ z. z % 256 ^ 2) (div-one sum) ∙ mod-eq_of_lt h in
    let w = little_from-bytes 2 0 sum [] ∙ e in
    omega (arith, w)

zero_mod : (w : ℕ) → (w + (65536 - w % 65536) % 65536) % 65536 ≡ 0
zero_mod w = omega arith

zero_small : (w : ℕ) → (65536 - w % 65536) % 65536 < 65536
zero_small w = omega arith

fields_sum : (ffs3 : Bool) (size bits sum place blocks block : ℕ) → sum < 65536 → words_sum (fields ffs3 size bits sum place blocks block) ≡ words_sum (fields ffs3 size bits 0 place blocks block) + sum
fields_sum ffs3 size bits sum place blocks block h =
    let f = front_length ffs3 size bits in
    let a = words_append 25 (head_front ffs3 size bits) (head_back sum place blocks block) (omega arith) in
    let b = words_append 25 (head_front ffs3 size bits) (head_back 0 place blocks block) (omega arith) in
    let c = back_sum sum place blocks block h in
    omega arith

head_sum : (plan : VolumeHead) (size : ℕ) → words_sum (head_of plan size) % 65536 ≡ 0
unfolding head_of zero_word head_list
head_sum plan size =
    let w : ℕ = words_sum (fields plan.ffs3 size plan.attributes 0 (extended_place plan.name_guid) (size / plan.block_size) plan.block_size) in
    ap (λ z. z % 65536) (fields_sum plan.ffs3 size plan.attributes ((65536 - w % 65536) % 65536) (extended_place plan.name_guid) (size / plan.block_size) plan.block_size (zero_small w)) ∙ zero_mod w

pub head_told : (plan : VolumeHead) (size : ℕ) (rest : List ℕ) → size < 2 ^ 32 → plan.attributes < 2 ^ 32 → plan.block_size ≤ size
    → Told plan.ffs3 size plan.attributes (size / plan.block_size) plan.block_size (head_of plan size ++ rest)
unfolding head_of head_list
head_told plan size rest s a b =
    let d : size / plan.block_size ≤ size = div-le_self size plan.block_size in
    told plan.ffs3 size plan.attributes (zero_word (head_list plan size 0)) (extended_place plan.name_guid) (size / plan.block_size) plan.block_size rest (omega arith) a (omega arith) (omega arith)

sum_true : (plan : VolumeHead) (size : ℕ) (rest : List ℕ) → header_length (head_of plan size ++ rest) ≡ 0x48 → has_sum (head_of plan size ++ rest) ≡ true
unfolding has_sum
sum_true plan size rest e =
    let h : List ℕ = head_of plan size in
    let l : length h ≡ 72 = head_length plan size in
    let t : take (header_length (h ++ rest)) (h ++ rest) ≡ h = ap (λ k. take k (h ++ rest)) (e ∙ sym l) ∙ take-append_seam h rest in
    eq-eqb (words_sum (take (header_length (h ++ rest)) (h ++ rest)) % 65536) 0 (ap (λ z. words_sum z % 65536) t ∙ head_sum plan size)

-- a whole number of blocks
whole_blocks : (size block : ℕ) → size % block ≡ 0 → size / block * block ≡ size
whole_blocks size block e = omega (arith, mod-eq-sub-div-mul size block, div-mul-le_self size block)

some_blocks : (q b size : ℕ) → q * b ≡ size → 0 < size → 0 < q
some_blocks zero b size e h = absurd (omega (arith, e))
some_blocks (suc q) b size e h = omega arith

pub head_true : (plan : VolumeHead) (size : ℕ) (rest : List ℕ) → size < 2 ^ 32 → plan.attributes < 2 ^ 32 → 0 < plan.block_size → plan.block_size ≤ size → size % plan.block_size ≡ 0 → 0x48 ≤ size → 72 + length rest ≡ size
    → is_head (head_of plan size ++ rest) ≡ true
unfolding is_head
head_true plan size rest s a some b w h n =
    let t = head_told plan size rest s a b in
    let bytes : List ℕ = head_of plan size ++ rest in
    let l : length (head_of plan size) ≡ 72 = head_length plan size in
    let o : length bytes ≡ length (head_of plan size) + length rest = length-append (head_of plan size) rest in
    let e : size / plan.block_size * plan.block_size ≡ size = whole_blocks size plan.block_size w in
    let c : 0 < size / plan.block_size = some_blocks (size / plan.block_size) plan.block_size size e (omega arith) in
    rw (
      names_true plan.ffs3 size plan.attributes (size / plan.block_size) plan.block_size bytes t (omega arith),
      lengths_true plan.ffs3 size plan.attributes (size / plan.block_size) plan.block_size bytes t h (omega arith),
      blocks_true plan.ffs3 size plan.attributes (size / plan.block_size) plan.block_size bytes t c e,
      sum_true plan size rest t.head,
    ) refl

-- the erase polarity that is read tells the head's
polarity_by : (b : Bool) (n : ℕ) → n * 2048 ≡ (if b then 0 else 2048) → b ≡ (n == 0)
polarity_by true n e = sym (eq-eqb n 0 (omega (arith, e)))
polarity_by false n e = sym (ne_eqb n 0 (λ z. omega (arith, e, z)))

pub polarity_told : (plan : VolumeHead) → bit_and plan.attributes 0x800 ≡ (if plan.erase == 0 then 0 else 0x800) → (plan.erase == 0) ≡ (plan.attributes / 2048 % 2 == 0)
polarity_told plan h = polarity_by (plan.erase == 0) (plan.attributes / 2048 % 2) (sym (and_pow plan.attributes 11) ∙ h)

pub polarity_read : (plan : VolumeHead) (bytes : List ℕ) → attributes bytes ≡ plan.attributes → erase_polarity bytes ≡ plan.attributes / 2048 % 2
unfolding erase_polarity
polarity_read plan bytes a = ap (λ z. z / 2048 % 2) a
