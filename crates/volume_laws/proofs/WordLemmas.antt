-- Numbers that are written over bytes, and words that entries name.
use Rattle.std.proofs.Common.{◌≡◌, ℕ, zero, suc, ◌+◌, ◌-◌, ◌*◌, ◌^◌, ◌<◌, ◌≤◌, ◌==◌, ◌||◌, Bool, true, false, if◌then◌else◌, List, [], ◌∷◌, ◌++◌, length, get_or, slice_set, Ok, Err, refl, ap, sym, ◌∙◌, arith, length-set, append-nil, subst}
use Rattle.std.proofs.Math.Nat.{mod-lt}
use Rattle.std.proofs.lemmas.List.{get_or-set_same, get_or-set_other}
use Rattle.std.proofs.lemmas.Bool.Decides.{nat_tests}
use Rattle.std.proofs.lemmas.Nat.{pow_pos}
use Rattle.std.specs.List.{list_any}
use Rattle.byteorder.specs.Endian.{little_bytes, little_from}
use Rattle.byteorder.specs.Numbers.{little_number-reads_back, length-bytes_low_first}
use Rattle.byteorder.proofs.Bytes.{pow256}
use Rattle.build_base.specs.First.{and_then}
use Rattle.build_base.specs.declared.fault.Place.{Place}
use Rattle.image_rebase.specs.declared.blocks.Block.{Block}
use Rattle.image_rebase.specs.Bytes.{with_bytes, with_number}
use Rattle.image_rebase.specs.Blocks.{entries_in}
use Rattle.image_rebase.specs.Moves.{entry_type, entry_offset, width_of, sum_at, lies_outside, outside_fault, word_end, moved_word, moved_by, moved_entries, moved_blocks}
use Rattle.image_rebase.specs.Changes.{is_in, names, block_names}
use Rattle.image_rebase.proofs.SameLemmas.{SameAt, same_self, same_then, either, through}

-- Bytes that are written over others.

within : (at n k : ℕ) → at ≤ k → k < at + n → is_in at n k ≡ true
unfolding is_in
within at n k a b = grind (arith, nat_tests, a, b)

not_first : (at n k : ℕ) → is_in at (n + 1) k ≡ false → (k ≡ at → ⊥)
unfolding is_in
not_first at n k h e = grind (arith, nat_tests, h, e)

not_later : (at n k : ℕ) → is_in at (n + 1) k ≡ false → is_in (at + 1) n k ≡ false
unfolding is_in
not_later at n k h = grind (arith, nat_tests, h)

not_behind : (at n : ℕ) → is_in (at + 1) n at ≡ false
unfolding is_in
not_behind at n = grind (arith, nat_tests)

bytes_long : (at : ℕ) (new bytes : List ℕ) → length (with_bytes at new bytes) ≡ length bytes
unfolding with_bytes
bytes_long at [] bytes = refl
bytes_long at (byte ∷ more) bytes = bytes_long (at + 1) more (slice_set bytes at byte) ∙ length-set bytes at byte

byte_kept : (at : ℕ) (new bytes : List ℕ) (k : ℕ) → is_in at (length new) k ≡ false → (d : ℕ) → get_or (with_bytes at new bytes) k d ≡ get_or bytes k d
unfolding with_bytes
byte_kept at [] bytes k h d = refl
byte_kept at (byte ∷ more) bytes k h d =
    let g : is_in at (length more + 1) k ≡ false = ap (λ n. is_in at n k) (omega arith) ∙ h in
    byte_kept (at + 1) more (slice_set bytes at byte) k (not_later at (length more) k g) d ∙ get_or-set_other bytes at k byte d (not_first at (length more) k g)

byte_put : (at : ℕ) (new bytes : List ℕ) (k d : ℕ) → k < length new → at + length new ≤ length bytes → get_or (with_bytes at new bytes) (at + k) d ≡ get_or new k d
unfolding with_bytes
byte_put at [] bytes k d h i = absurd (omega (arith, h))
byte_put at (byte ∷ more) bytes zero d h i =
    let z : at + 0 ≡ at = omega arith in
    ap (λ n. get_or (with_bytes (at + 1) more (slice_set bytes at byte)) n d) z ∙ byte_kept (at + 1) more (slice_set bytes at byte) at (not_behind at (length more)) d
    ∙ get_or-set_same bytes at byte d (omega (arith, i))
byte_put at (byte ∷ more) bytes (suc k) d h i =
    let z : at + suc k ≡ at + 1 + k = omega arith in
    let l : length (slice_set bytes at byte) ≡ length bytes = length-set bytes at byte in
    ap (λ n. get_or (with_bytes (at + 1) more (slice_set bytes at byte)) n d) z
    ∙ byte_put (at + 1) more (slice_set bytes at byte) k d (omega (arith, h)) (omega (arith, i, l))

-- A number is that of its bytes.

number_same : (n a b : ℕ) (xs ys : List ℕ) → ((k : ℕ) → k < n → get_or xs (a + k) 0 ≡ get_or ys (b + k) 0) → little_from a n xs ≡ little_from b n ys
number_same zero a b xs ys h = refl
number_same (suc n) a b xs ys h =
    let x : a + 0 ≡ a = omega arith in
    let y : b + 0 ≡ b = omega arith in
    let first : get_or xs a 0 ≡ get_or ys b 0 = ap (λ k. get_or xs k 0) (sym x) ∙ h 0 (omega arith) ∙ ap (λ k. get_or ys k 0) y in
    let rest : little_from (suc a) n xs ≡ little_from (suc b) n ys =
    number_same n (suc a) (suc b) xs ys
    (λ k l.
    let x : suc a + k ≡ a + suc k = omega arith in
    let y : b + suc k ≡ suc b + k = omega arith in ap (λ k. get_or xs k 0) x ∙ h (suc k) (omega (arith, l)) ∙ ap (λ k. get_or ys k 0) y) in
    ap (λ z. z + 256 * little_from (suc a) n xs) first ∙ ap (λ z. get_or ys b 0 + 256 * z) rest

-- where no byte of a word changes it stays
pub word_same : (at width : ℕ) (old new : List ℕ) → ((k : ℕ) → is_in at width k ≡ true → get_or new k 0 ≡ get_or old k 0) → little_from at width new ≡ little_from at width old
word_same at width old new h = number_same width at at new old (λ k l. h (at + k) (within at width (at + k) (omega arith) (omega arith)))

pub number_read : (width at n : ℕ) (bytes : List ℕ) → n < 2 ^ (8 * width) → at + width ≤ length bytes → little_from at width (with_number width at n bytes) ≡ n
number_read width at n bytes h i =
    let new : List ℕ = little_bytes width n in
    let l : length new ≡ width = length-bytes_low_first 0 width n in
    let small : n < 256 ^ width = subst (λ z. n < z) (sym (pow256 width)) h in
    number_same width at 0 (with_number width at n bytes) new
    (λ k b. let z : 0 + k ≡ k = omega arith in byte_put at new bytes k 0 (omega arith) (omega arith) ∙ ap (λ j. get_or new j 0) (sym z))
    ∙ ap (little_from 0 width) (sym (append-nil new)) ∙ little_number-reads_back width n [] small

pub number_kept : (width at n : ℕ) (bytes : List ℕ) (k : ℕ) → SameAt (is_in at width k) k bytes (with_number width at n bytes)
number_kept width at n bytes k = record {
  size = bytes_long at (little_bytes width n) bytes;
  byte = λ h d. byte_kept at (little_bytes width n) bytes k (ap (λ z. is_in at z k) (length-bytes_low_first 0 width n) ∙ h) d;
}

-- What an entry makes of a content.

pub same_end : (changes : Bool) (k : ℕ) (old mid new : List ℕ) → SameAt changes k old mid → mid ≡ new → SameAt changes k old new
same_end changes k old mid new s e = record { size = ap length (sym e) ∙ s.size; byte = λ h d. ap (λ z. get_or z k d) (sym e) ∙ s.byte h d }

-- a word that is within a content, with a difference more
record IsMovedWord (skip by address width : ℕ) (content moved : List ℕ) : Type 0 where
  inside : address - skip + width ≤ length content
  moved_is : with_number width (address - skip) (sum_at width (address - skip) by content) content ≡ moved

word_by : (outside : Bool) (place : Place) (skip by address width : ℕ) (content moved : List ℕ) → lies_outside skip address width (length content) ≡ outside
    → (if outside then Err (outside_fault place (word_end skip address width) (length content))
    else Ok (with_number width (address - skip) (sum_at width (address - skip) by content) content)) ≡ Ok moved
    → IsMovedWord skip by address width content moved
unfolding lies_outside
word_by true place skip by address width content moved o e = absurd cc
word_by false place skip by address width content moved o e = record { inside = grind (arith, nat_tests, o); moved_is = cc }

word_moved : (place : Place) (skip by address width : ℕ) (content moved : List ℕ) → moved_word place skip by address width content ≡ Ok moved → IsMovedWord skip by address width content moved
unfolding moved_word
word_moved place skip by address width content moved e = word_by (lies_outside skip address width (length content)) place skip by address width content moved refl e

-- the word that it names
abbrev pub word_at : ℕ → ℕ → ℕ → ℕ
word_at skip page entry = page + entry_offset entry - skip

abbrev pub word_width : ℕ → ℕ
word_width entry = width_of (entry_type entry)

no_width : (n : ℕ) → (n == 0) ≡ true → 0 < n → ⊥
no_width n e h = grind (arith, nat_tests, e, h)

named_moved : (place : Place) (skip by page entry : ℕ) (content moved : List ℕ) → 0 < word_width entry → moved_by place skip by page entry content ≡ Ok moved
    → IsMovedWord skip by (page + entry_offset entry) (word_width entry) content moved
unfolding moved_by
named_moved place skip by page entry content moved h e =
    elim (word_width entry == 0) as (λ b. (word_width entry == 0) ≡ b → (if b then Ok content else moved_word place skip by (page + entry_offset entry) (word_width entry) content) ≡ Ok moved
    → IsMovedWord skip by (page + entry_offset entry) (word_width entry) content moved) [
      | true ↦ λ z o. absurd (no_width (word_width entry) z h)
      | false ↦ λ z o. word_moved place skip by (page + entry_offset entry) (word_width entry) content moved o
    ] refl e

sum_small : (width at by : ℕ) (content : List ℕ) → sum_at width at by content < 2 ^ (8 * width)
sum_small width at by content = mod-lt (little_from at width content + by) (pow_pos (8 * width))

pub named_read : (place : Place) (skip by page entry : ℕ) (content moved : List ℕ) → 0 < word_width entry → moved_by place skip by page entry content ≡ Ok moved
    → little_from (word_at skip page entry) (word_width entry) moved ≡ sum_at (word_width entry) (word_at skip page entry) by content
named_read place skip by page entry content moved h e =
    let at : ℕ = word_at skip page entry in
    let width : ℕ = word_width entry in
    let m : IsMovedWord skip by (page + entry_offset entry) width content moved = named_moved place skip by page entry content moved h e in
    ap (little_from at width) (sym m.moved_is) ∙ number_read width at (sum_at width at by content) content (sum_small width at by content) m.inside

same_by : (place : Place) (skip by page entry : ℕ) (content moved : List ℕ) (k : ℕ) → moved_by place skip by page entry content ≡ Ok moved → SameAt (names skip page k entry) k content moved
unfolding moved_by names
same_by place skip by page entry content moved k e =
    let width : ℕ = word_width entry in
    let at : ℕ = word_at skip page entry in
    let b : Bool = is_in at width k in
    elim (width == 0) as (λ t. (if t then Ok content else moved_word place skip by (page + entry_offset entry) width content) ≡ Ok moved → SameAt b k content moved) [
      | true ↦ λ o. let s : content ≡ moved = cc in same_self b k content moved s
      | false ↦ λ o. same_end b k content (with_number width at (sum_at width at by content) content) moved (number_kept width at (sum_at width at by content) content k)
          (word_moved place skip by (page + entry_offset entry) width content moved o).moved_is
    ] e

pub same_entries : (place : Place) (skip by page : ℕ) (entries : List ℕ) (content moved : List ℕ) (k : ℕ) → moved_entries place skip by page entries content ≡ Ok moved
    → SameAt (list_any (names skip page k) entries) k content moved
unfolding moved_entries
same_entries place skip by page [] content moved k e = let s : content ≡ moved = cc in same_self false k content moved s
same_entries place skip by page (entry ∷ entries) content moved k e =
    through (moved_by place skip by page entry content) (moved_entries place skip by page entries) moved e
    (λ mid a b.
    same_then (names skip page k entry) (list_any (names skip page k) entries) k content mid moved (same_by place skip by page entry content mid k a)
    (same_entries place skip by page entries mid moved k b))

pub same_blocks : (place : Place) (skip by : ℕ) (directory : List ℕ) (blocks : List Block) (content moved : List ℕ) (k : ℕ) → moved_blocks place skip by directory blocks content ≡ Ok moved
    → SameAt (list_any (block_names skip directory k) blocks) k content moved
unfolding moved_blocks
same_blocks place skip by directory [] content moved k e = let s : content ≡ moved = cc in same_self false k content moved s
same_blocks place skip by directory (block ∷ blocks) content moved k e =
    through (moved_entries place skip by block.page (entries_in directory block) content) (moved_blocks place skip by directory blocks) moved e
    (λ mid a b.
    same_then (block_names skip directory k block) (list_any (block_names skip directory k) blocks) k content mid moved
    (same_entries place skip by block.page (entries_in directory block) content mid k a) (same_blocks place skip by directory blocks mid moved k b))

-- Entries before one, that one, and those behind it.

pub parted_entries : {P : Type 0} (place : Place) (skip by page : ℕ) (front : List ℕ) (entry : ℕ) (back : List ℕ) (content moved : List ℕ) → moved_entries place skip by page (front ++ entry ∷ back) content ≡ Ok moved
    → ((one two : List ℕ) → moved_entries place skip by page front content ≡ Ok one → moved_by place skip by page entry one ≡ Ok two → moved_entries place skip by page back two ≡ Ok moved → P) → P
unfolding moved_entries
parted_entries place skip by page [] entry back content moved e k =
    through (moved_by place skip by page entry content) (moved_entries place skip by page back) moved e (λ two a b. k content two refl a b)
parted_entries {P} place skip by page (first ∷ front) entry back content moved e k =
    through (moved_by place skip by page first content) (moved_entries place skip by page (front ++ entry ∷ back)) moved e
    (λ mid a b.
    parted_entries place skip by page front entry back mid moved b
    (λ one two f g h.
    let j : moved_entries place skip by page (first ∷ front) content ≡ Ok one = ap (λ r. and_then r (moved_entries place skip by page front)) a ∙ f in k one two j g h))

pub parted_blocks : {P : Type 0} (place : Place) (skip by : ℕ) (directory : List ℕ) (before : List Block) (block : Block) (after : List Block) (content moved : List ℕ)
    → moved_blocks place skip by directory (before ++ block ∷ after) content ≡ Ok moved
    → ((one two : List ℕ) → moved_blocks place skip by directory before content ≡ Ok one → moved_entries place skip by block.page (entries_in directory block) one ≡ Ok two
    → moved_blocks place skip by directory after two ≡ Ok moved → P) → P
unfolding moved_blocks
parted_blocks place skip by directory [] block after content moved e k =
    through (moved_entries place skip by block.page (entries_in directory block) content) (moved_blocks place skip by directory after) moved e (λ two a b. k content two refl a b)
parted_blocks {P} place skip by directory (first ∷ before) block after content moved e k =
    through (moved_entries place skip by first.page (entries_in directory first) content) (moved_blocks place skip by directory (before ++ block ∷ after)) moved e
    (λ mid a b.
    parted_blocks place skip by directory before block after mid moved b
    (λ one two f g h.
    let j : moved_blocks place skip by directory (first ∷ before) content ≡ Ok one = ap (λ r. and_then r (moved_blocks place skip by directory before)) a ∙ f in k one two j g h))

pub parted_any : {A : Type 0} (f : A → Bool) (xs ys : List A) → list_any f (xs ++ ys) ≡ false → (list_any f xs ≡ false) × (list_any f ys ≡ false)
parted_any f [] ys e = (refl, e)
parted_any f (x ∷ xs) ys e =
    let p = either (f x) (list_any f (xs ++ ys)) e in
    let q = parted_any f xs ys p.1 in (joined (f x) (list_any f xs) p.0 q.0, q.1)
  where
    joined : (a b : Bool) → a ≡ false → b ≡ false → (a || b) ≡ false
    joined true b e f = e
    joined false b e f = f
