-- Blocks of relocations, one behind the other.
use Rattle.std.proofs.Common.{◌≡◌, ◌<◌, ◌≤◌, inl, inr, ℕ, zero, suc, ◌+◌, ◌-◌, ◌%◌, ◌==◌, ◌||◌, nat_lt, Bool, true, false, if◌then◌else◌, List, [], ◌∷◌, ◌++◌, length, length-append, take, drop, take-append-drop, drop_at, length-take-le, subst, Result, Ok, Err, refl, sym, ap, ap₂, ◌∙◌, arith}
use Rattle.std.proofs.lemmas.Bool.{or_parts}
use Rattle.std.proofs.lemmas.Bool.Decides.{nat_tests}
use Rattle.build_base.specs.First.{with_front}
use Rattle.build_base.specs.declared.fault.Fault.{Fault}
use Rattle.build_base.specs.declared.fault.Place.{Place}
use Rattle.build_base.specs.FaultCodes.{RELOC_BLOCK}
use Rattle.ffs_sections.specs.Sections.{fault_with_size}
use Rattle.image_rebase.specs.Blocks.{block_size, is_end, is_wrong_size, block_at, blocks_from, blocks_of, words_of, entry_bytes, entries_in}
use Rattle.image_rebase.specs.declared.blocks.Block.{Block}
use Rattle.document_laws.specs.RelocationBlocks.{HasNoBlock, IsBlock, AreBlocks, AreWords}

ends : (bytes : List ℕ) → HasNoBlock bytes → is_end bytes ≡ true
unfolding is_end
ends bytes (inl l) = grind (arith, nat_tests)
ends bytes (inr e) = grind (arith, nat_tests)

ended : (bytes : List ℕ) → is_end bytes ≡ true → HasNoBlock bytes
unfolding is_end
ended bytes e = by (nat_lt (length bytes) 8) refl
  where
    by : (t : Bool) → nat_lt (length bytes) 8 ≡ t → HasNoBlock bytes
    by true l = inl (let r : length bytes < 8 = grind (arith, nat_tests) in r)
    by false l = inr (let z : block_size bytes ≡ 0 = grind (arith, nat_tests) in z)

goes_on : (bytes : List ℕ) (size : ℕ) → block_size bytes ≡ size → 8 ≤ size → 8 ≤ length bytes → is_end bytes ≡ false
unfolding is_end
goes_on bytes size e l m = grind (arith, nat_tests)

right_size : (size count : ℕ) → size % 2 ≡ 0 → 8 ≤ size → size ≤ count → is_wrong_size size count ≡ false
unfolding is_wrong_size
right_size size count e l m = grind (arith, nat_tests)

sizes : (size count : ℕ) → is_wrong_size size count ≡ false → (size % 2 ≡ 0) × (8 ≤ size) × (size ≤ count)
unfolding is_wrong_size
sizes size count e =
    let two = or_parts ((size % 2 == 1) || nat_lt size 8) (nat_lt count size) e in
    let one = or_parts (size % 2 == 1) (nat_lt size 8) two.0 in
    let f = one.0 in
    let g = one.1 in
    let h = two.1 in
    let a : size % 2 ≡ 0 = grind (arith, nat_tests) in
    let b : 8 ≤ size = grind (arith, nat_tests) in
    let c : size ≤ count = grind (arith, nat_tests) in
    (a, b, c)

-- what one turn of the walk comes to
turn : ℕ → Place → ℕ → List ℕ → Bool → Bool → Result (List Block) Fault
turn n place at left stop wrong =
    if stop then Ok [] else if wrong then Err (fault_with_size RELOC_BLOCK place at)
    else with_front (block_at at left ∷ []) (blocks_from n place (at + block_size left) (drop (block_size left) left))

only_blocks : (blocks : List Block) (n : ℕ) (place : Place) (at : ℕ) (bytes : List ℕ) → length bytes < n → AreBlocks at bytes blocks → blocks_from n place at bytes ≡ Ok blocks
unfolding blocks_from turn
only_blocks blocks zero place at bytes l h = absurd (omega (arith, l))
only_blocks [] (suc n) place at bytes l h = ap (λ t. turn n place at bytes t (is_wrong_size (block_size bytes) (length bytes))) (ends bytes h)
only_blocks (block ∷ blocks) (suc n) place at bytes l h =
    let mine = h.0 in
    let rest = h.1 in
    let b = h.3 in
    let long : length bytes ≡ length mine + length rest = ap length h.2 ∙ length-append mine rest in
    let on = goes_on bytes (length mine) b.size_is b.least (omega (arith, long, b.least)) in
    let right : is_wrong_size (block_size bytes) (length bytes) ≡ false = ap (λ s. is_wrong_size s (length bytes)) b.size_is ∙ right_size (length mine) (length bytes) b.even b.least (omega (arith, long)) in
    let left : drop (length mine) bytes ≡ rest = ap (drop (length mine)) h.2 ∙ drop_at mine rest (length mine) refl in
    ap₂ (λ s w. turn n place at bytes s w) on right
    ∙ ap (λ s. with_front (block_at at bytes ∷ []) (blocks_from n place (at + s) (drop s bytes))) b.size_is
    ∙ ap (λ r. with_front (block_at at bytes ∷ []) (blocks_from n place (at + length mine) r)) left
    ∙ ap (with_front (block_at at bytes ∷ [])) (only_blocks blocks n place (at + length mine) rest (omega (arith, long, b.least, l)) h.4)
    ∙ ap (λ x. Ok (x ∷ blocks)) (same at bytes mine block b)
  where
    same : (at : ℕ) (bytes mine : List ℕ) (block : Block) → IsBlock at bytes mine block → block_at at bytes ≡ block
    same at bytes mine block b = (λ i. record { page = sym b.page i; start = sym b.start i; size = (ap (λ s. s - 8) b.size_is ∙ sym b.entries) i })

abbrev ok_of : List Block → Result (List Block) Fault
ok_of blocks = Ok blocks

same_ok : (xs ys : List Block) → ok_of xs ≡ ok_of ys → xs ≡ ys
same_ok xs ys e = cc

some_front : (block : Block) (o : Result (List Block) Fault) (blocks : List Block) → with_front (block ∷ []) o ≡ Ok blocks → (rest : List Block) × (o ≡ Ok rest) × (blocks ≡ block ∷ rest)
some_front block (Ok rest) blocks e = (rest, refl, sym (same_ok (block ∷ rest) blocks e))
some_front block (Err fault) blocks e = absurd cc

found_blocks : (n : ℕ) (place : Place) (at : ℕ) (bytes : List ℕ) (blocks : List Block) → length bytes < n → blocks_from n place at bytes ≡ Ok blocks → AreBlocks at bytes blocks
unfolding blocks_from turn
found_blocks zero place at bytes blocks l e = absurd (omega (arith, l))
found_blocks (suc n) place at bytes blocks l e = by (found_blocks n place) (is_end bytes) (is_wrong_size (block_size bytes) (length bytes)) refl refl e
  where
    by : ((at : ℕ) (bytes : List ℕ) (blocks : List Block) → length bytes < n → blocks_from n place at bytes ≡ Ok blocks → AreBlocks at bytes blocks)
        → (s w : Bool) → is_end bytes ≡ s → is_wrong_size (block_size bytes) (length bytes) ≡ w → turn n place at bytes s w ≡ Ok blocks → AreBlocks at bytes blocks
    by again true w s q f = subst (AreBlocks at bytes) (same_ok [] blocks f) (ended bytes s)
    by again false true s q f = absurd cc
    by again false false s q f =
        let size = block_size bytes in
        let z = sizes size (length bytes) q in
        let mine = take size bytes in
        let rest = drop size bytes in
        let long : length mine ≡ size = length-take-le size bytes z.2 in
        let whole : bytes ≡ mine ++ rest = sym (take-append-drop size bytes) in
        let count : length bytes ≡ length mine + length rest = ap length whole ∙ length-append mine rest in
        let p = some_front (block_at at bytes) (blocks_from n place (at + size) rest) blocks f in
        let more : AreBlocks (at + size) rest p.0 = again (at + size) rest p.0 (omega (arith, count, long, z.1, l)) p.1 in
        subst (AreBlocks at bytes) (sym p.2) (
          mine,
          rest,
          whole,
          record { size_is = sym long; even = ap (λ s. s % 2) long ∙ z.0; least = subst (λ s. 8 ≤ s) (sym long) z.1; page = refl; start = refl; entries = ap (λ s. s - 8) (sym long) },
          subst (λ s. AreBlocks (at + s) rest p.0) (sym long) more,
        )

pub blocks_found : (place : Place) (directory : List ℕ) (blocks : List Block) → blocks_of place directory ≡ Ok blocks → AreBlocks 0 directory blocks
blocks_found place directory blocks e = found_blocks (length directory + 1) place 0 directory blocks (omega arith) e

pub blocks_only : (place : Place) (directory : List ℕ) (blocks : List Block) → AreBlocks 0 directory blocks → blocks_of place directory ≡ Ok blocks
blocks_only place directory blocks h = only_blocks blocks (length directory + 1) place 0 directory (omega arith) h

words_stand : (bytes : List ℕ) → AreWords bytes (words_of bytes)
unfolding words_of
words_stand [] = omega arith
words_stand (low ∷ []) = omega arith
words_stand (low ∷ high ∷ more) = (low, high, more, refl, refl, words_stand more)

words_are : (words bytes : List ℕ) → AreWords bytes words → words_of bytes ≡ words
unfolding words_of
words_are [] [] h = refl
words_are [] (low ∷ []) h = refl
words_are [] (low ∷ high ∷ more) h = absurd (omega (arith, h))
words_are (word ∷ words) bytes h = ap words_of h.3 ∙ ap₂ (λ w ws. w ∷ ws) (sym h.4) (words_are words h.2 h.5)

pub entries_found : (directory : List ℕ) (block : Block) → AreWords (entry_bytes directory block) (entries_in directory block)
unfolding entries_in
entries_found directory block = words_stand (entry_bytes directory block)

pub entries_only : (directory : List ℕ) (block : Block) (words : List ℕ) → AreWords (entry_bytes directory block) words → entries_in directory block ≡ words
unfolding entries_in
entries_only directory block words h = words_are words (entry_bytes directory block) h
