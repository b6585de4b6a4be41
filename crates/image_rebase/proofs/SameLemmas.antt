-- A byte of a module's content that no relocation names, and that isn't of ImageBase, stays.
use Rattle.std.proofs.Common.{◌≡◌, ℕ, ◌+◌, ◌-◌, ◌⊎◌, inl, inr, ◌==◌, ◌||◌, Bool, true, false, if◌then◌else◌, List, [], ◌∷◌, length, get_or, slice_set, Option, Some, None, Result, Ok, Err, refl, ap, sym, ◌∙◌, arith, length-set}
use Rattle.std.proofs.lemmas.List.{get_or-set_other}
use Rattle.std.proofs.lemmas.Bool.Decides.{nat_tests}
use Rattle.std.specs.List.{list_any}
use Rattle.byteorder.specs.Endian.{little_bytes}
use Rattle.build_base.specs.First.{and_then, or_fault}
use Rattle.build_base.specs.declared.fault.Place.{Place}
use Rattle.build_base.specs.declared.fault.Fault.{Fault}
use Rattle.image_rebase.specs.declared.module.Module.{Module}
use Rattle.image_rebase.specs.declared.blocks.Block.{Block}
use Rattle.image_rebase.specs.Bytes.{with_bytes, with_number}
use Rattle.image_rebase.specs.Module.{module_in}
use Rattle.image_rebase.specs.Blocks.{directory_in, entries_in}
use Rattle.image_rebase.specs.Moves.{entry_type, entry_offset, width_of, sum_at, lies_outside, outside_fault, word_end, moved_word, moved_by, moved_entries, moved_blocks, difference, with_base, moved_words, blocks_fault, moved_by_blocks, module_blocks, moved_to, new_base, out_of_range, range_fault, moved_in_range, misplaced, moved_module, moved_with, moved_content}
use Rattle.image_rebase.specs.Changes.{is_in, names, block_names, are_named, base_width, module_changes, content_changes}

-- One list is as long as another, and unless a place may change what stands there is the same.
pub record SameAt (changes : Bool) (k : ℕ) (old new : List ℕ) : Type 0 where
  pub size : length new ≡ length old
  pub byte : changes ≡ false → (d : ℕ) → get_or new k d ≡ get_or old k d

pub same_self : (changes : Bool) (k : ℕ) (old new : List ℕ) → old ≡ new → SameAt changes k old new
same_self changes k old new e = record { size = ap length (sym e); byte = λ h d. ap (λ z. get_or z k d) (sym e) }

pub either : (a b : Bool) → (a || b) ≡ false → (a ≡ false) × (b ≡ false)
either true b e = absurd cc
either false b e = (refl, e)

pub same_then : (a b : Bool) (k : ℕ) (old mid new : List ℕ) → SameAt a k old mid → SameAt b k mid new → SameAt (a || b) k old new
same_then a b k old mid new first second = record {
  size = second.size ∙ first.size;
  byte = λ h d. let n = either a b h in second.byte n.1 d ∙ first.byte n.0 d;
}

pub same_end : (changes : Bool) (k : ℕ) (old mid new : List ℕ) → SameAt changes k old mid → mid ≡ new → SameAt changes k old new
same_end changes k old mid new s e = record { size = ap length (sym e) ∙ s.size; byte = λ h d. ap (λ z. get_or z k d) (sym e) ∙ s.byte h d }

pub through : {A B F P : Type 0} (r : Result A F) (f : A → Result B F) (y : B) → and_then r f ≡ Ok y → ((x : A) → r ≡ Ok x → f x ≡ Ok y → P) → P
through (Ok x) f y e k = k x refl e
through (Err fault) f y e k = absurd cc

pub past : {A F : Type 0} (fault : Option F) (r : Result A F) (y : A) → or_fault fault r ≡ Ok y → r ≡ Ok y
past None r y e = e
past (Some fault) r y e = absurd cc

pub chosen : {A F : Type 0} (test : Bool) (fault : F) (r : Result A F) (y : A) → (if test then Err fault else r) ≡ Ok y → r ≡ Ok y
chosen true fault r y e = absurd cc
chosen false fault r y e = e

not_first : (at n k : ℕ) → is_in at (n + 1) k ≡ false → (k ≡ at → ⊥)
unfolding is_in
not_first at n k h e = grind (arith, nat_tests, h, e)

not_later : (at n k : ℕ) → is_in at (n + 1) k ≡ false → is_in (at + 1) n k ≡ false
unfolding is_in
not_later at n k h = grind (arith, nat_tests, h)

length_bytes : (at : ℕ) (new bytes : List ℕ) → length (with_bytes at new bytes) ≡ length bytes
unfolding with_bytes
length_bytes at [] bytes = refl
length_bytes at (byte ∷ more) bytes = length_bytes (at + 1) more (slice_set bytes at byte) ∙ length-set bytes at byte

byte_bytes : (at : ℕ) (new bytes : List ℕ) (k : ℕ) → is_in at (length new) k ≡ false → (d : ℕ) → get_or (with_bytes at new bytes) k d ≡ get_or bytes k d
unfolding with_bytes
byte_bytes at [] bytes k h d = refl
byte_bytes at (byte ∷ more) bytes k h d =
    let g : is_in at (length more + 1) k ≡ false = ap (λ n. is_in at n k) (omega arith) ∙ h in
    byte_bytes (at + 1) more (slice_set bytes at byte) k (not_later at (length more) k g) d ∙ get_or-set_other bytes at k byte d (not_first at (length more) k g)

four_long : (n : ℕ) → length (little_bytes 4 n) ≡ 4
four_long n = refl

eight_long : (n : ℕ) → length (little_bytes 8 n) ≡ 8
eight_long n = refl

number_long : (size n : ℕ) → (size ≡ 4) ⊎ (size ≡ 8) → length (little_bytes size n) ≡ size
number_long size n (inl e) = ap (λ z. length (little_bytes z n)) e ∙ four_long n ∙ sym e
number_long size n (inr e) = ap (λ z. length (little_bytes z n)) e ∙ eight_long n ∙ sym e

-- a number of four or eight bytes
same_number : (size at n : ℕ) (bytes : List ℕ) (k : ℕ) → (size ≡ 4) ⊎ (size ≡ 8) → SameAt (is_in at size k) k bytes (with_number size at n bytes)
same_number size at n bytes k w = record {
  size = length_bytes at (little_bytes size n) bytes;
  byte = λ h d. byte_bytes at (little_bytes size n) bytes k (ap (λ z. is_in at z k) (number_long size n w) ∙ h) d;
}

abbrev Sized : ℕ → Type 0
Sized size = (size ≡ 4) ⊎ (size ≡ 8)

abbrev other_width : Bool → ℕ
other_width b = if b then 8 else 0

abbrev first_width : Bool → ℕ → ℕ
first_width b other = if b then 4 else other

other_some : (b : Bool) → (other_width b == 0) ≡ false → Sized (other_width b)
other_some true e = inr refl
other_some false e = absurd cc

first_some : (a b : Bool) → (first_width a (other_width b) == 0) ≡ false → Sized (first_width a (other_width b))
first_some true b e = inl refl
first_some false b e = other_some b e

width_some : (kind : ℕ) → (width_of kind == 0) ≡ false → (width_of kind ≡ 4) ⊎ (width_of kind ≡ 8)
width_some kind h = first_some (kind == 3) (kind == 10) h

same_word : (place : Place) (skip by address width : ℕ) (content moved : List ℕ) (k : ℕ) → (width ≡ 4) ⊎ (width ≡ 8)
    → moved_word place skip by address width content ≡ Ok moved → SameAt (is_in (address - skip) width k) k content moved
unfolding moved_word
same_word place skip by address width content moved k w e =
    let new : List ℕ = with_number width (address - skip) (sum_at width (address - skip) by content) content in
    let o : Ok new ≡ Ok moved = chosen (lies_outside skip address width (length content)) (outside_fault place (word_end skip address width) (length content)) (Ok new) moved e in
    let s : new ≡ moved = cc in
    same_end (is_in (address - skip) width k) k content new moved (same_number width (address - skip) (sum_at width (address - skip) by content) content k w) s

same_by : (place : Place) (skip by page entry : ℕ) (content moved : List ℕ) (k : ℕ) → moved_by place skip by page entry content ≡ Ok moved → SameAt (names skip page k entry) k content moved
unfolding moved_by names
same_by place skip by page entry content moved k e =
    let width : ℕ = width_of (entry_type entry) in
    let b : Bool = is_in (page + entry_offset entry - skip) width k in
    elim (width == 0) as (λ t. (width == 0) ≡ t → (if t then Ok content else moved_word place skip by (page + entry_offset entry) width content) ≡ Ok moved → SameAt b k content moved) [
      | true ↦ λ z o. let s : content ≡ moved = cc in same_self b k content moved s
      | false ↦ λ z o. same_word place skip by (page + entry_offset entry) width content moved k (width_some (entry_type entry) z) o
    ] refl e

same_entries : (place : Place) (skip by page : ℕ) (entries : List ℕ) (content moved : List ℕ) (k : ℕ)
    → moved_entries place skip by page entries content ≡ Ok moved → SameAt (list_any (names skip page k) entries) k content moved
unfolding moved_entries
same_entries place skip by page [] content moved k e = let s : content ≡ moved = cc in same_self false k content moved s
same_entries place skip by page (entry ∷ entries) content moved k e =
    through (moved_by place skip by page entry content) (moved_entries place skip by page entries) moved e
    (λ mid a b.
    same_then (names skip page k entry) (list_any (names skip page k) entries) k content mid moved (same_by place skip by page entry content mid k a)
    (same_entries place skip by page entries mid moved k b))

same_blocks : (place : Place) (skip by : ℕ) (directory : List ℕ) (blocks : List Block) (content moved : List ℕ) (k : ℕ)
    → moved_blocks place skip by directory blocks content ≡ Ok moved → SameAt (list_any (block_names skip directory k) blocks) k content moved
unfolding moved_blocks
same_blocks place skip by directory [] content moved k e = let s : content ≡ moved = cc in same_self false k content moved s
same_blocks place skip by directory (block ∷ blocks) content moved k e =
    through (moved_entries place skip by block.page (entries_in directory block) content) (moved_blocks place skip by directory blocks) moved e
    (λ mid a b.
    same_then (block_names skip directory k block) (list_any (block_names skip directory k) blocks) k content mid moved
    (same_entries place skip by block.page (entries_in directory block) content mid k a) (same_blocks place skip by directory blocks mid moved k b))

abbrev base_sized : Bool → ℕ
base_sized wide = if wide then 8 else 4

base_either : (wide : Bool) → Sized (base_sized wide)
base_either true = inr refl
base_either false = inl refl

same_words : (place : Place) (m : Module) (new : ℕ) (content : List ℕ) (blocks : List Block) (moved : List ℕ) (k : ℕ) → moved_words place m new content (directory_in m content) blocks ≡ Ok moved
    → SameAt (list_any (block_names m.skip (directory_in m content) k) blocks || is_in m.base_at (base_width m) k) k content moved
unfolding moved_words
same_words place m new content blocks moved k e =
    through (moved_blocks place m.skip (difference new m.base) (directory_in m content) blocks content) (λ mid. Ok (with_base m new mid)) moved e
    (λ mid a b.
    let s : with_base m new mid ≡ moved = cc in
    same_then (list_any (block_names m.skip (directory_in m content) k) blocks) (is_in m.base_at (base_width m) k) k content mid moved
    (same_blocks place m.skip (difference new m.base) (directory_in m content) blocks content mid k a)
    (same_end (is_in m.base_at (base_width m) k) k mid (with_base m new mid) moved (same_number (base_width m) m.base_at new mid k (base_either m.wide)) s))

same_to : (place : Place) (m : Module) (new : ℕ) (content moved : List ℕ) (k : ℕ) (found : Result (List Block) Fault)
    → and_then found (moved_by_blocks place m new content) ≡ Ok moved → SameAt (are_named m.skip (directory_in m content) k found || is_in m.base_at (base_width m) k) k content moved
unfolding moved_by_blocks
same_to place m new content moved k (Ok blocks) e =
    same_words place m new content blocks moved k
    (past (blocks_fault place (directory_in m content) blocks) (moved_words place m new content (directory_in m content) blocks) moved e)
same_to place m new content moved k (Err fault) e = absurd cc

same_module : (place : Place) (base address : ℕ) (m : Module) (content moved : List ℕ) (k : ℕ) → moved_module place base address m content ≡ Ok moved
    → SameAt (module_changes place content k (Some m)) k content moved
unfolding moved_module moved_in_range moved_to
same_module place base address m content moved k e =
    let r : Result (List ℕ) Fault = and_then (module_blocks place m content) (moved_by_blocks place m (new_base m address) content) in
    let q : (if out_of_range m address then Err (range_fault place base) else r) ≡ Ok moved =
    past (misplaced place m content) (if out_of_range m address then Err (range_fault place base) else r) moved e in
    same_to place m (new_base m address) content moved k (module_blocks place m content) (chosen (out_of_range m address) (range_fault place base) r moved q)

same_with : (place : Place) (base address : ℕ) (found : Option Module) (content moved : List ℕ) (k : ℕ) → moved_with place base address found content ≡ Ok moved
    → SameAt (module_changes place content k found) k content moved
same_with place base address None content moved k e = let s : content ≡ moved = cc in same_self false k content moved s
same_with place base address (Some m) content moved k e = same_module place base address m content moved k e

pub same_content : (place : Place) (base address kind : ℕ) (content moved : List ℕ) (k : ℕ) → moved_content place base address kind content ≡ Ok moved
    → SameAt (content_changes place kind content k) k content moved
unfolding moved_content content_changes
same_content place base address kind content moved k e = same_with place base address (module_in kind content) content moved k e
