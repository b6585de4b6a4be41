-- A module whose content is moved: its ImageBase, and the words that are named once.
use Rattle.std.proofs.Common.{◌≡◌, ℕ, ◌+◌, ◌-◌, ◌*◌, ◌%◌, ◌^◌, ◌<◌, ◌≤◌, ◌==◌, ◌||◌, Bool, true, false, if◌then◌else◌, nat_lt, List, [], ◌∷◌, ◌++◌, length, Option, Some, None, Result, Ok, Err, refl, ap, sym, ◌∙◌, arith, subst}
use Rattle.std.proofs.lemmas.Bool.Decides.{nat_tests}
use Rattle.std.specs.List.{list_any}
use Rattle.byteorder.specs.Endian.{little_from}
use Rattle.build_base.specs.First.{and_then, first_holding, unless}
use Rattle.build_base.specs.declared.fault.Place.{Place}
use Rattle.build_base.specs.declared.fault.Fault.{Fault}
use Rattle.te_images.specs.declared.fault.PeFault.{PeFault}
use Rattle.te_images.specs.declared.te.TeHead.{TeHead}
use Rattle.te_images.specs.Pe.{optional_header, is_pe32_plus, size_of_optional_header, section_table, pe_checks}
use Rattle.te_images.specs.Te.{te_checks, te_head_of, te_of}
use Rattle.image_rebase.specs.declared.module.Module.{Module}
use Rattle.image_rebase.specs.declared.blocks.Block.{Block}
use Rattle.image_rebase.specs.Module.{with_relocations, pe_fields, pe_with, pe_module, is_no_te, te_fields, te_module, module_in}
use Rattle.image_rebase.specs.Blocks.{directory_in}
use Rattle.image_rebase.specs.Moves.{sum_at, difference, with_base, moved_entries, moved_blocks, moved_words, blocks_fault, moved_by_blocks, module_blocks, moved_to, new_base, out_of_range, range_fault, moved_in_range, misplaced, moved_module, moved_with, moved_content}
use Rattle.image_rebase.specs.Changes.{is_in, names, block_names, base_width}
use Rattle.image_rebase.proofs.SameLemmas.{through, past, chosen, same_content}
use Rattle.volume_laws.specs.MovedBytes.{IsNamedOnce, IsMovedModule, IsMovedWith, IsMovedContent}
use Rattle.volume_laws.proofs.WordLemmas.{word_same, number_read, number_kept, word_at, word_width, named_read, same_entries, same_blocks, parted_entries, parted_blocks, parted_any}

-- ImageBase lies within the content of a module that can be moved.

abbrev HasBase : List ℕ → Module → Type 0
HasBase content m = m.base_at + base_width m ≤ length content

none_holds : {T : Type 0} (rows : List (Bool × T)) → first_holding rows ≡ None → list_any (λ row. row.0) rows ≡ false
none_holds [] e = refl
none_holds (row ∷ rows) e =
    elim row.0 as (λ b. (if b then Some row.1 else first_holding rows) ≡ None → (b || list_any (λ row. row.0) rows) ≡ false) [
      | true ↦ λ o. absurd cc
      | false ↦ λ o. none_holds rows o
    ] e

unless_none : {A F : Type 0} (fault : Option F) (x y : A) → unless fault x ≡ Ok y → fault ≡ None
unless_none None x y e = refl
unless_none (Some f) x y e = absurd cc

-- what the checks of a PE image leave
record IsPe (content : List ℕ) : Type 0 where
  size : 0x60 ≤ size_of_optional_header content
  inside : section_table content ≤ length content

pe_known : (content : List ℕ) → first_holding (te_checks content) ≡ None → IsPe content
unfolding pe_checks
pe_known content e =
    let a : list_any (λ row. row.0) (te_checks content) ≡ false = none_holds (te_checks content) e in
    record { size = grind (arith, nat_tests, a); inside = grind (arith, nat_tests, a) }

abbrev offset_by : Bool → ℕ
offset_by plus = if plus then 0x18 else 0x1C

abbrev width_by : Bool → ℕ
width_by plus = if plus then 8 else 4

base_end : (plus : Bool) → offset_by plus + width_by plus ≡ 0x20
base_end true = refl
base_end false = refl

pub relocated_is : (found m : Module) → with_relocations found ≡ Some m → found ≡ m
relocated_is found m e = elim (found.size == 0) as (λ b. (if b then None else Some found) ≡ Some m → found ≡ m) [ true ↦ λ o. absurd cc | false ↦ λ o. cc ] e

pe_based : (content : List ℕ) (head : Result TeHead PeFault) (m : Module) → te_of content ≡ head → pe_with content head ≡ Some m → HasBase content m
unfolding te_of pe_fields
pe_based content (Err fault) m h e = absurd cc
pe_based content (Ok head) m h e =
    let k : IsPe content = pe_known content (unless_none (first_holding (te_checks content)) (te_head_of content) head h) in
    let s : 0x60 ≤ size_of_optional_header content = k.size in
    let i : section_table content ≤ length content = k.inside in
    let b : offset_by (is_pe32_plus content) + width_by (is_pe32_plus content) ≡ 0x20 = base_end (is_pe32_plus content) in
    let l : optional_header content + offset_by (is_pe32_plus content) + width_by (is_pe32_plus content) ≤ length content = omega arith in
    subst (HasBase content) (relocated_is (pe_fields content head) m e) l

te_based : (no : Bool) (content : List ℕ) (m : Module) → is_no_te content ≡ no → (if no then None else with_relocations (te_fields content)) ≡ Some m → HasBase content m
unfolding is_no_te te_fields
te_based true content m n e = absurd cc
te_based false content m n e =
    let l : 0x10 + 8 ≤ length content = grind (arith, nat_tests, n) in
    subst (HasBase content) (relocated_is (te_fields content) m e) l

module_based : (kind : ℕ) (content : List ℕ) (m : Module) → module_in kind content ≡ Some m → HasBase content m
unfolding module_in pe_module te_module
module_based kind content m e =
    elim (kind == 0x10) as (λ b. (if b then pe_with content (te_of content) else if kind == 0x12 then (if is_no_te content then None else with_relocations (te_fields content)) else None) ≡ Some m → HasBase content m) [
      | true ↦ λ o. pe_based content (te_of content) m refl o
      | false ↦ λ o.
          elim (kind == 0x12) as (λ b. (if b then (if is_no_te content then None else with_relocations (te_fields content)) else None) ≡ Some m → HasBase content m) [
            | true ↦ λ q. te_based (is_no_te content) content m refl q
            | false ↦ λ q. absurd cc
          ] o
    ] e

-- A word that is named once.

named_once : (place : Place) (m : Module) (by : ℕ) (directory : List ℕ) (blocks : List Block) (content mid : List ℕ) (at width : ℕ) → IsNamedOnce m directory blocks at width
    → moved_blocks place m.skip by directory blocks content ≡ Ok mid → little_from at width mid ≡ sum_at width at by content
named_once place m by directory blocks content mid at width n e =
    let skip : ℕ = m.skip in
    let page : ℕ = n.block.page in
    let w : ℕ = word_width n.entry in
    let p : ℕ = word_at skip page n.entry in
    let here : (k : ℕ) → is_in p w k ≡ true → is_in at width k ≡ true = λ k i. ap (λ z. is_in z width k) n.place ∙ ap (λ z. is_in p z k) n.bytes ∙ i in
    let some : 0 < w = subst (λ z. 0 < z) n.bytes n.some in
    let f : moved_blocks place skip by directory (n.before ++ n.block ∷ n.after) content ≡ Ok mid = ap (λ z. moved_blocks place skip by directory z content) (sym n.blocks_are) ∙ e in
    let read : little_from p w mid ≡ sum_at w p by content =
    parted_blocks place skip by directory n.before n.block n.after content mid f
    (λ one two a b c.
    parted_entries place skip by page n.front n.entry n.back one two (ap (λ z. moved_entries place skip by page z one) (sym n.entries_are) ∙ b)
    (λ three four g h j.
    let before : little_from p w one ≡ little_from p w content =
    word_same p w content one (λ k i. (same_blocks place skip by directory n.before content one k a).byte (parted_any (block_names skip directory k) n.before n.after (n.other_blocks k (here k i))).0 0) in
    let front : little_from p w three ≡ little_from p w one =
    word_same p w one three (λ k i. (same_entries place skip by page n.front one three k g).byte (parted_any (names skip page k) n.front n.back (n.other_entries k (here k i))).0 0) in
    let back : little_from p w two ≡ little_from p w four =
    word_same p w four two (λ k i. (same_entries place skip by page n.back four two k j).byte (parted_any (names skip page k) n.front n.back (n.other_entries k (here k i))).1 0) in
    let after : little_from p w mid ≡ little_from p w two =
    word_same p w two mid (λ k i. (same_blocks place skip by directory n.after two mid k c).byte (parted_any (block_names skip directory k) n.before n.after (n.other_blocks k (here k i))).1 0) in
    after ∙ back ∙ named_read place skip by page n.entry three four some h ∙ ap (λ z. (z + by) % 2 ^ (8 * w)) (front ∙ before))) in
    ap (λ z. little_from z width mid) n.place ∙ ap (λ z. little_from p z mid) n.bytes ∙ read ∙ ap (λ z. sum_at z p by content) (sym n.bytes) ∙ ap (λ z. sum_at width z by content) (sym n.place)

-- What a module's content is moved to.

in_range : (m : Module) (address : ℕ) → out_of_range m address ≡ false → new_base m address < 2 ^ (8 * base_width m)
unfolding out_of_range
in_range m address e =
    elim m.wide as (λ b. (nat_lt address m.skip || nat_lt (if b then 0xFFFFFFFFFFFFFFFF else 0xFFFFFFFF) (address - m.skip)) ≡ false → address - m.skip < 2 ^ (8 * (if b then 8 else 4))) [
      | true ↦ λ o. grind (arith, nat_tests, o)
      | false ↦ λ o. grind (arith, nat_tests, o)
    ] e

words_moved : (place : Place) (m : Module) (address : ℕ) (content : List ℕ) (blocks : List Block) (moved : List ℕ) → HasBase content m → out_of_range m address ≡ false → module_blocks place m content ≡ Ok blocks
    → moved_words place m (new_base m address) content (directory_in m content) blocks ≡ Ok moved → IsMovedModule place m address content moved
unfolding moved_words
words_moved place m address content blocks moved h r f e =
    let new : ℕ = new_base m address in
    let by : ℕ = difference new m.base in
    let directory : List ℕ = directory_in m content in
    through (moved_blocks place m.skip by directory blocks content) (λ mid. Ok (with_base m new mid)) moved e
    (λ mid a b.
    let s : with_base m new mid ≡ moved = cc in
    let l : length mid ≡ length content = (same_blocks place m.skip by directory blocks content mid 0 a).size in
    record {
      blocks = blocks;
      found = f;
      base = ap (little_from m.base_at (base_width m)) (sym s) ∙ number_read (base_width m) m.base_at new mid (in_range m address r) (subst (λ n. m.base_at + base_width m ≤ n) (sym l) h);
      word = λ at width n.
          ap (little_from at width) (sym s)
          ∙ word_same at width mid (with_base m new mid) (λ k i. (number_kept (base_width m) m.base_at new mid k).byte (n.no_base k i) 0)
          ∙ named_once place m by directory blocks content mid at width n a;
    })

module_with : (place : Place) (m : Module) (address : ℕ) (content moved : List ℕ) (found : Result (List Block) Fault) → HasBase content m → out_of_range m address ≡ false → module_blocks place m content ≡ found
    → and_then found (moved_by_blocks place m (new_base m address) content) ≡ Ok moved → IsMovedModule place m address content moved
unfolding moved_by_blocks
module_with place m address content moved (Ok blocks) h r f e =
    words_moved place m address content blocks moved h r f (past (blocks_fault place (directory_in m content) blocks) (moved_words place m (new_base m address) content (directory_in m content) blocks) moved e)
module_with place m address content moved (Err fault) h r f e = absurd cc

not_out : {A F : Type 0} (test : Bool) (fault : F) (r : Result A F) (y : A) → (if test then Err fault else r) ≡ Ok y → test ≡ false
not_out true fault r y e = absurd cc
not_out false fault r y e = refl

module_moved : (place : Place) (base address : ℕ) (m : Module) (content moved : List ℕ) → HasBase content m → moved_module place base address m content ≡ Ok moved → IsMovedModule place m address content moved
unfolding moved_module moved_in_range moved_to
module_moved place base address m content moved h e =
    let r : Result (List ℕ) Fault = and_then (module_blocks place m content) (moved_by_blocks place m (new_base m address) content) in
    let q : (if out_of_range m address then Err (range_fault place base) else r) ≡ Ok moved =
    past (misplaced place m content) (if out_of_range m address then Err (range_fault place base) else r) moved e in
    module_with place m address content moved (module_blocks place m content) h (not_out (out_of_range m address) (range_fault place base) r moved q) refl
    (chosen (out_of_range m address) (range_fault place base) r moved q)

with_moved : (place : Place) (base address kind : ℕ) (content moved : List ℕ) (found : Option Module) → module_in kind content ≡ found → moved_with place base address found content ≡ Ok moved
    → IsMovedWith place address content moved found
with_moved place base address kind content moved None f e = let s : content ≡ moved = cc in sym s
with_moved place base address kind content moved (Some m) f e = module_moved place base address m content moved (module_based kind content m f) e

-- what the content of a section is moved to
pub content_moved : (place : Place) (base address kind : ℕ) (content moved : List ℕ) → moved_content place base address kind content ≡ Ok moved → IsMovedContent place address kind content moved
unfolding moved_content
content_moved place base address kind content moved e = record {
  size = (same_content place base address kind content moved 0 e).size;
  byte = λ k d h. (same_content place base address kind content moved k e).byte h d;
  module_is = with_moved place base address kind content moved (module_in kind content) refl e;
}
