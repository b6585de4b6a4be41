-- Files that are made, as they are read.
use Rattle.std.proofs.Common.{◌≡◌, ℕ, ◌+◌, ◌-◌, ◌/◌, ◌%◌, ◌<◌, ◌≤◌, ◌==◌, ◌&&◌, ◌||◌, Bool, true, false, not, if◌then◌else◌, List, [], ◌++◌, length, take, drop, get_or, unwrap_or, refl, ap, sym, ◌∙◌, arith, length-append, append_assoc, eq-eqb}
use Rattle.std.proofs.lemmas.Bool.Decides.{nat_tests}
use Rattle.std.proofs.lemmas.List.Folds.{list_all_at}
use Rattle.std.proofs.Math.Seq.{drop-append_seam, take-append_seam}
use Rattle.build_base.specs.Runs.{free_byte}
use Rattle.doc_types.specs.Standard.{EFI_FV_FILETYPE_RAW, EFI_FV_FILETYPE_FFS_PAD}
use Rattle.ffs_sections.specs.declared.header.Head.{Head}
use Rattle.ffs_sections.specs.Sums.{zero_byte, header_sum}
use Rattle.ffs_sections.specs.File.{file_head, head_len, header_len, state_of}
use Rattle.ffs_sections.proofs.HeadLemmas.{length_head, head_at_file}
use Rattle.volume_reader.specs.declared.listed.Listed.{Listed}
use Rattle.volume_reader.specs.Sections.{sections_of}
use Rattle.volume_reader.specs.Files.{file_name, header_check, file_check, file_type, file_attributes, file_state, stated_size, body_in, has_header, has_state, has_size, has_check, is_file, file_sections, listed_file}
use Rattle.volume_reader.specs.Volume.{are_erased}
use Rattle.volume_reader.proofs.FieldLemmas.{Fields, fields_of, size_end, size_of}
use Rattle.volume_reader.proofs.WalkLemmas.{IsRow}

-- what a header and a body are that are made as one file
pub record Fits (ffs3 large : Bool) (erase : ℕ) (name : List ℕ) (head : Head) (body : List ℕ) : Type 0 where
  pub long : length name ≡ 16
  pub even : head.attributes % 2 ≡ 0
  pub size : head.size ≡ head_len large + length body
  pub small : head.size < size_end large
  pub state : head.state ≡ state_of erase
  pub allowed : (not ffs3 && large) ≡ false
  pub check : head.check ≡ (if head.attributes / 64 % 2 == 1 then zero_byte body else 0xAA)

-- the row of a file with this name, type, size and body
abbrev pub row_by : Bool → ℕ → List ℕ → ℕ → ℕ → ℕ → List ℕ → Listed
row_by ffs3 place name kind size head body = record {
  place = place;
  guid = record { 0 = name };
  file_type = kind;
  size = size;
  sections = if kind == EFI_FV_FILETYPE_RAW || kind == EFI_FV_FILETYPE_FFS_PAD then [] else unwrap_or (sections_of ffs3 (place + head) body) [];
}

header_true : (ffs3 large : Bool) (bytes : List ℕ) → (not ffs3 && large) ≡ false → header_len bytes ≡ head_len large → head_len large ≤ length bytes → has_header ffs3 bytes ≡ true
unfolding has_header
header_true true true bytes a e h = rw e (grind (arith, nat_tests))
header_true true false bytes a e h = rw e (grind (arith, nat_tests))
header_true false true bytes a e h = absurd cc
header_true false false bytes a e h = rw e (grind (arith, nat_tests))

state_true : (erase : ℕ) (bytes : List ℕ) → header_check bytes ≡ header_sum (take (header_len bytes) bytes) → file_state bytes ≡ state_of erase → has_state erase bytes ≡ true
unfolding has_state
state_true erase bytes c s =
    let a : (header_check bytes == header_sum (take (header_len bytes) bytes)) ≡ true = eq-eqb (header_check bytes) (header_sum (take (header_len bytes) bytes)) c in
    let b : (file_state bytes == state_of erase) ≡ true = eq-eqb (file_state bytes) (state_of erase) s in
    rw (a, b) refl

size_true : (bytes : List ℕ) → header_len bytes ≤ stated_size bytes → stated_size bytes ≤ length bytes → has_size bytes ≡ true
unfolding has_size
size_true bytes a b = grind (arith, nat_tests)

check_true : (bytes : List ℕ) → file_check bytes ≡ (if file_attributes bytes / 64 % 2 == 1 then zero_byte (body_in bytes) else 0xAA) → has_check bytes ≡ true
unfolding has_check
check_true bytes e = eq-eqb (file_check bytes) (if file_attributes bytes / 64 % 2 == 1 then zero_byte (body_in bytes) else 0xAA) e

file_true : (ffs3 : Bool) (erase : ℕ) (bytes : List ℕ) → has_header ffs3 bytes ≡ true → has_state erase bytes ≡ true → has_size bytes ≡ true → has_check bytes ≡ true → is_file ffs3 erase bytes ≡ true
unfolding is_file
file_true ffs3 erase bytes a b c d = rw (a, b, c, d) refl

state_other : (erase : ℕ) → (state_of erase == free_byte erase) ≡ false
state_other erase = elim (erase == 0) as (λ b. ((if b then 7 else 255 - 7) == (if b then 0 else 255)) ≡ false) [ true ↦ refl | false ↦ refl ]

not_erased : (erase : ℕ) (bytes : List ℕ) → 24 ≤ length bytes → file_state bytes ≡ state_of erase → are_erased erase bytes ≡ false
unfolding are_erased file_state
not_erased erase bytes h s =
    let other : (get_or bytes 23 0 == free_byte erase) ≡ false = ap (λ z. z == free_byte erase) s ∙ state_other erase in
    list_all_at (λ b. b == free_byte erase) bytes 23 0 (omega arith) other

-- the attribute of large files changes no other
same_bit : (large : Bool) (a : ℕ) → a % 2 ≡ 0 → (a + (if large then 1 else 0)) / 64 % 2 ≡ a / 64 % 2
same_bit true a h = omega arith
same_bit false a h = omega arith

listed_is : (ffs3 : Bool) (place : ℕ) (bytes name : List ℕ) (kind size head : ℕ) (body : List ℕ) → file_name bytes ≡ name → file_type bytes ≡ kind → stated_size bytes ≡ size → header_len bytes ≡ head → body_in bytes ≡ body
    → listed_file ffs3 place bytes ≡ row_by ffs3 place name kind size head body
unfolding listed_file file_sections
listed_is ffs3 place bytes name kind size head body n k s a b = rw (n, k, s, a, b) refl

head_least : (large : Bool) → 24 ≤ head_len large
head_least true = let g : 24 ≤ 32 = omega arith in g
head_least false = let g : 24 ≤ 24 = omega arith in g

-- what is read of a file, whatever stands behind it
pub record Seen (ffs3 : Bool) (erase : ℕ) (large : Bool) (name : List ℕ) (head : Head) (body bytes : List ℕ) : Type 0 where
  pub file : is_file ffs3 erase bytes ≡ true
  pub size : stated_size bytes ≡ head.size
  pub used : are_erased erase bytes ≡ false
  pub listed : (place : ℕ) → listed_file ffs3 place bytes ≡ row_by ffs3 place name head.kind head.size (head_len large) body

body_is : (large : Bool) (name : List ℕ) (head : Head) (body rest : List ℕ) → length name ≡ 16 → head.size ≡ head_len large + length body
    → drop (head_len large) (take head.size ((file_head large name head ++ body) ++ rest)) ≡ body
body_is large name head body rest n s =
    let h : List ℕ = file_head large name head in
    let l : length h ≡ head_len large = length_head large name head n in
    let m : length (h ++ body) ≡ length h + length body = length-append h body in
    let e : head.size ≡ length (h ++ body) = omega arith in
    ap (λ k. drop (head_len large) (take k ((h ++ body) ++ rest))) e ∙ ap (drop (head_len large)) (take-append_seam (h ++ body) rest)
    ∙ ap (λ k. drop k (h ++ body)) (sym l) ∙ drop-append_seam h body

seen_of : (ffs3 large : Bool) (erase : ℕ) (name : List ℕ) (head : Head) (body rest : List ℕ) → Fits ffs3 large erase name head body
    → Seen ffs3 erase large name head body ((file_head large name head ++ body) ++ rest)
unfolding body_in
seen_of ffs3 large erase name head body rest f =
    let h : List ℕ = file_head large name head in
    let bytes : List ℕ = (h ++ body) ++ rest in
    let e : bytes ≡ h ++ (body ++ rest) = append_assoc h body rest in
    let n : length name ≡ 16 = f.long in
    let g : Fields large name head (h ++ (body ++ rest)) = fields_of large name head (body ++ rest) n in
    let at : header_len bytes ≡ head_len large = ap header_len e ∙ head_at_file large name head (body ++ rest) n f.even in
    let size : stated_size bytes ≡ head.size = ap stated_size e ∙ size_of large name head (body ++ rest) n (head_at_file large name head (body ++ rest) n f.even) f.small in
    let state : file_state bytes ≡ state_of erase = ap file_state e ∙ g.state ∙ f.state in
    let sum : header_check bytes ≡ header_sum (take (header_len bytes) bytes) = ap header_check e ∙ g.sum ∙ ap (λ z. header_sum (take (head_len large) z)) (sym e) ∙ ap (λ k. header_sum (take k bytes)) (sym at) in
    let attributes : file_attributes bytes / 64 % 2 ≡ head.attributes / 64 % 2 = ap (λ z. file_attributes z / 64 % 2) e ∙ ap (λ z. z / 64 % 2) g.attributes ∙ same_bit large head.attributes f.even in
    let body_at : body_in bytes ≡ body =
    ap (λ k. drop k (take (stated_size bytes) bytes)) at ∙ ap (λ k. drop (head_len large) (take k bytes)) size ∙ body_is large name head body rest n f.size in
    let check : file_check bytes ≡ (if file_attributes bytes / 64 % 2 == 1 then zero_byte (body_in bytes) else 0xAA) =
    ap file_check e ∙ g.check ∙ f.check ∙ ap (λ z. if head.attributes / 64 % 2 == 1 then zero_byte z else 0xAA) (sym body_at)
    ∙ ap (λ z. if z == 1 then zero_byte (body_in bytes) else 0xAA) (sym attributes) in
    let l : length h ≡ head_len large = length_head large name head n in
    let m : length (h ++ body) ≡ length h + length body = length-append h body in
    let o : length bytes ≡ length (h ++ body) + length rest = length-append (h ++ body) rest in
    let s : head.size ≡ head_len large + length body = f.size in
    let least : 24 ≤ head_len large = head_least large in
    record {
      file =
          file_true ffs3 erase bytes (header_true ffs3 large bytes f.allowed at (omega arith)) (state_true erase bytes sum state)
          (size_true bytes (omega arith) (omega arith)) (check_true bytes check);
      size = size;
      used = not_erased erase bytes (omega arith) state;
      listed = λ place. listed_is ffs3 place bytes name head.kind head.size (head_len large) body (ap file_name e ∙ g.named) (ap file_type e ∙ g.kind) size at body_at;
    }

pub row_of : (ffs3 large : Bool) (erase place : ℕ) (name : List ℕ) (head : Head) (body : List ℕ) → Fits ffs3 large erase name head body
    → IsRow ffs3 erase place (file_head large name head ++ body) (row_by ffs3 place name head.kind head.size (head_len large) body)
row_of ffs3 large erase place name head body f =
    let h : List ℕ = file_head large name head in
    let l : length h ≡ head_len large = length_head large name head f.long in
    let m : length (h ++ body) ≡ length h + length body = length-append h body in
    let s : head.size ≡ head_len large + length body = f.size in
    let least : 24 ≤ head_len large = head_least large in
    let e : head.size ≡ length (h ++ body) = omega arith in
    record {
      some = omega arith;
      file = λ rest. (seen_of ffs3 large erase name head body rest f).file;
      size = λ rest. (seen_of ffs3 large erase name head body rest f).size ∙ e;
      used = λ rest. (seen_of ffs3 large erase name head body rest f).used;
      listed = λ rest. (seen_of ffs3 large erase name head body rest f).listed place;
    }
