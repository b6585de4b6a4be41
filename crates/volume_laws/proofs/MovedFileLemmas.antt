-- A file whose modules are moved, byte by byte.
use Rattle.std.proofs.Common.{◌≡◌, ℕ, ◌+◌, ◌-◌, ◌<◌, ◌≤◌, Bool, true, false, if◌then◌else◌, List, [], ◌∷◌, ◌++◌, length, get_or, take, drop, slice_set, All, Some, Ok, refl, ap, sym, ◌∙◌, arith, subst, append_assoc, length-append, length-drop, length-set, drop-drop}
use Rattle.std.proofs.Math.Seq.{drop-append_seam, take-append_seam}
use Rattle.std.proofs.lemmas.List.{get_or-set_same, get_or_append_left, length-take-le}
use Rattle.std.proofs.lemmas.List.Elements.{All-nil, All-cons, All-weaker}
use Rattle.build_base.specs.First.{and_then, with_front}
use Rattle.build_base.specs.declared.fault.Place.{Place}
use Rattle.doc_types.specs.declared.image.FileImage.{FileImage}
use Rattle.ffs_sections.specs.Sums.{zero_byte}
use Rattle.ffs_sections.specs.File.{header_len}
use Rattle.volume_reader.specs.declared.listed.ListedSection.{ListedSection}
use Rattle.volume_reader.specs.Sections.{sections_of}
use Rattle.image_rebase.specs.Moves.{moved_content}
use Rattle.image_rebase.specs.Files.{has_module, content_length, content_in, moved_from, has_checksum, resummed_head, with_body, file_head, file_body, with_found, moved_sections, has_sections, moved_bytes, with_file_bytes, moved_file}
use Rattle.image_rebase.proofs.SameLemmas.{through, same_content}
use Rattle.image_rebase.proofs.BodyLemmas.{reached, Ordered, ordered_sections, ordered_end, fronted, same_file}
use Rattle.volume_laws.specs.MovedBytes.{IsMovedIn, IsMovedBody, IsMovedFile}
use Rattle.volume_laws.proofs.ModuleLemmas.{content_moved}
use Rattle.volume_laws.proofs.HeadLemmas.{head_long, nineteen_stays, head_same}
use Rattle.volume_laws.proofs.SectionsLemmas.{sections_same, outside_stays}

-- in what is left of a body from a place on, the content of a section is moved
record Stands (place : Place) (base address : ℕ) (body : List ℕ) (at : ℕ) (left : List ℕ) (section : ListedSection) : Type 0 where
  behind : at ≤ section.start
  moved : moved_content place base (address + section.start) section.kind (content_in body section) ≡ Ok (take (content_length section) (drop (section.start - at) left))

abbrev StandsIf : Place → ℕ → ℕ → List ℕ → ℕ → List ℕ → ListedSection → Type 0
StandsIf place base address body at left section = has_module section ≡ true → Stands place base address body at left section

-- the same behind more bytes
stands_behind : (place : Place) (base address : ℕ) (body : List ℕ) (at next : ℕ) (front left : List ℕ) (section : ListedSection) → at ≤ next → length front ≡ next - at
    → Stands place base address body next left section → Stands place base address body at (front ++ left) section
stands_behind place base address body at next front left section h l s =
    let b : next ≤ section.start = s.behind in
    let e : section.start - at ≡ length front + (section.start - next) = omega arith in
    let d : drop (section.start - at) (front ++ left) ≡ drop (section.start - next) left =
    ap (λ k. drop k (front ++ left)) (e ∙ omega arith) ∙ sym (drop-drop (section.start - next) (length front) (front ++ left)) ∙ ap (drop (section.start - next)) (drop-append_seam front left) in
    record { behind = omega arith; moved = s.moved ∙ ap (λ z. Ok (take (content_length section) z)) (sym d) }

part_long : (at count : ℕ) (body : List ℕ) → at + count ≤ length body → length (take count (drop at body)) ≡ count
part_long at count body h = let l : length (drop at body) ≡ length body - at = length-drop at body in length-take-le count (drop at body) (omega arith)

-- the content of the first section, between what stands before it and what is left
stands_here : (place : Place) (base address : ℕ) (body : List ℕ) (at : ℕ) (section : ListedSection) (new tail : List ℕ) → at ≤ section.start → section.start + content_length section ≤ length body
    → moved_content place base (address + section.start) section.kind (content_in body section) ≡ Ok new
    → Stands place base address body at ((take (section.start - at) (drop at body) ++ new) ++ tail) section
stands_here place base address body at section new tail h i e =
    let first : List ℕ = take (section.start - at) (drop at body) in
    let lf : length first ≡ section.start - at = part_long at (section.start - at) body (omega arith) in
    let lc : length (content_in body section) ≡ content_length section = part_long section.start (content_length section) body i in
    let ln : length new ≡ content_length section = (same_content place base (address + section.start) section.kind (content_in body section) new 0 e).size ∙ lc in
    let d : drop (section.start - at) ((first ++ new) ++ tail) ≡ new ++ tail =
    ap (drop (section.start - at)) (append_assoc first new tail) ∙ ap (λ k. drop k (first ++ (new ++ tail))) (sym lf) ∙ drop-append_seam first (new ++ tail) in
    let t : take (content_length section) (new ++ tail) ≡ new = ap (λ k. take k (new ++ tail)) (sym ln) ∙ take-append_seam new tail in
    record { behind = h; moved = e ∙ ap (λ z. Ok z) (sym (ap (take (content_length section)) d ∙ t)) }

stands_section : (held : Bool) (place : Place) (base address : ℕ) (body : List ℕ) (at : ℕ) (section : ListedSection) (sections : List ListedSection) (left : List ℕ) → has_module section ≡ held
    → (at ≤ reached held section.start at) × Ordered (length body) (reached held (section.start + content_length section) at) sections
    → ((next : ℕ) (tail : List ℕ) → Ordered (length body) next sections → moved_from place base address body next sections ≡ Ok tail → All (StandsIf place base address body next tail) sections)
    → (if held then
    and_then (moved_content place base (address + section.start) section.kind (content_in body section))
    (λ new. with_front (take (section.start - at) (drop at body) ++ new) (moved_from place base address body (section.start + content_length section) sections))
    else moved_from place base address body at sections) ≡ Ok left
    → All (StandsIf place base address body at left) (section ∷ sections)
stands_section true place base address body at section sections left m o more e =
    let next : ℕ = section.start + content_length section in
    let first : List ℕ = take (section.start - at) (drop at body) in
    let inside : next ≤ length body = ordered_end (length body) next sections o.1 in
    through (moved_content place base (address + section.start) section.kind (content_in body section))
    (λ new. with_front (first ++ new) (moved_from place base address body next sections)) left e
    (λ new a b.
    fronted (first ++ new) (moved_from place base address body next sections) left b
    (λ tail c j.
    let lf : length first ≡ section.start - at = part_long at (section.start - at) body (omega (arith, o.0)) in
    let lc : length (content_in body section) ≡ content_length section = part_long section.start (content_length section) body inside in
    let ln : length new ≡ content_length section = (same_content place base (address + section.start) section.kind (content_in body section) new 0 a).size ∙ lc in
    let l : length (first ++ new) ≡ next - at = length-append first new ∙ omega (arith, o.0) in
    subst (λ z. All (StandsIf place base address body at z) (section ∷ sections)) j
    (All-cons (StandsIf place base address body at ((first ++ new) ++ tail)) section sections
    (λ t. stands_here place base address body at section new tail o.0 inside a)
    (All-weaker (StandsIf place base address body next tail) (StandsIf place base address body at ((first ++ new) ++ tail))
    (λ s f t. stands_behind place base address body at next (first ++ new) tail s (omega (arith, o.0)) l (f t)) sections (more next tail o.1 c)))))
stands_section false place base address body at section sections left m o more e =
    All-cons (StandsIf place base address body at left) section sections (λ t. absurd cc) (more at left o.1 e)

stands_from : (place : Place) (base address : ℕ) (body : List ℕ) (at : ℕ) (sections : List ListedSection) (left : List ℕ) → Ordered (length body) at sections
    → moved_from place base address body at sections ≡ Ok left → All (StandsIf place base address body at left) sections
unfolding moved_from Ordered
stands_from place base address body at [] left o e = All-nil (StandsIf place base address body at left)
stands_from place base address body at (section ∷ sections) left o e =
    stands_section (has_module section) place base address body at section sections left refl o (λ next tail p q. stands_from place base address body next sections tail p q) e

-- Its checksum is that of its body.

sum_long : (head body : List ℕ) → length (resummed_head head body) ≡ length head
unfolding resummed_head
sum_long head body = elim (has_checksum head) as (λ b. length (if b then slice_set head 0x11 (zero_byte body) else head) ≡ length head) [ true ↦ length-set head 0x11 (zero_byte body) | false ↦ refl ]

sum_read : (head body : List ℕ) → has_checksum head ≡ true → 17 < length head → get_or (resummed_head head body) 17 0 ≡ zero_byte body
unfolding resummed_head
sum_read head body c h = ap (λ b. get_or (if b then slice_set head 0x11 (zero_byte body) else head) 17 0) c ∙ get_or-set_same head 17 (zero_byte body) 0 h

body_with : (place : Place) (base address : ℕ) (sections : List ListedSection) (bytes body moved : List ℕ) → header_len bytes ≤ length bytes → Ordered (length (file_body bytes)) 0 sections
    → header_len moved ≡ header_len bytes → moved_from place base address (file_body bytes) 0 sections ≡ Ok body → with_body (file_head bytes) body ≡ moved
    → IsMovedBody place address sections bytes moved
body_with place base address sections bytes body moved h o n e w =
    let head : List ℕ = file_head bytes in
    let sum : List ℕ = resummed_head head body in
    let lh : length head ≡ header_len bytes = length-take-le (header_len bytes) bytes h in
    let ls : length sum ≡ header_len bytes = sum_long head body ∙ lh in
    let long : 24 ≤ header_len bytes = head_long bytes in
    let b : file_body moved ≡ body = ap (λ k. drop k moved) (n ∙ sym ls) ∙ ap (drop (length sum)) (sym w) ∙ drop-append_seam sum body in
    record {
      contents =
          All-weaker (StandsIf place base address (file_body bytes) 0 body) (IsMovedIn place address (file_body bytes) (file_body moved))
          (λ section f t.
          let z : section.start - 0 ≡ section.start = omega arith in
          let c : take (content_length section) (drop (section.start - 0) body) ≡ content_in (file_body moved) section =
          ap (λ k. take (content_length section) (drop k body)) z ∙ ap (λ x. take (content_length section) (drop section.start x)) (sym b) in
          content_moved place base (address + section.start) section.kind (content_in (file_body bytes) section) (content_in (file_body moved) section) ((f t).moved ∙ ap (λ x. Ok x) c))
          sections (stands_from place base address (file_body bytes) 0 sections body o e);
      check = λ c.
          ap (λ z. get_or z 17 0) (sym w) ∙ get_or_append_left sum body 0 17 (omega arith) ∙ sum_read head body c (omega arith) ∙ ap zero_byte (sym b);
    }

body_moved : (ffs3 : Bool) (place : Place) (base address : ℕ) (bytes moved : List ℕ) (sections : List ListedSection) → moved_bytes ffs3 place base address bytes ≡ Ok moved → header_len bytes ≤ length bytes
    → has_sections bytes ≡ true → sections_of ffs3 0 (file_body bytes) ≡ Some sections → IsMovedBody place (address + header_len bytes) sections bytes moved
unfolding moved_bytes moved_sections
body_moved ffs3 place base address bytes moved sections e h s f =
    let n : header_len moved ≡ header_len bytes = head_same bytes moved ((same_file ffs3 place base address bytes moved 19 e).byte (nineteen_stays ffs3 place bytes) 0) in
    let a : with_found place base address bytes (Some sections) ≡ Ok moved =
    ap (with_found place base address bytes) (sym f) ∙ ap (λ b. if b then with_found place base address bytes (sections_of ffs3 0 (file_body bytes)) else Ok bytes) (sym s) ∙ e in
    through (moved_from place base (address + header_len bytes) (file_body bytes) 0 sections) (λ body. Ok (with_body (file_head bytes) body)) moved a
    (λ body b c.
    let w : with_body (file_head bytes) body ≡ moved = cc in
    body_with place base (address + header_len bytes) sections bytes body moved h (ordered_sections ffs3 (file_body bytes) sections f) n b w)

pub file_moved : (ffs3 : Bool) (base start : ℕ) (file moved : FileImage) → moved_file ffs3 base start file ≡ Ok moved → IsMovedFile ffs3 base start file moved
unfolding moved_file
file_moved ffs3 base start file moved e =
    through (moved_bytes ffs3 file.at base (base + start) file.bytes) (λ bytes. Ok (with_file_bytes file bytes)) moved e
    (λ bytes a b.
    let s : with_file_bytes file bytes ≡ moved = cc in
    subst (IsMovedFile ffs3 base start file) s
    (record {
      at = refl;
      guid = refl;
      align = refl;
      size = (same_file ffs3 file.at base (base + start) file.bytes bytes 0 a).size;
      outside = λ k d o. (same_file ffs3 file.at base (base + start) file.bytes bytes k a).byte (outside_stays ffs3 file.at file.bytes k o) d;
      byte = λ k d h. (same_file ffs3 file.at base (base + start) file.bytes bytes k a).byte h d;
      lists = λ place. sections_same ffs3 file.at base (base + start) file.bytes bytes place a;
      body = λ sections h t f. body_moved ffs3 file.at base (base + start) file.bytes bytes sections a h t f;
    }))
