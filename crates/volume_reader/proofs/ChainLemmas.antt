-- The files of a volume that is written stand one behind the other, with pad files between them.
use Rattle.std.proofs.Common.{◌≡◌, ℕ, ◌+◌, ◌-◌, ◌%◌, ◌^◌, ◌<◌, ◌≤◌, ◌==◌, ◌&&◌, Bool, true, false, not, cond, if◌then◌else◌, List, [], ◌∷◌, ◌++◌, length, replicate, Option, Some, None, is_some, IfSome, refl, ap, sym, ◌∙◌, arith, length-append, append_assoc, append-nil, inl, inr, subst, All, eq-eqb}
use Rattle.std.specs.Option.{option_map}
use Rattle.std.proofs.lemmas.Bool.{cases_eq, ne_eqb}
use Rattle.std.proofs.lemmas.Bool.Decides.{nat_tests}
use Rattle.std.proofs.lemmas.List.{length-replicate}
use Rattle.std.proofs.lemmas.List.Elements.{All-head, All-tail}
use Rattle.build_base.specs.First.{or_else}
use Rattle.build_base.specs.Pieces.{Piece, piece_end}
use Rattle.build_base.specs.Runs.{free_byte}
use Rattle.build_base.specs.declared.guid.Guid.{Guid}
use Rattle.doc_types.specs.declared.image.FileImage.{FileImage}
use Rattle.doc_types.specs.declared.volume_head.VolumeHead.{VolumeHead}
use Rattle.ffs_sections.specs.File.{file_head, head_len, header_len}
use Rattle.ffs_sections.proofs.HeadLemmas.{length_head}
use Rattle.fv_compose.specs.Place.{align_up, IsStart}
use Rattle.fv_compose.specs.Pads.{is_large_pad, pad_bytes}
use Rattle.fv_compose.specs.Header.{extended_bytes, extended_pieces, header_end}
use Rattle.fv_compose.specs.Files.{is_top, top_of, plain_files, placed_pieces, files_pieces, file_start, file_end, end_of, top_start, top_pieces, pad_fault, pads_fault, top_pad_fault}
use Rattle.fv_compose.specs.Volume.{holds, taken_by, start_fault, top_fault}
use Rattle.fv_compose.proofs.PlaceLemmas.{start_is, known_alignment}
use Rattle.fv_compose.proofs.HeaderLemmas.{extended_length}
use Rattle.fv_compose.proofs.LengthLemmas.{holds_room}
use Rattle.fv_compose.proofs.FileLemmas.{Spaced, is_head, top_spaced}
use Rattle.volume_reader.specs.declared.listed.Listed.{Listed}
use Rattle.volume_reader.specs.Written.{Made, files_of, IsMade, made_row, pad_row, placed_rows, files_rows, extended_rows, plain_made, top_made, top_rows}
use Rattle.volume_reader.proofs.MadeLemmas.{pad_is_row, pad_room, pad_head, extended_is_row, made_is_row, made_aligned}
use Rattle.volume_reader.proofs.WalkLemmas.{IsRow, Chain, chain_none, chain_one, chain_within}

pub no_fault : {T : Type 0} (b : Bool) (x : T) → (if b then Some x else None) ≡ None → b ≡ false
no_fault true x e = absurd cc
no_fault false x e = refl

pub both_none : {T : Type 0} (a b : Option T) → or_else a b ≡ None → (a ≡ None) × (b ≡ None)
both_none None b e = (refl, e)
both_none (Some x) b e = absurd cc

up_same : (at : ℕ) → at % 8 ≡ 0 → align_up 8 at ≡ at
unfolding align_up
up_same at h = omega arith

pad_allowed : (ffs3 : Bool) (at start : ℕ) (file : FileImage) → pad_fault ffs3 at start file ≡ None → (not ffs3 && is_large_pad (start - align_up 8 at)) ≡ false
unfolding pad_fault
pad_allowed ffs3 at start file e = no_fault (not ffs3 && is_large_pad (start - align_up 8 at)) _ e

pad_length : (erase size : ℕ) → 24 ≤ size → length (pad_bytes erase size) ≡ size
unfolding pad_bytes
pad_length erase size h =
    let large : Bool = is_large_pad size in
    let r : head_len large ≤ size = pad_room size h in
    let f : List ℕ = file_head large (replicate 16 0xFF) (pad_head erase size) in
    let body : List ℕ = replicate (size - head_len large) (free_byte erase) in
    let a : length f ≡ head_len large = length_head large (replicate 16 0xFF) (pad_head erase size) refl in
    let b : length body ≡ size - head_len large = length-replicate (size - head_len large) (free_byte erase) in
    let l : length (f ++ body) ≡ length f + length body = length-append f body in
    l ∙ omega arith

-- what the image of a volume is read by: the erase polarity of its files and the one that is read tell the same, and its length has its bounds
pub record Reading (head : VolumeHead) (polarity size : ℕ) : Type 0 where
  pub same : (head.erase == 0) ≡ (polarity == 0)
  pub small : size < 2 ^ 64

pub chain_placed : (head : VolumeHead) (polarity size last at start : ℕ) (made : Made) (ps : List Piece) (rs : List Listed) → Reading head polarity size → IsMade head made → Spaced at start → start % 8 ≡ 0
    → pad_fault head.ffs3 at start made.file ≡ None → Chain head.ffs3 polarity size last (start + length made.file.bytes) ps rs
    → Chain head.ffs3 polarity size last at (placed_pieces head.erase at start made.file.bytes ++ ps) (placed_rows head.ffs3 at start made ++ rs)
unfolding placed_pieces placed_rows
chain_placed head polarity size last at start made ps rs r m s w f rest =
    let p : Piece = record { start = start; bytes = made.file.bytes } in
    let row : IsRow head.ffs3 polarity start made.file.bytes (made_row head.ffs3 start made) = made_is_row head made polarity start m r.same in
    elim (cases_eq start (align_up 8 at)) [
      | inl e ↦ let t : (start == align_up 8 at) ≡ true = eq-eqb start (align_up 8 at) e in rw t (chain_one head.ffs3 polarity size last at p ps (made_row head.ffs3 start made) rs e row rest)
      | inr n ↦
          let t : (start == align_up 8 at) ≡ false = ne_eqb start (align_up 8 at) n in
          let room : align_up 8 at + 24 ≤ start = elim s [ inl e ↦ absurd (n e) | inr h ↦ h ] in
          let gap : ℕ = start - align_up 8 at in
          let q : Piece = record { start = align_up 8 at; bytes = pad_bytes head.erase gap } in
          let within : start + length made.file.bytes ≤ size = chain_within head.ffs3 polarity size last (start + length made.file.bytes) ps rs rest in
          let small : size < 2 ^ 64 = r.small in
          let l : length (pad_bytes head.erase gap) ≡ gap = pad_length head.erase gap (omega arith) in
          let e : piece_end q ≡ start = omega arith in
          let pad : IsRow head.ffs3 polarity (align_up 8 at) (pad_bytes head.erase gap) (pad_row (align_up 8 at) gap) =
          pad_is_row head.ffs3 head.erase polarity (align_up 8 at) gap r.same (omega arith) (omega arith) (pad_allowed head.ffs3 at start made.file f) in
          let next : start ≡ align_up 8 (piece_end q) = sym (ap (λ z. align_up 8 z) e ∙ up_same start w) in
          rw t
          (chain_one head.ffs3 polarity size last at q (p ∷ ps) (pad_row (align_up 8 at) gap) (made_row head.ffs3 start made ∷ rs) refl pad
          (chain_one head.ffs3 polarity size last (piece_end q) p ps (made_row head.ffs3 start made) rs next row rest))
    ]

pub chain_files : (head : VolumeHead) (polarity size last at : ℕ) (made : List Made) (ps : List Piece) (rs : List Listed) → Reading head polarity size → All (IsMade head) made
    → pads_fault head.ffs3 at (files_of made) ≡ None → Chain head.ffs3 polarity size last (end_of at (files_of made)) ps rs
    → Chain head.ffs3 polarity size last at (files_pieces head.erase at (files_of made) ++ ps) (files_rows head.ffs3 at made ++ rs)
unfolding files_pieces files_rows end_of pads_fault
chain_files head polarity size last at [] ps rs r a f rest = rest
chain_files head polarity size last at (m ∷ made) ps rs r a f rest =
    let one : IsMade head m = All-head (IsMade head) m made a in
    let start : ℕ = file_start at m.file in
    let faults = both_none (pad_fault head.ffs3 at start m.file) (pads_fault head.ffs3 (file_end at m.file) (files_of made)) f in
    let s : IsStart at m.file.align (header_len m.file.bytes) start = start_is at m.file.align (header_len m.file.bytes) (known_alignment m.file.align (made_aligned head m one)) (is_head m.file.bytes) in
    let more : Chain head.ffs3 polarity size last (file_end at m.file) (files_pieces head.erase (file_end at m.file) (files_of made) ++ ps) (files_rows head.ffs3 (file_end at m.file) made ++ rs) =
    chain_files head polarity size last (file_end at m.file) made ps rs r (All-tail (IsMade head) m made a) faults.1 rest in
    let first : List Piece = placed_pieces head.erase at start m.file.bytes in
    let others : List Piece = files_pieces head.erase (file_end at m.file) (files_of made) in
    let row : List Listed = placed_rows head.ffs3 at start m in
    let rows : List Listed = files_rows head.ffs3 (file_end at m.file) made in
    let whole : Chain head.ffs3 polarity size last at (first ++ (others ++ ps)) (row ++ (rows ++ rs)) =
    chain_placed head polarity size last at start m (others ++ ps) (rows ++ rs) r one s.pad s.eight faults.0 more in
    let half : Chain head.ffs3 polarity size last at ((first ++ others) ++ ps) (row ++ (rows ++ rs)) =
    subst (λ z. Chain head.ffs3 polarity size last at z (row ++ (rows ++ rs))) (sym (append_assoc first others ps)) whole in
    subst (λ z. Chain head.ffs3 polarity size last at ((first ++ others) ++ ps) z) (sym (append_assoc row rows rs)) half

-- where the last file ends
abbrev pub last_of : ℕ → ℕ → Option Made → ℕ
last_of at size None = at
last_of at size (Some made) = size

abbrev pub top_file : Option Made → Option FileImage
top_file top = option_map (λ one. one.file) top

start_even : (head : VolumeHead) (start : ℕ) (file : FileImage) → start_fault head start file ≡ None → start % 8 ≡ 0
start_even head start file e =
    let n : not (start % 8 == 0 && (start + header_len file.bytes) % file.align == 0) ≡ false = no_fault (not (start % 8 == 0 && (start + header_len file.bytes) % file.align == 0)) _ e in
    grind (arith, nat_tests)

pub chain_top : (head : VolumeHead) (polarity size at : ℕ) (top : Option Made) → Reading head polarity size → IfSome top (IsMade head) → holds (is_some (top_file top)) (taken_by at (top_file top)) size ≡ true
    → top_fault head (top_file top) size ≡ None → top_pad_fault head.ffs3 at (top_file top) size ≡ None
    → Chain head.ffs3 polarity size (last_of at size top) at (top_pieces head.erase at (top_file top) size) (top_rows head.ffs3 at size top)
chain_top head polarity size at None r m h f g = chain_none head.ffs3 polarity size at at refl (holds_room false at size h)
chain_top head polarity size at (Some made) r m h f g =
    let start : ℕ = top_start made.file size in
    let s = top_spaced at made.file size h in
    let room = holds_room true (taken_by at (Some made.file)) size h in
    let last : Chain head.ffs3 polarity size size (start + length made.file.bytes) [] [] = chain_none head.ffs3 polarity size size (start + length made.file.bytes) (omega arith) (omega arith) in
    let ps : List Piece = placed_pieces head.erase at start made.file.bytes in
    let rs : List Listed = placed_rows head.ffs3 at start made in
    let whole : Chain head.ffs3 polarity size size at (ps ++ []) (rs ++ []) = chain_placed head polarity size size at start made [] [] r m s.1 (start_even head start made.file f) g last in
    subst (λ z. Chain head.ffs3 polarity size size at ps z) (append-nil rs) (subst (λ z. Chain head.ffs3 polarity size size at z (rs ++ [])) (append-nil ps) whole)

pub chain_extended : (head : VolumeHead) (polarity size last : ℕ) (name : Option Guid) (ps : List Piece) (rs : List Listed) → Reading head polarity size → IfSome name (λ guid. length guid.0 ≡ 16)
    → Chain head.ffs3 polarity size last (header_end name) ps rs → Chain head.ffs3 polarity size last 0x48 (extended_pieces head.erase name ++ ps) (extended_rows name ++ rs)
unfolding align_up
chain_extended head polarity size last None ps rs r n rest = rest
chain_extended head polarity size last (Some name) ps rs r n rest =
    let p : Piece = record { start = 0x48; bytes = extended_bytes head.erase name.0 } in
    let l : length (extended_bytes head.erase name.0) ≡ length name.0 + 28 = extended_length head.erase name.0 in
    let e : 116 ≡ piece_end p = omega (arith, n) in
    let more : Chain head.ffs3 polarity size last (piece_end p) ps rs = subst (λ z. Chain head.ffs3 polarity size last z ps rs) e rest in
    chain_one head.ffs3 polarity size last 0x48 p ps (pad_row 0x48 0x2C) rs refl (extended_is_row head.ffs3 head.erase polarity 0x48 name.0 r.same n) more

-- the files but the top file, and the top file
plain_turn : (b : Bool) (m : Made) (files : List FileImage) (made : List Made) → files ≡ files_of made
    → cond (not b) (m.file ∷ files) files ≡ files_of (cond (not b) (m ∷ made) made)
plain_turn true m files made e = e
plain_turn false m files made e = ap (λ z. m.file ∷ z) e

pub plain_is : (made : List Made) → plain_files (files_of made) ≡ files_of (plain_made made)
unfolding plain_files plain_made
plain_is [] = refl
plain_is (m ∷ made) = plain_turn (is_top m.file) m (plain_files (files_of made)) (plain_made made) (plain_is made)

top_turn : (b : Bool) (m : Made) (file : Option FileImage) (made : Option Made) → file ≡ top_file made → cond b (Some m.file) file ≡ top_file (cond b (Some m) made)
top_turn true m file made e = refl
top_turn false m file made e = e

pub top_is : (made : List Made) → top_of (files_of made) ≡ top_file (top_made made)
top_is [] = refl
top_is (m ∷ made) = top_turn (is_top m.file) m (top_of (files_of made)) (top_made made) (top_is made)

-- the top file is one of the files
top_any : (P : Made → Type 0) (b : Bool) (m : Made) (made : Option Made) → P m → IfSome made P → IfSome (cond b (Some m) made) P
top_any P true m made p q = p
top_any P false m made p q = q

pub top_among : (P : Made → Type 0) (made : List Made) → All P made → IfSome (top_made made) P
top_among P [] a = tt
top_among P (m ∷ made) a = top_any P (is_top m.file) m (top_made made) (All-head P m made a) (top_among P made (All-tail P m made a))
