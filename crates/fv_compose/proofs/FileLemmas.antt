-- The files of a volume, one after another.
use Rattle.std.proofs.Common.{◌≡◌, ℕ, Bool, ◌+◌, ◌-◌, ◌%◌, ◌<◌, ◌≤◌, ◌⊎◌, List, [], ◌∷◌, ◌++◌, length, get_or, drop, None, Some, not, cond, if◌then◌else◌, refl, ap, sym, ◌∙◌, arith, ◌==◌, true, false, subst, inl, inr, eq-eqb, append_assoc}
use Rattle.std.proofs.lemmas.List.{drop_more, drop_all}
use Rattle.std.proofs.lemmas.List.Elements.{All-tail, All-drop, All-filter}
use Rattle.std.proofs.lemmas.Bool.{cases_eq, ne_eqb}
use Rattle.build_base.specs.First.{or_else}
use Rattle.build_base.specs.Pieces.{Piece, piece_end, put_pieces}
use Rattle.build_base.proofs.PieceLemmas.{Laid, Laid-one, length_put, put_two, put_pieces-append}
use Rattle.doc_types.specs.declared.image.FileImage.{FileImage}
use Rattle.ffs_sections.specs.Alignment.{IsAlignment}
use Rattle.ffs_sections.specs.File.{header_len}
use Rattle.fv_compose.specs.Place.{IsHead, align_up}
use Rattle.fv_compose.specs.Files.{is_top, top_of, plain_files, end_of, file_start, file_end, pad_fault, pads_fault, AreAligned, placed_pieces, files_pieces, top_start, bytes_in, top_bytes}
use Rattle.fv_compose.specs.Pads.{pad_bytes}
use Rattle.fv_compose.proofs.PadLemmas.{length_pad}
use Rattle.build_base.specs.Runs.{free_byte}
use Rattle.fv_compose.specs.Turns.{next_end, own_pad_fault, own_pieces, own_bytes}
use Rattle.fv_compose.specs.Volume.{holds, taken_by}
use Rattle.fv_compose.proofs.PlaceLemmas.{Known, known_alignment, start_near, start_is, up_after}
use Rattle.fv_compose.proofs.LengthLemmas.{holds_room, holds_space}

-- a turn: the file among the others, unless it is the top file
plain_more : (files : List FileImage) (i : ℕ) (file : FileImage) → i < length files → file ≡ get_or files i file
    → plain_files (drop i files) ≡ (if is_top file then plain_files (drop (i + 1) files) else file ∷ plain_files (drop (i + 1) files))
unfolding plain_files
plain_more files i file h e =
    rw (drop_more files i file h, ← e)
    (elim (is_top file) as (λ b. cond (not b) (file ∷ plain_files (drop (i + 1) files)) (plain_files (drop (i + 1) files)) ≡ (if b then plain_files (drop (i + 1) files) else file ∷ plain_files (drop (i + 1) files))) [
      | true ↦ refl
      | false ↦ refl
    ])

pub plain_all : (files : List FileImage) (i : ℕ) → length files ≤ i → plain_files (drop i files) ≡ []
unfolding plain_files
plain_all files i h = rw (drop_all i files h) refl

pub end_more : (at : ℕ) (files : List FileImage) (i : ℕ) (file : FileImage) → i < length files → file ≡ get_or files i file → end_of at (plain_files (drop i files)) ≡ end_of (next_end at file) (plain_files (drop (i + 1) files))
unfolding end_of
end_more at files i file h e =
    let rest : List FileImage = plain_files (drop (i + 1) files) in
    rw (plain_more files i file h e)
    (elim (is_top file) as (λ b. end_of at (if b then rest else file ∷ rest) ≡ end_of (if b then at else file_end at file) rest) [ true ↦ refl | false ↦ refl ])

pub end_all : (at : ℕ) (files : List FileImage) (i : ℕ) → length files ≤ i → end_of at (plain_files (drop i files)) ≡ at
unfolding end_of
end_all at files i h = rw (plain_all files i h) refl

pub pads_more : (ffs3 : Bool) (at : ℕ) (files : List FileImage) (i : ℕ) (file : FileImage) → i < length files → file ≡ get_or files i file
    → pads_fault ffs3 at (plain_files (drop i files)) ≡ or_else (own_pad_fault ffs3 at file) (pads_fault ffs3 (next_end at file) (plain_files (drop (i + 1) files)))
unfolding pads_fault
pads_more ffs3 at files i file h e =
    let rest : List FileImage = plain_files (drop (i + 1) files) in
    rw (plain_more files i file h e)
    (elim (is_top file) as (λ b. pads_fault ffs3 at (if b then rest else file ∷ rest) ≡ or_else (if b then None else pad_fault ffs3 at (file_start at file) file) (pads_fault ffs3 (if b then at else file_end at file) rest)) [
      | true ↦ refl
      | false ↦ refl
    ])

pub pads_all : (ffs3 : Bool) (at : ℕ) (files : List FileImage) (i : ℕ) → length files ≤ i → pads_fault ffs3 at (plain_files (drop i files)) ≡ None
unfolding pads_fault
pads_all ffs3 at files i h = rw (plain_all files i h) refl

pieces_more : (erase at : ℕ) (files : List FileImage) (i : ℕ) (file : FileImage) → i < length files → file ≡ get_or files i file
    → files_pieces erase at (plain_files (drop i files)) ≡ own_pieces erase at file ++ files_pieces erase (next_end at file) (plain_files (drop (i + 1) files))
unfolding files_pieces
pieces_more erase at files i file h e =
    let rest : List FileImage = plain_files (drop (i + 1) files) in
    rw (plain_more files i file h e)
    (elim (is_top file) as (λ b. files_pieces erase at (if b then rest else file ∷ rest) ≡ (if b then [] else placed_pieces erase at (file_start at file) file.bytes) ++ files_pieces erase (if b then at else file_end at file) rest) [
      | true ↦ refl
      | false ↦ refl
    ])

pieces_all : (erase at : ℕ) (files : List FileImage) (i : ℕ) → length files ≤ i → files_pieces erase at (plain_files (drop i files)) ≡ []
unfolding files_pieces
pieces_all erase at files i h = rw (plain_all files i h) refl

pub aligned_plain : (files : List FileImage) → AreAligned files → AreAligned (plain_files files)
unfolding plain_files AreAligned
aligned_plain files a = All-filter (λ file. not (is_top file)) (λ file. IsAlignment file.align) files a

pub alignment_at : (files : List FileImage) (i : ℕ) (file : FileImage) → AreAligned files → i < length files → file ≡ get_or files i file → IsAlignment file.align
unfolding AreAligned
alignment_at files i file a h e = let P : FileImage → Type 0 = λ f. IsAlignment f.align in subst P (sym e) (a i file h)

pub end_after : (at : ℕ) (files : List FileImage) → AreAligned files → at ≤ end_of at files
unfolding end_of AreAligned
end_after at [] a = omega arith
end_after at (file ∷ files) a =
    let k : Known file.align = known_alignment file.align (a 0 file (omega arith)) in
    let near = start_near at file.align (header_len file.bytes) k in
    let first : at ≤ align_up 8 at = up_after 8 at (omega arith) in
    let more : file_end at file ≤ end_of (file_end at file) files = end_after (file_end at file) files (All-tail (λ f. IsAlignment f.align) file files a) in
    omega arith

pub end_left : (at : ℕ) (files : List FileImage) (i : ℕ) → AreAligned files → at ≤ end_of at (plain_files (drop i files))
unfolding AreAligned
end_left at files i a = end_after at (plain_files (drop i files)) (aligned_plain (drop i files) (All-drop (λ f. IsAlignment f.align) i files a))

-- a start that leaves no space, or that of a pad file
abbrev pub Spaced : ℕ → ℕ → Type 0
Spaced at start = (start ≡ align_up 8 at) ⊎ (align_up 8 at + 24 ≤ start)

-- where the pieces of a file at its start end
pub length_placed : (free erase : ℕ) (out : List ℕ) (start : ℕ) (bytes : List ℕ) → Spaced (length out) start → length (put_pieces free out (placed_pieces erase (length out) start bytes)) ≡ start + length bytes
unfolding placed_pieces
length_placed free erase out start bytes s =
    let at : ℕ = length out in
    let first : at ≤ align_up 8 at = up_after 8 at (omega arith) in
    let p : Piece = record { start = start; bytes = bytes } in
    elim (cases_eq start (align_up 8 at)) [
      | inl e ↦ let t : (start == align_up 8 at) ≡ true = eq-eqb start (align_up 8 at) e in rw t (length_put free out p (omega arith))
      | inr n ↦
          let t : (start == align_up 8 at) ≡ false = ne_eqb start (align_up 8 at) n in
          let room : align_up 8 at + 24 ≤ start = elim s [ inl e ↦ absurd (n e) | inr h ↦ h ] in
          let q : Piece = record { start = align_up 8 at; bytes = pad_bytes erase (start - align_up 8 at) } in
          let l : length (pad_bytes erase (start - align_up 8 at)) ≡ start - align_up 8 at = length_pad erase (start - align_up 8 at) (omega arith) in
          let one : length (put_pieces free out (q ∷ [])) ≡ start = length_put free out q first ∙ omega arith in
          rw (t, put_two free out q p) (length_put free (put_pieces free out (q ∷ [])) p (omega arith))
    ]

-- they lie behind one another
pub laid_placed : (erase at size start : ℕ) (bytes : List ℕ) (ps : List Piece) → Spaced at start → Laid (start + length bytes) size ps → Laid at size (placed_pieces erase at start bytes ++ ps)
unfolding placed_pieces
laid_placed erase at size start bytes ps s rest =
    let first : at ≤ align_up 8 at = up_after 8 at (omega arith) in
    let p : Piece = record { start = start; bytes = bytes } in
    elim (cases_eq start (align_up 8 at)) [
      | inl e ↦ let t : (start == align_up 8 at) ≡ true = eq-eqb start (align_up 8 at) e in rw t (Laid-one at size p ps (omega arith) rest)
      | inr n ↦
          let t : (start == align_up 8 at) ≡ false = ne_eqb start (align_up 8 at) n in
          let room : align_up 8 at + 24 ≤ start = elim s [ inl e ↦ absurd (n e) | inr m ↦ m ] in
          let q : Piece = record { start = align_up 8 at; bytes = pad_bytes erase (start - align_up 8 at) } in
          let l : length (pad_bytes erase (start - align_up 8 at)) ≡ start - align_up 8 at = length_pad erase (start - align_up 8 at) (omega arith) in
          rw t (Laid-one at size q (p ∷ ps) first (Laid-one (piece_end q) size p ps (omega arith) rest))
    ]

head_either : (b : Bool) → IsHead (if b then 32 else 24)
head_either true = inr refl
head_either false = inl refl

pub is_head : (bytes : List ℕ) → IsHead (header_len bytes)
unfolding header_len
is_head bytes = head_either (get_or bytes 19 0 % 2 == 1)

pub spaced_start : (at : ℕ) (file : FileImage) → IsAlignment file.align → Spaced at (file_start at file)
spaced_start at file a = (start_is at file.align (header_len file.bytes) (known_alignment file.align a) (is_head file.bytes)).pad

pub laid_files : (erase at size : ℕ) (files : List FileImage) (ps : List Piece) → AreAligned files → Laid (end_of at files) size ps → Laid at size (files_pieces erase at files ++ ps)
unfolding end_of files_pieces AreAligned
laid_files erase at size [] ps a rest = rest
laid_files erase at size (file ∷ files) ps a rest =
    let more : Laid (file_end at file) size (files_pieces erase (file_end at file) files ++ ps) = laid_files erase (file_end at file) size files ps (All-tail (λ f. IsAlignment f.align) file files a) rest in
    rw append_assoc (laid_placed erase at size (file_start at file) file.bytes (files_pieces erase (file_end at file) files ++ ps) (spaced_start at file (a 0 file (omega arith))) more)

-- what stands so far and the files that are left are the whole
pub record Filed (whole : List ℕ) (last erase : ℕ) (out : List ℕ) (rest : List FileImage) : Type 0 where
  pub items : whole ≡ put_pieces (free_byte erase) out (files_pieces erase (length out) rest)
  pub last_is : last ≡ end_of (length out) rest

pub length_own : (free erase : ℕ) (out : List ℕ) (file : FileImage) → IsAlignment file.align → length (put_pieces free out (own_pieces erase (length out) file)) ≡ next_end (length out) file
unfolding put_pieces
length_own free erase out file a =
    elim (is_top file) as (λ b. length (put_pieces free out (if b then [] else placed_pieces erase (length out) (file_start (length out) file) file.bytes)) ≡ (if b then length out else file_end (length out) file)) [
      | true ↦ refl
      | false ↦ length_placed free erase out (file_start (length out) file) file.bytes (spaced_start (length out) file a)
    ]

pub filed_more : (whole : List ℕ) (last erase : ℕ) (out next : List ℕ) (files : List FileImage) (i : ℕ) (file : FileImage) → Filed whole last erase out (plain_files (drop i files)) → IsAlignment file.align → i < length files → file ≡ get_or files i file
    → next ≡ put_pieces (free_byte erase) out (own_pieces erase (length out) file) → Filed whole last erase next (plain_files (drop (i + 1) files))
filed_more whole last erase out next files i file s a h e n =
    let l : length next ≡ next_end (length out) file = ap length n ∙ length_own (free_byte erase) erase out file a in
    record {
      items =
          rw (l, n)
          (s.items ∙ ap (λ z. put_pieces (free_byte erase) out z) (pieces_more erase (length out) files i file h e)
          ∙ put_pieces-append (free_byte erase) out (own_pieces erase (length out) file) (files_pieces erase (next_end (length out) file) (plain_files (drop (i + 1) files))));
      last_is = rw l (s.last_is ∙ end_more (length out) files i file h e);
    }

pub filed_end : (whole : List ℕ) (last erase : ℕ) (out : List ℕ) (files : List FileImage) (i : ℕ) → Filed whole last erase out (plain_files (drop i files)) → length files ≤ i → (out ≡ whole) × (length out ≡ last)
unfolding put_pieces
filed_end whole last erase out files i s h =
    (sym (s.items ∙ ap (λ z. put_pieces (free_byte erase) out z) (pieces_all erase (length out) files i h)), sym (s.last_is ∙ end_all (length out) files i h))

-- the start of a top file in a length that holds it
pub top_spaced : (at : ℕ) (file : FileImage) (size : ℕ) → holds true (taken_by at (Some file)) size ≡ true → (align_up 8 at ≤ top_start file size) × Spaced at (top_start file size)
top_spaced at file size h =
    let room : align_up 8 at + length file.bytes ≤ size = holds_room true (align_up 8 at + length file.bytes) size h in
    (omega arith, elim (holds_space (align_up 8 at + length file.bytes) size h) [ inl e ↦ inl (omega arith) | inr m ↦ inr (omega arith) ])

pub top_low : (at : ℕ) (file : FileImage) (size : ℕ) → holds true (taken_by at (Some file)) size ≡ true → at ≤ size
top_low at file size h =
    let room : align_up 8 at + length file.bytes ≤ size = holds_room true (align_up 8 at + length file.bytes) size h in
    omega (arith, up_after 8 at (omega arith))

-- the first top file, by turns
pub top_here : (files : List FileImage) (i : ℕ) (file : FileImage) → i < length files → file ≡ get_or files i file → is_top file ≡ true → top_of (drop i files) ≡ Some file
top_here files i file h e t = rw (drop_more files i file h, ← e, t) refl

pub top_later : (files : List FileImage) (i : ℕ) (file : FileImage) → i < length files → file ≡ get_or files i file → is_top file ≡ false → top_of (drop i files) ≡ top_of (drop (i + 1) files)
top_later files i file h e t = rw (drop_more files i file h, ← e, t) refl

pub top_none : (files : List FileImage) (i : ℕ) → length files ≤ i → top_of (drop i files) ≡ None
top_none files i h = rw (drop_all i files h) refl

-- what a turn writes
pub own_none : (free erase : ℕ) (out : List ℕ) (file : FileImage) → is_top file ≡ true → put_pieces free out (own_pieces erase (length out) file) ≡ out
unfolding put_pieces
own_none free erase out file t = rw t refl

-- a top file ends at the volume's end
pub length_top : (free erase : ℕ) (out next : List ℕ) (file : FileImage) (size : ℕ) → holds true (taken_by (length out) (Some file)) size ≡ true
    → next ≡ put_pieces free out (placed_pieces erase (length out) (top_start file size) file.bytes) → length next ≡ size
length_top free erase out next file size h e =
    let room = holds_room true (taken_by (length out) (Some file)) size h in
    let l = length_placed free erase out (top_start file size) file.bytes (top_spaced (length out) file size h).1 in
    omega (arith, ap length e)

pub bytes_more : (files : List FileImage) (i : ℕ) (file : FileImage) → i < length files → file ≡ get_or files i file → bytes_in (plain_files (drop i files)) ≡ own_bytes file + bytes_in (plain_files (drop (i + 1) files))
unfolding bytes_in
bytes_more files i file h e =
    let rest : List FileImage = plain_files (drop (i + 1) files) in
    rw (plain_more files i file h e)
    (elim (is_top file) as (λ b. bytes_in (if b then rest else file ∷ rest) ≡ (if b then 0 else length file.bytes) + bytes_in rest) [ true ↦ omega arith | false ↦ refl ])

-- the files but the first top file, and the top file, have no more bytes than all
pub bytes_with_top : (files : List FileImage) → bytes_in (plain_files files) + top_bytes (top_of files) ≤ bytes_in files
unfolding bytes_in plain_files
bytes_with_top [] = omega arith
bytes_with_top (file ∷ files) =
    let ih : bytes_in (plain_files files) + top_bytes (top_of files) ≤ bytes_in files = bytes_with_top files in
    elim (is_top file) as (λ b. bytes_in (cond (not b) (file ∷ plain_files files) (plain_files files)) + top_bytes (cond b (Some file) (top_of files)) ≤ length file.bytes + bytes_in files) [
      | true ↦ omega arith
      | false ↦ omega arith
    ]
