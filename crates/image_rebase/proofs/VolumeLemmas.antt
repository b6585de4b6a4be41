-- A byte of a volume that no move of its modules may change stays.
use Rattle.std.proofs.Common.{◌≡◌, ℕ, zero, suc, ◌+◌, ◌-◌, ◌≤◌, ◌==◌, ◌&&◌, ◌||◌, Bool, true, false, not, cond, if◌then◌else◌, nat_lt, nat_le, List, [], ◌∷◌, ◌++◌, length, map, get_or, Option, Some, None, is_some, Result, Ok, Err, IfOk, refl, ap, sym, ◌∙◌, subst, arith, append_assoc, append-nil, ◌%◌}
use Rattle.std.specs.List.{range_with_len}
use Rattle.std.specs.Str.{bytes_eq}
use Rattle.std.proofs.lemmas.Bool.Decides.{nat_tests}
use Rattle.std.proofs.lemmas.List.{length-map}
use Rattle.build_base.specs.First.{unless, with_front}
use Rattle.build_base.specs.Pieces.{Piece, covers, byte_of, image_of}
use Rattle.build_base.specs.Runs.{free_byte}
use Rattle.build_base.specs.declared.fault.Place.{Place}
use Rattle.build_base.specs.declared.run.Run.{Run}
use Rattle.build_base.specs.declared.refusal.Refusal.{Refusal}
use Rattle.build_base.specs.declared.fault.Fault.{Fault}
use Rattle.doc_types.specs.declared.image.FileImage.{FileImage}
use Rattle.doc_types.specs.declared.volume_head.VolumeHead.{VolumeHead}
use Rattle.ffs_sections.specs.File.{header_len}
use Rattle.fv_compose.specs.Header.{header_end, start_pieces}
use Rattle.fv_compose.specs.Pads.{pad_bytes}
use Rattle.fv_compose.specs.Place.{align_up, start_of}
use Rattle.fv_compose.specs.Files.{is_top, top_name, top_of, top_start, plain_files, placed_pieces, file_start, file_end, files_pieces, end_of, top_pieces, bytes_in, AreRunsOf}
use Rattle.fv_compose.specs.Turns.{next_end}
use Rattle.fv_compose.specs.Volume.{taken_by, last_end, length_for, length_of, twice_fault, place_fault, with_length, volume_image, volume_of}
use Rattle.fv_compose.specs.Places.{placed_at, placed_from, places_in, places_with, places_of}
use Rattle.image_rebase.specs.Files.{moved_bytes, with_file_bytes, moved_file, moved_files, has_checksum, has_sections, file_head}
use Rattle.image_rebase.specs.Rebase.{base_of, moved_volume, rebased_bytes}
use Rattle.image_rebase.specs.Changes.{is_in, file_changes, files_change, volume_changes, Stays, StaysBut}
use Rattle.image_rebase.proofs.SameLemmas.{SameAt, either, through}
use Rattle.image_rebase.proofs.BodyLemmas.{fronted, same_file}

-- a file moved
pub record FileKin (ffs3 : Bool) (file moved : FileImage) : Type 0 where
  pub guid : moved.guid ≡ file.guid
  pub align : moved.align ≡ file.align
  pub same : (k : ℕ) → SameAt (file_changes ffs3 file.at file.bytes k) k file.bytes moved.bytes

kin_file : (ffs3 : Bool) (base start : ℕ) (file moved : FileImage) → moved_file ffs3 base start file ≡ Ok moved → FileKin ffs3 file moved
unfolding moved_file
kin_file ffs3 base start file moved e =
    through (moved_bytes ffs3 file.at base (base + start) file.bytes) (λ bytes. Ok (with_file_bytes file bytes)) moved e
    (λ bytes a b.
    let s : with_file_bytes file bytes ≡ moved = cc in
    let one : FileKin ffs3 file (with_file_bytes file bytes) = record { guid = refl; align = refl; same = λ k. same_file ffs3 file.at base (base + start) file.bytes bytes k a } in
    subst (FileKin ffs3 file) s one)

none_of : (a b y : Bool) → ((a && false) || (b && false && y)) ≡ false
none_of true true y = refl
none_of true false y = refl
none_of false true y = refl
none_of false false y = refl

low_head : (bytes : List ℕ) → nat_le (header_len bytes) 19 ≡ false
unfolding header_len
low_head bytes = grind (arith, nat_tests)

-- the attributes stay
nineteen : (ffs3 : Bool) (place : Place) (bytes : List ℕ) → file_changes ffs3 place bytes 19 ≡ false
unfolding file_changes
nineteen ffs3 place bytes = rw (low_head bytes) (none_of (has_checksum (file_head bytes)) (has_sections bytes) _)

kin_head : (ffs3 : Bool) (file moved : FileImage) → FileKin ffs3 file moved → header_len moved.bytes ≡ header_len file.bytes
unfolding header_len
kin_head ffs3 file moved f =
    let e : get_or moved.bytes 19 0 ≡ get_or file.bytes 19 0 = (f.same 19).byte (nineteen ffs3 file.at file.bytes) 0 in
    ap (λ n. if n % 2 == 1 then 32 else 24) e

kin_size : (ffs3 : Bool) (file moved : FileImage) → FileKin ffs3 file moved → length moved.bytes ≡ length file.bytes
kin_size ffs3 file moved f = (f.same 0).size

kin_top : (ffs3 : Bool) (file moved : FileImage) → FileKin ffs3 file moved → is_top moved ≡ is_top file
unfolding is_top
kin_top ffs3 file moved f = ap (λ g. bytes_eq g.0 top_name) f.guid

kin_start : (ffs3 : Bool) (at : ℕ) (file moved : FileImage) → FileKin ffs3 file moved → file_start at moved ≡ file_start at file
kin_start ffs3 at file moved f = ap (λ n. start_of at n (header_len moved.bytes)) f.align ∙ ap (λ n. start_of at file.align n) (kin_head ffs3 file moved f)

kin_end : (ffs3 : Bool) (at : ℕ) (file moved : FileImage) → FileKin ffs3 file moved → file_end at moved ≡ file_end at file
kin_end ffs3 at file moved f = let a = kin_start ffs3 at file moved f in let b = kin_size ffs3 file moved f in ap (λ n. n + length moved.bytes) a ∙ ap (λ n. file_start at file + n) b

-- files moved, one by one
unfoldable pub Kin : Bool → List FileImage → List FileImage → Type 0
Kin ffs3 [] [] = Unit {0}
Kin ffs3 [] (moved ∷ more) = ⊥
Kin ffs3 (file ∷ files) [] = ⊥
Kin ffs3 (file ∷ files) (moved ∷ more) = FileKin ffs3 file moved × Kin ffs3 files more

kin_files : (ffs3 : Bool) (base size at : ℕ) (files moved : List FileImage) → moved_files ffs3 base files (placed_from size at files) ≡ Ok moved → Kin ffs3 files moved
unfolding moved_files placed_from Kin
kin_files ffs3 base size at [] moved e = let s : [] ≡ moved = cc in subst (Kin ffs3 []) s tt
kin_files ffs3 base size at (file ∷ files) moved e =
    let start : ℕ = placed_at size at file in
    let rest : Result (List FileImage) Fault = moved_files ffs3 base files (placed_from size (next_end at file) files) in
    through (moved_file ffs3 base start file) (λ one. with_front (one ∷ []) rest) moved e
    (λ one a b.
    fronted (one ∷ []) rest moved b
    (λ more c j.
    let k : Kin ffs3 (file ∷ files) (one ∷ more) = (kin_file ffs3 base start file one a, kin_files ffs3 base size (next_end at file) files more c) in
    subst (Kin ffs3 (file ∷ files)) j k))

-- how much of them there is, also where there aren't places for all
pub less_files : (ffs3 : Bool) (base : ℕ) (files : List FileImage) (starts : List ℕ) (moved : List FileImage) → moved_files ffs3 base files starts ≡ Ok moved
    → (bytes_in moved ≤ bytes_in files) × (length moved ≤ length files)
unfolding moved_files bytes_in
less_files ffs3 base [] starts moved e = let s : [] ≡ moved = cc in subst (λ m. (bytes_in m ≤ 0) × (length m ≤ 0)) s (omega arith, omega arith)
less_files ffs3 base (file ∷ files) [] moved e =
    let s : [] ≡ moved = cc in subst (λ m. (bytes_in m ≤ length file.bytes + bytes_in files) × (length m ≤ length (file ∷ files))) s (omega arith, omega arith)
less_files ffs3 base (file ∷ files) (start ∷ starts) moved e =
    let rest : Result (List FileImage) Fault = moved_files ffs3 base files starts in
    through (moved_file ffs3 base start file) (λ one. with_front (one ∷ []) rest) moved e
    (λ one a b.
    fronted (one ∷ []) rest moved b
    (λ more c j.
    let l = kin_size ffs3 file one (kin_file ffs3 base start file one a) in
    let p = less_files ffs3 base files starts more c in
    let q : bytes_in more ≤ bytes_in files = p.0 in
    let r : length more ≤ length files = p.1 in
    subst (λ m. (bytes_in m ≤ length file.bytes + bytes_in files) × (length m ≤ length (file ∷ files))) j (omega arith, omega arith)))

pub runs_of : (files moved : List FileImage) (outcome : Result (List Run) Refusal) → bytes_in moved ≤ bytes_in files → length moved ≤ length files → IfOk outcome (AreRunsOf moved) → IfOk outcome (AreRunsOf files)
runs_of files moved (Ok runs) b l o = record { kept = let k = o.kept in omega arith; blank = o.blank; short = o.short }
runs_of files moved (Err refusal) b l o = tt

-- the end of the last file
end_turn : (ffs3 : Bool) (at : ℕ) (file moved : FileImage) (files more : List FileImage) (b : Bool) → FileKin ffs3 file moved
    → ((from : ℕ) → end_of from more ≡ end_of from files) → end_of at (cond (not b) (moved ∷ more) more) ≡ end_of at (cond (not b) (file ∷ files) files)
unfolding end_of
end_turn ffs3 at file moved files more true f h = h at
end_turn ffs3 at file moved files more false f h = ap (λ n. end_of n more) (kin_end ffs3 at file moved f) ∙ h (file_end at file)

kin_last : (ffs3 : Bool) (files moved : List FileImage) (at : ℕ) → Kin ffs3 files moved → end_of at (plain_files moved) ≡ end_of at (plain_files files)
unfolding Kin plain_files
kin_last ffs3 [] [] at k = refl
kin_last ffs3 [] (moved ∷ more) at k = absurd k
kin_last ffs3 (file ∷ files) [] at k = absurd k
kin_last ffs3 (file ∷ files) (moved ∷ more) at k =
    ap (λ b. end_of at (cond (not b) (moved ∷ plain_files more) (plain_files more))) (kin_top ffs3 file moved k.0)
    ∙ end_turn ffs3 at file moved (plain_files files) (plain_files more) (is_top file) k.0 (λ from. kin_last ffs3 files more from k.1)

-- the top file
abbrev TopKin : Bool → Option FileImage → Option FileImage → Type 0
TopKin ffs3 None None = Unit {0}
TopKin ffs3 None (Some moved) = ⊥
TopKin ffs3 (Some file) None = ⊥
TopKin ffs3 (Some file) (Some moved) = FileKin ffs3 file moved

top_turn : (ffs3 : Bool) (file moved : FileImage) (top other : Option FileImage) (b : Bool) → FileKin ffs3 file moved → TopKin ffs3 top other → TopKin ffs3 (cond b (Some file) top) (cond b (Some moved) other)
top_turn ffs3 file moved top other true f t = f
top_turn ffs3 file moved top other false f t = t

kin_tops : (ffs3 : Bool) (files moved : List FileImage) → Kin ffs3 files moved → TopKin ffs3 (top_of files) (top_of moved)
unfolding Kin
kin_tops ffs3 [] [] k = tt
kin_tops ffs3 [] (moved ∷ more) k = absurd k
kin_tops ffs3 (file ∷ files) [] k = absurd k
kin_tops ffs3 (file ∷ files) (moved ∷ more) k =
    subst (λ b. TopKin ffs3 (cond (is_top file) (Some file) (top_of files)) (cond b (Some moved) (top_of more))) (sym (kin_top ffs3 file moved k.0))
    (top_turn ffs3 file moved (top_of files) (top_of more) (is_top file) k.0 (kin_tops ffs3 files more k.1))

kin_taken : (ffs3 : Bool) (block : ℕ) (size : Option ℕ) (at : ℕ) (top other : Option FileImage) → TopKin ffs3 top other
    → length_for block size (is_some other) (taken_by at other) ≡ length_for block size (is_some top) (taken_by at top)
kin_taken ffs3 block size at None None t = refl
kin_taken ffs3 block size at None (Some moved) t = absurd t
kin_taken ffs3 block size at (Some file) None t = absurd t
kin_taken ffs3 block size at (Some file) (Some moved) t = ap (λ n. length_for block size true (align_up 8 at + n)) (kin_size ffs3 file moved t)

kin_length : (head : VolumeHead) (files moved : List FileImage) → Kin head.ffs3 files moved → length_of head moved ≡ length_of head files
kin_length head files moved k =
    ap (λ n. length_for head.block_size head.size (is_some (top_of moved)) (taken_by n (top_of moved))) (kin_last head.ffs3 files moved (header_end head.name_guid) k)
    ∙ kin_taken head.ffs3 head.block_size head.size (last_end head files) (top_of files) (top_of moved) (kin_tops head.ffs3 files moved k)

-- Pieces: the byte at a place.

behind : (free k : ℕ) (front ps qs : List Piece) → byte_of free ps k ≡ byte_of free qs k → byte_of free (front ++ ps) k ≡ byte_of free (front ++ qs) k
unfolding byte_of
behind free k [] ps qs e = e
behind free k (piece ∷ front) ps qs e = ap (λ n. if covers piece k then get_or piece.bytes (k - piece.start) free else n) (behind free k front ps qs e)

covers_same : (start : ℕ) (old new : List ℕ) (k : ℕ) → length new ≡ length old → covers (record { start = start; bytes = new }) k ≡ is_in start (length old) k
unfolding is_in
covers_same start old new k e = ap (λ n. nat_le start k && nat_lt k (start + n)) e

piece_byte : (free start : ℕ) (old new : List ℕ) (k : ℕ) (changes : Bool) (ps qs : List Piece) (held : Bool) → SameAt changes (k - start) old new → (held && changes) ≡ false
    → byte_of free ps k ≡ byte_of free qs k
    → (if held then get_or new (k - start) free else byte_of free ps k) ≡ (if held then get_or old (k - start) free else byte_of free qs k)
piece_byte free start old new k changes ps qs true s h e = s.byte h free
piece_byte free start old new k changes ps qs false s h e = e

one_piece : (free start : ℕ) (old new : List ℕ) (k : ℕ) (changes : Bool) (ps qs : List Piece) → SameAt changes (k - start) old new → (is_in start (length old) k && changes) ≡ false
    → byte_of free ps k ≡ byte_of free qs k
    → byte_of free (record { start = start; bytes = new } ∷ ps) k ≡ byte_of free (record { start = start; bytes = old } ∷ qs) k
unfolding byte_of
one_piece free start old new k changes ps qs s h e =
    ap (λ b. if b then get_or new (k - start) free else byte_of free ps k) (covers_same start old new k s.size)
    ∙ piece_byte free start old new k changes ps qs (is_in start (length old) k) s h e
    ∙ ap (λ b. if b then get_or old (k - start) free else byte_of free qs k) (sym (covers_same start old old k refl))

placed_byte : (free erase at start : ℕ) (old new : List ℕ) (k : ℕ) (changes : Bool) (ps qs : List Piece) → SameAt changes (k - start) old new → (is_in start (length old) k && changes) ≡ false
    → byte_of free ps k ≡ byte_of free qs k → byte_of free (placed_pieces erase at start new ++ ps) k ≡ byte_of free (placed_pieces erase at start old ++ qs) k
unfolding placed_pieces
placed_byte free erase at start old new k changes ps qs s h e =
    let one : byte_of free (record { start = start; bytes = new } ∷ ps) k ≡ byte_of free (record { start = start; bytes = old } ∷ qs) k = one_piece free start old new k changes ps qs s h e in
    let pad : Piece = record { start = align_up 8 at; bytes = pad_bytes erase (start - align_up 8 at) } in
    elim (start == align_up 8 at) as (λ b. byte_of free ((if b then record { start = start; bytes = new } ∷ [] else pad ∷ record { start = start; bytes = new } ∷ []) ++ ps) k
    ≡ byte_of free ((if b then record { start = start; bytes = old } ∷ [] else pad ∷ record { start = start; bytes = old } ∷ []) ++ qs) k) [
      | true ↦ one
      | false ↦ behind free k (pad ∷ []) (record { start = start; bytes = new } ∷ ps) (record { start = start; bytes = old } ∷ qs) one
    ]

-- no file changes a place: neither the first nor any other
files_turn : (size at k : ℕ) (ffs3 : Bool) (file moved : FileImage) (files more : List FileImage) (free erase : ℕ) (ps qs : List Piece) (b : Bool) → FileKin ffs3 file moved
    → (is_in (if b then top_start file size else file_start at file) (length file.bytes) k && file_changes ffs3 file.at file.bytes (k - (if b then top_start file size else file_start at file))) ≡ false
    → ((from : ℕ) → from ≡ (if b then at else file_end at file) → byte_of free (files_pieces erase from more ++ ps) k ≡ byte_of free (files_pieces erase from files ++ qs) k)
    → byte_of free (files_pieces erase at (cond (not b) (moved ∷ more) more) ++ ps) k ≡ byte_of free (files_pieces erase at (cond (not b) (file ∷ files) files) ++ qs) k
unfolding files_pieces
files_turn size at k ffs3 file moved files more free erase ps qs true f n h = h at refl
files_turn size at k ffs3 file moved files more free erase ps qs false f n h =
    let start : ℕ = file_start at file in
    let later : byte_of free (files_pieces erase (file_end at file) more ++ ps) k ≡ byte_of free (files_pieces erase (file_end at file) files ++ qs) k = h (file_end at file) refl in
    ap (λ s. byte_of free ((placed_pieces erase at s moved.bytes ++ files_pieces erase (s + length moved.bytes) more) ++ ps) k) (kin_start ffs3 at file moved f)
    ∙ ap (λ l. byte_of free ((placed_pieces erase at start moved.bytes ++ files_pieces erase (start + l) more) ++ ps) k) (kin_size ffs3 file moved f)
    ∙ ap (λ z. byte_of free z k) (append_assoc (placed_pieces erase at start moved.bytes) (files_pieces erase (file_end at file) more) ps)
    ∙ placed_byte free erase at start file.bytes moved.bytes k (file_changes ffs3 file.at file.bytes (k - start)) (files_pieces erase (file_end at file) more ++ ps) (files_pieces erase (file_end at file) files ++ qs) (f.same (k - start)) n later
    ∙ sym (ap (λ z. byte_of free z k) (append_assoc (placed_pieces erase at start file.bytes) (files_pieces erase (file_end at file) files) qs))

files_byte : (size : ℕ) (ffs3 : Bool) (files moved : List FileImage) (at k free erase : ℕ) (ps qs : List Piece) → Kin ffs3 files moved → files_change ffs3 k files (placed_from size at files) ≡ false
    → byte_of free ps k ≡ byte_of free qs k → byte_of free (files_pieces erase at (plain_files moved) ++ ps) k ≡ byte_of free (files_pieces erase at (plain_files files) ++ qs) k
unfolding Kin plain_files files_change placed_from files_pieces
files_byte size ffs3 [] [] at k free erase ps qs kin n e = e
files_byte size ffs3 [] (moved ∷ more) at k free erase ps qs kin n e = absurd kin
files_byte size ffs3 (file ∷ files) [] at k free erase ps qs kin n e = absurd kin
files_byte size ffs3 (file ∷ files) (moved ∷ more) at k free erase ps qs kin n e =
    let start : ℕ = placed_at size at file in
    let p = either (is_in start (length file.bytes) k && file_changes ffs3 file.at file.bytes (k - start)) (files_change ffs3 k files (placed_from size (next_end at file) files)) n in
    ap (λ b. byte_of free (files_pieces erase at (cond (not b) (moved ∷ plain_files more) (plain_files more)) ++ ps) k) (kin_top ffs3 file moved kin.0)
    ∙ files_turn size at k ffs3 file moved (plain_files files) (plain_files more) free erase ps qs (is_top file) kin.0 p.0
    (λ from s.
    let m : files_change ffs3 k files (placed_from size from files) ≡ false = ap (λ z. files_change ffs3 k files (placed_from size z files)) s ∙ p.1 in
    files_byte size ffs3 files more from k free erase ps qs kin.1 m e)

-- the top file changes no place that no file changes
abbrev TopStays : Bool → ℕ → ℕ → Option FileImage → Type 0
TopStays ffs3 size k None = Unit {0}
TopStays ffs3 size k (Some file) = (is_in (top_start file size) (length file.bytes) k && file_changes ffs3 file.at file.bytes (k - top_start file size)) ≡ false

top_stays : (size : ℕ) (ffs3 : Bool) (files : List FileImage) (at k : ℕ) → files_change ffs3 k files (placed_from size at files) ≡ false → TopStays ffs3 size k (top_of files)
unfolding files_change placed_from
top_stays size ffs3 [] at k n = tt
top_stays size ffs3 (file ∷ files) at k n =
    let start : ℕ = placed_at size at file in
    let p = either (is_in start (length file.bytes) k && file_changes ffs3 file.at file.bytes (k - start)) (files_change ffs3 k files (placed_from size (next_end at file) files)) n in
    let rest : TopStays ffs3 size k (top_of files) = top_stays size ffs3 files (next_end at file) k p.1 in
    elim (is_top file) as (λ b. (is_in (if b then top_start file size else file_start at file) (length file.bytes) k && file_changes ffs3 file.at file.bytes (k - (if b then top_start file size else file_start at file))) ≡ false
    → TopStays ffs3 size k (cond b (Some file) (top_of files))) [
      | true ↦ λ h. h
      | false ↦ λ h. rest
    ] p.0

top_byte : (ffs3 : Bool) (free erase at size k : ℕ) (top other : Option FileImage) → TopKin ffs3 top other → TopStays ffs3 size k top
    → byte_of free (top_pieces erase at other size) k ≡ byte_of free (top_pieces erase at top size) k
top_byte ffs3 free erase at size k None None t n = refl
top_byte ffs3 free erase at size k None (Some moved) t n = absurd t
top_byte ffs3 free erase at size k (Some file) None t n = absurd t
top_byte ffs3 free erase at size k (Some file) (Some moved) t n =
    let start : ℕ = top_start file size in
    let e : byte_of free (placed_pieces erase at start moved.bytes ++ []) k ≡ byte_of free (placed_pieces erase at start file.bytes ++ []) k =
    placed_byte free erase at start file.bytes moved.bytes k (file_changes ffs3 file.at file.bytes (k - start)) [] [] (t.same (k - start)) n refl in
    ap (λ l. byte_of free (placed_pieces erase at (size - l) moved.bytes) k) (kin_size ffs3 file moved t)
    ∙ ap (λ z. byte_of free z k) (sym (append-nil (placed_pieces erase at start moved.bytes))) ∙ e ∙ ap (λ z. byte_of free z k) (append-nil (placed_pieces erase at start file.bytes))

places_byte : (f g : ℕ → ℕ) (a n k d : ℕ) → f (a + k) ≡ g (a + k) → get_or (map f (range_with_len a n)) k d ≡ get_or (map g (range_with_len a n)) k d
places_byte f g a zero k d e = refl
places_byte f g a (suc n) zero d e = let z : a + 0 ≡ a = omega arith in ap f (sym z) ∙ e ∙ ap g z
places_byte f g a (suc n) (suc k) d e = let z : a + 1 + k ≡ a + suc k = omega arith in places_byte f g (a + 1) n k d (ap f z ∙ e ∙ sym (ap g z))

image_byte : (free size : ℕ) (ps qs : List Piece) (k d : ℕ) → byte_of free ps k ≡ byte_of free qs k → get_or (image_of free ps size) k d ≡ get_or (image_of free qs size) k d
unfolding image_of
image_byte free size ps qs k d e =
    let z : 0 + k ≡ k = omega arith in places_byte (byte_of free ps) (byte_of free qs) 0 size k d (ap (byte_of free ps) z ∙ e ∙ sym (ap (byte_of free qs) z))

image_long : (free size : ℕ) (ps qs : List Piece) → length (image_of free ps size) ≡ length (image_of free qs size)
unfolding image_of
image_long free size ps qs = length-map (range_with_len 0 size) (byte_of free ps) ∙ sym (length-map (range_with_len 0 size) (byte_of free qs))

volume_byte : (head : VolumeHead) (files moved : List FileImage) (size k d : ℕ) → Kin head.ffs3 files moved → files_change head.ffs3 k files (places_in head files size) ≡ false
    → get_or (volume_image head moved size) k d ≡ get_or (volume_image head files size) k d
unfolding volume_image
volume_byte head files moved size k d kin n =
    let free : ℕ = free_byte head.erase in
    let first : ℕ = header_end head.name_guid in
    let last : ℕ = last_end head files in
    let start : List Piece = start_pieces head size in
    let tops : byte_of free (top_pieces head.erase last (top_of moved) size) k ≡ byte_of free (top_pieces head.erase last (top_of files) size) k =
    top_byte head.ffs3 free head.erase last size k (top_of files) (top_of moved) (kin_tops head.ffs3 files moved kin) (top_stays size head.ffs3 files first k n) in
    ap (λ a. get_or (image_of free (start ++ (files_pieces head.erase first (plain_files moved) ++ top_pieces head.erase a (top_of moved) size)) size) k d) (kin_last head.ffs3 files moved first kin)
    ∙ image_byte free size (start ++ (files_pieces head.erase first (plain_files moved) ++ top_pieces head.erase last (top_of moved) size))
    (start ++ (files_pieces head.erase first (plain_files files) ++ top_pieces head.erase last (top_of files) size)) k d
    (behind free k start (files_pieces head.erase first (plain_files moved) ++ top_pieces head.erase last (top_of moved) size)
    (files_pieces head.erase first (plain_files files) ++ top_pieces head.erase last (top_of files) size)
    (files_byte size head.ffs3 files moved first k free head.erase (top_pieces head.erase last (top_of moved) size) (top_pieces head.erase last (top_of files) size) kin n tops))

volume_long : (head : VolumeHead) (files moved : List FileImage) (size : ℕ) → length (volume_image head moved size) ≡ length (volume_image head files size)
unfolding volume_image
volume_long head files moved size = image_long (free_byte head.erase) size _ _

unless_ok : {A F : Type 0} (fault : Option F) (x y : A) → unless fault x ≡ Ok y → (fault ≡ None) × (x ≡ y)
unless_ok None x y e = (refl, cc)
unless_ok (Some f) x y e = absurd cc

-- the volume of the files as they are, by their places
record Placed (head : VolumeHead) (files : List FileImage) (starts : List ℕ) (size : ℕ) : Type 0 where
  length_is : length_of head files ≡ Some size
  starts_are : places_in head files size ≡ starts
  plain : volume_of head files ≡ Ok (volume_image head files size)

with_places : {P : Type 0} (head : VolumeHead) (files : List FileImage) (starts : List ℕ) (found : Option ℕ) → length_of head files ≡ found → twice_fault head files ≡ None → places_with head files found ≡ Ok starts
    → ((size : ℕ) → Placed head files starts size → P) → P
unfolding volume_of
with_places head files starts None l t e k = absurd cc
with_places head files starts (Some size) l t e k =
    let p = unless_ok (place_fault head files size) (places_in head files size) starts e in
    k size (record {
      length_is = l;
      starts_are = p.1;
      plain = rw (t, l, p.0) refl;
    })

placed_files : {P : Type 0} (head : VolumeHead) (files : List FileImage) (starts : List ℕ) → places_of head files ≡ Ok starts → ((size : ℕ) → Placed head files starts size → P) → P
unfolding places_of
placed_files head files starts e k =
    through (unless (twice_fault head files) (length_of head files)) (places_with head files) starts e
    (λ found a b. let p = unless_ok (twice_fault head files) (length_of head files) found a in with_places head files starts found p.1 p.0 b k)

image_with : (head : VolumeHead) (moved : List FileImage) (found : Option ℕ) (size : ℕ) (image : List ℕ) → found ≡ Some size → with_length head moved found ≡ Ok image → volume_image head moved size ≡ image
image_with head moved None size image f e = absurd cc
image_with head moved (Some other) size image f e =
    let s : other ≡ size = cc in
    let p = unless_ok (place_fault head moved other) (volume_image head moved other) image e in ap (volume_image head moved) (sym s) ∙ p.1

-- the image of files of this length
image_is : (head : VolumeHead) (moved : List FileImage) (size : ℕ) (image : List ℕ) → length_of head moved ≡ Some size → volume_of head moved ≡ Ok image → volume_image head moved size ≡ image
unfolding volume_of
image_is head moved size image l e =
    through (unless (twice_fault head moved) (length_of head moved)) (with_length head moved) image e
    (λ found a b. let p = unless_ok (twice_fault head moved) (length_of head moved) found a in image_with head moved found size image (sym p.1 ∙ l) b)

stays_with : (head : VolumeHead) (files moved : List FileImage) (starts : List ℕ) (size : ℕ) (image : List ℕ) → places_of head files ≡ Ok starts → Placed head files starts size
    → moved_files head.ffs3 (base_of head) files starts ≡ Ok moved → volume_of head moved ≡ Ok image → StaysBut head files image (volume_of head files)
stays_with head files moved starts size image o p m v =
    let kin : Kin head.ffs3 files moved = kin_files head.ffs3 (base_of head) size (header_end head.name_guid) files moved (ap (moved_files head.ffs3 (base_of head) files) p.starts_are ∙ m) in
    let i : volume_image head moved size ≡ image = image_is head moved size image (kin_length head files moved kin ∙ p.length_is) v in
    let s : Stays head files (volume_image head files size) image = record {
      size = ap length (sym i) ∙ volume_long head files moved size;
      byte = λ k d h.
          let n : files_change head.ffs3 k files (places_in head files size) ≡ false = ap (files_change head.ffs3 k files) p.starts_are ∙ ap (volume_changes head files k) (sym o) ∙ h in
          ap (λ z. get_or z k d) (sym i) ∙ volume_byte head files moved size k d kin n;
    } in
    subst (StaysBut head files image) (sym p.plain) s

-- what `rebase_volume` gives is the volume of the files as they are, but for the bytes that may change
pub stays_but : (head : VolumeHead) (files : List FileImage) (image : List ℕ) → rebased_bytes head files ≡ Ok image → StaysBut head files image (volume_of head files)
unfolding rebased_bytes moved_volume
stays_but head files image e =
    through (places_of head files) (moved_volume head files) image e
    (λ starts o b.
    through (moved_files head.ffs3 (base_of head) files starts) (volume_of head) image b
    (λ moved m v. placed_files head files starts o (λ size p. stays_with head files moved starts size image o p m v)))
