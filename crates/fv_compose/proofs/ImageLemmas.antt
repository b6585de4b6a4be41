-- The whole image of a volume.
use Rattle.std.proofs.Common.{◌≡◌, ℕ, ◌+◌, ◌-◌, ◌≤◌, List, [], ◌∷◌, ◌++◌, length, replicate, Option, None, Some, is_some, true, false, ap, sym, ◌∙◌, arith, append-nil, length-append}
use Rattle.build_base.specs.declared.guid.Guid.{Guid}
use Rattle.build_base.specs.Pieces.{Piece, put_pieces}
use Rattle.build_base.proofs.PieceLemmas.{Laid, Laid-one, Laid-none, put_image, put_pieces-append}
use Rattle.doc_types.specs.declared.image.FileImage.{FileImage}
use Rattle.doc_types.specs.declared.volume_head.VolumeHead.{VolumeHead}
use Rattle.fv_compose.specs.Header.{head_of, extended_bytes, extended_pieces, start_pieces, header_end}
use Rattle.fv_compose.specs.Files.{plain_files, top_of, top_start, top_pieces, files_pieces, AreAligned}
use Rattle.build_base.specs.Runs.{free_byte}
use Rattle.fv_compose.specs.Volume.{holds, taken_by, last_end, volume_image}
use Rattle.fv_compose.proofs.HeaderLemmas.{head_length, written}
use Rattle.fv_compose.proofs.LengthLemmas.{holds_room}
use Rattle.fv_compose.proofs.FileLemmas.{laid_files, laid_placed, top_spaced, top_low, aligned_plain}

-- header and extended header, where that has its length
laid_head : (free erase size : ℕ) (head : List ℕ) (name : Option Guid) (rest : List Piece) → length head ≡ 72
    → length (put_pieces free [] (record { start = 0; bytes = head } ∷ extended_pieces erase name)) ≡ header_end name
    → Laid (header_end name) size rest → Laid 0 size ((record { start = 0; bytes = head } ∷ extended_pieces erase name) ++ rest)
laid_head free erase size head None rest h l k =
    let e : 0 + length head ≡ 72 = omega arith in Laid-one 0 size (record { start = 0; bytes = head }) rest (omega arith) (rw e k)
laid_head free erase size head (Some name) rest h l k =
    let first : Piece = record { start = 0; bytes = head } in
    let second : Piece = record { start = 72; bytes = extended_bytes erase name.0 } in
    let n : length (extended_bytes erase name.0) + 72 ≡ 116 = omega (arith, ap length (written free erase head name h), length-append head (extended_bytes erase name.0)) in
    let e : 72 + length (extended_bytes erase name.0) ≡ 116 = omega arith in
    Laid-one 0 size first (second ∷ rest) (omega arith) (Laid-one (0 + length head) size second rest (omega arith) (rw e k))

laid_top : (erase at size : ℕ) (top : Option FileImage) → holds (is_some top) (taken_by at top) size ≡ true → Laid at size (top_pieces erase at top size)
laid_top erase at size None h = Laid-none at size (holds_room false at size h)
laid_top erase at size (Some file) h =
    let s = top_spaced at file size h in
    let room = holds_room true (taken_by at (Some file)) size h in
    let last : Laid (top_start file size + length file.bytes) size [] = Laid-none (top_start file size + length file.bytes) size (omega arith) in
    rw append-nil at (laid_placed erase at size (top_start file size) file.bytes [] s.1 last)

pub taken_after : (at size : ℕ) (top : Option FileImage) → holds (is_some top) (taken_by at top) size ≡ true → at ≤ size
taken_after at size None h = holds_room false at size h
taken_after at size (Some file) h = top_low at file size h

-- header, files, top file and free space
pub image_is : (plan : VolumeHead) (files : List FileImage) (size : ℕ) (head body out : List ℕ) → AreAligned files
    → holds (is_some (top_of files)) (taken_by (last_end plan files) (top_of files)) size ≡ true
    → head ≡ put_pieces (free_byte plan.erase) [] (start_pieces plan size) → length head ≡ header_end plan.name_guid
    → body ≡ put_pieces (free_byte plan.erase) head (files_pieces plan.erase (header_end plan.name_guid) (plain_files files))
    → out ≡ put_pieces (free_byte plan.erase) body (top_pieces plan.erase (last_end plan files) (top_of files) size)
    → out ++ replicate (size - length out) (free_byte plan.erase) ≡ volume_image plan files size
unfolding volume_image start_pieces
image_is plan files size head body out a room h l b o =
    let free : ℕ = free_byte plan.erase in
    let start : List Piece = start_pieces plan size in
    let middle : List Piece = files_pieces plan.erase (header_end plan.name_guid) (plain_files files) in
    let last : List Piece = top_pieces plan.erase (last_end plan files) (top_of files) size in
    let top : Laid (last_end plan files) size last = laid_top plan.erase (last_end plan files) size (top_of files) room in
    let rest : Laid (header_end plan.name_guid) size (middle ++ last) = laid_files plan.erase (header_end plan.name_guid) size (plain_files files) last (aligned_plain files a) top in
    let laid : Laid 0 size (start ++ (middle ++ last)) = laid_head free plan.erase size (head_of plan size) plan.name_guid (middle ++ last) (head_length plan size) (ap length (sym h) ∙ l) rest in
    let e : put_pieces free [] (start ++ (middle ++ last)) ≡ out =
    put_pieces-append free [] start (middle ++ last) ∙ ap (λ z. put_pieces free z (middle ++ last)) (sym h)
    ∙ put_pieces-append free head middle last ∙ ap (λ z. put_pieces free z last) (sym b) ∙ sym o in
    rw (← e) (put_image free size (start ++ (middle ++ last)) laid)

pub first_small : (name : Option Guid) → header_end name ≤ 116
first_small None = omega arith
first_small (Some name) = omega arith
