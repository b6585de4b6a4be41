-- A volume that is written, as it is read.
use Rattle.std.proofs.Common.{◌≡◌, ℕ, zero, suc, ◌+◌, ◌-◌, ◌/◌, ◌%◌, ◌<◌, ◌≤◌, ◌==◌, ◌&&◌, Bool, true, false, not, cond, if◌then◌else◌, List, [], ◌∷◌, ◌++◌, length, take, drop, Option, Some, None, is_some, IfSome, IfOk, Result, Ok, Err, refl, ap, sym, ◌∙◌, arith, length-append, subst, All}
use Rattle.std.specs.List.{range_with_len, find}
use Rattle.std.proofs.lemmas.Bool.Decides.{nat_tests}
use Rattle.std.proofs.lemmas.List.Elements.{All-filter}
use Rattle.std.proofs.lemmas.List.FromFn.{length-map-range_with_len}
use Rattle.std.proofs.Math.Seq.{drop-append_seam, take-length}
use Rattle.build_base.specs.First.{or_else, unless, and_then}
use Rattle.build_base.specs.Pieces.{Piece, piece_end, byte_of, image_of}
use Rattle.build_base.specs.Runs.{free_byte}
use Rattle.build_base.specs.declared.fault.Fault.{Fault}
use Rattle.build_base.proofs.PieceLemmas.{Laid, Laid-one}
use Rattle.doc_types.specs.declared.image.FileImage.{FileImage}
use Rattle.doc_types.specs.declared.volume_head.VolumeHead.{VolumeHead}
use Rattle.fv_compose.specs.Place.{align_up}
use Rattle.fv_compose.specs.Header.{head_of, extended_pieces, start_pieces, header_end}
use Rattle.fv_compose.specs.Files.{is_top, top_of, plain_files, files_pieces, end_of, top_pieces, pads_fault, top_pad_fault}
use Rattle.fv_compose.specs.Volume.{SizeFits, holds, taken_by, last_end, blocks_for, length_for, twice_fault, top_fault, place_fault, volume_image, with_length, length_of, volume_of, IsLength}
use Rattle.fv_compose.proofs.PlaceLemmas.{up_after}
use Rattle.fv_compose.proofs.HeaderLemmas.{head_length}
use Rattle.fv_compose.proofs.LengthLemmas.{length_is}
use Rattle.volume_reader.specs.declared.listed.Listed.{Listed}
use Rattle.volume_reader.specs.declared.listed.VolumeList.{VolumeList}
use Rattle.volume_reader.specs.declared.listed.ReadRefusal.{ReadRefusal}
use Rattle.volume_reader.specs.declared.volume.Held.{Held}
use Rattle.volume_reader.specs.Head.{is_head, fv_length, header_length, attributes, is_ffs3, erase_polarity, volume_from}
use Rattle.volume_reader.specs.Volume.{held_from, list_of, volume_list, Reads}
use Rattle.volume_reader.specs.Written.{Made, files_of, IsMade, IsWritten, extended_rows, files_rows, top_rows, plain_made, top_made, plain_end, written_rows, free_behind, written_list}
use Rattle.volume_reader.proofs.WalkLemmas.{Chain, chain_laid, chain_within, tail, image_tail, walk}
use Rattle.volume_reader.proofs.ChainLemmas.{Reading, both_none, last_of, top_file, chain_files, chain_top, chain_extended, plain_is, top_is, top_among}
use Rattle.volume_reader.proofs.ReadHeadLemmas.{Told, head_told, head_true, system_is, polarity_told, polarity_read}

-- what the image of a volume is
pub record Composed (head : VolumeHead) (files : List FileImage) (bytes : List ℕ) : Type 0 where
  pub size : ℕ
  pub sized : length_of head files ≡ Some size
  pub placed : place_fault head files size ≡ None
  pub whole : volume_image head files size ≡ bytes

placed_from : (head : VolumeHead) (files : List FileImage) (bytes : List ℕ) (size : ℕ) (f : Option Fault) → length_of head files ≡ Some size → place_fault head files size ≡ f
    → unless f (volume_image head files size) ≡ Ok bytes → Composed head files bytes
placed_from head files bytes size None l p e = record { size = size; sized = l; placed = p; whole = cc }
placed_from head files bytes size (Some f) l p e = absurd cc

composed_from : (head : VolumeHead) (files : List FileImage) (bytes : List ℕ) (t : Option Fault) (o : Option ℕ) → length_of head files ≡ o → and_then (unless t o) (with_length head files) ≡ Ok bytes → Composed head files bytes
composed_from head files bytes None None l e = absurd cc
composed_from head files bytes None (Some size) l e = placed_from head files bytes size (place_fault head files size) l refl e
composed_from head files bytes (Some f) o l e = absurd cc

composed_of : (head : VolumeHead) (files : List FileImage) (bytes : List ℕ) → volume_of head files ≡ Ok bytes → Composed head files bytes
unfolding volume_of
composed_of head files bytes e = composed_from head files bytes (twice_fault head files) (length_of head files) refl e

-- what is found among numbers one after another
found_in : (p : ℕ → Bool) (a n x : ℕ) → find p (range_with_len a n) ≡ Some x → (p x ≡ true) × (x < a + n)
found_in p a zero x e = absurd cc
found_in p a (suc n) x e =
    elim (p a) as (λ b. p a ≡ b → cond b (Some a) (find p (range_with_len (a + 1) n)) ≡ Some x → (p x ≡ true) × (x < a + suc n)) [
      | true ↦ λ t s. let q : a ≡ x = cc in (ap p (sym q) ∙ t, omega arith)
      | false ↦ λ t s. let r = found_in p (a + 1) n x s in (r.0, let lt : x < a + 1 + n = r.1 in omega arith)
    ] refl e

found_first : (p : ℕ → Bool) (n : ℕ) → 0 < n → p 0 ≡ true → find p (range_with_len 0 n) ≡ Some 0
found_first p zero h t = absurd (omega arith)
found_first p (suc n) h t = rw t refl

-- the length of a volume
record Sized (block : ℕ) (top : Bool) (taken size : ℕ) : Type 0 where
  pub room : holds top taken size ≡ true
  pub small : size ≤ 268435456
  pub whole : size % block ≡ 0

both_true : (a b : Bool) → (a && b) ≡ true → (a ≡ true) × (b ≡ true)
both_true true b e = (refl, e)
both_true false b e = absurd cc

is_zero : (n : ℕ) → (n == 0) ≡ true → n ≡ 0
is_zero n e = grind (arith, nat_tests)

stated_size : (block taken s size : ℕ) (top b : Bool) → holds top taken s ≡ b → s ≤ 268435456 → s % block ≡ 0 → (if b then Some s else None) ≡ Some size → Sized block top taken size
stated_size block taken s size top true h small whole e =
    let q : s ≡ size = cc in subst (λ z. Sized block top taken z) q (record { room = h; small = small; whole = whole })
stated_size block taken s size top false h small whole e = absurd cc

sized_of : (block : ℕ) (stated : Option ℕ) (top : Bool) (taken size : ℕ) → SizeFits block stated → length_for block stated top taken ≡ Some size → Sized block top taken size
unfolding blocks_for
sized_of block None top taken size fits e =
    let f = found_in (λ n. holds top taken n && n % block == 0) 0 268435457 size e in
    let t = both_true (holds top taken size) (size % block == 0) f.0 in
    record { room = t.0; small = let lt : size < 0 + 268435457 = f.1 in omega arith; whole = is_zero (size % block) t.1 }
sized_of block (Some s) top taken size fits e = stated_size block taken s size top (holds top taken s) refl fits.0 fits.1 e

-- the pieces behind the header
abbrev pieces_by : VolumeHead → ℕ → List FileImage → Option FileImage → List Piece
pieces_by head size plain top =
    extended_pieces head.erase head.name_guid ++ (files_pieces head.erase (header_end head.name_guid) plain ++ top_pieces head.erase (end_of (header_end head.name_guid) plain) top size)

abbrev faults_by : VolumeHead → ℕ → List FileImage → Option FileImage → Option Fault
faults_by head size plain top =
    or_else (top_fault head top size) (or_else (pads_fault head.ffs3 (header_end head.name_guid) plain) (top_pad_fault head.ffs3 (end_of (header_end head.name_guid) plain) top size))

-- where the files have room and no fault, they stand one behind the other
abbrev Whole : VolumeHead → ℕ → ℕ → ℕ → List Listed → List FileImage → Option FileImage → Type 0
Whole head polarity size last rows plain top =
    holds (is_some top) (taken_by (end_of (header_end head.name_guid) plain) top) size ≡ true → faults_by head size plain top ≡ None → Chain head.ffs3 polarity size last 0x48 (pieces_by head size plain top) rows

whole_of : (head : VolumeHead) (polarity size : ℕ) (plain : List Made) (top : Option Made) → Reading head polarity size → IfSome head.name_guid (λ name. length name.0 ≡ 16) → All (IsMade head) plain → IfSome top (IsMade head)
    → Whole head polarity size (last_of (end_of (header_end head.name_guid) (files_of plain)) size top)
    (extended_rows head.name_guid ++ (files_rows head.ffs3 (header_end head.name_guid) plain ++ top_rows head.ffs3 (end_of (header_end head.name_guid) (files_of plain)) size top)) (files_of plain) (top_file top)
whole_of head polarity size plain top r n a t h f =
    let first : ℕ = header_end head.name_guid in
    let at : ℕ = end_of first (files_of plain) in
    let last : ℕ = last_of at size top in
    let p = both_none (top_fault head (top_file top) size) (or_else (pads_fault head.ffs3 first (files_of plain)) (top_pad_fault head.ffs3 at (top_file top) size)) f in
    let q = both_none (pads_fault head.ffs3 first (files_of plain)) (top_pad_fault head.ffs3 at (top_file top) size) p.1 in
    let ends : Chain head.ffs3 polarity size last at (top_pieces head.erase at (top_file top) size) (top_rows head.ffs3 at size top) = chain_top head polarity size at top r t h p.0 q.1 in
    let middle = chain_files head polarity size last first plain (top_pieces head.erase at (top_file top) size) (top_rows head.ffs3 at size top) r a q.0 ends in
    chain_extended head polarity size last head.name_guid (files_pieces head.erase first (files_of plain) ++ top_pieces head.erase at (top_file top) size) (files_rows head.ffs3 first plain ++ top_rows head.ffs3 at size top) r n middle

written_chain : (head : VolumeHead) (made : List Made) (polarity size : ℕ) → Reading head polarity size → IfSome head.name_guid (λ name. length name.0 ≡ 16) → All (IsMade head) made
    → Whole head polarity size (last_of (plain_end head made) size (top_made made)) (written_rows head made size) (plain_files (files_of made)) (top_of (files_of made))
unfolding written_rows plain_made
written_chain head made polarity size r n a =
    let plain : List Made = plain_made made in
    let top : Option Made = top_made made in
    let w = whole_of head polarity size plain top r n (All-filter (λ m. not (is_top m.file)) (IsMade head) made a) (top_among (IsMade head) made a) in
    let last : ℕ = last_of (plain_end head made) size top in
    let rows : List Listed = written_rows head made size in
    subst (λ z. Whole head polarity size last rows z (top_of (files_of made))) (sym (plain_is made)) (subst (λ o. Whole head polarity size last rows (files_of plain) o) (sym (top_is made)) w)

-- a volume whose header is read so, and that holds this
list_by : (bytes : List ℕ) (ffs3 : Bool) (polarity size : ℕ) (held : Held) → fv_length bytes ≡ size → length bytes ≡ size → is_ffs3 bytes ≡ ffs3 → erase_polarity bytes ≡ polarity → header_length bytes ≡ 0x48
    → held_from (size + 1) ffs3 polarity bytes (align_up 8 0x48) ≡ Ok held → volume_list bytes ≡ Ok (record { length = size; ffs3 = ffs3; files = held.files; free = held.free })
unfolding volume_list
list_by bytes ffs3 polarity size held f l s p h e =
    let t : take (fv_length bytes) bytes ≡ bytes = ap (λ k. take k bytes) (f ∙ sym l) ∙ take-length bytes in
    let w : held_from (length (take (fv_length bytes) bytes) + 1) (is_ffs3 bytes) (erase_polarity bytes) (take (fv_length bytes) bytes) (align_up 8 (header_length bytes)) ≡ Ok held =
    ap (λ v. held_from (length v + 1) (is_ffs3 bytes) (erase_polarity bytes) v (align_up 8 (header_length bytes))) t
    ∙ ap (λ n. held_from (n + 1) (is_ffs3 bytes) (erase_polarity bytes) bytes (align_up 8 (header_length bytes))) l
    ∙ ap (λ b. held_from (size + 1) b (erase_polarity bytes) bytes (align_up 8 (header_length bytes))) s
    ∙ ap (λ n. held_from (size + 1) ffs3 n bytes (align_up 8 (header_length bytes))) p ∙ ap (λ n. held_from (size + 1) ffs3 polarity bytes (align_up 8 n)) h ∙ e in
    ap (list_of bytes) w ∙ ap (λ n. Ok (record { length = n; ffs3 = is_ffs3 bytes; files = held.files; free = held.free })) f
    ∙ ap (λ b. Ok (record { length = size; ffs3 = b; files = held.files; free = held.free })) s

free_is : (at size : ℕ) (top : Option Made) → size - align_up 8 (last_of at size top) ≡ free_behind at size top
free_is at size None = refl
free_is at size (Some made) = let u : size ≤ align_up 8 size = up_after 8 size (omega arith) in omega arith

holds_itself : (n : ℕ) → holds false n n ≡ true
holds_itself n = grind (arith, nat_tests)

-- the image behind its header
behind_head : (head : VolumeHead) (size : ℕ) (ps : List Piece) → Laid 0x48 size ps
    → image_of (free_byte head.erase) (record { start = 0; bytes = head_of head size } ∷ ps) size ≡ head_of head size ++ tail (free_byte head.erase) size 0x48 ps
unfolding tail
behind_head head size ps l =
    let first : Piece = record { start = 0; bytes = head_of head size } in
    let free : ℕ = free_byte head.erase in
    let n : length (head_of head size) ≡ 72 = head_length head size in
    let e : piece_end first ≡ 72 = omega arith in
    let laid : Laid 0 size (first ∷ ps) = Laid-one 0 size first ps (omega arith) (subst (λ z. Laid z size ps) (sym e) l) in
    image_tail free size (first ∷ ps) laid ∙ ap (λ z. head_of head size ++ tail free size z ps) e

image_length : (free size : ℕ) (ps : List Piece) → length (image_of free ps size) ≡ size
unfolding image_of
image_length free size ps = length-map-range_with_len (byte_of free ps) 0 size

volume_is : (head : VolumeHead) (files : List FileImage) (size : ℕ)
    → volume_image head files size ≡ image_of (free_byte head.erase) (record { start = 0; bytes = head_of head size } ∷ pieces_by head size (plain_files files) (top_of files)) size
unfolding volume_image start_pieces
volume_is head files size = refl

image_by : (head : VolumeHead) (files : List FileImage) (size : ℕ) (bytes : List ℕ) → volume_image head files size ≡ bytes → Laid 0x48 size (pieces_by head size (plain_files files) (top_of files))
    → bytes ≡ head_of head size ++ tail (free_byte head.erase) size 0x48 (pieces_by head size (plain_files files) (top_of files))
image_by head files size bytes e l =
    let ps : List Piece = pieces_by head size (plain_files files) (top_of files) in
    let a : volume_image head files size ≡ head_of head size ++ tail (free_byte head.erase) size 0x48 ps = volume_is head files size ∙ behind_head head size ps l in
    sym e ∙ a

behind_by : (head : VolumeHead) (size polarity : ℕ) (bytes : List ℕ) (ps : List Piece) → bytes ≡ head_of head size ++ tail (free_byte head.erase) size 0x48 ps → (head.erase == 0) ≡ (polarity == 0)
    → drop 0x48 bytes ≡ tail (free_byte polarity) size 0x48 ps
behind_by head size polarity bytes ps e same =
    let h : List ℕ = head_of head size in
    let rest : List ℕ = tail (free_byte head.erase) size 72 ps in
    let n : length h ≡ 72 = head_length head size in
    let a : drop 72 bytes ≡ drop 72 (h ++ rest) = ap (drop 72) e in
    let b : drop 72 (h ++ rest) ≡ rest = ap (λ k. drop k (h ++ rest)) (sym n) ∙ drop-append_seam h rest in
    let c : rest ≡ tail (free_byte polarity) size 72 ps = ap (λ t. tail (if t then 0 else 255) size 72 ps) same in
    a ∙ b ∙ c

length_by : (head : VolumeHead) (files : List FileImage) (size : ℕ) (bytes : List ℕ) → volume_image head files size ≡ bytes → length bytes ≡ size
length_by head files size bytes e =
    ap length (sym e ∙ volume_is head files size) ∙ image_length (free_byte head.erase) size (record { start = 0; bytes = head_of head size } ∷ pieces_by head size (plain_files files) (top_of files))

-- what is read of a volume that is written
pub record IsRead (head : VolumeHead) (made : List Made) (bytes : List ℕ) : Type 0 where
  pub head_is : is_head bytes ≡ true
  pub some : 0 < length bytes
  pub list : volume_list bytes ≡ Ok (written_list head made (length bytes))

pub written_read : (head : VolumeHead) (made : List Made) (bytes : List ℕ) → IsWritten head made bytes → IsRead head made bytes
unfolding written_list
written_read head made bytes w =
    let files : List FileImage = files_of made in
    let c : Composed head files bytes = composed_of head files bytes w.image in
    let size : ℕ = c.size in
    let taken : ℕ = taken_by (last_end head files) (top_of files) in
    let z : Sized head.block_size (is_some (top_of files)) taken size = sized_of head.block_size head.size (is_some (top_of files)) taken size w.shape c.sized in
    let small : size ≤ 268435456 = z.small in
    let polarity : ℕ = head.attributes / 2048 % 2 in
    let same : (head.erase == 0) ≡ (polarity == 0) = polarity_told head w.erased in
    let r : Reading head polarity size = record { same = same; small = omega arith } in
    let ps : List Piece = pieces_by head size (plain_files files) (top_of files) in
    let rows : List Listed = written_rows head made size in
    let last : ℕ = last_of (plain_end head made) size (top_made made) in
    let chain : Chain head.ffs3 polarity size last 72 ps rows = written_chain head made polarity size r w.name w.files z.room c.placed in
    let within : 72 ≤ size = chain_within head.ffs3 polarity size last 72 ps rows chain in
    let block : IsLength head.block_size false size size = length_is head.block_size false size size (omega arith) (holds_itself size) small z.whole in
    let rest : List ℕ = tail (free_byte head.erase) size 72 ps in
    let image : bytes ≡ head_of head size ++ rest = image_by head files size bytes c.whole (chain_laid head.ffs3 polarity size last 72 ps rows chain) in
    let long : length bytes ≡ size = length_by head files size bytes c.whole in
    let n : length (head_of head size) ≡ 72 = head_length head size in
    let o : length (head_of head size ++ rest) ≡ length (head_of head size) + length rest = length-append (head_of head size) rest in
    let q : length bytes ≡ length (head_of head size ++ rest) = ap length image in
    let told : Told head.ffs3 size head.attributes (size / head.block_size) head.block_size bytes =
    subst (λ v. Told head.ffs3 size head.attributes (size / head.block_size) head.block_size v) (sym image) (head_told head size rest (omega arith) w.attributes block.block_small) in
    let behind : drop 72 bytes ≡ tail (free_byte polarity) size 72 ps = behind_by head size polarity bytes ps image same in
    let held : held_from (size + 1) head.ffs3 polarity bytes (align_up 8 72) ≡ Ok (record { files = rows; free = size - align_up 8 last }) =
    walk head.ffs3 polarity size last bytes 72 ps rows (size + 1) long behind chain (omega arith) (omega arith) in
    let list : volume_list bytes ≡ Ok (record { length = size; ffs3 = head.ffs3; files = rows; free = size - align_up 8 last }) =
    list_by bytes head.ffs3 polarity size (record { files = rows; free = size - align_up 8 last }) told.length long (system_is head.ffs3 size head.attributes (size / head.block_size) head.block_size bytes told)
    (polarity_read head bytes told.bits_are) told.head held in
    record {
      head_is = ap is_head image ∙ head_true head size rest (omega arith) w.attributes block.block_some block.block_small z.whole within (omega arith);
      some = omega arith;
      list =
          list ∙ ap (λ k. Ok (record { length = size; ffs3 = head.ffs3; files = rows; free = k })) (free_is (plain_end head made) size (top_made made))
          ∙ ap (λ k. Ok (written_list head made k)) (sym long);
    }

pub written_head : (head : VolumeHead) (made : List Made) (bytes : List ℕ) → IsWritten head made bytes → is_head bytes ≡ true
written_head head made bytes w = (written_read head made bytes w).head_is

pub written_found : (head : VolumeHead) (made : List Made) (bytes : List ℕ) → IsWritten head made bytes → volume_from bytes 0 ≡ Some 0
unfolding volume_from
written_found head made bytes w =
    let r = written_read head made bytes w in
    let e : length bytes - 0 ≡ length bytes = omega arith in
    let some : 0 < length bytes - 0 = omega (arith, r.some) in
    let here : (0 % 16 == 0 && is_head (drop 0 bytes)) ≡ true = r.head_is in
    found_first (λ at. at % 16 == 0 && is_head (drop at bytes)) (length bytes - 0) some here

pub written_listed : (head : VolumeHead) (made : List Made) (bytes : List ℕ) → IsWritten head made bytes → volume_list bytes ≡ Ok (written_list head made (length bytes))
written_listed head made bytes w = (written_read head made bytes w).list

-- what is read of such bytes is that list
pub read_as : (r : Result VolumeList ReadRefusal) (bytes : List ℕ) → Reads r (volume_list bytes) → (head : VolumeHead) (made : List Made) → IsWritten head made bytes
    → IfOk r (λ list. list ≡ written_list head made (length bytes))
read_as (Ok list) bytes e head made w = let l : volume_list bytes ≡ Ok (written_list head made (length bytes)) = written_listed head made bytes w in cc
read_as (Err e) bytes r head made w = tt
