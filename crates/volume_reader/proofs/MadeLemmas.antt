-- Pad files, and the files of plans, as they are read.
use Rattle.std.proofs.Common.{◌≡◌, ℕ, ◌+◌, ◌-◌, ◌*◌, ◌/◌, ◌%◌, ◌^◌, ◌<◌, ◌≤◌, ◌==◌, ◌&&◌, Bool, true, false, not, if◌then◌else◌, List, ◌++◌, length, get_or, replicate, nat_lt, unwrap_or, Option, Some, None, Result, Ok, Err, refl, ap, sym, ◌∙◌, arith, length-append, append_assoc, subst}
use Rattle.std.specs.Prelude.{position, nat_le}
use Rattle.std.proofs.lemmas.Bool.Decides.{nat_tests}
use Rattle.std.proofs.lemmas.List.{length-replicate, get_or_default}
use Rattle.std.proofs.lemmas.List.Quantifiers.{position-Some}
use Rattle.byteorder.specs.Endian.{little_bytes}
use Rattle.build_base.specs.First.{and_then}
use Rattle.build_base.specs.Runs.{free_byte}
use Rattle.build_base.specs.declared.fault.Fault.{Fault}
use Rattle.doc_types.specs.Standard.{EFI_FV_FILETYPE_FFS_PAD}
use Rattle.doc_types.specs.declared.image.ImagePlan.{ImagePlan}
use Rattle.doc_types.specs.declared.image.FileImage.{FileImage}
use Rattle.doc_types.specs.declared.volume_head.VolumeHead.{VolumeHead}
use Rattle.ffs_sections.specs.declared.header.Head.{Head}
use Rattle.ffs_sections.specs.Sums.{zero_byte}
use Rattle.ffs_sections.specs.Alignment.{is_section_alignment, alignments, IsAlignment, alignment_index}
use Rattle.ffs_sections.specs.Sections.{fault_with_size}
use Rattle.ffs_sections.specs.File.{file_head, head_len, header_len, state_of, body_of, body_align, plan_step, attributes_of, is_large_file, file_size, file_limit, plan_head, file_bytes, image_of, file_sized, file_of}
use Rattle.ffs_sections.proofs.HeadLemmas.{length_head, head_at_file}
use Rattle.fv_compose.specs.Pads.{is_large_pad, pad_header, pad_bytes}
use Rattle.fv_compose.specs.Header.{extended_bytes}
use Rattle.volume_reader.specs.Written.{Made, IsMade, made_sections, made_row, pad_row}
use Rattle.volume_reader.proofs.FieldLemmas.{size_end}
use Rattle.volume_reader.proofs.RowLemmas.{Fits, row_by, row_of}
use Rattle.volume_reader.proofs.WalkLemmas.{IsRow}
use Rattle.build_base.specs.FaultCodes.{ALIGNMENT_REFUSED, IMAGE_FILE_TOO_LONG}

pub same_state : (a b : ℕ) → (a == 0) ≡ (b == 0) → state_of a ≡ state_of b
same_state a b e = ap (λ t. if t then 7 else 255 - 7) e

pad_small : (large : Bool) (size : ℕ) → nat_lt 0xFFFFFF size ≡ large → size < 2 ^ 64 → size < size_end large
pad_small true size e h = h
pad_small false size e h = let g : size < 16777216 = grind (arith, nat_tests) in g

-- a pad of at least 24 bytes has room for its header
room_in : (large : Bool) (size : ℕ) → nat_lt 0xFFFFFF size ≡ large → 24 ≤ size → head_len large ≤ size
room_in true size e h = let g : 16777215 < size = grind (arith, nat_tests) in let r : 32 ≤ size = omega arith in r
room_in false size e h = h

pub pad_room : (size : ℕ) → 24 ≤ size → head_len (is_large_pad size) ≤ size
pad_room size h = room_in (is_large_pad size) size refl h

-- the header of a pad file, by its size, under an erase polarity
abbrev pub pad_head : ℕ → ℕ → Head
pad_head erase size = record { check = 0xAA; kind = EFI_FV_FILETYPE_FFS_PAD; attributes = 0; size = size; state = state_of erase }

pub pad_is_row : (ffs3 : Bool) (erase polarity place size : ℕ) → (erase == 0) ≡ (polarity == 0) → 24 ≤ size → size < 2 ^ 64 → (not ffs3 && is_large_pad size) ≡ false
    → IsRow ffs3 polarity place (pad_bytes erase size) (pad_row place size)
unfolding pad_bytes pad_row
pad_is_row ffs3 erase polarity place size e h s a =
    let large : Bool = is_large_pad size in
    let room : head_len large ≤ size = pad_room size h in
    let body : List ℕ = replicate (size - head_len large) (free_byte erase) in
    let l : length body ≡ size - head_len large = length-replicate (size - head_len large) (free_byte erase) in
    row_of ffs3 large polarity place (replicate 16 0xFF) (pad_head erase size) body (record {
      long = refl;
      even = refl;
      size = omega arith;
      small = pad_small large size refl s;
      state = same_state erase polarity e;
      allowed = a;
      check = refl;
    })

no_large : (ffs3 : Bool) → (not ffs3 && false) ≡ false
no_large true = refl
no_large false = refl

pub extended_is_row : (ffs3 : Bool) (erase polarity place : ℕ) (name : List ℕ) → (erase == 0) ≡ (polarity == 0) → length name ≡ 16 → IsRow ffs3 polarity place (extended_bytes erase name) (pad_row place 0x2C)
unfolding extended_bytes pad_row
extended_is_row ffs3 erase polarity place name e n =
    let body : List ℕ = name ++ little_bytes 4 0x14 in
    let head : List ℕ = pad_header erase 0x2C in
    let l : length body ≡ 20 = length-append name (little_bytes 4 0x14) ∙ omega arith in
    let g : IsRow ffs3 polarity place (head ++ body) (row_by ffs3 place (replicate 16 0xFF) 0xF0 0x2C 24 body) =
    row_of ffs3 false polarity place (replicate 16 0xFF) (pad_head erase 0x2C) body (record {
      long = refl;
      even = refl;
      size = omega arith;
      small = omega arith;
      state = same_state erase polarity e;
      allowed = no_large ffs3;
      check = refl;
    }) in
    subst (λ z. IsRow ffs3 polarity place z (row_by ffs3 place (replicate 16 0xFF) 0xF0 0x2C 24 body)) (sym (append_assoc head name (little_bytes 4 0x14))) g

-- what the file of a plan is
pub record Built (plan : ImagePlan) (file : FileImage) : Type 0 where
  pub body : List ℕ
  pub parts : body_of plan plan.body ≡ Ok body
  pub room : file_size plan.ffs3 (length body) ≤ file_limit plan.ffs3
  pub whole : file ≡ image_of plan body

sized_from : (plan : ImagePlan) (file : FileImage) (body : List ℕ) (b : Bool) → body_of plan plan.body ≡ Ok body → nat_lt (file_limit plan.ffs3) (file_size plan.ffs3 (length body)) ≡ b
    → (if b then Err (fault_with_size IMAGE_FILE_TOO_LONG plan.at (file_size plan.ffs3 (length body))) else Ok (image_of plan body)) ≡ Ok file → Built plan file
sized_from plan file body true p t e = absurd cc
sized_from plan file body false p t e = record { body = body; parts = p; room = grind (arith, nat_tests); whole = let s : image_of plan body ≡ file = cc in sym s }

built_from : (plan : ImagePlan) (file : FileImage) (b : Bool) (r : Result (List ℕ) Fault) → body_of plan plan.body ≡ r → (if b then and_then r (file_sized plan) else Err (fault_with_size ALIGNMENT_REFUSED plan.at plan.align)) ≡ Ok file → Built plan file
built_from plan file true (Ok body) p e = sized_from plan file body (nat_lt (file_limit plan.ffs3) (file_size plan.ffs3 (length body))) p refl e
built_from plan file true (Err f) p e = absurd cc
built_from plan file false r p e = absurd cc

pub built_of : (plan : ImagePlan) (file : FileImage) → file_of plan ≡ Ok file → Built plan file
unfolding file_of
built_of plan file e = built_from plan file (is_section_alignment plan.align) (body_of plan plan.body) refl e

-- the alignment that a header states is one of the sixteen
step_below : (o : Option ℕ) (align : ℕ) → position (λ stated. nat_le align stated) alignments ≡ o → unwrap_or o 15 < 16
step_below None align e = let g : 15 < 16 = omega arith in g
step_below (Some i) align e = let s = (position-Some (λ stated. nat_le align stated) alignments i 0 e).0 in s

pub step_small : (align : ℕ) → alignment_index align < 16
unfolding alignment_index
step_small align = step_below (position (λ stated. nat_le align stated) alignments) align refl

pub aligned_at : (step : ℕ) → step < 16 → IsAlignment (get_or alignments step 0)
aligned_at step h = (step, h, get_or_default alignments step (get_or alignments step 0) 0 h)

-- attributes with the bits of a step
pub record Bits (checksum : Bool) (attributes : ℕ) : Type 0 where
  pub even : attributes % 2 ≡ 0
  pub sum : attributes / 64 % 2 ≡ (if checksum then 1 else 0)

bits : (fixed checksum low : Bool) (step : ℕ) → step < 16 → nat_lt step 8 ≡ low → Bits checksum ((if fixed then 4 else 0) + (if checksum then 64 else 0) + (if low then 8 * step else 8 * (step - 8) + 2))
bits true true true step h e = let lt : step < 8 = grind (arith, nat_tests) in record { even = omega arith; sum = omega arith }
bits true true false step h e = record { even = omega arith; sum = omega arith }
bits true false true step h e = let lt : step < 8 = grind (arith, nat_tests) in record { even = omega arith; sum = omega arith }
bits true false false step h e = record { even = omega arith; sum = omega arith }
bits false true true step h e = let lt : step < 8 = grind (arith, nat_tests) in record { even = omega arith; sum = omega arith }
bits false true false step h e = record { even = omega arith; sum = omega arith }
bits false false true step h e = let lt : step < 8 = grind (arith, nat_tests) in record { even = omega arith; sum = omega arith }
bits false false false step h e = record { even = omega arith; sum = omega arith }

pub plan_bits : (plan : ImagePlan) → Bits plan.checksum (attributes_of plan)
plan_bits plan = bits plan.fixed plan.checksum (nat_lt (plan_step plan) 8) (plan_step plan) (step_small (body_align plan.align plan.body)) refl

check_by : (checksum : Bool) (a x y : ℕ) → a ≡ (if checksum then 1 else 0) → (if checksum then x else y) ≡ (if a == 1 then x else y)
check_by true a x y e = rw e refl
check_by false a x y e = rw e refl

-- a file is large in FFS3 alone, and its size has room in its header
allowed_by : (ffs3 over : Bool) → (not ffs3 && (ffs3 && over)) ≡ false
allowed_by true over = refl
allowed_by false over = refl

small_by : (ffs3 over : Bool) (count : ℕ) → nat_lt 0xFFFFFF (24 + count) ≡ over → head_len (ffs3 && over) + count ≤ file_limit ffs3 → head_len (ffs3 && over) + count < size_end (ffs3 && over)
small_by true true count e h = omega (arith, h)
small_by true false count e h = let g : 24 + count < 16777216 = grind (arith, nat_tests) in g
small_by false true count e h = omega (arith, h)
small_by false false count e h = omega (arith, h)

pub file_fits : (plan : ImagePlan) (body : List ℕ) (polarity : ℕ) → length plan.guid.0 ≡ 16 → (plan.erase == 0) ≡ (polarity == 0) → file_size plan.ffs3 (length body) ≤ file_limit plan.ffs3
    → Fits plan.ffs3 (is_large_file plan.ffs3 (length body)) polarity plan.guid.0 (plan_head plan body) body
file_fits plan body polarity n e room =
    let b : Bits plan.checksum (attributes_of plan) = plan_bits plan in
    record {
      long = n;
      even = b.even;
      size = refl;
      small = small_by plan.ffs3 (nat_lt 0xFFFFFF (24 + length body)) (length body) refl room;
      state = same_state plan.erase polarity e;
      allowed = allowed_by plan.ffs3 (nat_lt 0xFFFFFF (24 + length body));
      check = check_by plan.checksum (attributes_of plan / 64 % 2) (zero_byte body) 0xAA b.sum;
    }

-- the row of the file of a plan
row_is : (ffs3 : Bool) (place head : ℕ) (made : Made) (body : List ℕ) → body_of made.plan made.plan.body ≡ Ok body → header_len made.file.bytes ≡ head
    → row_by ffs3 place made.plan.guid.0 made.plan.file_type (length made.file.bytes) head body ≡ made_row ffs3 place made
unfolding made_row made_sections
row_is ffs3 place head made body p a = rw (p, a) refl

pub made_is_row : (head : VolumeHead) (made : Made) (polarity place : ℕ) → IsMade head made → (head.erase == 0) ≡ (polarity == 0) → IsRow head.ffs3 polarity place made.file.bytes (made_row head.ffs3 place made)
unfolding file_bytes
made_is_row head made polarity place m e =
    let plan : ImagePlan = made.plan in
    let b : Built plan made.file = built_of plan made.file m.file in
    let body : List ℕ = b.body in
    let large : Bool = is_large_file plan.ffs3 (length body) in
    let f : List ℕ = file_head large plan.guid.0 (plan_head plan body) in
    let bytes : made.file.bytes ≡ f ++ body = ap (λ z. z.bytes) b.whole in
    let l : length f ≡ head_len large = length_head large plan.guid.0 (plan_head plan body) m.name in
    let o : length (f ++ body) ≡ length f + length body = length-append f body in
    let size : length made.file.bytes ≡ file_size plan.ffs3 (length body) = ap length bytes ∙ omega arith in
    let at : header_len made.file.bytes ≡ head_len large = ap header_len bytes ∙ head_at_file large plan.guid.0 (plan_head plan body) body m.name (plan_bits plan).even in
    let g : IsRow plan.ffs3 polarity place (f ++ body) (row_by plan.ffs3 place plan.guid.0 plan.file_type (file_size plan.ffs3 (length body)) (head_len large) body) =
    row_of plan.ffs3 large polarity place plan.guid.0 (plan_head plan body) body (file_fits plan body polarity m.name (m.erase ∙ e) b.room) in
    let r : row_by plan.ffs3 place plan.guid.0 plan.file_type (file_size plan.ffs3 (length body)) (head_len large) body ≡ made_row plan.ffs3 place made =
    ap (λ z. row_by plan.ffs3 place plan.guid.0 plan.file_type z (head_len large) body) (sym size) ∙ row_is plan.ffs3 place (head_len large) made body b.parts at in
    let h : IsRow plan.ffs3 polarity place made.file.bytes (made_row plan.ffs3 place made) =
    subst (λ z. IsRow plan.ffs3 polarity place z (made_row plan.ffs3 place made)) (sym bytes) (subst (λ z. IsRow plan.ffs3 polarity place (f ++ body) z) r g) in
    subst (λ z. IsRow z polarity place made.file.bytes (made_row z place made)) m.ffs3 h

pub made_aligned : (head : VolumeHead) (made : Made) → IsMade head made → IsAlignment made.file.align
made_aligned head made m =
    let b : Built made.plan made.file = built_of made.plan made.file m.file in
    let s : plan_step made.plan < 16 = step_small (body_align made.plan.align made.plan.body) in
    subst (λ z. IsAlignment z) (sym (ap (λ z. z.align) b.whole)) (aligned_at (plan_step made.plan) s)
