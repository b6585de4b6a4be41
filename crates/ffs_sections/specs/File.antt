-- Firmware files: a header of 24 bytes, of a large file of 32, and a body (UEFI PI specification,
-- volume 3, section 3.2.3).
use Rattle.std.specs.Prelude.{ℕ, ◌+◌, ◌-◌, ◌%◌, ◌≤◌, ◌==◌, ◌&&◌, Bool, nat_lt, if◌then◌else◌, List, [], ◌∷◌, ◌++◌, length, max, fold, slice_index, Option, None, Some, Result, Ok, Err}
use Rattle.byteorder.specs.Endian.{little_bytes}
use Rattle.build_base.specs.First.{and_then}
use Rattle.build_base.specs.declared.fault.Fault.{Fault}
use Rattle.doc_types.specs.declared.image.Part.{Part}
use Rattle.doc_types.specs.declared.image.Body.{Body}
use Rattle.doc_types.specs.declared.image.Body.TheVariants.{Whole, Sections}
use Rattle.doc_types.specs.declared.image.ImagePlan.{ImagePlan}
use Rattle.doc_types.specs.declared.image.FileImage.{FileImage}
use Rattle.ffs_sections.specs.declared.header.Head.{Head}
use Rattle.ffs_sections.specs.Sums.{zero_byte, summed}
use Rattle.ffs_sections.specs.Alignment.{is_section_alignment, alignments, IsAlignment, alignment_index, step_bits}
use Rattle.ffs_sections.specs.Sections.{with_parts, fault_with_size}
use Rattle.ffs_sections.specs.Standard.{FFS_ATTRIB_LARGE_FILE, FFS_ATTRIB_FIXED, FFS_ATTRIB_CHECKSUM, FFS_FIXED_CHECKSUM, FILE_STATE, FILE_LIMIT, FFS3_LIMIT}
use Rattle.build_base.specs.FaultCodes.{ALIGNMENT_REFUSED, IMAGE_FILE_TOO_LONG}

-- the greatest alignment of a file and its sections
abbrev pub greatest : ℕ → List Part → ℕ
greatest align parts = fold (λ most part. max most part.align) align parts

abbrev pub body_align : ℕ → Body → ℕ
body_align align (Whole bytes) = align
body_align align (Sections parts) = greatest align parts

abbrev pub plan_step : ImagePlan → ℕ
plan_step plan = alignment_index (body_align plan.align plan.body)

-- a header without its own checksum
unfoldable pub short_fields : List ℕ → Head → List ℕ
short_fields name head =
    name ++ (0 ∷ head.check ∷ head.kind ∷ head.attributes ∷ []) ++ little_bytes 3 head.size
    ++ head.state ∷ []

-- that of a large file: with the attribute for it, no size in its place, and the size behind the
-- state
unfoldable pub long_fields : List ℕ → Head → List ℕ
long_fields name head =
    name ++ (0 ∷ head.check ∷ head.kind ∷ (head.attributes + FFS_ATTRIB_LARGE_FILE) ∷ [])
    ++ (0 ∷ 0 ∷ 0 ∷ head.state ∷ []) ++ little_bytes 8 head.size

-- a header
unfoldable pub file_head : Bool → List ℕ → Head → List ℕ
file_head large name head = summed (if large then long_fields name head else short_fields name head)

-- its length
abbrev pub head_len : Bool → ℕ
head_len large = if large then 32 else 24

-- FIXED, CHECKSUM and the alignment
abbrev pub attributes_of : ImagePlan → ℕ
attributes_of plan = (if plan.fixed then FFS_ATTRIB_FIXED else 0)
    + (if plan.checksum then FFS_ATTRIB_CHECKSUM else 0) + step_bits (plan_step plan)

-- with erase polarity 1 the bits are turned round
abbrev pub state_of : ℕ → ℕ
state_of erase = if erase == 0 then FILE_STATE else 0xFF - FILE_STATE

-- in an FFS3 volume a file is large that has more than 0xFFFFFF bytes with a header of 24
abbrev pub is_large_file : Bool → ℕ → Bool
is_large_file ffs3 count = ffs3 && nat_lt FILE_LIMIT (24 + count)

-- the size of a file with its own header, by the length of its body, and the greatest one
abbrev pub file_size : Bool → ℕ → ℕ
file_size ffs3 count = head_len (is_large_file ffs3 count) + count

abbrev pub file_limit : Bool → ℕ
file_limit ffs3 = if ffs3 then FFS3_LIMIT else FILE_LIMIT

-- the header of a plan's file
abbrev pub plan_head : ImagePlan → List ℕ → Head
plan_head plan body = record {
  check = if plan.checksum then zero_byte body else FFS_FIXED_CHECKSUM;
  kind = plan.file_type;
  attributes = attributes_of plan;
  size = file_size plan.ffs3 (length body);
  state = state_of plan.erase;
}

unfoldable pub file_bytes : ImagePlan → List ℕ → List ℕ
file_bytes plan body = file_head (is_large_file plan.ffs3 (length body)) plan.guid.0
    (plan_head plan body) ++ body

abbrev pub body_of : ImagePlan → Body → Result (List ℕ) Fault
body_of plan (Whole bytes) = Ok bytes
body_of plan (Sections parts) = with_parts plan.ffs3 plan.at [] parts

abbrev pub image_of : ImagePlan → List ℕ → FileImage
image_of plan body =
    record {
      at = plan.at;
      guid = plan.guid;
      align = slice_index alignments (plan_step plan);
      bytes = file_bytes plan body;
    }

-- the fault of a file that is too long for its file system, by the length of its body
abbrev pub size_fault : ImagePlan → ℕ → Option Fault
size_fault plan count =
    let size = file_size plan.ffs3 count in
    if nat_lt (file_limit plan.ffs3) size then Some (fault_with_size IMAGE_FILE_TOO_LONG plan.at size)
    else None

-- a file that is too long for its file system is a fault
abbrev pub file_sized : ImagePlan → List ℕ → Result FileImage Fault
file_sized plan body =
    let size = file_size plan.ffs3 (length body) in
    if nat_lt (file_limit plan.ffs3) size then Err (fault_with_size IMAGE_FILE_TOO_LONG plan.at size)
    else Ok (image_of plan body)

unfoldable pub file_of : ImagePlan → Result FileImage Fault
file_of plan =
    if is_section_alignment plan.align then and_then (body_of plan plan.body) (file_sized plan)
    else Err (fault_with_size ALIGNMENT_REFUSED plan.at plan.align)

-- the length of the header that a file begins with: where byte 19 has the attribute of large files
-- it is 32
unfoldable pub header_len : List ℕ → ℕ
header_len bytes = if slice_index bytes 19 % 2 == 1 then 32 else 24

-- what a volume can hold: a file whose alignment a header can state, and with a header
pub record IsFileImage (file : FileImage) : Type 0 where
  pub align : IsAlignment file.align
  pub head : header_len file.bytes ≤ length file.bytes
