-- The sections of a firmware file, one after another (UEFI PI specification, volume 3, section
-- 3.2.4).
use Rattle.std.specs.Prelude.{ℕ, ◌+◌, ◌-◌, ◌*◌, ◌/◌, ◌==◌, ◌&&◌, Bool, false, not, nat_lt, if◌then◌else◌, List, [], ◌∷◌, ◌++◌, length, replicate, Option, Some, None, is_some, is_none, unwrap_or, Result, Ok, decimal, All, ◌≡◌}
use Rattle.byteorder.specs.Endian.{little_bytes}
use Rattle.build_base.specs.First.{first_holding, unless, and_then}
use Rattle.build_base.specs.declared.fault.Place.{Place}
use Rattle.build_base.specs.declared.fault.Fault.{Fault}
use Rattle.build_base.specs.declared.guid.Guid.{Guid}
use Rattle.doc_types.specs.declared.image.Part.{Part}
use Rattle.doc_types.specs.declared.image.Body.{Body}
use Rattle.doc_types.specs.declared.image.Body.TheVariants.{Whole, Sections}
use Rattle.ffs_sections.specs.Alignment.{is_section_alignment, pad_of}
use Rattle.doc_types.specs.Standard.{EFI_SECTION_FREEFORM_SUBTYPE_GUID, EFI_SECTION_RAW}
use Rattle.ffs_sections.specs.Standard.{EXTENDED_SIZE, SECTION_LIMIT, FFS3_LIMIT}
use Rattle.build_base.specs.FaultCodes.{ALIGNMENT_REFUSED, SECTION_TOO_LONG}

abbrev pub guid_bytes : Option Guid → List ℕ
guid_bytes None = []
guid_bytes (Some guid) = guid.0

-- in an FFS3 volume a section is large that has more than 0xFFFFFE bytes with a header of 4 bytes,
-- or 20 with a GUID
abbrev pub is_large : Bool → Option Guid → ℕ → Bool
is_large ffs3 guid count = ffs3 && nat_lt SECTION_LIMIT (4 + length (guid_bytes guid) + count)

-- where the content of a section stands in it, by the length of the content
abbrev pub content_at : Bool → Option Guid → ℕ → ℕ
content_at ffs3 guid count = (if is_large ffs3 guid count then 8 else 4) + length (guid_bytes guid)

-- the size of a section with its own header, and the greatest one
abbrev pub section_size : Bool → Option Guid → ℕ → ℕ
section_size ffs3 guid count = content_at ffs3 guid count + count

abbrev pub section_limit : Bool → ℕ
section_limit ffs3 = if ffs3 then FFS3_LIMIT else SECTION_LIMIT

-- size and kind; of a large section the kind and then the size
unfoldable pub section_head : Bool → ℕ → ℕ → List ℕ
section_head large kind size =
    if large then little_bytes 3 EXTENDED_SIZE ++ kind ∷ little_bytes 4 size
    else little_bytes 3 size ++ kind ∷ []

-- the header, the GUID of a SUBTYPE_GUID section, and the content
unfoldable pub section_bytes : Bool → ℕ → Option Guid → List ℕ → List ℕ
section_bytes ffs3 kind guid content =
    section_head (is_large ffs3 guid (length content)) kind
    (section_size ffs3 guid (length content)) ++ guid_bytes guid ++ content

-- the least multiple of 4 from a place on
abbrev pub up4 : ℕ → ℕ
up4 at = (at + 3) / 4 * 4

-- the pad before a section, after a body so long, that aligns the section's content
abbrev pub part_pad : Bool → ℕ → Part → Option ℕ
part_pad ffs3 at part = pad_of (up4 at + content_at ffs3 part.guid (length part.bytes)) part.align
    part.shift

-- a RAW section of zeros of this size, header and all; none of size 0. A pad is shorter than its
-- alignment, and that at most 16M, so none is large.
abbrev pub pad_section : ℕ → List ℕ
pad_section size = if size == 0 then []
    else section_bytes false EFI_SECTION_RAW None (replicate (size - 4) 0)

-- a body with one section more: zeros up to a multiple of 4, the pad, and the section
unfoldable pub with_part : Bool → List ℕ → Part → List ℕ
with_part ffs3 body part =
    body ++ replicate (up4 (length body) - length body) 0
    ++ pad_section (unwrap_or (part_pad ffs3 (length body) part) 0)
    ++ section_bytes ffs3 part.kind part.guid part.bytes

-- a fault whose detail is a number
abbrev pub fault_with_size : ℕ → Place → ℕ → Fault
fault_with_size code place size = record { code = code; place = place; detail = decimal size }

-- an alignment that is none or that no pad makes hold, or a section that is too long for its file
-- system
unfoldable pub part_fault : Bool → Place → ℕ → Part → Option Fault
part_fault ffs3 place at part =
    let size = section_size ffs3 part.guid (length part.bytes) in
    first_holding (
    (not (is_section_alignment part.align), fault_with_size ALIGNMENT_REFUSED place part.align)
    ∷ (is_none (part_pad ffs3 at part), fault_with_size ALIGNMENT_REFUSED place part.align)
    ∷ (nat_lt (section_limit ffs3) size, fault_with_size SECTION_TOO_LONG place size)
    ∷ [])

-- a body with these sections more, or the first fault of one
unfoldable pub with_parts : Bool → Place → List ℕ → List Part → Result (List ℕ) Fault
with_parts ffs3 place body [] = Ok body
with_parts ffs3 place body (part ∷ parts) =
    and_then (unless (part_fault ffs3 place (length body) part) (with_part ffs3 body part))
    (λ more. with_parts ffs3 place more parts)

-- a GUID stands in SUBTYPE_GUID sections and in no other
abbrev pub HaveGuids : Body → Type 0
HaveGuids (Whole bytes) = Unit {0}
HaveGuids (Sections parts) =
    All (λ part. is_some part.guid ≡ (part.kind == EFI_SECTION_FREEFORM_SUBTYPE_GUID)) parts
