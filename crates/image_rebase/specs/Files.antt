-- Files whose modules are moved (UEFI PI specification, volume 3, sections 3.2.3 and 3.2.4).
use Rattle.std.specs.Prelude.{ℕ, ◌+◌, ◌-◌, ◌/◌, ◌%◌, ◌==◌, ◌||◌, ◌&&◌, Bool, not, nat_lt, if◌then◌else◌, List, [], ◌∷◌, ◌++◌, take, drop, slice_set, Option, Some, None, Result, Ok}
use Rattle.build_base.specs.First.{with_front, and_then}
use Rattle.build_base.specs.declared.fault.Place.{Place}
use Rattle.build_base.specs.declared.fault.Fault.{Fault}
use Rattle.doc_types.specs.Standard.{EFI_FV_FILETYPE_RAW, EFI_FV_FILETYPE_FFS_PAD}
use Rattle.doc_types.specs.declared.image.FileImage.{FileImage}
use Rattle.ffs_sections.specs.Standard.{FFS_ATTRIB_CHECKSUM, SECTION_LIMIT}
use Rattle.ffs_sections.specs.Sums.{zero_byte}
use Rattle.ffs_sections.specs.File.{header_len}
use Rattle.volume_reader.specs.declared.listed.ListedSection.{ListedSection}
use Rattle.volume_reader.specs.Sections.{sections_of}
use Rattle.volume_reader.specs.Files.{file_type, file_attributes}
use Rattle.image_rebase.specs.Standard.{EFI_SECTION_PE32, EFI_SECTION_TE}
use Rattle.image_rebase.specs.Moves.{moved_content}

-- sections that hold modules; what else a file holds stays, volumes among it
abbrev pub has_module : ListedSection → Bool
has_module section = section.kind == EFI_SECTION_PE32 || section.kind == EFI_SECTION_TE

-- the length of such a section's content: a header of 4 bytes stands before it, or of 8 where the
-- section is large
abbrev pub content_length : ListedSection → ℕ
content_length section = section.size - (if nat_lt SECTION_LIMIT section.size then 8 else 4)

abbrev pub content_in : List ℕ → ListedSection → List ℕ
content_in body section = take (content_length section) (drop section.start body)

-- The body, which lies at an address of memory, from an offset on, with the modules of these
-- sections moved; or the first fault of one.
unfoldable pub moved_from : Place → ℕ → ℕ → List ℕ → ℕ → List ListedSection → Result (List ℕ) Fault
moved_from place base address body at [] = Ok (drop at body)
moved_from place base address body at (section ∷ sections) =
    if has_module section then
    and_then (moved_content place base (address + section.start) section.kind
    (content_in body section))
    (λ moved. with_front (take (section.start - at) (drop at body) ++ moved)
    (moved_from place base address body (section.start + content_length section) sections))
    else moved_from place base address body at sections

-- whether a header has the attribute CHECKSUM
unfoldable pub has_checksum : List ℕ → Bool
has_checksum head = file_attributes head / FFS_ATTRIB_CHECKSUM % 2 == 1

-- the header with the file checksum of this body where it has that attribute
unfoldable pub resummed_head : List ℕ → List ℕ → List ℕ
resummed_head head body = if has_checksum head then slice_set head 0x11 (zero_byte body) else head

abbrev pub with_body : List ℕ → List ℕ → List ℕ
with_body head body = resummed_head head body ++ body

-- a file's header and body
abbrev pub file_head : List ℕ → List ℕ
file_head bytes = take (header_len bytes) bytes

abbrev pub file_body : List ℕ → List ℕ
file_body bytes = drop (header_len bytes) bytes

-- a file that starts at an address of memory, with the modules of these sections moved
abbrev pub with_sections : Place → ℕ → ℕ → List ℕ → List ListedSection → Result (List ℕ) Fault
with_sections place base address bytes sections =
    and_then (moved_from place base (address + header_len bytes) (file_body bytes) 0 sections)
    (λ body. Ok (with_body (file_head bytes) body))

-- where its body is no list of sections it stays
abbrev pub with_found : Place → ℕ → ℕ → List ℕ → Option (List ListedSection) → Result (List ℕ) Fault
with_found place base address bytes None = Ok bytes
with_found place base address bytes (Some sections) =
    with_sections place base address bytes sections

unfoldable pub moved_sections : Bool → Place → ℕ → ℕ → List ℕ → Result (List ℕ) Fault
moved_sections ffs3 place base address bytes =
    with_found place base address bytes (sections_of ffs3 0 (file_body bytes))

-- files of raw data and pads have no sections
unfoldable pub has_sections : List ℕ → Bool
has_sections bytes = not (file_type bytes == EFI_FV_FILETYPE_RAW)
    && not (file_type bytes == EFI_FV_FILETYPE_FFS_PAD)

unfoldable pub moved_bytes : Bool → Place → ℕ → ℕ → List ℕ → Result (List ℕ) Fault
moved_bytes ffs3 place base address bytes =
    if has_sections bytes then moved_sections ffs3 place base address bytes else Ok bytes

abbrev pub with_file_bytes : FileImage → List ℕ → FileImage
with_file_bytes file bytes =
    record { at = file.at; guid = file.guid; align = file.align; bytes = bytes }

-- a file that stands at this place of the volume
unfoldable pub moved_file : Bool → ℕ → ℕ → FileImage → Result FileImage Fault
moved_file ffs3 base start file =
    and_then (moved_bytes ffs3 file.at base (base + start) file.bytes)
    (λ bytes. Ok (with_file_bytes file bytes))

-- the files of a volume, each at its place, or the first fault of one
unfoldable pub moved_files : Bool → ℕ → List FileImage → List ℕ → Result (List FileImage) Fault
moved_files ffs3 base [] starts = Ok []
moved_files ffs3 base (file ∷ files) [] = Ok []
moved_files ffs3 base (file ∷ files) (start ∷ starts) =
    and_then (moved_file ffs3 base start file)
    (λ moved. with_front (moved ∷ []) (moved_files ffs3 base files starts))
