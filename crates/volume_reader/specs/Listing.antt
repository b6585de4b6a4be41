-- The listing of an image; its form is this project's own.
use Rattle.std.specs.Prelude.{ℕ, zero, suc, ◌+◌, ◌-◌, ◌==◌, ◌&&◌, Bool, nat_lt, if◌then◌else◌, List, [], ◌∷◌, ◌++◌, length, take, drop, decimal, Option, Some, None, is_none, Result, Ok, Err}
use Rattle.std.specs.List.{flat_map}
use Rattle.build_base.specs.First.{and_then, with_front}
use Rattle.build_base.specs.FaultText.{fault_of}
use Rattle.build_base.specs.declared.fault.Place.{Place}
use Rattle.build_base.specs.declared.fault.Fault.{Fault}
use Rattle.doc_types.specs.Standard.{EFI_SECTION_FIRMWARE_VOLUME_IMAGE, EFI_FV_FILETYPE_FFS_PAD}
use Rattle.ffs_sections.specs.Standard.{SECTION_LIMIT}
use Rattle.volume_reader.specs.declared.listed.Listed.{Listed}
use Rattle.volume_reader.specs.declared.listed.ListedSection.{ListedSection}
use Rattle.volume_reader.specs.declared.listed.VolumeList.{VolumeList}
use Rattle.volume_reader.specs.declared.listing.FoundVolume.{FoundVolume}
use Rattle.volume_reader.specs.Head.{is_head, fv_length, volume_from}
use Rattle.volume_reader.specs.Volume.{volume_list}
use Rattle.volume_reader.specs.Lines.{hex, volume_line, pad_line, file_line, section_line, free_line}
use Rattle.build_base.specs.FaultCodes.{NO_VOLUME, VOLUME_BAD_FILE}

-- the content of a section without a GUID, in the bytes of its volume: its header has 4 bytes, and
-- 8 where its size doesn't fit there
unfoldable pub content_of : List ℕ → ListedSection → List ℕ
content_of bytes section =
    take (section.size - (if nat_lt SECTION_LIMIT section.size then 8 else 4))
    (drop section.start bytes)

-- a section, and below it what `inner` makes of the content of one that holds an image of a volume
unfoldable pub section_text : (ℕ → List ℕ → List ℕ) → ℕ → List ℕ → ListedSection → List ℕ
section_text inner indent bytes section =
    section_line indent section
    ++ (if section.kind == EFI_SECTION_FIRMWARE_VOLUME_IMAGE
    then inner (indent + 2) (content_of bytes section) else [])

-- a file with its sections
unfoldable pub file_text : (ℕ → List ℕ → List ℕ) → ℕ → List ℕ → Listed → List ℕ
file_text inner indent bytes file =
    if file.file_type == EFI_FV_FILETYPE_FFS_PAD then pad_line indent file
    else file_line indent file ++ flat_map (section_text inner (indent + 2) bytes) file.sections

-- a volume that stands at an offset
unfoldable pub volume_text : (ℕ → List ℕ → List ℕ) → ℕ → ℕ → List ℕ → VolumeList → List ℕ
volume_text inner indent offset bytes list =
    volume_line indent offset list ++ flat_map (file_text inner (indent + 2) bytes) list.files
    ++ free_line (indent + 2) list.free

abbrev pub text_of : (ℕ → List ℕ → List ℕ) → ℕ → List ℕ → Result VolumeList ℕ → List ℕ
text_of inner indent content (Ok list) = volume_text inner indent 0 content list
text_of inner indent content (Err place) = []

-- whether a content begins with a volume's header, and is as long as that says
unfoldable pub is_whole : List ℕ → Bool
is_whole content = is_head content && fv_length content == length content

-- the lines of a content that is a volume, where so many volumes may stand one in the other
unfoldable pub content_text : ℕ → ℕ → List ℕ → List ℕ
content_text zero indent content = []
content_text (suc n) indent content = if is_whole content
    then text_of (content_text n) indent content (volume_list content) else []

-- below the volumes of the image itself
abbrev pub NESTED : ℕ
NESTED = 7

-- the volume at a place of the image, or the place there of its first wrong file
abbrev pub found_volume : ℕ → Result VolumeList ℕ → Result FoundVolume ℕ
found_volume at (Ok list) = Ok (record { place = at; list = list })
found_volume at (Err place) = Err (at + place)

unfoldable pub found_at : List ℕ → ℕ → Result FoundVolume ℕ
found_at bytes at = found_volume at (volume_list (drop at bytes))

-- the volume of this place and those that `rest` finds from its end on
abbrev pub with_found : (ℕ → Result (List FoundVolume) ℕ) → List ℕ → Option ℕ
    → Result (List FoundVolume) ℕ
with_found rest bytes None = Ok []
with_found rest bytes (Some at) =
    and_then (found_at bytes at) (λ found. with_front (found ∷ []) (rest (at + found.list.length)))

-- The volumes of an image from a place on, at most so many, or the place of the first wrong file;
-- each is searched for from the end of the one before.
unfoldable pub volumes_from : ℕ → List ℕ → ℕ → Result (List FoundVolume) ℕ
volumes_from zero bytes from = Ok []
volumes_from (suc n) bytes from = with_found (volumes_from n bytes) bytes (volume_from bytes from)

-- their lines
unfoldable pub found_text : List ℕ → FoundVolume → List ℕ
found_text bytes found = volume_text (content_text NESTED) 0 found.place (drop found.place bytes)
    found.list

abbrev pub whole_file : List ℕ → Place
whole_file path = record { path = path; line = 0 }

abbrev pub listing_of : List ℕ → List ℕ → Result (List FoundVolume) ℕ → Result (List ℕ) Fault
listing_of path bytes (Ok volumes) = Ok (flat_map (found_text bytes) volumes)
listing_of path bytes (Err place) = Err (fault_of VOLUME_BAD_FILE (whole_file path) (hex place))

-- The listing of the image that stands in a file, or the fault of a file without a volume, or with
-- a wrong file in one. Each volume has some bytes, so they are at most as many as the image's.
unfoldable pub listing : List ℕ → List ℕ → Result (List ℕ) Fault
listing path bytes =
    if is_none (volume_from bytes 0)
    then Err (fault_of NO_VOLUME (whole_file path) (decimal (length bytes)))
    else listing_of path bytes (volumes_from (length bytes + 1) bytes 0)
