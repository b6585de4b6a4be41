-- The bytes of a file whose modules are moved, beside those of the file as it is (UEFI PI
-- specification, volume 3, sections 3.2.3 and 3.2.4; PE/COFF format, section 5.6).
use Rattle.std.specs.Prelude.{◌≡◌, ◌≢◌, ℕ, ◌+◌, ◌-◌, ◌<◌, ◌≤◌, Bool, true, false, List, [], ◌∷◌, ◌++◌, length, get_or, slice_index, All, Option, Some, None, Ok}
use Rattle.std.specs.List.{list_any}
use Rattle.byteorder.specs.Endian.{little_from}
use Rattle.build_base.specs.declared.fault.Place.{Place}
use Rattle.doc_types.specs.declared.image.FileImage.{FileImage}
use Rattle.doc_types.specs.declared.volume_head.VolumeHead.{VolumeHead}
use Rattle.ffs_sections.specs.Sums.{zero_byte}
use Rattle.ffs_sections.specs.File.{header_len}
use Rattle.fv_compose.specs.Places.{places_of}
use Rattle.fv_compose.specs.Volume.{volume_of}
use Rattle.volume_reader.specs.declared.listed.ListedSection.{ListedSection}
use Rattle.volume_reader.specs.Sections.{sections_of}
use Rattle.te_images.specs.Standard.{E_LFANEW}
use Rattle.te_images.specs.Pe.{optional_header}
use Rattle.image_rebase.specs.Standard.{EFI_SECTION_PE32}
use Rattle.image_rebase.specs.declared.module.Module.{Module}
use Rattle.image_rebase.specs.declared.blocks.Block.{Block}
use Rattle.image_rebase.specs.Module.{module_in}
use Rattle.image_rebase.specs.Blocks.{directory_in, entries_in}
use Rattle.image_rebase.specs.Moves.{entry_type, entry_offset, width_of, sum_at, difference, new_base, module_blocks}
use Rattle.image_rebase.specs.Changes.{is_in, names, block_names, base_width, content_changes, file_changes}
use Rattle.image_rebase.specs.Files.{has_module, content_length, content_in, has_checksum, has_sections, file_head, file_body}
use Rattle.image_rebase.specs.Rebase.{base_of}

-- At this place of a content stands a word of so many bytes that an entry of these blocks names. No
-- other entry names a byte of it, and none is one of ImageBase.
pub record IsNamedOnce (m : Module) (directory : List ℕ) (blocks : List Block) (at width : ℕ)
    : Type 0 where
  pub before : List Block
  pub block : Block
  pub after : List Block
  pub front : List ℕ
  pub entry : ℕ
  pub back : List ℕ
  pub blocks_are : blocks ≡ before ++ block ∷ after
  pub entries_are : entries_in directory block ≡ front ++ entry ∷ back
  pub place : at ≡ block.page + entry_offset entry - m.skip
  pub bytes : width ≡ width_of (entry_type entry)
  pub some : 0 < width
  pub other_blocks : (k : ℕ) → is_in at width k ≡ true
      → list_any (block_names m.skip directory k) (before ++ after) ≡ false
  pub other_entries : (k : ℕ) → is_in at width k ≡ true
      → list_any (names m.skip block.page k) (front ++ back) ≡ false
  pub no_base : (k : ℕ) → is_in at width k ≡ true → is_in m.base_at (base_width m) k ≡ false

-- The content of a module is moved to this address. Its ImageBase is the address of relative
-- address 0. Each word that is named once has the difference of the new ImageBase and the old more.
pub record IsMovedModule (place : Place) (m : Module) (address : ℕ) (content moved : List ℕ)
    : Type 0 where
  pub blocks : List Block
  pub found : module_blocks place m content ≡ Ok blocks
  pub base : little_from m.base_at (base_width m) moved ≡ new_base m address
  pub word : (at width : ℕ) → IsNamedOnce m (directory_in m content) blocks at width
      → little_from at width moved
      ≡ sum_at width at (difference (new_base m address) m.base) content

-- a content without a module that can be moved stays
abbrev pub IsMovedWith : Place → ℕ → List ℕ → List ℕ → Option Module → Type 0
IsMovedWith place address content moved None = moved ≡ content
IsMovedWith place address content moved (Some m) = IsMovedModule place m address content moved

-- The content of a section of this kind is moved to this address. It is as long, and all bytes stay
-- but those of ImageBase and of words that entries name.
pub record IsMovedContent (place : Place) (address kind : ℕ) (content moved : List ℕ) : Type 0 where
  pub size : length moved ≡ length content
  pub byte : (k d : ℕ) → content_changes place kind content k ≡ false
      → get_or moved k d ≡ get_or content k d
  pub module_is : IsMovedWith place address content moved (module_in kind content)

-- A move leaves the fields by which a PE32 image tells where its ImageBase stands: the place of its
-- headers, and the magic of its optional header.
pub record KeepsFields (place : Place) (content : List ℕ) : Type 0 where
  pub headers : (k : ℕ) → is_in E_LFANEW 4 k ≡ true
      → content_changes place EFI_SECTION_PE32 content k ≡ false
  pub magic : (k : ℕ) → is_in (optional_header content) 2 k ≡ true
      → content_changes place EFI_SECTION_PE32 content k ≡ false

-- in a body that lies at an address, the content of this section is moved to where it lies
abbrev pub IsMovedIn : Place → ℕ → List ℕ → List ℕ → ListedSection → Type 0
IsMovedIn place address body moved section = has_module section ≡ true
    → IsMovedContent place (address + section.start) section.kind (content_in body section)
    (content_in moved section)

-- The body of a file with these sections, which lies at an address: each module among them is moved
-- to where it lies, and the header has the file checksum of the new body.
pub record IsMovedBody (place : Place) (address : ℕ) (sections : List ListedSection)
    (bytes moved : List ℕ) : Type 0 where
  pub contents : All (IsMovedIn place address (file_body bytes) (file_body moved)) sections
  pub check : has_checksum (file_head bytes) ≡ true
      → slice_index moved 0x11 ≡ zero_byte (file_body moved)

-- This place of a file is not that of a file checksum of its body, and no module's content has it.
pub record IsOutside (ffs3 : Bool) (bytes : List ℕ) (k : ℕ) : Type 0 where
  pub check : has_checksum (file_head bytes) ≡ true → k ≢ 0x11
  pub contents : (sections : List ListedSection) → has_sections bytes ≡ true
      → sections_of ffs3 0 (file_body bytes) ≡ Some sections
      → All (λ section. has_module section ≡ true
      → is_in (header_len bytes + section.start) (content_length section) k ≡ false) sections

-- The file that stands at this place of a volume with this base is moved. It is as long, it has the
-- same sections in the same places, and all bytes outside of its modules and of the file checksum
-- stay. Within a module those alone change that it names.
pub record IsMovedFile (ffs3 : Bool) (base start : ℕ) (file moved : FileImage) : Type 0 where
  pub at : moved.at ≡ file.at
  pub guid : moved.guid ≡ file.guid
  pub align : moved.align ≡ file.align
  pub size : length moved.bytes ≡ length file.bytes
  pub outside : (k d : ℕ) → IsOutside ffs3 file.bytes k
      → get_or moved.bytes k d ≡ get_or file.bytes k d
  pub byte : (k d : ℕ) → file_changes ffs3 file.at file.bytes k ≡ false
      → get_or moved.bytes k d ≡ get_or file.bytes k d
  pub lists : (place : ℕ) → sections_of ffs3 place (file_body moved.bytes)
      ≡ sections_of ffs3 place (file_body file.bytes)
  pub body : (sections : List ListedSection) → header_len file.bytes ≤ length file.bytes
      → has_sections file.bytes ≡ true
      → sections_of ffs3 0 (file_body file.bytes) ≡ Some sections
      → IsMovedBody file.at (base + start + header_len file.bytes) sections file.bytes moved.bytes

-- files that stand at these places are moved, one by one
unfoldable pub AreMovedFiles : Bool → ℕ → List FileImage → List ℕ → List FileImage → Type 0
AreMovedFiles ffs3 base [] [] [] = Unit {0}
AreMovedFiles ffs3 base (file ∷ files) (start ∷ starts) (moved ∷ more) =
    IsMovedFile ffs3 base start file moved × AreMovedFiles ffs3 base files starts more
AreMovedFiles ffs3 base files starts moved = ⊥

-- The image is the volume of the files, each moved to where it stands in the volume of the files as
-- they are.
pub record IsMovedVolume (head : VolumeHead) (files : List FileImage) (image : List ℕ)
    : Type 0 where
  pub starts : List ℕ
  pub places : places_of head files ≡ Ok starts
  pub moved : List FileImage
  pub each : AreMovedFiles head.ffs3 (base_of head) files starts moved
  pub whole : volume_of head moved ≡ Ok image
