-- Which bytes of a volume a move of its modules may change: those of the words that base
-- relocations name, of ImageBase, and the file checksums.
use Rattle.std.specs.Prelude.{◌≡◌, ℕ, ◌+◌, ◌-◌, ◌==◌, ◌&&◌, ◌||◌, Bool, false, nat_le, nat_lt, if◌then◌else◌, List, [], ◌∷◌, length, get_or, Option, Some, None, Result, Ok, Err}
use Rattle.std.specs.List.{list_any}
use Rattle.build_base.specs.declared.fault.Place.{Place}
use Rattle.build_base.specs.declared.fault.Fault.{Fault}
use Rattle.doc_types.specs.declared.image.FileImage.{FileImage}
use Rattle.doc_types.specs.declared.volume_head.VolumeHead.{VolumeHead}
use Rattle.ffs_sections.specs.File.{header_len}
use Rattle.fv_compose.specs.Places.{places_of}
use Rattle.volume_reader.specs.declared.listed.ListedSection.{ListedSection}
use Rattle.volume_reader.specs.Sections.{sections_of}
use Rattle.image_rebase.specs.Module.{module_in}
use Rattle.image_rebase.specs.Blocks.{directory_in, entries_in}
use Rattle.image_rebase.specs.Moves.{entry_type, entry_offset, width_of, module_blocks}
use Rattle.image_rebase.specs.Files.{has_module, content_length, content_in, has_checksum, has_sections, file_head, file_body}
use Rattle.image_rebase.specs.declared.module.Module.{Module}
use Rattle.image_rebase.specs.declared.blocks.Block.{Block}

-- whether a place is among so many from a start on
unfoldable pub is_in : ℕ → ℕ → ℕ → Bool
is_in start count k = nat_le start k && nat_lt k (start + count)

-- whether the word that an entry names has a place of the content
unfoldable pub names : ℕ → ℕ → ℕ → ℕ → Bool
names skip page k entry = is_in (page + entry_offset entry - skip) (width_of (entry_type entry)) k

abbrev pub block_names : ℕ → List ℕ → ℕ → Block → Bool
block_names skip directory k block = list_any (names skip block.page k) (entries_in directory block)

abbrev pub are_named : ℕ → List ℕ → ℕ → Result (List Block) Fault → Bool
are_named skip directory k (Ok blocks) = list_any (block_names skip directory k) blocks
are_named skip directory k (Err fault) = false

abbrev pub base_width : Module → ℕ
base_width m = if m.wide then 8 else 4

-- whether it is one of a word that a relocation names, or of ImageBase
abbrev pub module_changes : Place → List ℕ → ℕ → Option Module → Bool
module_changes place content k None = false
module_changes place content k (Some m) =
    are_named m.skip (directory_in m content) k (module_blocks place m content)
    || is_in m.base_at (base_width m) k

unfoldable pub content_changes : Place → ℕ → List ℕ → ℕ → Bool
content_changes place kind content k = module_changes place content k (module_in kind content)

-- places of a body, in the contents of its modules
unfoldable pub section_changes : Place → List ℕ → ℕ → ListedSection → Bool
section_changes place body k section =
    has_module section && is_in section.start (content_length section) k
    && content_changes place section.kind (content_in body section) (k - section.start)

abbrev pub sections_change : Place → List ℕ → ℕ → Option (List ListedSection) → Bool
sections_change place body k None = false
sections_change place body k (Some sections) = list_any (section_changes place body k) sections

-- places of a file: in its body, or that of its file checksum
unfoldable pub file_changes : Bool → Place → List ℕ → ℕ → Bool
file_changes ffs3 place bytes k =
    (has_checksum (file_head bytes) && k == 0x11)
    || (has_sections bytes && nat_le (header_len bytes) k
    && sections_change place (file_body bytes) (k - header_len bytes)
    (sections_of ffs3 0 (file_body bytes)))

-- places of a volume, in the files at these places
unfoldable pub files_change : Bool → ℕ → List FileImage → List ℕ → Bool
files_change ffs3 k [] starts = false
files_change ffs3 k (file ∷ files) [] = false
files_change ffs3 k (file ∷ files) (start ∷ starts) =
    (is_in start (length file.bytes) k && file_changes ffs3 file.at file.bytes (k - start))
    || files_change ffs3 k files starts

abbrev pub volume_changes : VolumeHead → List FileImage → ℕ → Result (List ℕ) Fault → Bool
volume_changes head files k (Ok starts) = files_change head.ffs3 k files starts
volume_changes head files k (Err fault) = false

-- an image is another one but for the bytes that may change
pub record Stays (head : VolumeHead) (files : List FileImage) (plain moved : List ℕ) : Type 0 where
  pub size : length moved ≡ length plain
  pub byte : (k d : ℕ) → volume_changes head files k (places_of head files) ≡ false
      → get_or moved k d ≡ get_or plain k d

-- All other bytes are those of the volume of the files as they are.
abbrev pub StaysBut : VolumeHead → List FileImage → List ℕ → Result (List ℕ) Fault → Type 0
StaysBut head files moved (Ok plain) = Stays head files plain moved
StaysBut head files moved (Err fault) = ⊥
