-- What a module is moved by. The entries of its base relocations, by the PE/COFF format, section
-- 5.6, name words that hold addresses; each word gets the difference of the new ImageBase and the
-- old.
use Rattle.std.specs.Prelude.{ℕ, ◌+◌, ◌-◌, ◌*◌, ◌/◌, ◌%◌, ◌^◌, ◌==◌, ◌&&◌, ◌||◌, Bool, not, nat_lt, if◌then◌else◌, List, [], ◌∷◌, ◌++◌, length, codes, decimal, map, Option, Some, None, Result, Ok, Err}
use Rattle.std.specs.List.{range_with_len, find}
use Rattle.std.specs.Option.{option_map}
use Rattle.byteorder.specs.Endian.{little_from}
use Rattle.build_base.specs.First.{first_holding, first_of, or_fault, and_then}
use Rattle.build_base.specs.declared.fault.Place.{Place}
use Rattle.build_base.specs.declared.fault.Fault.{Fault}
use Rattle.ffs_sections.specs.Sections.{fault_with_size}
use Rattle.te_images.specs.Standard.{IMAGE_SIZEOF_SECTION_HEADER}
use Rattle.volume_reader.specs.Lines.{hex}
use Rattle.image_rebase.specs.Standard.{IMAGE_REL_BASED_ABSOLUTE, IMAGE_REL_BASED_HIGHLOW, IMAGE_REL_BASED_DIR64}
use Rattle.image_rebase.specs.Bytes.{with_number}
use Rattle.image_rebase.specs.Blocks.{lies_past, directory_in, blocks_of, entries_in}
use Rattle.image_rebase.specs.Module.{module_in}
use Rattle.image_rebase.specs.declared.module.Module.{Module}
use Rattle.image_rebase.specs.declared.blocks.Block.{Block}
use Rattle.build_base.specs.FaultCodes.{BASE_RANGE, NOT_IN_PLACE, RELOC_BLOCK, RELOC_OUTSIDE, RELOC_TYPE}

-- Section headers: VirtualAddress at 0x0C, SizeOfRawData at 0x10, PointerToRawData at 0x14.

abbrev pub section_header : Module → ℕ → ℕ
section_header m number = m.table + IMAGE_SIZEOF_SECTION_HEADER * number

-- whether a section of the module has bytes that lie elsewhere in the file than in memory
unfoldable pub is_misplaced : Module → List ℕ → ℕ → Bool
is_misplaced m content number =
    let at = section_header m number in
    nat_lt 0 (little_from (at + 0x10) 4 content)
    && not (little_from (at + 0x14) 4 content == little_from (at + 0x0C) 4 content)

-- the first such section, by its number
abbrev pub misplaced : Place → Module → List ℕ → Option Fault
misplaced place m content = option_map (λ number. fault_with_size NOT_IN_PLACE place number)
    (find (is_misplaced m content) (range_with_len 0 m.sections))

-- The new ImageBase of a module whose content lies at this address: that of relative address 0.
abbrev pub new_base : Module → ℕ → ℕ
new_base m address = address - m.skip

abbrev pub base_limit : Bool → ℕ
base_limit wide = if wide then 0xFFFFFFFFFFFFFFFF else 0xFFFFFFFF

-- it is below zero, or past what the field can hold
unfoldable pub out_of_range : Module → ℕ → Bool
out_of_range m address = nat_lt address m.skip || nat_lt (base_limit m.wide) (new_base m address)

-- the fault has the volume's base
abbrev pub range_fault : Place → ℕ → Fault
range_fault place base = record { code = BASE_RANGE; place = place; detail = hex base }

-- An entry has a type in its upper four bits and the offset in its block's page in the lower
-- twelve.

abbrev pub entry_type : ℕ → ℕ
entry_type entry = entry / 0x1000

abbrev pub entry_offset : ℕ → ℕ
entry_offset entry = entry % 0x1000

-- the bytes of the word that an entry of this type names
abbrev pub width_of : ℕ → ℕ
width_of kind = if kind == IMAGE_REL_BASED_HIGHLOW then 4 else if kind == IMAGE_REL_BASED_DIR64
    then 8 else 0

abbrev pub is_type : ℕ → Bool
is_type kind = kind == IMAGE_REL_BASED_ABSOLUTE || kind == IMAGE_REL_BASED_HIGHLOW
    || kind == IMAGE_REL_BASED_DIR64

unfoldable pub type_fault : Place → ℕ → Option Fault
type_fault place entry =
    first_holding ((
      not (is_type (entry_type entry)),
      fault_with_size RELOC_TYPE place (entry_type entry),
    )
    ∷ [])

-- the first entry of another type
abbrev pub types_fault : Place → List ℕ → Option Fault
types_fault place entries = first_of (map (type_fault place) entries)

abbrev pub blocks_fault : Place → List ℕ → List Block → Option Fault
blocks_fault place directory blocks =
    first_of (map (λ block. types_fault place (entries_in directory block)) blocks)

-- whether a word at a relative address isn't within a content so long
unfoldable pub lies_outside : ℕ → ℕ → ℕ → ℕ → Bool
lies_outside skip address width count = nat_lt address skip || nat_lt count (address - skip + width)

-- where it ends, or 0 where that is below the content's start
abbrev pub word_end : ℕ → ℕ → ℕ → ℕ
word_end skip address width = address + width - skip

abbrev pub outside_fault : Place → ℕ → ℕ → Fault
outside_fault place end count =
    record {
      code = RELOC_OUTSIDE;
      place = place;
      detail = decimal end ++ codes " > " ++ decimal
          count;
    }

-- the word with a difference more, modulo its size
abbrev pub sum_at : ℕ → ℕ → ℕ → List ℕ → ℕ
sum_at width at by content = (little_from at width content + by) % 2 ^ (8 * width)

unfoldable pub moved_word : Place → ℕ → ℕ → ℕ → ℕ → List ℕ → Result (List ℕ) Fault
moved_word place skip by address width content =
    if lies_outside skip address width (length content)
    then Err (outside_fault place (word_end skip address width) (length content))
    else Ok (with_number width (address - skip) (sum_at width (address - skip) by content) content)

-- what an entry of a page makes of the content
unfoldable pub moved_by : Place → ℕ → ℕ → ℕ → ℕ → List ℕ → Result (List ℕ) Fault
moved_by place skip by page entry content =
    if width_of (entry_type entry) == 0 then Ok content
    else moved_word place skip by (page + entry_offset entry) (width_of (entry_type entry)) content

-- what entries make of it one after another, each of what those before it left; or the fault of the
-- first word that isn't within it
unfoldable pub moved_entries : Place → ℕ → ℕ → ℕ → List ℕ → List ℕ → Result (List ℕ) Fault
moved_entries place skip by page [] content = Ok content
moved_entries place skip by page (entry ∷ entries) content =
    and_then (moved_by place skip by page entry content) (moved_entries place skip by page entries)

unfoldable pub moved_blocks : Place → ℕ → ℕ → List ℕ → List Block → List ℕ → Result (List ℕ) Fault
moved_blocks place skip by directory [] content = Ok content
moved_blocks place skip by directory (block ∷ blocks) content =
    and_then (moved_entries place skip by block.page (entries_in directory block) content)
    (moved_blocks place skip by directory blocks)

-- the new ImageBase less the old, modulo 2^64
unfoldable pub difference : ℕ → ℕ → ℕ
difference new old = (new + 2 ^ 64 - old) % 2 ^ 64

-- the module's content with this ImageBase
abbrev pub with_base : Module → ℕ → List ℕ → List ℕ
with_base m new content = with_number (if m.wide then 8 else 4) m.base_at new content

-- Entries are read from the directory as it was, and carried out in order; then ImageBase is
-- written.
unfoldable pub moved_words : Place → Module → ℕ → List ℕ → List ℕ → List Block
    → Result (List ℕ) Fault
moved_words place m new content directory blocks =
    and_then (moved_blocks place m.skip (difference new m.base) directory blocks content)
    (λ moved. Ok (with_base m new moved))

-- The types of all entries come before the place of any word.
unfoldable pub moved_by_blocks : Place → Module → ℕ → List ℕ → List Block → Result (List ℕ) Fault
moved_by_blocks place m new content blocks =
    or_fault (blocks_fault place (directory_in m content) blocks)
    (moved_words place m new content (directory_in m content) blocks)

-- the blocks of the module's directory
unfoldable pub module_blocks : Place → Module → List ℕ → Result (List Block) Fault
module_blocks place m content =
    if lies_past m (length content) then Err (fault_with_size RELOC_BLOCK place 0)
    else blocks_of place (directory_in m content)

-- The sizes of all blocks come before the first entry.
unfoldable pub moved_to : Place → Module → ℕ → List ℕ → Result (List ℕ) Fault
moved_to place m new content =
    and_then (module_blocks place m content) (moved_by_blocks place m new content)

unfoldable pub moved_in_range : Place → ℕ → ℕ → Module → List ℕ → Result (List ℕ) Fault
moved_in_range place base address m content =
    if out_of_range m address then Err (range_fault place base)
    else moved_to place m (new_base m address) content

-- The content of a module that lies at this address, in a volume with this base, moved to that
-- address; or its first fault: of its sections' places (734), of the new ImageBase (735), of a
-- block's size (731), of an entry's type (732) or of a word's place (733).
unfoldable pub moved_module : Place → ℕ → ℕ → Module → List ℕ → Result (List ℕ) Fault
moved_module place base address m content =
    or_fault (misplaced place m content) (moved_in_range place base address m content)

abbrev pub moved_with : Place → ℕ → ℕ → Option Module → List ℕ → Result (List ℕ) Fault
moved_with place base address None content = Ok content
moved_with place base address (Some m) content = moved_module place base address m content

-- the content of a section of this kind, which lies at this address
unfoldable pub moved_content : Place → ℕ → ℕ → ℕ → List ℕ → Result (List ℕ) Fault
moved_content place base address kind content =
    moved_with place base address (module_in kind content) content
