-- The base relocations of a module, by the PE/COFF format, section 5.6: blocks of entries, each for
-- a page of 4096 bytes.
use Rattle.std.specs.Prelude.{ℕ, zero, suc, ◌+◌, ◌-◌, ◌*◌, ◌%◌, ◌==◌, ◌||◌, Bool, nat_lt, if◌then◌else◌, List, [], ◌∷◌, length, take, drop, Result, Ok, Err}
use Rattle.byteorder.specs.Endian.{little_from}
use Rattle.build_base.specs.First.{with_front}
use Rattle.build_base.specs.declared.fault.Place.{Place}
use Rattle.build_base.specs.declared.fault.Fault.{Fault}
use Rattle.ffs_sections.specs.Sections.{fault_with_size}
use Rattle.image_rebase.specs.Standard.{IMAGE_SIZEOF_BASE_RELOCATION}
use Rattle.image_rebase.specs.declared.module.Module.{Module}
use Rattle.image_rebase.specs.declared.blocks.Block.{Block}
use Rattle.build_base.specs.FaultCodes.{RELOC_BLOCK}

-- whether the directory doesn't lie within the content
unfoldable pub lies_past : Module → ℕ → Bool
lies_past m count = nat_lt m.address m.skip || nat_lt count (m.address - m.skip + m.size)

-- the bytes of the directory
unfoldable pub directory_in : Module → List ℕ → List ℕ
directory_in m content = take m.size (drop (m.address - m.skip) content)

-- fields of the block that some bytes begin with
unfoldable pub block_page : List ℕ → ℕ
block_page bytes = little_from 0 4 bytes

unfoldable pub block_size : List ℕ → ℕ
block_size bytes = little_from 4 4 bytes

-- a size that is odd, that is less than that of the block's own fields, or that goes past the end
unfoldable pub is_wrong_size : ℕ → ℕ → Bool
is_wrong_size size count = size % 2 == 1 || nat_lt size IMAGE_SIZEOF_BASE_RELOCATION
    || nat_lt count size

-- whether no block follows: fewer than eight bytes are left, or the size is 0
unfoldable pub is_end : List ℕ → Bool
is_end left = nat_lt (length left) IMAGE_SIZEOF_BASE_RELOCATION || block_size left == 0

-- a block at an offset of the directory; its entries stand behind its two fields
abbrev pub block_at : ℕ → List ℕ → Block
block_at at left = record { page = block_page left; start = at + 8; size = block_size left - 8 }

-- The blocks in what is left of the directory from an offset on, where they are at most so many
-- less one; or the fault of the first whose size is wrong.
unfoldable pub blocks_from : ℕ → Place → ℕ → List ℕ → Result (List Block) Fault
blocks_from zero place at left = Ok []
blocks_from (suc n) place at left =
    if is_end left then Ok []
    else if is_wrong_size (block_size left) (length left) then Err (fault_with_size RELOC_BLOCK place at)
    else with_front (block_at at left ∷ [])
    (blocks_from n place (at + block_size left) (drop (block_size left) left))

-- those of the whole directory, of which each has at least eight bytes
abbrev pub blocks_of : Place → List ℕ → Result (List Block) Fault
blocks_of place directory = blocks_from (length directory + 1) place 0 directory

-- the entries of a block: words of 16 bits
unfoldable pub words_of : List ℕ → List ℕ
words_of [] = []
words_of (low ∷ []) = []
words_of (low ∷ high ∷ more) = (low + 256 * high) ∷ words_of more

abbrev pub entry_bytes : List ℕ → Block → List ℕ
entry_bytes directory block = take block.size (drop block.start directory)

unfoldable pub entries_in : List ℕ → Block → List ℕ
entries_in directory block = words_of (entry_bytes directory block)
