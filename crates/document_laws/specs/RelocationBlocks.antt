-- Which blocks a directory of relocations has, without saying how they are found (PE/COFF format,
-- section 5.6): blocks one behind the other, each of the size that stands in it.
use Rattle.std.specs.Prelude.{◌≡◌, ◌<◌, ◌≤◌, ◌⊎◌, ℕ, ◌+◌, ◌-◌, ◌*◌, ◌%◌, List, [], ◌∷◌, ◌++◌, length}
use Rattle.image_rebase.specs.Blocks.{block_page, block_size}
use Rattle.image_rebase.specs.Standard.{IMAGE_SIZEOF_BASE_RELOCATION}
use Rattle.image_rebase.specs.declared.blocks.Block.{Block}

-- no block stands at the front: fewer bytes than its two fields are left, or the size is 0
abbrev pub HasNoBlock : List ℕ → Type 0
HasNoBlock bytes = (length bytes < IMAGE_SIZEOF_BASE_RELOCATION) ⊎ (block_size bytes ≡ 0)

-- the block whose bytes begin what is left from an offset on: its page, and where its entries stand
pub record IsBlock (at : ℕ) (bytes mine : List ℕ) (block : Block) : Type 0 where
  pub size_is : block_size bytes ≡ length mine
  pub even : length mine % 2 ≡ 0
  pub least : IMAGE_SIZEOF_BASE_RELOCATION ≤ length mine
  pub page : block.page ≡ block_page bytes
  pub start : block.start ≡ at + IMAGE_SIZEOF_BASE_RELOCATION
  pub entries : block.size ≡ length mine - IMAGE_SIZEOF_BASE_RELOCATION

abbrev pub AreBlocks : ℕ → List ℕ → List Block → Type 0
AreBlocks at bytes [] = HasNoBlock bytes
AreBlocks at bytes (block ∷ blocks) =
    (mine : List ℕ) × (rest : List ℕ) × (bytes ≡ mine ++ rest) × IsBlock at bytes mine block
    × AreBlocks (at + length mine) rest blocks

-- words of two bytes, the lower one first
abbrev pub AreWords : List ℕ → List ℕ → Type 0
AreWords bytes [] = length bytes < 2
AreWords bytes (word ∷ words) =
    (low : ℕ) × (high : ℕ) × (rest : List ℕ) × (bytes ≡ low ∷ high ∷ rest)
    × (word ≡ low + 256 * high) × AreWords rest words
