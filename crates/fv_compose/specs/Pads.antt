-- Pad files (UEFI PI specification, volume 3, section 3.2.3).
use Rattle.std.specs.Prelude.{ℕ, ◌-◌, Bool, nat_lt, List, ◌++◌, replicate}
use Rattle.build_base.specs.Runs.{free_byte}
use Rattle.ffs_sections.specs.File.{file_head, head_len, state_of}
use Rattle.doc_types.specs.Standard.{EFI_FV_FILETYPE_FFS_PAD}
use Rattle.ffs_sections.specs.Standard.{FFS_FIXED_CHECKSUM, FILE_LIMIT}

-- a pad file of more than 0xFFFFFF bytes, header and all, is a large file
abbrev pub is_large_pad : ℕ → Bool
is_large_pad size = nat_lt FILE_LIMIT size

-- the header of a pad file of this size: a name of ones, no checksum of the body, no attributes
abbrev pub pad_header : ℕ → ℕ → List ℕ
pad_header erase size =
    file_head (is_large_pad size) (replicate 16 0xFF)
    (record {
      check = FFS_FIXED_CHECKSUM;
      kind = EFI_FV_FILETYPE_FFS_PAD;
      attributes = 0;
      size =
          size;
      state = state_of erase;
    })

-- a pad file of this size
unfoldable pub pad_bytes : ℕ → ℕ → List ℕ
pad_bytes erase size = pad_header erase size
    ++ replicate (size - head_len (is_large_pad size)) (free_byte erase)
