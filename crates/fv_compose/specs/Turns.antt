-- What each file adds to a volume where its files are gone through in order: the top file adds
-- nothing among the others.
use Rattle.std.specs.Prelude.{◌≡◌, ℕ, Bool, if◌then◌else◌, length, List, [], ◌∷◌, Option, Some, None}
use denote.Ref.{Bor}
use Rattle.build_base.specs.Pieces.{Piece}
use Rattle.build_base.specs.declared.fault.Fault.{Fault}
use Rattle.doc_types.specs.declared.image.FileImage.{FileImage}
use Rattle.fv_compose.specs.declared.layout.Layout.{Layout}
use Rattle.fv_compose.specs.Files.{is_top, file_start, file_end, plain_files, end_of, pad_fault, placed_pieces}

-- what a reference points to
abbrev pub pointed : {A : Type 0} → Option (Bor A) → Option A
pointed None = None
pointed (Some x) = Some x.now

abbrev pub next_end : ℕ → FileImage → ℕ
next_end at file = if is_top file then at else file_end at file

-- where a file stands; the top file stands for no bytes at the end of those before it
abbrev pub own_start : ℕ → FileImage → ℕ
own_start at file = if is_top file then at else file_start at file

-- where each of the files stands that come after an end
unfoldable pub own_starts : ℕ → List FileImage → List ℕ
own_starts at [] = []
own_starts at (file ∷ files) = own_start at file ∷ own_starts (next_end at file) files

-- The layout is that of these files behind a header that ends here.
pub record IsLaid (first : ℕ) (files : List FileImage) (layout : Layout) : Type 0 where
  pub starts : layout.starts ≡ own_starts first files
  pub end : layout.end ≡ end_of first (plain_files files)

abbrev pub own_pad_fault : Bool → ℕ → FileImage → Option Fault
own_pad_fault ffs3 at file = if is_top file then None
    else pad_fault ffs3 at (file_start at file) file

abbrev pub own_pieces : ℕ → ℕ → FileImage → List Piece
own_pieces erase at file = if is_top file then []
    else placed_pieces erase at (file_start at file) file.bytes

abbrev pub own_bytes : FileImage → ℕ
own_bytes file = if is_top file then 0 else length file.bytes
