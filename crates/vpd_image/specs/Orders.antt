-- Entries that share no bytes, and entries in the order of their offsets.
use Rattle.std.specs.Prelude.{◌≡◌, ℕ, ◌≤◌, ◌-◌, Bool, false, nat_lt, List, [], ◌∷◌, ◌++◌, length, map, filter, replicate}
use Rattle.std.specs.List.{AllByRecursion}
use Rattle.build_base.specs.Pieces.{Piece, put_pieces}
use Rattle.vpd_image.specs.Places.{Placed, share, end_of, size_of, greatest_end}
use Rattle.vpd_image.specs.Vpd.{piece_of}

abbrev pub apart : Placed → Placed → Type 0
apart p q = share p.offset (end_of p) q.offset (end_of q) ≡ false

-- no two have a byte in common
unfoldable pub Apart : List Placed → Type 0
Apart [] = Unit {0}
Apart (placed ∷ more) = AllByRecursion (apart placed) more × Apart more

-- none starts before one above
unfoldable pub Rising : List Placed → Type 0
Rising [] = Unit {0}
Rising (placed ∷ more) = AllByRecursion (λ q. placed.offset ≤ q.offset) more × Rising more

abbrev pub has_bytes : Placed → Bool
has_bytes placed = nat_lt 0 (size_of placed.entry.row)

abbrev pub pieces_in : List Placed → List Piece
pieces_in all = map piece_of (filter has_bytes all)

-- the entries that have bytes, written one behind another
unfoldable pub laid_out : List Placed → List ℕ
laid_out all = put_pieces 0xFF [] (pieces_in all)
    ++ replicate (greatest_end all - length (put_pieces 0xFF [] (pieces_in all))) 0xFF
