-- The entries of the image of vital product data (EDK II DSC specification, [PcdsDynamicVpd]
-- sections): which lines of the platform give one, and of which row of values. The format of the
-- image is this project's own.
use Rattle.std.specs.Prelude.{ℕ, Bool, true, false, ◌&&◌, if◌then◌else◌, List, [], ◌∷◌, ◌++◌, find, Option, Some, None, codes}
use Rattle.std.specs.List.{list_any}
use Rattle.std.specs.Str.{bytes_eq}
use Rattle.doc_types.specs.declared.arch.Arch.{Arch}
use Rattle.doc_types.specs.declared.arch.Arch.TheVariants.{Common}
use Rattle.doc_types.specs.declared.pcd.PcdName.{PcdName}
use Rattle.doc_types.specs.declared.platform.PcdLine.{PcdLine}
use Rattle.doc_types.specs.declared.platform.Store.{Store}
use Rattle.doc_types.specs.declared.platform.Store.TheVariants.{Vpd}
use Rattle.doc_types.specs.declared.values.PcdRow.{PcdRow}
unfoldable pub use Rattle.doc_types.specs.Arches.{same_arch}

-- a line, and the row of its PCD and its SKU
pub record Entry : Type 0 where
  pub line : PcdLine
  pub row : PcdRow

abbrev pub is_vpd : Store → Bool
is_vpd (Vpd offset rest) = true
is_vpd store = false

-- an architecture that is common or one of these
unfoldable pub is_built : List Arch → Arch → Bool
is_built arches Common = true
is_built arches arch = list_any (same_arch arch) arches

-- a VPD line for an architecture that is built
unfoldable pub counts : List Arch → PcdLine → Bool
counts arches line = is_vpd line.store && is_built arches line.arch

-- a line without a SKU is for DEFAULT
abbrev pub or_default : List ℕ → List ℕ
or_default [] = codes "DEFAULT"
or_default (byte ∷ bytes) = byte ∷ bytes

abbrev pub sku_of : PcdLine → List ℕ
sku_of line = or_default line.sku

-- `Space.Name SKU`; a PCD's value for a SKU is told by this text
unfoldable pub label : PcdName → List ℕ → List ℕ
label pcd sku = pcd.space ++ codes "." ++ pcd.name ++ codes " " ++ sku

abbrev pub line_label : PcdLine → List ℕ
line_label line = label line.pcd (sku_of line)

abbrev pub row_label : PcdRow → List ℕ
row_label row = label row.pcd row.sku

abbrev pub is_row_of : List ℕ → PcdRow → Bool
is_row_of name row = bytes_eq (row_label row) name

abbrev pub is_line_of : List Arch → List ℕ → PcdLine → Bool
is_line_of arches name line = counts arches line && bytes_eq (line_label line) name

-- the row that is left to a name by the lines below: none where one of them has the name
abbrev pub row_left : List Arch → List PcdRow → List PcdLine → List ℕ → Option PcdRow
row_left arches rows below name = if list_any (is_line_of arches name) below then None
    else find (is_row_of name) rows

abbrev pub with_row : PcdLine → Option PcdRow → List Entry
with_row line None = []
with_row line (Some row) = record { line = line; row = row } ∷ []

-- what a line gives, with these below it
unfoldable pub entry_in : List Arch → List PcdRow → List PcdLine → PcdLine → List Entry
entry_in arches rows below line = if counts arches line
    then with_row line (row_left arches rows below (line_label line)) else []

-- The lines that count, in their order. Of those of one PCD and SKU the last counts, and only where
-- there is a row.
unfoldable pub entries : List Arch → List PcdRow → List PcdLine → List Entry
entries arches rows [] = []
entries arches rows (line ∷ below) = entry_in arches rows below line ++ entries arches rows below
