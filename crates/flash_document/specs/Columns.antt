-- What the lines of a section say below one of its heads.
use Rattle.std.specs.Prelude.{ℕ, List, [], Option, Some, None, slice_get}
use Rattle.std.specs.List.{flat_map}
use Rattle.fdf_words.specs.declared.rows.LineRead.{LineRead}
use Rattle.fdf_words.specs.declared.rows.LineRead.TheVariants.{Heads, Body}
use Rattle.fdf_words.specs.declared.rows.Row.{Row}

-- what a line says below the head of a number
abbrev pub row_at : ℕ → LineRead → Option Row
row_at k (Heads at scopes) = None
row_at k (Body rows) = slice_get rows k

abbrev pub in_row : {T : Type 0} → (Row → List T) → Option Row → List T
in_row says None = []
in_row says (Some row) = says row

-- what all lines say there, in order
abbrev pub column : {T : Type 0} → (Row → List T) → ℕ → List LineRead → List T
column says k lines = flat_map (λ line. in_row says (row_at k line)) lines
