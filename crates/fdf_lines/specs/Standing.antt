-- What stands open below some lines.
use Rattle.std.specs.Prelude.{Bool, true, false, List, [], ◌∷◌}
use Rattle.std.specs.List.{flat_map, list_any}
use Rattle.doc_reading.specs.Grammar.{Read, entered, gave}
use Rattle.fdf_words.specs.declared.rows.Row.{Row}
use Rattle.fdf_words.specs.declared.rows.Row.TheVariants as row
use Rattle.fdf_words.specs.declared.rows.Scope.{Scope}
use Rattle.fdf_words.specs.declared.rows.Scope.TheVariants as scope
use Rattle.fdf_words.specs.declared.rows.DeviceKey as key_type
use Rattle.fdf_words.specs.declared.rows.DeviceKey.TheVariants as key
use Rattle.fdf_words.specs.declared.marks.Body.TheVariants.{Nothing, Sections, Whole}
use Rattle.fdf_words.specs.declared.marks.Marks.{Marks}
use Rattle.fdf_words.specs.declared.marks.Open.{Open}
use Rattle.fdf_words.specs.declared.marks.Open.TheVariants.{Shut, InApriori, InFile, InRule}
use Rattle.fdf_words.specs.declared.marks.Waiting.{Waiting}
use Rattle.fdf_words.specs.declared.marks.Waiting.TheVariants.{NoRegion, Started, Named}

-- of some marks the last
abbrev pub last_mark : {M : Type 0} → M → List M → M
last_mark mark [] = mark
last_mark mark (next ∷ marks) = last_mark next marks

-- the marks that a line leaves: heads leave one by the scopes that they enter, rows those that they
-- tell
abbrev pub marks_in : {M : Type 0} → (List Scope → M) → (Row → List M) → Read Scope Row → List M
marks_in begun marks (entered at scopes) = begun scopes ∷ []
marks_in begun marks (gave rows) = flat_map marks rows

-- the last mark that the lines leave
abbrev pub left_by : {M : Type 0} → M → (List Scope → M) → (Row → List M) → List (Read Scope Row)
    → M
left_by first begun marks reads = last_mark first (flat_map (marks_in begun marks) reads)

-- which braces are open, and of a file what its body has so far
abbrev pub open_marks : Row → List Open
open_marks (row.Apriori head) = InApriori ∷ []
open_marks (row.File head) = InFile Nothing ∷ []
open_marks (row.Section line) = InFile Sections ∷ []
open_marks (row.Whole path) = InFile Whole ∷ []
open_marks (row.RuleFile head) = InRule ∷ []
open_marks row.Closes = Shut ∷ []
open_marks _ = []

abbrev pub open_begun : List Scope → Open
open_begun scopes = Shut

abbrev pub open_below : List (Read Scope Row) → Open
open_below reads = left_by Shut open_begun open_marks reads

-- the region that waits for what fills it, maybe with its PCDs
abbrev pub waiting_marks : Row → List Waiting
waiting_marks (row.Region start) = Started ∷ []
waiting_marks (row.Pcds pcds) = Named ∷ []
waiting_marks (row.Content content) = NoRegion ∷ []
waiting_marks _ = []

abbrev pub waiting_begun : List Scope → Waiting
waiting_begun scopes = NoRegion

abbrev pub waiting_below : List (Read Scope Row) → Waiting
waiting_below reads = left_by NoRegion waiting_begun waiting_marks reads

-- whether a device's BlockSize waits for its NumBlocks
abbrev pub key_marks : key_type.DeviceKey → List Bool
key_marks key.BlockSize = true ∷ []
key_marks key.NumBlocks = false ∷ []
key_marks key.BaseAddress = []
key_marks key.Size = []
key_marks key.ErasePolarity = []

abbrev pub pair_marks : Row → List Bool
pair_marks (row.Number number) = key_marks number.key
pair_marks _ = []

abbrev pub pair_begun : List Scope → Bool
pair_begun scopes = false

abbrev pub pair_below : List (Read Scope Row) → Bool
pair_below reads = left_by false pair_begun pair_marks reads

abbrev pub is_rule : Scope → Bool
is_rule (scope.Rule rule) = true
is_rule scope.Settings = false
is_rule (scope.Device name) = false
is_rule (scope.Volume name) = false

-- whether a rule waits for its file
abbrev pub unfiled_marks : Row → List Bool
unfiled_marks (row.RuleFile head) = false ∷ []
unfiled_marks _ = []

abbrev pub has_rule : List Scope → Bool
has_rule scopes = list_any is_rule scopes

abbrev pub unfiled_below : List (Read Scope Row) → Bool
unfiled_below reads = left_by false has_rule unfiled_marks reads

abbrev pub is_volume : Scope → Bool
is_volume (scope.Volume name) = true
is_volume scope.Settings = false
is_volume (scope.Device name) = false
is_volume (scope.Rule rule) = false

abbrev pub has_volume : List Scope → Bool
has_volume scopes = list_any is_volume scopes

abbrev pub no_marks : Row → List Bool
no_marks r = []

-- whether the last heads begin a volume
abbrev pub volume_below : List (Read Scope Row) → Bool
volume_below reads = left_by false has_volume no_marks reads

-- all of these
abbrev pub marks_below : List (Read Scope Row) → Marks
marks_below reads =
    record {
      braces = open_below reads;
      waiting = waiting_below reads;
      pair = pair_below reads;
      unfiled = unfiled_below reads;
    }

abbrev pub marks_begun : List Scope → Marks
marks_begun scopes =
    record { braces = Shut; waiting = NoRegion; pair = false; unfiled = has_rule scopes }

-- with the marks of one row more
abbrev pub marks_with : Marks → Row → Marks
marks_with marks r =
    record {
      braces = last_mark marks.braces (open_marks r);
      waiting = last_mark marks.waiting (waiting_marks r);
      pair = last_mark marks.pair (pair_marks r);
      unfiled = last_mark marks.unfiled (unfiled_marks r);
    }
