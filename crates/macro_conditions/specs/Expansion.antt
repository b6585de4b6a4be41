-- What the lines of a document come to: macros, conditionals and includes.
use Rattle.std.specs.Prelude.{ℕ, zero, suc, ◌+◌, ◌-◌, ◌/◌, ◌%◌, Bool, true, false, ◌&&◌, not, nat_lt, nat_le, ◌==◌, if◌then◌else◌, List, [], ◌∷◌, ◌++◌, length, map, decimal, codes, slice_index, Option, Some, None, Result, Ok, Err}
use Rattle.std.specs.List.{list_any}
use Rattle.build_base.specs.declared.fault.Fault.{Fault}
use Rattle.build_base.specs.declared.fault.Place.{Place}
use Rattle.build_base.specs.declared.lines.Macro.{Macro}
use Rattle.build_base.specs.declared.lines.Lines.{Lines}
use Rattle.build_base.specs.declared.lines.Taken.{Taken as Line}
use Rattle.build_base.specs.declared.outside.Got.{Got}
use Rattle.build_base.specs.declared.outside.Got.TheVariants.{File, Absent, TooLong}
use Rattle.build_base.specs.Path.{path_field}
use Rattle.build_base.specs.FaultText.{fault_of}
use Rattle.meta_lexer.specs.Faults.{Spot}
use Rattle.meta_lexer.specs.Words.{same_word}
use Rattle.meta_lexer.specs.Lines.{TextLine, lines_of, without_blanks}
use Rattle.macro_expressions.specs.declared.macros.Undefined.TheVariants.{Kept, Zero}
use Rattle.macro_expressions.specs.declared.expression.Value.{Value}
use Rattle.macro_expressions.specs.declared.expression.Value.TheVariants.{Number, Word}
use Rattle.macro_expressions.specs.Macros.{put_macro, table_of, same_text, value_of, replaced, without_workspace}
use Rattle.macro_expressions.specs.Expressions.{value_of_text, detail_of}
use Rattle.macro_conditions.specs.Directives.{is_directive, directive_word, directive_rest, is_include, is_definition, definition_of, macro_named}
use Rattle.macro_conditions.specs.Sources.{Source, places, Located, wanted, missing, over_limit, there, located}
use Rattle.macro_conditions.specs.LineMeaning.{Acts, ◌>>=◌, file_of}
use Rattle.build_base.specs.FaultCodes.{BAD_BYTE, BAD_DIRECTIVE, BAD_EXPRESSION, BAD_PATH, FILE_ABSENT, FILE_TOO_LONG, INCLUDE_ABSENT, INCLUDE_LOOP, INCLUDE_TOO_DEEP, TOO_MANY_MACROS, UNBALANCED}

-- a fault, or a path whose answer is wanted
pub data Stop : Type 0 where
  bad : Fault → Stop
  need : List ℕ → Stop

-- the lines taken so far, the macros of the files, and the files that are open, the innermost last
pub record Env : Type 0 where
  pub rows : List Line
  pub macros : List Macro
  pub open_files : List (List ℕ)

abbrev pub settled : {A : Type 0} → Result A Fault → Result A Stop
settled (Ok x) = Ok x
settled (Err fault) = Err (bad fault)

abbrev pub is_there : Option (List ℕ) → Bool
is_there None = false
is_there (Some value) = true

-- the macro table has no place for another name: 4,096 names at most
abbrev pub is_full : List ℕ → List Macro → Bool
is_full name ms = not (is_there (value_of name ms)) && nat_le 4096 (length ms)

abbrev pub fault_at : ℕ → Line → List ℕ → Fault
fault_at code line detail = fault_of code line.at detail

-- whether the number of a condition isn't 0
abbrev pub holds : Line → Result Value ℕ → Result Bool Fault
holds line (Ok (Number n)) = Ok (not (n == 0))
holds line (Ok (Word w)) = Err (fault_at BAD_EXPRESSION line (directive_rest line.text))
holds line (Err code) = Err (fault_at code line (detail_of code (directive_rest line.text)))

-- whether a macro is defined
abbrev pub names : Line → List Macro → Option (List ℕ) → Result Bool Fault
names line ms None = Err (fault_at BAD_DIRECTIVE line line.text)
names line ms (Some name) = Ok (is_there (value_of name ms))

abbrev pub negated : Result Bool Fault → Result Bool Fault
negated (Ok b) = Ok (not b)
negated (Err fault) = Err fault

module _ (fixed : List Macro) where
  -- the macros above a line, and then the fixed ones
  abbrev pub scope : Env → List Macro
  scope e = e.macros ++ fixed

  abbrev pub with_macro : Line → Env → List ℕ → List ℕ → Result Env Fault
  with_macro line e name value =
      if is_full name e.macros then Err (fault_at TOO_MANY_MACROS line name)
      else Ok
      (record {
        rows = e.rows;
        macros = put_macro name (replaced Kept (scope e) value) e.macros;
        open_files = e.open_files;
      })

  abbrev pub defined : Line → Env → Option (List ℕ × List ℕ) → Result Env Fault
  defined line e None = Err (fault_at BAD_DIRECTIVE line line.text)
  defined line e (Some pair) = with_macro line e pair.0 pair.1

  abbrev pub written : Line → Env → Env
  written line e =
      record {
        rows = e.rows
            ++ record { at = line.at; text = without_blanks (replaced Kept (scope e) line.text) } ∷ [];
        macros = e.macros;
        open_files = e.open_files;
      }

  -- what a line does that is no include: a directive that there isn't, a definition, or a line with
  -- its macros replaced
  unfoldable pub apply_directive : Line → Env → Result Env Fault
  apply_directive line e =
      if is_directive line.text then Err (fault_at BAD_DIRECTIVE line line.text)
      else if is_definition line.text then defined line e (definition_of line.text)
      else Ok (written line e)

  abbrev pub condition : Line → Env → List ℕ → Result Bool Fault
  condition line e word =
      if same_word word (codes "else") then Ok true
      else if same_word word (codes "ifdef")
      then names line (scope e) (macro_named (directive_rest line.text))
      else if same_word word (codes "ifndef")
      then negated (names line (scope e) (macro_named (directive_rest line.text)))
      else holds line (value_of_text (replaced Zero (scope e) (directive_rest line.text)))

  -- what the condition of an `!if`, `!ifdef`, `!ifndef`, `!elseif` or `!else` says
  unfoldable pub tested : Line → Env → Result Bool Fault
  tested line e = condition line e (directive_word line.text)

  -- the path field of an include
  abbrev pub include_field : Line → Env → List ℕ
  include_field line e = replaced Kept (scope e) (directive_rest line.text)

abbrev pub hex_digit : ℕ → ℕ
hex_digit n = if nat_lt n 10 then 48 + n else 55 + n

-- the detail of a fault of a file's lines: the bad byte in hexadecimal, or how long the line is
unfoldable pub spot_detail : List ℕ → ℕ → ℕ → ℕ → List ℕ
spot_detail bytes code start end =
    if code == BAD_BYTE then hex_digit (slice_index bytes start / 16)
    ∷ hex_digit (slice_index bytes start % 16) ∷ []
    else decimal (end - start)

abbrev pub place_of : List ℕ → ℕ → Place
place_of path line = record { path = path; line = line }

-- a line of the file of this path
abbrev pub line_at : List ℕ → TextLine → Line
line_at path line = record { at = place_of path line.number; text = line.text }

abbrev pub unbalanced : Line → Fault
unbalanced line = fault_at UNBALANCED line (directive_word line.text)

-- an include is what the parameter says; all other lines act by themselves
abbrev pub acts : List Macro → (Line → Env → Result Env Stop) → Acts Env Stop
acts fixed include = record {
  act = λ line e. if is_include line.text then include line e else settled (apply_directive fixed line e);
  test = λ line e. settled (tested fixed line e);
  unbalanced = λ line. bad (unbalanced line);
}

-- the environment in a file, and after it
abbrev pub inside : List ℕ → Env → Env
inside path e = record { rows = e.rows; macros = e.macros; open_files = e.open_files ++ path ∷ [] }

abbrev pub outside : Env → Env → Env
outside e x = record { rows = x.rows; macros = x.macros; open_files = e.open_files }

-- the lines of a file, whose own faults come when it is opened
abbrev pub read_by : List ℕ → List ℕ → Result (List TextLine) Spot → Result (List TextLine) Fault
read_by path bytes (Ok lines) = Ok lines
read_by path bytes (Err spot) =
    Err (fault_of spot.code (place_of path spot.line)
    (spot_detail bytes spot.code spot.start spot.end))

unfoldable pub lines_read : List ℕ → List ℕ → Result (List TextLine) Fault
lines_read path bytes = read_by path bytes (lines_of bytes)

abbrev pub file_lines : (List Line → Env → Result Env Stop) → List ℕ → List ℕ → Env → Result Env Stop
file_lines file path bytes e = settled (lines_read path bytes)
    >>= (λ lines. file (map (line_at path) lines) (inside path e) >>= (λ x. Ok (outside e x)))

abbrev pub long_fault : List ℕ → Fault
long_fault path = fault_of FILE_TOO_LONG (place_of path 0) path

abbrev pub too_long : List ℕ → Stop
too_long path = bad (long_fault path)

-- the path that an include states
abbrev pub path_stated : Line → List ℕ → Option (List ℕ) → Result (List ℕ) Stop
path_stated line field None = Err (bad (fault_at BAD_PATH line field))
path_stated line field (Some path) = Ok path

abbrev pub include_path : Line → List ℕ → Result (List ℕ) Stop
include_path line field = path_stated line field (path_field (without_workspace field))

-- the place and the bytes of the file that an include of this path finds
abbrev pub included_file : Line → List ℕ → Located → Result (List ℕ × List ℕ) Stop
included_file line path (wanted p) = Err (need p)
included_file line path missing = Err (bad (fault_at INCLUDE_ABSENT line path))
included_file line path (over_limit p) = Err (too_long p)
included_file line path (there p bytes) = Ok (p, bytes)

-- an include of this field, where `enter` says what the file comes to that is found
abbrev pub included_by : (List ℕ → List ℕ → List ℕ → Result Env Stop) → Source → Line → List ℕ
    → Result Env Stop
included_by enter known line field = include_path line field
    >>= (λ path. included_file line path (located known (places line.at.path path))
    >>= (λ found. enter path found.0 found.1))

abbrev pub is_open : List ℕ → Env → Bool
is_open path e = list_any (same_text path) e.open_files

-- what a file comes to that an include of this path finds: too many are open, or what `file` says
-- of its lines
abbrev pub entered_by : Option (List Line → Env → Result Env Stop) → Line → List ℕ → List ℕ → List ℕ
    → Env → Result Env Stop
entered_by None line path p bytes e = Err (bad (fault_at INCLUDE_TOO_DEEP line path))
entered_by (Some file) line path p bytes e =
    if is_open p e then Err (bad (fault_at INCLUDE_LOOP line path)) else file_lines file p bytes e

-- what an include comes to, where so many files more may be open
unfoldable pub included : Source → List Macro → ℕ → Line → Env → Result Env Stop
included known fixed zero line e =
    included_by (λ path p bytes. entered_by None line path p bytes e) known line
    (include_field fixed line e)
included known fixed (suc n) line e =
    included_by (λ path p bytes.
    entered_by (Some (λ lines x. file_of (acts fixed (included known fixed n)) lines x)) line
    path p bytes e)
    known line (include_field fixed line e)

-- and what the file comes to that it finds
unfoldable pub entered : Source → List Macro → ℕ → Line → List ℕ → List ℕ → List ℕ → Env
    → Result Env Stop
entered known fixed zero line path p bytes e = entered_by None line path p bytes e
entered known fixed (suc n) line path p bytes e =
    entered_by (Some (λ lines x. file_of (acts fixed (included known fixed n)) lines x)) line path p
    bytes e

abbrev pub begun : List Macro → Env
begun macros = record { rows = []; macros = table_of macros; open_files = [] }

abbrev pub document : List ℕ → Env → Result Lines Stop
document root e = Ok (record { root = root; rows = e.rows; macros = e.macros })

abbrev pub rooted : Source → List Macro → List ℕ → Env → Option Got → Result Env Stop
rooted known fixed root e None = Err (need root)
rooted known fixed root e (Some Absent) = Err (bad (fault_of FILE_ABSENT (place_of root 0) root))
rooted known fixed root e (Some TooLong) = Err (too_long root)
rooted known fixed root e (Some (File bytes)) =
    file_lines (λ lines x. file_of (acts fixed (included known fixed 31)) lines x) root bytes e

-- What a document comes to: its lines, its first fault, or the first path that is wanted and of
-- which nothing is known. At most 32 files are open, the root counted.
unfoldable pub expansion : Source → List ℕ → List Macro → List Macro → Result Lines Stop
expansion known root macros fixed = rooted known fixed root (begun macros) (known root)
    >>= (λ e. document root e)
