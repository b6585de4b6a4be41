-- The script of a replay. The rule is this project's own.
use Rattle.std.specs.Prelude.{◌≡◌, ℕ, Bool, true, nat_le, List, [], ◌∷◌, ◌++◌, All, Option, Some, None, codes, if◌then◌else◌}
use Rattle.std.specs.List.{list_all}
use Rattle.std.specs.Option.{option_map}
use Rattle.build_base.specs.Path.{path_field}
use Rattle.macro_expressions.specs.Macros.{same_text}
use Rattle.meta_lexer.specs.Lines.{Piece, is_plain, pieces_from, without_return}
use Rattle.meta_lexer.specs.Parts.{words_of}
use Rattle.job_fields.specs.Readings.{is_job}
use Rattle.job_fields.specs.Fields.{job_fields}
use Rattle.build_words.specs.Jobs.{words_job}
use Rattle.edk_build.specs.declared.script.ScriptCommand.{ScriptCommand}
use Rattle.edk_build.specs.declared.script.ScriptCommand.TheVariants.{Put, Drop, Build}
use Rattle.edk_build.specs.declared.script.ScriptLine.{ScriptLine}

abbrev pub put_of : Option (List ℕ) → Option (List ℕ) → Option ScriptCommand
put_of (Some path) (Some from) = Some (Put path from)
put_of _ _ = None

abbrev pub drop_of : Option (List ℕ) → Option ScriptCommand
drop_of path = option_map Drop path

abbrev pub build_of : List (List ℕ) → Option ScriptCommand
build_of words = option_map Build (words_job words)

-- the order of some words: `drop PATH`, `put PATH FROM`, or the words of a build
unfoldable pub order_of : List (List ℕ) → Option ScriptCommand
order_of (command ∷ path ∷ []) =
    if same_text command (codes "drop") then drop_of (path_field path)
    else build_of (command ∷ path ∷ [])
order_of (command ∷ path ∷ from ∷ []) =
    if same_text command (codes "put") then put_of (path_field path) (path_field from)
    else build_of (command ∷ path ∷ from ∷ [])
order_of words = build_of words

-- what a line holds: nothing, or an order
abbrev pub content_of : List (List ℕ) → Option (Option ScriptCommand)
content_of [] = Some None
content_of (word ∷ words) = option_map Some (order_of (word ∷ words))

-- words of plain bytes
abbrev pub are_plain : List (List ℕ) → Bool
are_plain words = list_all (λ word. list_all is_plain word) words

-- what a line of plain bytes holds, where it is in the grammar
abbrev pub content_in : List ℕ → Option (Option ScriptCommand)
content_in text = if list_all is_plain text then content_of (words_of text) else None

abbrev pub script_line : ℕ → ScriptCommand → ScriptLine
script_line number order = record { number = number; order = order }

-- an empty line is skipped
abbrev pub lines_at : ℕ → Option ScriptCommand → List ScriptLine
lines_at number None = []
lines_at number (Some order) = script_line number order ∷ []

-- with what the first line holds in front
abbrev pub with_content : ℕ → Option (Option ScriptCommand) → Option (List ScriptLine)
    → Option (List ScriptLine)
with_content number None more = None
with_content number (Some content) more =
    option_map (λ lines. lines_at number content ++ lines) more

-- a script has at most 1,000 lines
abbrev pub line_content : Piece → Option (Option ScriptCommand)
line_content piece = if nat_le piece.number 1000 then content_in (without_return piece.bytes)
    else None

unfoldable pub lines_among : List Piece → Option (List ScriptLine)
lines_among [] = Some []
lines_among (piece ∷ pieces) = with_content piece.number (line_content piece) (lines_among pieces)

-- the lines of a script that aren't empty, or nothing where one isn't in the grammar
unfoldable pub script_of : List ℕ → Option (List ScriptLine)
script_of bytes = lines_among (pieces_from 1 0 bytes)

-- the fields of a build are those of a job
abbrev pub HasJob : ScriptCommand → Type 0
HasJob (Build job) = is_job (job_fields job) ≡ true
HasJob _ = Unit {0}

abbrev pub HaveJobs : List ScriptLine → Type 0
HaveJobs lines = All (λ line. HasJob line.order) lines
