-- The lines of a volume, outside and inside the braces of a statement (EDK II FDF specification,
-- section 3.7).
use Rattle.std.specs.Prelude.{ℕ, Bool, false, if◌then◌else◌, List, [], ◌∷◌, Option, Some, None, codes}
use Rattle.std.specs.Option.{option_map}
use Rattle.build_base.specs.FaultText.{fault_of}
use Rattle.build_base.specs.Path.{path_field}
use Rattle.build_base.specs.declared.fault.Fault.{Fault}
use Rattle.build_base.specs.declared.lines.Taken.{Taken}
use Rattle.macro_expressions.specs.Macros.{without_workspace}
use Rattle.meta_lexer.specs.Lookup.{lookup}
use Rattle.doc_reading.specs.ValueFields.{undefined_macro}
use Rattle.doc_types.specs.declared.volume.InfLine.{InfLine}
use Rattle.doc_types.specs.declared.volume.Member.TheVariants as member
use Rattle.fdf_words.specs.declared.keys.VolumeWord.{VolumeWord}
use Rattle.fdf_words.specs.declared.rows.Row.{Row}
use Rattle.fdf_words.specs.declared.rows.Row.TheVariants as row
use Rattle.fdf_words.specs.declared.marks.Body.{Body}
use Rattle.fdf_words.specs.declared.marks.Body.TheVariants as body
use Rattle.fdf_words.specs.declared.marks.Open.{Open}
use Rattle.fdf_words.specs.declared.marks.Open.TheVariants.{Shut, InApriori, InFile, InRule}
use Rattle.fdf_volumes.specs.declared.volume_line.Statement.{Statement}
use Rattle.fdf_volumes.specs.declared.volume_line.Statement.TheVariants.{Apriori, Inf, File, Section, Close, BadClose}
use Rattle.fdf_volumes.specs.Bodies.{section_faults, section_row, whole_faults, whole_row}
use Rattle.fdf_volumes.specs.InfLines.{inf_faults, inf_of}
use Rattle.fdf_words.specs.Keys.{key_pair, volume_word}
use Rattle.fdf_volumes.specs.Statements.{no_form_faults, file_faults, file_row, member_faults, member_row, apriori_faults, apriori_row}
use Rattle.fdf_volumes.specs.VolumeKeys.{word_faults, word_row}
use Rattle.fdf_words.specs.Words.{begins_with, is_close, word_of}
use Rattle.build_base.specs.FaultCodes.{BAD_KEY, FDF_BAD_FILE, STATEMENT_REFUSED}

abbrev pub statements : List (List ℕ × Statement)
statements = (codes "APRIORI", Apriori) ∷ (codes "INF", Inf) ∷ (codes "FILE", File)
    ∷ (codes "SECTION", Section) ∷ []

unfoldable pub statement_named : List ℕ → Option Statement
statement_named word = lookup statements word

-- what a line is by its first word; a brace closes where it stands alone
unfoldable pub statement_of : List ℕ → Option Statement
statement_of text = if is_close text then Some Close else if begins_with 125 text then Some BadClose
    else statement_named (word_of text)

-- a key without `=`, or a word that begins no statement
abbrev pub unkeyed_faults : Taken → Option VolumeWord → List (Option Fault)
unkeyed_faults line (Some word) = undefined_macro line.at line.text
    ∷ Some (fault_of BAD_KEY line.at (word_of line.text)) ∷ []
unkeyed_faults line None = undefined_macro line.at line.text
    ∷ Some (fault_of STATEMENT_REFUSED line.at (word_of line.text)) ∷ []

abbrev pub plain_faults : Taken → Option (List ℕ × List ℕ) → List (Option Fault)
plain_faults line (Some p) = word_faults line p.0 p.1 (volume_word p.0)
plain_faults line None = unkeyed_faults line (volume_word (word_of line.text))

abbrev pub plain_row : Taken → Option (List ℕ × List ℕ) → Option Row
plain_row line (Some p) = word_row line p.1 (volume_word p.0)
plain_row line None = None

-- outside of braces
abbrev pub shut_faults : Taken → Bool → Option Statement → List (Option Fault)
shut_faults line full (Some Apriori) = apriori_faults line full
shut_faults line full (Some Inf) = inf_faults line full
shut_faults line full (Some File) = file_faults line full
shut_faults line full (Some Section) = no_form_faults FDF_BAD_FILE line
shut_faults line full (Some Close) = no_form_faults FDF_BAD_FILE line
shut_faults line full (Some BadClose) = no_form_faults FDF_BAD_FILE line
shut_faults line full None = plain_faults line (key_pair line.text)

abbrev pub shut_row : Taken → Option Statement → Option Row
shut_row line (Some Apriori) = apriori_row line
shut_row line (Some Inf) = option_map row.Inf (inf_of line)
shut_row line (Some File) = file_row line
shut_row line (Some Section) = None
shut_row line (Some Close) = None
shut_row line (Some BadClose) = None
shut_row line None = plain_row line (key_pair line.text)

-- in the braces of an a priori file
abbrev pub apriori_faults_in : Taken → Option Statement → List (Option Fault)
apriori_faults_in line (Some Inf) = inf_faults line false
apriori_faults_in line (Some File) = member_faults line
apriori_faults_in line (Some Close) = []
apriori_faults_in line (Some Apriori) = no_form_faults FDF_BAD_FILE line
apriori_faults_in line (Some Section) = no_form_faults FDF_BAD_FILE line
apriori_faults_in line (Some BadClose) = no_form_faults FDF_BAD_FILE line
apriori_faults_in line None = no_form_faults FDF_BAD_FILE line

abbrev pub made_member : InfLine → Row
made_member inf = row.Member (member.Inf inf)

abbrev pub apriori_row_in : Taken → Option Statement → Option Row
apriori_row_in line (Some Inf) = option_map made_member (inf_of line)
apriori_row_in line (Some File) = member_row line
apriori_row_in line (Some Close) = Some row.Closes
apriori_row_in line (Some Apriori) = None
apriori_row_in line (Some Section) = None
apriori_row_in line (Some BadClose) = None
apriori_row_in line None = None

-- a section stands at the front of a body or below another, a path alone in its body
abbrev pub section_faults_in : Taken → Body → List (Option Fault)
section_faults_in line body.Nothing = section_faults line
section_faults_in line body.Sections = section_faults line
section_faults_in line body.Whole = no_form_faults FDF_BAD_FILE line

abbrev pub whole_faults_in : Taken → Body → List (Option Fault)
whole_faults_in line body.Nothing = whole_faults line
whole_faults_in line body.Sections = no_form_faults FDF_BAD_FILE line
whole_faults_in line body.Whole = no_form_faults FDF_BAD_FILE line

-- in the braces of a file
abbrev pub file_faults_in : Taken → Body → Option Statement → List (Option Fault)
file_faults_in line filled (Some Section) = section_faults_in line filled
file_faults_in line filled (Some Close) = []
file_faults_in line filled (Some BadClose) = no_form_faults FDF_BAD_FILE line
file_faults_in line filled (Some Apriori) = whole_faults_in line filled
file_faults_in line filled (Some Inf) = whole_faults_in line filled
file_faults_in line filled (Some File) = whole_faults_in line filled
file_faults_in line filled None = whole_faults_in line filled

abbrev pub whole_row_in : Taken → Option Row
whole_row_in line = whole_row (path_field (without_workspace line.text))

abbrev pub file_row_in : Taken → Option Statement → Option Row
file_row_in line (Some Section) = section_row line
file_row_in line (Some Close) = Some row.Closes
file_row_in line (Some BadClose) = None
file_row_in line (Some Apriori) = whole_row_in line
file_row_in line (Some Inf) = whole_row_in line
file_row_in line (Some File) = whole_row_in line
file_row_in line None = whole_row_in line

abbrev pub faults_in : Taken → Open → Bool → Option Statement → List (Option Fault)
faults_in line InApriori full statement = apriori_faults_in line statement
faults_in line (InFile filled) full statement = file_faults_in line filled statement
faults_in line Shut full statement = shut_faults line full statement
faults_in line InRule full statement = shut_faults line full statement

abbrev pub row_in : Taken → Open → Option Statement → Option Row
row_in line InApriori statement = apriori_row_in line statement
row_in line (InFile filled) statement = file_row_in line statement
row_in line Shut statement = shut_row line statement
row_in line InRule statement = shut_row line statement

unfoldable pub volume_faults : Taken → Open → Bool → List (Option Fault)
volume_faults line braces full = faults_in line braces full (statement_of line.text)

unfoldable pub volume_row : Taken → Open → Option Row
volume_row line braces = row_in line braces (statement_of line.text)
