-- The lines of a flash description (EDK II FDF specification, section 3), or the first fault of
-- one.
use Rattle.std.specs.Prelude.{ℕ, ◌+◌, Bool, true, false, ◌&&◌, ◌||◌, ◌==◌, nat_le, nat_lt, if◌then◌else◌, List, [], ◌∷◌, length, Option, Some, None, Result, codes}
use Rattle.build_base.specs.FaultText.{fault_of}
use Rattle.build_base.specs.declared.fault.Fault.{Fault}
use Rattle.build_base.specs.declared.lines.Taken.{Taken}
use Rattle.doc_reading.specs.Grammar.{Grammar, Read, reading}
use Rattle.doc_reading.specs.Least.{least_of}
use Rattle.doc_reading.specs.Values.{of_read_line}
use Rattle.fdf_words.specs.declared.rows.Row.{Row}
use Rattle.fdf_words.specs.declared.rows.Row.TheVariants as row
use Rattle.fdf_words.specs.declared.rows.Scope.{Scope}
use Rattle.fdf_words.specs.declared.rows.Scope.TheVariants as scope
use Rattle.fdf_lines.specs.declared.section.FlashSection.TheVariants as section
use Rattle.fdf_words.specs.declared.marks.Marks.{Marks}
use Rattle.fdf_words.specs.declared.marks.Open.{Open}
use Rattle.fdf_words.specs.declared.marks.Open.TheVariants.{Shut, InApriori, InFile, InRule}
use Rattle.fdf_lines.specs.Counts.{heads_above, heads_here, statements_here}
use Rattle.fdf_words.specs.DeviceLines.{device_faults, device_row}
use Rattle.fdf_words.specs.Keys.{is_set}
use Rattle.fdf_lines.specs.Rules.{rule_faults, rule_row}
use Rattle.fdf_lines.specs.Sections.{head_meaning, meaning_faults, meaning_scope}
use Rattle.fdf_words.specs.SetLines.{set_faults, set_row}
use Rattle.fdf_lines.specs.Standing.{marks_below, volume_below}
use Rattle.fdf_volumes.specs.VolumeLines.{volume_faults, volume_row}
use Rattle.fdf_words.specs.Words.{last_byte, word_of}
use Rattle.meta_lexer.specs.Words.{same_word}
use Rattle.build_base.specs.FaultCodes.{BAD_KEY, BAD_RULE, FDF_BAD_FILE, TOO_MANY}

-- the rank of a value that a line gives to a PCD
abbrev pub rank_of : Scope → ℕ
rank_of scope.Settings = 5
rank_of (scope.Device name) = 4
rank_of (scope.Volume name) = 4
rank_of (scope.Rule rule) = 4

-- in [Defines] other lines are read past
abbrev pub scope_faults : Taken → Marks → Bool → Scope → List (Option Fault)
scope_faults line marks full scope.Settings = []
scope_faults line marks full (scope.Device name) = of_read_line line (device_faults line marks)
scope_faults line marks full (scope.Volume name) =
    of_read_line line (volume_faults line marks.braces full)
scope_faults line marks full (scope.Rule rule) = of_read_line line (rule_faults line marks)

abbrev pub scope_row : Taken → Marks → Scope → Option Row
scope_row line marks scope.Settings = Some row.Ignored
scope_row line marks (scope.Device name) = device_row line
scope_row line marks (scope.Volume name) = volume_row line marks.braces
scope_row line marks (scope.Rule rule) = rule_row line marks.braces

unfoldable pub line_faults : Taken → Marks → Bool → Scope → List (Option Fault)
line_faults line marks full scope = if is_set line.text then of_read_line line (set_faults line)
    else scope_faults line marks full scope

unfoldable pub line_row : Taken → Marks → Scope → Option Row
line_row line marks scope = if is_set line.text then set_row line (rank_of scope)
    else scope_row line marks scope

-- a volume has at most 65,535 statements, and there are as many devices, volumes and rules
abbrev pub is_full : ℕ → Bool
is_full n = nat_le 65535 n

abbrev pub many_fault : Taken → ℕ → Option Fault
many_fault line n = if nat_lt 65535 n then Some (fault_of TOO_MANY line.at (codes "65536"))
    else None

-- braces that are open, at heads or at the end
abbrev pub open_fault : Taken → Open → Option Fault
open_fault line Shut = None
open_fault line InApriori = Some (fault_of FDF_BAD_FILE line.at (codes "{"))
open_fault line (InFile filled) = Some (fault_of FDF_BAD_FILE line.at (codes "{"))
open_fault line InRule = Some (fault_of BAD_RULE line.at (codes "{"))

-- a rule without a file
abbrev pub unfiled_fault : Taken → Bool → Option Fault
unfiled_fault line unfiled = if unfiled then Some (fault_of BAD_RULE line.at (codes "FILE"))
    else None

-- a statement of a volume that opens braces
unfoldable pub opens : List ℕ → Bool
opens text = (same_word (word_of text) (codes "FILE") || same_word (word_of text) (codes "APRIORI"))
    && (nat_lt 0 (length text) && (last_byte text == 123))

abbrev pub are_shut : Open → Bool
are_shut Shut = true
are_shut InApriori = false
are_shut (InFile filled) = false
are_shut InRule = false

-- braces that the last line opens, also where it has a fault of its own
abbrev pub begun_fault : Taken → Marks → Bool → Option Fault
begun_fault line marks volume = if volume && (are_shut marks.braces && opens line.text)
    then Some (fault_of FDF_BAD_FILE line.at (codes "{")) else None

abbrev pub left_fault : Taken → Marks → Bool → Option Fault
left_fault line marks volume =
    least_of (open_fault line marks.braces ∷ begun_fault line marks volume
    ∷ unfiled_fault line marks.unfiled ∷ [])

-- with the heads above and those of this line
abbrev pub heads_fault : Taken → Marks → ℕ → ℕ → ℕ → Option Fault
heads_fault line marks devices volumes rules =
    least_of (open_fault line marks.braces ∷ unfiled_fault line marks.unfiled
    ∷ many_fault line devices ∷ many_fault line volumes ∷ many_fault line rules ∷ [])

abbrev pub flash_grammar : Grammar Scope Row
flash_grammar =
    record {
      head_faults = λ line head. meaning_faults line head (head_meaning head);
      scope_of = λ head. meaning_scope (head_meaning head);
      stray_code = BAD_KEY;
      faults = λ above line scope. line_faults line (marks_below above)
          (is_full (statements_here above)) scope;
      row_of = λ above line scope. line_row line (marks_below above) scope;
      at_heads = λ above line heads. heads_fault line (marks_below above)
          (heads_above section.Device above + heads_here section.Device heads)
          (heads_above section.Volume above + heads_here section.Volume heads)
          (heads_above section.Rule above + heads_here section.Rule heads);
      left_open = λ above line. left_fault line (marks_below above) (volume_below above);
    }

-- what the lines of a flash description come to, or the fault of the first that has one
unfoldable pub rows_of_flash : List Taken → Result (List (Read Scope Row)) Fault
rows_of_flash lines = reading flash_grammar lines
