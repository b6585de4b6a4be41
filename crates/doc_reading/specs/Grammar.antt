-- The grammar of a document's format, and what its lines come to.
use Rattle.std.specs.Prelude.{ℕ, Bool, if◌then◌else◌, List, [], ◌∷◌, ◌++◌, map, fold, Option, Some, None, Result, Ok, Err, codes}
use Rattle.std.specs.List.{flat_map}
use Rattle.build_base.specs.First.{or_fault, unless}
use Rattle.build_base.specs.FaultText.{fault_of}
use Rattle.build_base.specs.declared.fault.Fault.{Fault}
use Rattle.build_base.specs.declared.fault.Place.{Place}
use Rattle.build_base.specs.declared.lines.Taken.{Taken}
use Rattle.doc_reading.specs.Reading.{lines_fault, last_of}
use Rattle.doc_reading.specs.Least.{lesser, fault_in}
use Rattle.meta_lexer.specs.declared.head.Head.{Head}
use Rattle.doc_reading.specs.declared.form.LineForm.{LineForm}
use Rattle.doc_reading.specs.declared.form.LineForm.TheVariants.{Blank, Heads, OpenHead, BadHead, Body}
use Rattle.doc_reading.specs.Forms.{form_of}
use Rattle.doc_reading.specs.Gathering.{gathered, unless_faulty}
use Rattle.build_base.specs.FaultCodes.{BAD_SECTION, OPEN_QUOTE}

-- What a line came to: heads, with their line's place and the scopes that they enter, or the rows
-- that it gives below the heads, one for each scope.
pub data Read (S R : Type 0) : Type 0 where
  entered : Place → List S → Read S R
  gave : List R → Read S R

-- What a format says of single lines; the lines above are told by what they came to.
pub record Grammar (S R : Type 0) : Type 0 where
  -- the faults of a head, one for each code whose condition holds
  pub head_faults : Taken → Head → List (Option Fault)
  -- the scope that it enters, none where its section is read past
  pub scope_of : Head → Option S
  -- the code of a line before the first head
  pub stray_code : ℕ
  -- the faults of a line below a head, one for each code whose condition holds
  pub faults : List (Read S R) → Taken → S → List (Option Fault)
  -- its row, none where it says nothing
  pub row_of : List (Read S R) → Taken → S → Option R
  -- the fault of a line of heads by the lines above: what they left open, or a head too many
  pub at_heads : List (Read S R) → Taken → List Head → Option Fault
  -- what is left open below the last line
  pub left_open : List (Read S R) → Taken → Option Fault

-- the least of a head's faults, or its scope
abbrev pub entry_of : {S R : Type 0} → Grammar S R → Taken → Head → Result (Option S) Fault
entry_of g line head = unless_faulty (g.head_faults line head) (g.scope_of head)

-- the least of a line's faults below a head, or its row
abbrev pub outcome_of : {S R : Type 0} → Grammar S R → List (Read S R) → Taken → S
    → Result (Option R) Fault
outcome_of g above line scope =
    unless_faulty (g.faults above line scope) (g.row_of above line scope)

abbrev pub scopes_in : {S R : Type 0} → Read S R → List (List S)
scopes_in (entered at scopes) = scopes ∷ []
scopes_in (gave rows) = []

-- the scopes of the last heads
abbrev pub scopes_above : {S R : Type 0} → List (Read S R) → Option (List S)
scopes_above reads = last_of (flat_map scopes_in reads)

abbrev pub rows_in : {S R : Type 0} → Read S R → List R
rows_in (entered at scopes) = []
rows_in (gave rows) = rows

-- the rows of all lines, line by line, and for each line in the order of its heads
abbrev pub rows_of : {S R : Type 0} → List (Read S R) → List R
rows_of reads = flat_map rows_in reads

-- what heads enter, or the least of their faults
abbrev pub heads_entered : {S R : Type 0} → Grammar S R → Taken → List Head → Result (List S) Fault
heads_entered g line heads = gathered (map (entry_of g line) heads)

-- what a line gives below its heads, or the least of its faults there
abbrev pub rows_given : {S R : Type 0} → Grammar S R → List (Read S R) → Taken → List S
    → Result (List R) Fault
rows_given g above line scopes = gathered (map (outcome_of g above line) scopes)

-- a line before the first head stands nowhere
abbrev pub body_given : {S R : Type 0} → Grammar S R → List (Read S R) → Taken → Option (List S)
    → Result (List R) Fault
body_given g above line None = Err (fault_of g.stray_code line.at line.text)
body_given g above line (Some scopes) = rows_given g above line scopes

abbrev pub entry_read : {S R : Type 0} → Taken → Result (List S) Fault → List (Read S R)
entry_read line (Ok scopes) = entered line.at scopes ∷ []
entry_read line (Err fault) = []

abbrev pub body_read : {S R : Type 0} → Result (List R) Fault → List (Read S R)
body_read (Ok rows) = gave rows ∷ []
body_read (Err fault) = []

-- what a line of this form comes to; a line with a fault comes to nothing
abbrev pub form_read : {S R : Type 0} → Grammar S R → List (Read S R) → Taken → LineForm
    → List (Read S R)
form_read g above line Blank = []
form_read g above line (Heads heads) = entry_read line (heads_entered g line heads)
form_read g above line OpenHead = []
form_read g above line BadHead = []
form_read g above line Body = body_read (body_given g above line (scopes_above above))

abbrev pub more_read : {S R : Type 0} → Grammar S R → List (Read S R) → Taken → List (Read S R)
more_read g above line = above ++ form_read g above line (form_of line.text)

-- what the lines come to
abbrev pub read_of : {S R : Type 0} → Grammar S R → List Taken → List (Read S R)
read_of g lines = fold (more_read g) [] lines

-- the line's own fault
abbrev pub form_fault : {S R : Type 0} → Grammar S R → List (Read S R) → Taken → LineForm
    → Option Fault
form_fault g above line Blank = None
form_fault g above line (Heads heads) = fault_in (heads_entered g line heads)
form_fault g above line OpenHead = Some (fault_of OPEN_QUOTE line.at (codes "\""))
form_fault g above line BadHead = Some (fault_of BAD_SECTION line.at line.text)
form_fault g above line Body = fault_in (body_given g above line (scopes_above above))

-- what is left open below the last line
abbrev pub end_fault : {S R : Type 0} → Grammar S R → List (Read S R) → Taken → Bool → Option Fault
end_fault g reads line last = if last then g.left_open reads line else None

-- the fault by what stands above, and what is open below the last line
abbrev pub open_fault : {S R : Type 0} → Grammar S R → List (Read S R) → Taken → Bool → LineForm
    → Option Fault
open_fault g above line last (Heads heads) =
    lesser (g.at_heads above line heads)
    (end_fault g (above ++ form_read g above line (Heads heads)) line last)
open_fault g above line last OpenHead = None
open_fault g above line last BadHead = None
open_fault g above line last form = end_fault g (above ++ form_read g above line form) line last

-- the least of both
abbrev pub fault_as : {S R : Type 0} → Grammar S R → List (Read S R) → Taken → Bool → LineForm
    → Option Fault
fault_as g above line last form =
    lesser (form_fault g above line form) (open_fault g above line last form)

abbrev pub line_fault : {S R : Type 0} → Grammar S R → List Taken → Taken → Bool → Option Fault
line_fault g above line last = fault_as g (read_of g above) line last (form_of line.text)

-- the fault of the first line that has one
abbrev pub first_fault : {S R : Type 0} → Grammar S R → List Taken → Option Fault
first_fault g lines = lines_fault (line_fault g) [] lines

-- what the lines come to, or the fault of the first that has one
abbrev pub reading : {S R : Type 0} → Grammar S R → List Taken → Result (List (Read S R)) Fault
reading g lines = unless (first_fault g lines) (read_of g lines)

-- the fault of the first line that has one; else what the lines come to as a whole: a document, or
-- the first fault of the whole
abbrev pub whole_read : {S R D : Type 0} → Grammar S R → (List (Read S R) → Result D Fault)
    → List Taken → Result D Fault
whole_read g made lines = or_fault (first_fault g lines) (made (read_of g lines))
