-- Where the faults of a grammar have names, so have those of what is read by it.
use Rattle.std.proofs.Common.{◌≡◌, nat_lt, Bool, List, [], ◌∷◌, ◌++◌, map, Option, Some, None, Result, Ok, Err}
use Rattle.std.specs.List.{flat_map}
use Rattle.build_base.specs.declared.fault.Fault.{Fault}
use Rattle.build_base.specs.declared.lines.Taken.{Taken}
use Rattle.meta_lexer.specs.declared.head.Head.{Head}
use Rattle.doc_reading.specs.declared.form.LineForm.{LineForm}
use Rattle.doc_reading.specs.declared.form.LineForm.TheVariants.{Blank, Heads, OpenHead, BadHead, Body}
use Rattle.doc_reading.specs.Forms.{form_of}
use Rattle.doc_reading.specs.Gathering.{given_in, least_in, gathered, unless_faulty}
use Rattle.doc_reading.specs.Grammar.{Grammar, Read, entry_of, outcome_of, scopes_above, heads_entered, rows_given, body_given, form_read, read_of, form_fault, end_fault, open_fault, fault_as, line_fault, first_fault, reading, whole_read}
use Rattle.doc_reading.specs.Least.{lesser, least_of, fault_in}
use Rattle.doc_reading.specs.Reading.{is_empty, lines_fault}
use Rattle.named_faults.specs.Named.{IsNameCode, IsNamed, FailsByName}
use Rattle.named_faults.proofs.NamedLemmas.{if_named, or_else_named, AreNamed, unless_fails, or_fault_fails, AllFailByName, mapped_fails}
use Rattle.named_faults.proofs.CodeLemmas.{bad_section_named, open_quote_named}

-- The least of some faults.

pub lesser_named : (a b : Option Fault) → IsNamed a → IsNamed b → IsNamed (lesser a b)
lesser_named None b x y = y
lesser_named (Some fault) None x y = x
lesser_named (Some fault) (Some other) x y = if_named (nat_lt other.code fault.code) (Some other) (Some fault) y x

pub least_named : (faults : List (Option Fault)) → AreNamed faults → IsNamed (least_of faults)
least_named [] n = tt
least_named (fault ∷ faults) n = lesser_named fault (least_of faults) n.0 (least_named faults n.1)

pub fault_in_named : {T : Type 0} (r : Result T Fault) → FailsByName r → IsNamed (fault_in r)
fault_in_named (Ok value) n = tt
fault_in_named (Err fault) n = n

pub unless_faulty_fails : {T : Type 0} (conditions : List (Option Fault)) (row : T) → AreNamed conditions → FailsByName (unless_faulty conditions row)
unless_faulty_fails conditions row n = unless_fails (least_of conditions) row (least_named conditions n)

pub least_in_named : {T : Type 0} (outcomes : List (Result (Option T) Fault)) → AllFailByName outcomes → IsNamed (least_in outcomes)
least_in_named [] n = tt
least_in_named (outcome ∷ outcomes) n = lesser_named (fault_in outcome) (least_in outcomes) (fault_in_named outcome n.0) (least_in_named outcomes n.1)

pub gathered_fails : {T : Type 0} (outcomes : List (Result (Option T) Fault)) → AllFailByName outcomes → FailsByName (gathered outcomes)
gathered_fails outcomes n = unless_fails (least_in outcomes) (flat_map given_in outcomes) (least_in_named outcomes n)

-- The first fault of some lines.

pub lines_named : {L : Type 0} (fault : List L → L → Bool → Option Fault) (above lines : List L)
    → ((above : List L) (line : L) (last : Bool) → IsNamed (fault above line last)) → IsNamed (lines_fault fault above lines)
lines_named fault above [] n = tt
lines_named fault above (line ∷ lines) n =
    or_else_named (fault above line (is_empty lines)) (lines_fault fault (above ++ line ∷ []) lines) (n above line (is_empty lines))
    (lines_named fault (above ++ line ∷ []) lines n)

-- Grammars.

-- each fault of a grammar has a name
pub record IsNamedGrammar {S R : Type 0} (g : Grammar S R) : Type 0 where
  pub heads : (line : Taken) (head : Head) → AreNamed (g.head_faults line head)
  pub stray : IsNameCode g.stray_code
  pub rows : (above : List (Read S R)) (line : Taken) (scope : S) → AreNamed (g.faults above line scope)
  pub at_heads : (above : List (Read S R)) (line : Taken) (heads : List Head) → IsNamed (g.at_heads above line heads)
  pub left_open : (above : List (Read S R)) (line : Taken) → IsNamed (g.left_open above line)

module _ {S R : Type 0} (g : Grammar S R) (named : IsNamedGrammar g) where
  pub entry_fails : (line : Taken) (head : Head) → FailsByName (entry_of g line head)
  entry_fails line head = unless_faulty_fails (g.head_faults line head) (g.scope_of head) (named.heads line head)

  pub outcome_fails : (above : List (Read S R)) (line : Taken) (scope : S) → FailsByName (outcome_of g above line scope)
  outcome_fails above line scope = unless_faulty_fails (g.faults above line scope) (g.row_of above line scope) (named.rows above line scope)

  pub heads_fail : (line : Taken) (heads : List Head) → FailsByName (heads_entered g line heads)
  heads_fail line heads = gathered_fails (map (entry_of g line) heads) (mapped_fails (entry_of g line) heads (entry_fails line))

  pub rows_fail : (above : List (Read S R)) (line : Taken) (scopes : List S) → FailsByName (rows_given g above line scopes)
  rows_fail above line scopes = gathered_fails (map (outcome_of g above line) scopes) (mapped_fails (outcome_of g above line) scopes (outcome_fails above line))

  pub body_fails : (above : List (Read S R)) (line : Taken) (scopes : Option (List S)) → FailsByName (body_given g above line scopes)
  body_fails above line None = named.stray
  body_fails above line (Some scopes) = rows_fail above line scopes

  pub form_named : (above : List (Read S R)) (line : Taken) (form : LineForm) → IsNamed (form_fault g above line form)
  form_named above line Blank = tt
  form_named above line (Heads heads) = fault_in_named (heads_entered g line heads) (heads_fail line heads)
  form_named above line OpenHead = open_quote_named
  form_named above line BadHead = bad_section_named
  form_named above line Body = fault_in_named (body_given g above line (scopes_above above)) (body_fails above line (scopes_above above))

  pub end_named : (reads : List (Read S R)) (line : Taken) (last : Bool) → IsNamed (end_fault g reads line last)
  end_named reads line last = if_named last (g.left_open reads line) None (named.left_open reads line) (tt)

  pub open_named : (above : List (Read S R)) (line : Taken) (last : Bool) (form : LineForm) → IsNamed (open_fault g above line last form)
  open_named above line last Blank = end_named (above ++ form_read g above line Blank) line last
  open_named above line last (Heads heads) =
      let reads = above ++ form_read g above line (Heads heads) in
      lesser_named (g.at_heads above line heads) (end_fault g reads line last) (named.at_heads above line heads) (end_named reads line last)
  open_named above line last OpenHead = tt
  open_named above line last BadHead = tt
  open_named above line last Body = end_named (above ++ form_read g above line Body) line last

  pub as_named : (above : List (Read S R)) (line : Taken) (last : Bool) (form : LineForm) → IsNamed (fault_as g above line last form)
  as_named above line last form =
      lesser_named (form_fault g above line form) (open_fault g above line last form) (form_named above line form) (open_named above line last form)

  pub line_named : (above : List Taken) (line : Taken) (last : Bool) → IsNamed (line_fault g above line last)
  line_named above line last = as_named (read_of g above) line last (form_of line.text)

  pub first_named : (lines : List Taken) → IsNamed (first_fault g lines)
  first_named lines = lines_named (line_fault g) [] lines line_named

  pub reading_fails : (lines : List Taken) → FailsByName (reading g lines)
  reading_fails lines = unless_fails (first_fault g lines) (read_of g lines) (first_named lines)

  -- what lines without a fault come to as a whole has to fail by a name
  pub whole_fails : {D : Type 0} (made : List (Read S R) → Result D Fault) (lines : List Taken)
      → (first_fault g lines ≡ None → FailsByName (made (read_of g lines))) → FailsByName (whole_read g made lines)
  whole_fails made lines n = or_fault_fails (first_fault g lines) (made (read_of g lines)) (first_named lines) n
