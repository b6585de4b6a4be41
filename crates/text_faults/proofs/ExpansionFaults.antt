-- In a world that tells all files an expansion wants none, and its fault has a name.
use Rattle.std.proofs.Common.{◌≡◌, ℕ, zero, suc, ◌+◌, nat_lt, Bool, true, not, cond, if◌then◌else◌, List, [], ◌∷◌, length, map, codes, Option, Some, None, Result, Ok, Err, subst}
use Rattle.std.specs.List.{position_or_len}
use Rattle.build_base.specs.FaultCodes.{BAD_BYTE, BAD_DIRECTIVE, INCLUDE_LOOP, INCLUDE_TOO_DEEP, LINE_TOO_LONG, TOO_MANY_MACROS}
use Rattle.build_base.specs.First.{or_else, unless}
use Rattle.build_base.specs.Path.{path_field}
use Rattle.build_base.specs.declared.fault.Fault.{Fault}
use Rattle.build_base.specs.declared.lines.Lines.{Lines}
use Rattle.build_base.specs.declared.lines.Macro.{Macro}
use Rattle.build_base.specs.declared.lines.Taken.{Taken as Line}
use Rattle.build_base.specs.declared.outside.Got.{Got}
use Rattle.build_base.specs.declared.outside.Got.TheVariants.{File, Absent, TooLong}
use Rattle.meta_lexer.specs.Faults.{Spot, first_fault}
use Rattle.meta_lexer.specs.Lines.{Piece, TextLine, is_plain, without_return, before_comment, piece_fault, piece_line, pieces_from, lines_of}
use Rattle.meta_lexer.specs.Words.{same_word}
use Rattle.macro_expressions.specs.declared.expression.Value.{Value}
use Rattle.macro_expressions.specs.declared.expression.Value.TheVariants.{Number, Word}
use Rattle.macro_expressions.specs.declared.macros.Undefined.TheVariants.{Zero}
use Rattle.macro_expressions.specs.Macros.{replaced, without_workspace}
use Rattle.macro_expressions.specs.Expressions.{value_of_text}
use Rattle.macro_conditions.specs.Directives.{is_directive, directive_word, directive_rest, is_include, is_definition, definition_of, macro_named}
use Rattle.macro_conditions.specs.Sources.{places, Located, wanted, missing, over_limit, there, at_place, or_located, located}
use Rattle.macro_conditions.specs.Worlds.{told}
use Rattle.macro_conditions.specs.LineMeaning.{◌>>=◌, file_of}
use Rattle.macro_conditions.specs.Expansion.{Env, Stop, bad, need, settled, fault_at, is_full, holds, names, negated, scope, defined, written, apply_directive, condition, tested, include_field, line_at, acts, read_by, lines_read, inside, outside, file_lines, is_open, included, begun, document, rooted, expansion}
use Rattle.macro_conditions.proofs.IncludeLemmas.{found_at, at_path}
use Rattle.macro_conditions.proofs.TreeKeeps.{IsKept, file_kept}
use Rattle.named_faults.specs.Named.{IsNameCode, HasName, FailsByName}
use Rattle.named_faults.proofs.NamedLemmas.{if_fails, if_holds}
use Rattle.named_faults.proofs.CodeLemmas.{bad_byte_named, bad_directive_named, bad_expression_named, bad_path_named, file_absent_named, file_too_long_named, include_absent_named, include_loop_named, include_too_deep_named, line_too_long_named, too_many_macros_named, unbalanced_named}
use Rattle.text_faults.proofs.ExpressionLemmas.{HasNameCode, text_value_named}

-- Outcomes.

-- no file is wanted, and the code of a fault has a name
abbrev pub StopsByName : {A : Type 0} → Result A Stop → Type 0
StopsByName (Ok x) = Unit {0}
StopsByName (Err (bad fault)) = HasName fault
StopsByName (Err (need path)) = ⊥

stops_bind : {A B : Type 0} (r : Result A Stop) (f : A → Result B Stop) → StopsByName r → ((x : A) → StopsByName (f x)) → StopsByName (r >>= f)
stops_bind (Ok x) f h k = k x
stops_bind (Err (bad fault)) f h k = h
stops_bind (Err (need p)) f h k = h

stops_settled : {A : Type 0} (r : Result A Fault) → FailsByName r → StopsByName (settled r)
stops_settled (Ok x) n = tt
stops_settled (Err fault) n = n

-- Lines of a file.

abbrev IsSpotNamed : Option Spot → Type 0
IsSpotNamed None = Unit {0}
IsSpotNamed (Some spot) = IsNameCode spot.code

spot_first : (a b : Option Spot) → IsSpotNamed a → IsSpotNamed b → IsSpotNamed (or_else a b)
spot_first None b x y = y
spot_first (Some spot) b x y = x

piece_named : (p : Piece) → IsSpotNamed (piece_fault p)
piece_named p =
    let text = without_return p.bytes in
    let bad_at = position_or_len (λ b. not (is_plain b)) (before_comment text) in
    let byte : Option Spot = Some (record { code = BAD_BYTE; line = p.number; start = p.start + bad_at; end = p.start + bad_at + 1 }) in
    let long : Option Spot = Some (record { code = LINE_TOO_LONG; line = p.number; start = p.start; end = p.start + length text }) in
    if_holds IsSpotNamed (nat_lt bad_at (length (before_comment text))) byte (if nat_lt 8192 (length text) then long else None) bad_byte_named
    (if_holds IsSpotNamed (nat_lt 8192 (length text)) long None line_too_long_named tt)

pieces_named : (pieces : List Piece) → IsSpotNamed (first_fault piece_fault pieces)
pieces_named [] = tt
pieces_named (p ∷ pieces) = spot_first (piece_fault p) (first_fault piece_fault pieces) (piece_named p) (pieces_named pieces)

read_fails : (path bytes : List ℕ) (fault : Option Spot) (lines : List TextLine) → IsSpotNamed fault → FailsByName (read_by path bytes (unless fault lines))
read_fails path bytes None lines n = tt
read_fails path bytes (Some spot) lines n = n

lines_fail : (path bytes : List ℕ) → FailsByName (lines_read path bytes)
unfolding lines_read lines_of
lines_fail path bytes =
    let pieces = pieces_from 1 0 bytes in
    read_fails path bytes (first_fault piece_fault pieces) (map piece_line pieces) (pieces_named pieces)

-- Directives.

holds_fails : (line : Line) (value : Result Value ℕ) → HasNameCode value → FailsByName (holds line value)
holds_fails line (Ok (Number n)) h = tt
holds_fails line (Ok (Word w)) h = bad_expression_named
holds_fails line (Err code) h = h

names_fails : (line : Line) (macros : List Macro) (name : Option (List ℕ)) → FailsByName (names line macros name)
names_fails line macros None = bad_directive_named
names_fails line macros (Some name) = tt

negated_fails : (r : Result Bool Fault) → FailsByName r → FailsByName (negated r)
negated_fails (Ok b) n = tt
negated_fails (Err fault) n = n

module _ (fixed : List Macro) (line : Line) (e : Env) where
  defined_fails : (pair : Option (List ℕ × List ℕ)) → FailsByName (defined fixed line e pair)
  defined_fails None = bad_directive_named
  defined_fails (Some pair) = if_fails (is_full pair.0 e.macros) (Err (fault_at TOO_MANY_MACROS line pair.0)) (Ok _) too_many_macros_named tt

  directive_fails : FailsByName (apply_directive fixed line e)
  unfolding apply_directive
  directive_fails =
      let definition = defined fixed line e (definition_of line.text) in
      if_fails (is_directive line.text) (Err (fault_at BAD_DIRECTIVE line line.text)) (if is_definition line.text then definition else Ok (written fixed line e)) bad_directive_named
      (if_fails (is_definition line.text) definition (Ok (written fixed line e)) (defined_fails (definition_of line.text)) tt)

  condition_fails : (word : List ℕ) → FailsByName (condition fixed line e word)
  condition_fails word =
      let rest = directive_rest line.text in
      let named = names line (scope fixed e) (macro_named rest) in
      let value = value_of_text (replaced Zero (scope fixed e) rest) in
      let ifndef = if same_word word (codes "ifndef") then negated named else holds line value in
      if_fails (same_word word (codes "else")) (Ok true) (if same_word word (codes "ifdef") then named else ifndef) tt
      (if_fails (same_word word (codes "ifdef")) named ifndef (names_fails line (scope fixed e) (macro_named rest))
      (if_fails (same_word word (codes "ifndef")) (negated named) (holds line value) (negated_fails named (names_fails line (scope fixed e) (macro_named rest)))
      (holds_fails line value (text_value_named (replaced Zero (scope fixed e) rest)))))

  tested_fails : FailsByName (tested fixed line e)
  unfolding tested
  tested_fails = condition_fails (directive_word line.text)

-- Files.

kept : (fixed : List Macro) (i : Line → Env → Result Env Stop) → ((l : Line) (e : Env) → StopsByName (i l e)) → IsKept (acts fixed i) (λ e r. StopsByName r)
kept fixed i h = record {
  ok = λ e. tt;
  act = λ l e. if_holds StopsByName (is_include l.text) (i l e) (settled (apply_directive fixed l e)) (h l e) (stops_settled (apply_directive fixed l e) (directive_fails fixed l e));
  stray = λ l e. unbalanced_named;
  bind = λ e r f p q. stops_bind r f p q;
  choose = λ l e f p. stops_bind (settled (tested fixed l e)) f (stops_settled (tested fixed l e) (tested_fails fixed l e)) p;
}

opened_stops : (file : List Line → Env → Result Env Stop) → ((ls : List Line) (e : Env) → StopsByName (file ls e)) → (path bytes : List ℕ) (e : Env) → StopsByName (file_lines file path bytes e)
opened_stops file h path bytes e =
    let leave : Env → Result Env Stop = λ x. Ok (outside e x) in
    stops_bind (settled (lines_read path bytes)) (λ lines. file (map (line_at path) lines) (inside path e) >>= leave) (stops_settled (lines_read path bytes) (lines_fail path bytes))
    (λ lines. stops_bind (file (map (line_at path) lines) (inside path e)) leave (h (map (line_at path) lines) (inside path e)) (λ x. tt))

-- nothing is wanted
abbrev IsAnswered : Located → Type 0
IsAnswered (wanted p) = ⊥
IsAnswered missing = Unit {0}
IsAnswered (over_limit p) = Unit {0}
IsAnswered (there p bytes) = Unit {0}

one_answered : (p : List ℕ) (got : Got) (rest : Located) → IsAnswered rest → IsAnswered (or_located (at_place p (Some got)) rest)
one_answered p Absent rest h = h
one_answered p TooLong rest h = tt
one_answered p (File bytes) rest h = tt

-- a world wants no file
pub places_answered : (world : List ℕ → Got) (ps : List (List ℕ)) → IsAnswered (located (told world) ps)
places_answered world [] = tt
places_answered world (p ∷ ps) = one_answered p (world p) (located (told world) ps) (places_answered world ps)

found_stops : (enter : List ℕ → List ℕ → Result Env Stop) → ((p bytes : List ℕ) → StopsByName (enter p bytes)) → (l : Line) (path : List ℕ) (x : Located) → IsAnswered x → StopsByName (found_at enter l path x)
found_stops enter h l path (wanted p) w = w
found_stops enter h l path missing w = include_absent_named
found_stops enter h l path (over_limit p) w = file_too_long_named
found_stops enter h l path (there p bytes) w = h p bytes

module _ (world : List ℕ → Got) (fixed : List Macro) where
  path_stops : (enter : List ℕ → List ℕ → List ℕ → Result Env Stop) → ((path p bytes : List ℕ) → StopsByName (enter path p bytes)) → (l : Line) (field : List ℕ) (o : Option (List ℕ))
      → StopsByName (at_path enter (told world) l field o)
  path_stops enter h l field None = bad_path_named
  path_stops enter h l field (Some path) =
      found_stops (enter path) (h path) l path (located (told world) (places l.at.path path)) (places_answered world (places l.at.path path))

  included_stops : (n : ℕ) (l : Line) (e : Env) → StopsByName (included (told world) fixed n l e)
  unfolding included
  included_stops zero l e =
      path_stops (λ path p bytes. Err (bad (fault_at INCLUDE_TOO_DEEP l path))) (λ path p bytes. include_too_deep_named) l (include_field fixed l e) (path_field (without_workspace (include_field fixed l e)))
  included_stops (suc n) l e =
      let file : List Line → Env → Result Env Stop = λ ls x. file_of (acts fixed (included (told world) fixed n)) ls x in
      path_stops (λ path p bytes. cond (is_open p e) (Err (bad (fault_at INCLUDE_LOOP l path))) (file_lines file p bytes e))
      (λ path p bytes. if_holds StopsByName (is_open p e) (Err (bad (fault_at INCLUDE_LOOP l path))) (file_lines file p bytes e) include_loop_named
      (opened_stops file (λ ls x. file_kept (kept fixed (included (told world) fixed n) (included_stops n)) ls x) p bytes e))
      l (include_field fixed l e) (path_field (without_workspace (include_field fixed l e)))

  root_stops : (root : List ℕ) (e : Env) (got : Got) → StopsByName (rooted (told world) fixed root e (Some got))
  root_stops root e Absent = file_absent_named
  root_stops root e TooLong = file_too_long_named
  root_stops root e (File bytes) =
      let file : List Line → Env → Result Env Stop = λ ls x. file_of (acts fixed (included (told world) fixed 31)) ls x in
      opened_stops file (λ ls x. file_kept (kept fixed (included (told world) fixed 31) (included_stops 31)) ls x) root bytes e

-- an expansion in a world wants no file, and its fault has a name
pub expansion_stops : (world : List ℕ → Got) (root : List ℕ) (macros fixed : List Macro) → StopsByName (expansion (told world) root macros fixed)
unfolding expansion
expansion_stops world root macros fixed =
    stops_bind (rooted (told world) fixed root (begun macros) (told world root)) (λ x. document root x) (root_stops world fixed root (begun macros) (world root)) (λ x. tt)

pub nothing_wanted : (world : List ℕ → Got) (root : List ℕ) (macros fixed : List Macro) (path : List ℕ) → expansion (told world) root macros fixed ≡ Err (need path) → ⊥
nothing_wanted world root macros fixed path e = subst (λ (r : Result Lines Stop). StopsByName r) e (expansion_stops world root macros fixed)

pub fault_named : (world : List ℕ → Got) (root : List ℕ) (macros fixed : List Macro) (fault : Fault) → expansion (told world) root macros fixed ≡ Err (bad fault) → HasName fault
fault_named world root macros fixed fault e = subst (λ (r : Result Lines Stop). StopsByName r) e (expansion_stops world root macros fixed)
