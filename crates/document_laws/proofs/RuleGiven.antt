-- Lines of a rule, and of a flash description, of which no condition holds give rows.
use Rattle.std.proofs.Common.{◌≡◌, ℕ, Bool, true, false, if◌then◌else◌, List, [], ◌∷◌, Option, Some, None, Result, Ok, Err, refl}
use Rattle.std.specs.Option.{IsSome}
use Rattle.build_base.specs.FaultCodes.{BAD_RULE, COMPRESSED_REFUSED}
use Rattle.build_base.specs.FaultText.{fault_of}
use Rattle.build_base.specs.declared.fault.Fault.{Fault}
use Rattle.build_base.specs.declared.lines.Taken.{Taken}
use Rattle.doc_reading.specs.Least.{least_of, fault_in}
use Rattle.doc_reading.specs.Values.{of_read_line}
use Rattle.doc_reading.proofs.FaultlessLemmas.{least_first, least_read}
use Rattle.doc_types.specs.declared.volume.SectionSource.{SectionSource}
use Rattle.doc_types.specs.declared.volume.SectionSource.TheVariants.{Words}
use Rattle.fdf_words.specs.declared.marks.Marks.{Marks}
use Rattle.fdf_words.specs.declared.marks.Open.{Open}
use Rattle.fdf_words.specs.declared.marks.Open.TheVariants.{Shut, InApriori, InFile, InRule}
use Rattle.fdf_words.specs.declared.rows.Row.TheVariants.{Closes}
use Rattle.fdf_words.specs.declared.rows.Scope.{Scope}
use Rattle.fdf_words.specs.declared.rows.Scope.TheVariants as scope
use Rattle.fdf_words.specs.declared.words.Options.{Options}
use Rattle.fdf_words.specs.DeviceLines.{device_faults}
use Rattle.fdf_words.specs.Keys.{is_set}
use Rattle.fdf_words.specs.Numbers.{bad_line}
use Rattle.fdf_words.specs.SetLines.{set_faults, set_row}
use Rattle.fdf_words.specs.Words.{is_close, word_of, after_word}
use Rattle.fdf_volumes.specs.Statements.{file_parts}
use Rattle.fdf_volumes.specs.VolumeLines.{volume_faults}
use Rattle.fdf_lines.specs.declared.rule_line.RuleKind.{RuleKind}
use Rattle.fdf_lines.specs.declared.rule_line.RuleKind.TheVariants as kind_
use Rattle.fdf_lines.specs.declared.rule_options.RuleOptions.{RuleOptions}
use Rattle.fdf_lines.specs.Grammar.{line_faults, line_row, rank_of, scope_faults, scope_row}
use Rattle.fdf_lines.specs.Rules as rules
use Rattle.document_laws.proofs.DeviceGiven.{second, set_given, device_given}
use Rattle.document_laws.proofs.VolumeGiven.{volume_given}

unruled : {X : Type 0} (line : Taken) → least_of (rules.no_rule_faults line) ≡ None → X
unruled line e = second (rules.other_macro line line.text) (bad_line BAD_RULE line) e

numbered : (line : Taken) (kind : ℕ) (options : RuleOptions) (source : SectionSource) (number : Result ℕ Fault) (last : Option Fault) → least_of (fault_in number ∷ last ∷ []) ≡ None → IsSome (rules.numbered_row line kind options source number)
numbered line kind options source (Ok number) last e = refl
numbered line kind options source (Err fault) last e = absurd (bad (least_first (Some fault) (last ∷ []) e))
  where
    bad : Some fault ≡ None → ⊥
    bad h = cc

path_given : (line : Taken) (kind : ℕ) (same : Bool) (p : RuleOptions × List ℕ × List ℕ) → least_of (rules.path_faults line same p) ≡ None → IsSome (rules.path_row line kind p)
path_given line kind same p e = numbered line kind p.0 (rules.path_source line p.2) (rules.number_in line p.0 p.1) (rules.path_fault line same p.0 p.2) e

quoted_given : (line : Taken) (kind : ℕ) (quoted : Option (List ℕ × List ℕ)) → least_of (rules.quoted_faults line quoted) ≡ None → IsSome (rules.quoted_row line kind quoted)
quoted_given line kind (Some q) e =
    let p = rules.rule_parts q.1 in
    numbered line kind p.0 (Words q.0) (rules.number_in line p.0 p.1) (rules.text_fault line p.0 p.2) e
quoted_given line kind None e = unruled line e

plain_given : (line : Taken) (kind : ℕ) (first text : List ℕ) → least_of (rules.plain_faults line first text) ≡ None → IsSome (rules.plain_row line kind text)
plain_given line kind first text e = path_given line kind _ (rules.rule_parts (after_word text)) e

worded_by : (line : Taken) (kind : ℕ) (first text : List ℕ) (t : Bool)
    → least_of (if t then rules.quoted_faults line (rules.stated_words (after_word text)) else rules.plain_faults line first text) ≡ None
    → IsSome (if t then rules.quoted_row line kind (rules.stated_words (after_word text)) else rules.plain_row line kind text)
worded_by line kind first text true e = quoted_given line kind (rules.stated_words (after_word text)) e
worded_by line kind first text false e = plain_given line kind first text e

kind_given : (line : Taken) (first text : List ℕ) (kind : Option RuleKind) → least_of (rules.kind_faults line first text kind) ≡ None → IsSome (rules.kind_row line text kind)
kind_given line first text (Some (kind_.Plain kind)) e = plain_given line kind first text e
kind_given line first text (Some (kind_.Worded kind)) e = worded_by line kind first text (rules.is_string (word_of text)) e
kind_given line first text (Some kind_.Compressed) e = second (rules.other_macro line line.text) (fault_of COMPRESSED_REFUSED line.at first) e
kind_given line first text None e = unruled line e

inner_by : (line : Taken) (close : Bool)
    → least_of (if close then [] else rules.kind_faults line (word_of line.text) (after_word line.text) (rules.rule_kind (word_of line.text))) ≡ None
    → IsSome (if close then Some Closes else rules.kind_row line (after_word line.text) (rules.rule_kind (word_of line.text)))
inner_by line true e = refl
inner_by line false e = kind_given line (word_of line.text) (after_word line.text) (rules.rule_kind (word_of line.text)) e

inner_given : (line : Taken) → least_of (rules.inner_faults line) ≡ None → IsSome (rules.inner_row line)
inner_given line e = inner_by line (is_close line.text) e

named_given : (line : Taken) (parts : Option (ℕ × List ℕ × Options)) → least_of (rules.named_faults line parts) ≡ None → IsSome (rules.named_row line parts)
named_given line (Some p) e = refl
named_given line None e = unruled line e

outer_by : (line : Taken) (filed : Bool) → least_of (if filed then rules.named_faults line (file_parts (after_word line.text)) else rules.no_rule_faults line) ≡ None → IsSome (rules.outer_row line)
outer_by line true e = named_given line (file_parts (after_word line.text)) e
outer_by line false e = unruled line e

outer_given : (line : Taken) (unfiled : Bool) → least_of (rules.outer_faults line unfiled) ≡ None → IsSome (rules.outer_row line)
outer_given line unfiled e = outer_by line (rules.is_file unfiled (word_of line.text)) e

rule_by : (line : Taken) (unfiled : Bool) (braces : Open) → least_of (rules.faults_in line unfiled braces) ≡ None → IsSome (rules.row_in line braces)
rule_by line unfiled InRule e = inner_given line e
rule_by line unfiled Shut e = outer_given line unfiled e
rule_by line unfiled InApriori e = outer_given line unfiled e
rule_by line unfiled (InFile filled) e = outer_given line unfiled e

rule_given : (line : Taken) (marks : Marks) → least_of (rules.rule_faults line marks) ≡ None → IsSome (rules.rule_row line marks.braces)
unfolding rules.rule_faults rules.rule_row
rule_given line marks e = rule_by line marks.unfiled marks.braces e

scope_given : (line : Taken) (marks : Marks) (full : Bool) (s : Scope) → least_of (scope_faults line marks full s) ≡ None → IsSome (scope_row line marks s)
scope_given line marks full scope.Settings e = refl
scope_given line marks full (scope.Device name) e = device_given line marks (least_read line (device_faults line marks) e)
scope_given line marks full (scope.Volume name) e = volume_given line marks.braces full (least_read line (volume_faults line marks.braces full) e)
scope_given line marks full (scope.Rule rule) e = rule_given line marks (least_read line (rules.rule_faults line marks) e)

line_by : (line : Taken) (marks : Marks) (full : Bool) (s : Scope) (set : Bool)
    → least_of (if set then of_read_line line (set_faults line) else scope_faults line marks full s) ≡ None
    → IsSome (if set then set_row line (rank_of s) else scope_row line marks s)
line_by line marks full s true e = set_given line (rank_of s) (least_read line (set_faults line) e)
line_by line marks full s false e = scope_given line marks full s e

pub line_given : (line : Taken) (marks : Marks) (full : Bool) (s : Scope) → least_of (line_faults line marks full s) ≡ None → IsSome (line_row line marks s)
unfolding line_faults line_row
line_given line marks full s e = line_by line marks full s (is_set line.text) e
