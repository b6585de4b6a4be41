-- The faults of the lines and heads of a flash description have names.
use Rattle.std.proofs.Common.{ℕ, ◌+◌, ◌&&◌, Bool, nat_lt, [], ◌∷◌, Some, None}
use Rattle.std.specs.Prelude.{codes}
use Rattle.build_base.specs.FaultText.{fault_of}
use Rattle.build_base.specs.declared.lines.Taken.{Taken}
use Rattle.meta_lexer.specs.declared.head.Head.{Head}
use Rattle.fdf_lines.specs.Counts.{heads_above, heads_here, statements_here}
use Rattle.fdf_lines.specs.Grammar.{scope_faults, line_faults, is_full, many_fault, open_fault, unfiled_fault, opens, are_shut, begun_fault, left_fault, heads_fault, flash_grammar}
use Rattle.fdf_lines.specs.Sections.{meaning_faults, head_meaning}
use Rattle.fdf_lines.specs.Standing.{marks_below, volume_below}
use Rattle.fdf_lines.specs.declared.section.FlashSection.TheVariants as section
use Rattle.fdf_lines.specs.declared.section.HeadMeaning.{HeadMeaning}
use Rattle.fdf_lines.specs.declared.section.HeadMeaning.TheVariants.{Section, Ignored, BadQualifier, BadRule, Unknown}
use Rattle.fdf_volumes.specs.VolumeLines.{volume_faults}
use Rattle.fdf_words.specs.DeviceLines.{device_faults}
use Rattle.fdf_words.specs.Keys.{is_set}
use Rattle.fdf_words.specs.SetLines.{set_faults}
use Rattle.fdf_words.specs.declared.marks.Marks.{Marks}
use Rattle.fdf_words.specs.declared.marks.Open.{Open}
use Rattle.fdf_words.specs.declared.marks.Open.TheVariants.{Shut, InApriori, InFile, InRule}
use Rattle.fdf_words.specs.declared.rows.Scope.{Scope}
use Rattle.fdf_words.specs.declared.rows.Scope.TheVariants as scope
use Rattle.fdf_lines.specs.Rules.{rule_faults}
use Rattle.build_base.specs.FaultCodes.{BAD_RULE, FDF_BAD_FILE, TOO_MANY}
use Rattle.named_faults.specs.Named.{IsNamed}
use Rattle.named_faults.proofs.NamedLemmas.{AreNamed, if_named, if_holds}
use Rattle.named_faults.proofs.CodeLemmas.{bad_key_named, bad_rule_named, bad_section_named, fdf_bad_file_named, too_many_named}
use Rattle.platform_faults.proofs.DeviceLineLemmas.{set_named, device_named}
use Rattle.platform_faults.proofs.RuleLineLemmas.{rule_named}
use Rattle.platform_faults.proofs.VolumeLineLemmas.{volume_named}
use Rattle.doc_reading.specs.Values.{of_read_line}
use Rattle.text_faults.proofs.GrammarLemmas.{least_named, IsNamedGrammar}
use Rattle.text_faults.proofs.ValueLemmas.{read_line_named}

-- lines
scope_named : (line : Taken) (marks : Marks) (full : Bool) (s : Scope) → AreNamed (scope_faults line marks full s)
scope_named line marks full scope.Settings = tt
scope_named line marks full (scope.Device name) = read_line_named line (device_faults line marks) (device_named line marks)
scope_named line marks full (scope.Volume name) = read_line_named line (volume_faults line marks.braces full) (volume_named line marks.braces full)
scope_named line marks full (scope.Rule r) = read_line_named line (rule_faults line marks) (rule_named line marks)

line_named : (line : Taken) (marks : Marks) (full : Bool) (s : Scope) → AreNamed (line_faults line marks full s)
unfolding line_faults
line_named line marks full s =
    if_holds AreNamed (is_set line.text) (of_read_line line (set_faults line)) (scope_faults line marks full s) (read_line_named line (set_faults line) (set_named line)) (scope_named line marks full s)

-- heads
meaning_named : (line : Taken) (head : Head) (meaning : HeadMeaning) → AreNamed (meaning_faults line head meaning)
meaning_named line head BadQualifier = (bad_section_named, tt)
meaning_named line head BadRule = (bad_rule_named, tt)
meaning_named line head Unknown = (bad_key_named, tt)
meaning_named line head (Section s) = tt
meaning_named line head Ignored = tt

many_named : (line : Taken) (n : ℕ) → IsNamed (many_fault line n)
many_named line n = if_named (nat_lt 65535 n) (Some (fault_of TOO_MANY line.at (codes "65536"))) None too_many_named tt

open_named : (line : Taken) (braces : Open) → IsNamed (open_fault line braces)
open_named line Shut = tt
open_named line InApriori = fdf_bad_file_named
open_named line (InFile filled) = fdf_bad_file_named
open_named line InRule = bad_rule_named

unfiled_named : (line : Taken) (unfiled : Bool) → IsNamed (unfiled_fault line unfiled)
unfiled_named line unfiled = if_named unfiled (Some (fault_of BAD_RULE line.at (codes "FILE"))) None bad_rule_named tt

begun_named : (line : Taken) (marks : Marks) (volume : Bool) → IsNamed (begun_fault line marks volume)
begun_named line marks volume =
    if_named (volume && (are_shut marks.braces && opens line.text)) (Some (fault_of FDF_BAD_FILE line.at (codes "{"))) None fdf_bad_file_named tt

left_named : (line : Taken) (marks : Marks) (volume : Bool) → IsNamed (left_fault line marks volume)
left_named line marks volume =
    least_named (open_fault line marks.braces ∷ begun_fault line marks volume ∷ unfiled_fault line marks.unfiled ∷ [])
    (open_named line marks.braces, (begun_named line marks volume, (unfiled_named line marks.unfiled, tt)))

heads_named : (line : Taken) (marks : Marks) (devices volumes rules : ℕ) → IsNamed (heads_fault line marks devices volumes rules)
heads_named line marks devices volumes rules =
    least_named (open_fault line marks.braces ∷ unfiled_fault line marks.unfiled ∷ many_fault line devices ∷ many_fault line volumes ∷ many_fault line rules ∷ [])
    (open_named line marks.braces, (unfiled_named line marks.unfiled, (many_named line devices, (many_named line volumes, (many_named line rules, tt)))))

pub flash_named : IsNamedGrammar flash_grammar
flash_named =
    record {
      heads = λ line head. meaning_named line head (head_meaning head);
      stray = bad_key_named;
      rows = λ above line s. line_named line (marks_below above) (is_full (statements_here above)) s;
      at_heads = λ above line heads. heads_named line (marks_below above) (heads_above section.Device above + heads_here section.Device heads)
          (heads_above section.Volume above + heads_here section.Volume heads) (heads_above section.Rule above + heads_here section.Rule heads);
      left_open = λ above line. left_named line (marks_below above) (volume_below above);
    }
