-- The faults of the lines of a rule have names.
use Rattle.std.proofs.Common.{ℕ, Bool, ◌-◌, ◌==◌, ◌&&◌, ◌||◌, not, nat_le, if◌then◌else◌, List, [], ◌∷◌, length, take, Option, Some, None, Result, Ok, Err}
use Rattle.std.specs.Prelude.{codes}
use Rattle.build_base.specs.FaultText.{fault_of}
use Rattle.build_base.specs.declared.fault.Fault.{Fault}
use Rattle.build_base.specs.declared.lines.Taken.{Taken}
use Rattle.macro_expressions.specs.Expressions.{evaluation}
use Rattle.macro_expressions.specs.Macros.{same_text}
use Rattle.macro_expressions.specs.Macros.{without_workspace}
use Rattle.macro_expressions.specs.declared.expression.Value.{Value}
use Rattle.macro_expressions.specs.declared.expression.Value.TheVariants.{Number, Word}
use Rattle.meta_lexer.specs.Fields.{ends_quoted}
use Rattle.meta_lexer.specs.Words.{same_word}
use Rattle.fdf_lines.specs.RuleNumbers.{holds_another, within_word, number_found, build_number, stated_number}
use Rattle.fdf_lines.specs.Rules as rule
use Rattle.fdf_lines.specs.declared.rule_line.RuleKind.{RuleKind}
use Rattle.fdf_lines.specs.declared.rule_line.RuleKind.TheVariants as kind_
use Rattle.fdf_lines.specs.declared.rule_options.RuleOptions.{RuleOptions}
use Rattle.fdf_volumes.specs.Statements.{file_parts}
use Rattle.fdf_words.specs.Numbers.{bad_line}
use Rattle.fdf_words.specs.Words.{is_close, word_of, after_word}
use Rattle.fdf_words.specs.declared.marks.Marks.{Marks}
use Rattle.fdf_words.specs.declared.marks.Open.{Open}
use Rattle.fdf_words.specs.declared.marks.Open.TheVariants.{Shut, InApriori, InFile, InRule}
use Rattle.fdf_words.specs.declared.words.Options.{Options}
use Rattle.build_base.specs.FaultCodes.{BAD_EXPRESSION, BAD_RULE, UNDEFINED_MACRO}
use Rattle.named_faults.specs.Named.{IsNamed, FailsByName}
use Rattle.named_faults.proofs.NamedLemmas.{AreNamed, if_named, if_fails, if_holds}
use Rattle.named_faults.proofs.CodeLemmas.{bad_expression_named, bad_rule_named, compressed_refused_named, undefined_macro_named}
use Rattle.doc_reading.specs.Least.{least_of}
use Rattle.text_faults.proofs.ExpressionLemmas.{evaluation_fails}
use Rattle.text_faults.proofs.GrammarLemmas.{least_named, fault_in_named}

-- build numbers
within_fails : (line : Taken) (word : List ℕ) (n : ℕ) → FailsByName (within_word line word n)
within_fails line word n =
    if_fails (holds_another word) (Err (bad_line UNDEFINED_MACRO line)) (if nat_le n 65535 then Ok n else Err (bad_line BAD_RULE line)) undefined_macro_named
    (if_fails (nat_le n 65535) (Ok n) (Err (bad_line BAD_RULE line)) tt bad_rule_named)

found_fails : (line : Taken) (word : List ℕ) (r : Result Value Fault) → FailsByName r → FailsByName (number_found line word r)
found_fails line word (Ok (Number n)) h = within_fails line word n
found_fails line word (Ok (Word text)) h = bad_expression_named
found_fails line word (Err fault) h = h

number_fails : (line : Taken) (stated : Bool) (word : List ℕ) → FailsByName (stated_number line stated word)
unfolding build_number
number_fails line stated word =
    if_fails stated (build_number line word) (Ok 0)
    (if_fails (ends_quoted word) (Err (fault_of BAD_EXPRESSION line.at word)) (number_found line word (evaluation line.at word [])) bad_expression_named
    (found_fails line word (evaluation line.at word []) (evaluation_fails line.at word []))) tt

-- lines
other_named : (line : Taken) (text : List ℕ) → IsNamed (rule.other_macro line text)
other_named line text = if_named (rule.holds_other text) (Some (bad_line UNDEFINED_MACRO line)) None undefined_macro_named tt

around_named : (line : Taken) (path : List ℕ) → IsNamed (rule.other_around line path)
around_named line path =
    if_named (rule.holds_other (take (length line.text - length path) line.text) || rule.holds_other (without_workspace path)) (Some (bad_line UNDEFINED_MACRO line)) None undefined_macro_named tt

no_rule_named : (line : Taken) → AreNamed (rule.no_rule_faults line)
no_rule_named line = (other_named line line.text, (bad_rule_named, tt))

no_rule_least : (line : Taken) → IsNamed (least_of (rule.no_rule_faults line))
no_rule_least line = least_named (rule.no_rule_faults line) (no_rule_named line)

path_named : (line : Taken) (same : Bool) (options : RuleOptions) (path : List ℕ) → IsNamed (rule.path_fault line same options path)
path_named line same options path =
    let none : Option Fault = least_of (rule.no_rule_faults line) in
    let around : Option Fault = if same && not (length path == 0) then rule.other_around line path else none in
    let extension : Option Fault = if rule.is_extension path then rule.other_macro line line.text else around in
    if_named options.wrong none extension (no_rule_least line)
    (if_named (rule.is_extension path) (rule.other_macro line line.text) around (other_named line line.text)
    (if_named (same && not (length path == 0)) (rule.other_around line path) none (around_named line path) (no_rule_least line)))

paths_named : (line : Taken) (same : Bool) (p : RuleOptions × List ℕ × List ℕ) → AreNamed (rule.path_faults line same p)
paths_named line same p = (fault_in_named (rule.number_in line p.0 p.1) (number_fails line p.0.numbered p.1), (path_named line same p.0 p.2, tt))

text_named : (line : Taken) (options : RuleOptions) (rest : List ℕ) → IsNamed (rule.text_fault line options rest)
text_named line options rest =
    let none : Option Fault = least_of (rule.no_rule_faults line) in
    let plain : Option Fault = if length rest == 0 then rule.other_macro line line.text else none in
    if_named options.wrong none plain (no_rule_least line)
    (if_named (length rest == 0) (rule.other_macro line line.text) none (other_named line line.text) (no_rule_least line))

texts_named : (line : Taken) (p : RuleOptions × List ℕ × List ℕ) → AreNamed (rule.text_faults line p)
texts_named line p = (fault_in_named (rule.number_in line p.0 p.1) (number_fails line p.0.numbered p.1), (text_named line p.0 p.2, tt))

quoted_named : (line : Taken) (o : Option (List ℕ × List ℕ)) → AreNamed (rule.quoted_faults line o)
quoted_named line (Some p) = texts_named line (rule.rule_parts p.1)
quoted_named line None = no_rule_named line

plain_named : (line : Taken) (first text : List ℕ) → AreNamed (rule.plain_faults line first text)
plain_named line first text = paths_named line (same_word (word_of text) first) (rule.rule_parts (after_word text))

worded_named : (line : Taken) (first text : List ℕ) → AreNamed (rule.worded_faults line first text)
worded_named line first text =
    if_holds AreNamed (rule.is_string (word_of text)) (rule.quoted_faults line (rule.stated_words (after_word text))) (rule.plain_faults line first text)
    (quoted_named line (rule.stated_words (after_word text))) (plain_named line first text)

kind_named : (line : Taken) (first text : List ℕ) (o : Option RuleKind) → AreNamed (rule.kind_faults line first text o)
kind_named line first text (Some (kind_.Plain kind)) = plain_named line first text
kind_named line first text (Some (kind_.Worded kind)) = worded_named line first text
kind_named line first text (Some kind_.Compressed) = (other_named line line.text, (compressed_refused_named, tt))
kind_named line first text None = no_rule_named line

inner_named : (line : Taken) → AreNamed (rule.inner_faults line)
inner_named line =
    let first : List ℕ = word_of line.text in
    if_holds AreNamed (is_close line.text) [] (rule.kind_faults line first (after_word line.text) (rule.rule_kind first)) tt
    (kind_named line first (after_word line.text) (rule.rule_kind first))

named_named : (line : Taken) (o : Option (ℕ × List ℕ × Options)) → AreNamed (rule.named_faults line o)
named_named line (Some p) =
    if_holds AreNamed (same_text p.1 (codes "$(NAMED_GUID)")) (rule.other_macro line line.text ∷ []) (rule.no_rule_faults line) (other_named line line.text, tt) (no_rule_named line)
named_named line None = no_rule_named line

outer_named : (line : Taken) (unfiled : Bool) → AreNamed (rule.outer_faults line unfiled)
outer_named line unfiled =
    let parts = file_parts (after_word line.text) in
    if_holds AreNamed (rule.is_file unfiled (word_of line.text)) (rule.named_faults line parts) (rule.no_rule_faults line) (named_named line parts) (no_rule_named line)

in_named : (line : Taken) (unfiled : Bool) (braces : Open) → AreNamed (rule.faults_in line unfiled braces)
in_named line unfiled InRule = inner_named line
in_named line unfiled Shut = outer_named line unfiled
in_named line unfiled InApriori = outer_named line unfiled
in_named line unfiled (InFile filled) = outer_named line unfiled

pub rule_named : (line : Taken) (marks : Marks) → AreNamed (rule.rule_faults line marks)
unfolding rule.rule_faults
rule_named line marks = in_named line marks.unfiled marks.braces
