-- Lines of a rule, form by form.
use Rattle.std.proofs.Common.{◌≡◌, ◌==◌, ℕ, Bool, true, false, if◌then◌else◌, List, [], ◌∷◌, length, Option, Some, None, Result, Ok, refl, ap, ap₂, ◌∙◌, codes}
use Rattle.std.specs.Option.{option_and_then}
use Rattle.build_base.specs.FaultCodes.{UNDEFINED_MACRO}
use Rattle.build_base.specs.declared.fault.Fault.{Fault}
use Rattle.build_base.specs.declared.lines.Taken.{Taken}
use Rattle.meta_lexer.specs.Words.{same_word}
use Rattle.macro_expressions.specs.Macros.{same_text}
use Rattle.macro_expressions.specs.Macros.{without_workspace}
use Rattle.doc_reading.specs.Gathering.{unless_faulty}
use Rattle.doc_types.specs.declared.volume.SectionSource.TheVariants.{Template, Words, Refused}
use Rattle.fdf_words.specs.declared.marks.Marks.{Marks}
use Rattle.fdf_words.specs.declared.marks.Open.{Open}
use Rattle.fdf_words.specs.declared.marks.Open.TheVariants.{Shut, InRule}
use Rattle.fdf_words.specs.declared.rows.Row.{Row}
use Rattle.fdf_words.specs.declared.rows.Row.TheVariants as row
use Rattle.fdf_words.specs.declared.rows.RuleScope.{RuleScope}
use Rattle.fdf_words.specs.declared.rows.Scope.TheVariants as scope
use Rattle.fdf_words.specs.declared.words.Options.{Options}
use Rattle.fdf_words.specs.Numbers.{bad_line}
use Rattle.fdf_words.specs.Words.{is_close, word_of, after_word, after_equals}
use Rattle.fdf_volumes.specs.InfLines.{quoted_front}
use Rattle.fdf_volumes.specs.Statements.{file_parts, head_with}
use Rattle.fdf_lines.specs.declared.rule_line.RuleKind.{RuleKind}
use Rattle.fdf_lines.specs.declared.rule_line.RuleKind.TheVariants as kinds
use Rattle.fdf_lines.specs.declared.rule_options.RuleOptions.{RuleOptions}
use Rattle.fdf_lines.specs.RuleNumbers.{stated_number}
use Rattle.fdf_lines.specs.Rules as rules
use Rattle.document_laws.specs.FlashForms as forms
use Rattle.document_laws.proofs.BodyForms.{closed_text}
use Rattle.document_laws.proofs.DeviceForms.{plain_line, read_line}
use Rattle.document_laws.proofs.RuleOptionLemmas.{rule_states}
use Rattle.document_laws.proofs.TextLemmas.{word_found, rest_found, stated_found}
use Rattle.document_laws.proofs.VolumeForms.{filled_text, file_parted}

rule_line : (line : Taken) (marks : Marks) (full : Bool) (rule : RuleScope) (unfiled : Bool) (braces : Open) (r : Row) → forms.IsPlain line → marks.unfiled ≡ unfiled → marks.braces ≡ braces
    → unless_faulty (rules.faults_in line unfiled braces) (rules.row_in line braces) ≡ Ok (Some r) → forms.Says line marks full (scope.Rule rule) r
unfolding rules.rule_faults rules.rule_row
rule_line line marks full rule unfiled braces r h u b e =
    plain_line line marks full (scope.Rule rule) (Ok (Some r)) h
    (read_line line (rules.rule_faults line marks) (rules.rule_row line marks.braces) (Ok (Some r)) h
    (ap₂ (λ u b. unless_faulty (rules.faults_in line u b) (rules.row_in line b)) u b ∙ e))

-- the rule's file
file_word : (line : Taken) (kind : ℕ) (options : Options) (h : forms.IsRuleFile line kind options) → rules.is_file true (word_of line.text) ≡ true
file_word line kind options h = ap (λ w. same_word w (codes "FILE")) (word_found line.text h.word h.rest h.worded) ∙ h.word_is

file_by : (line : Taken) (kind : ℕ) (options : Options) (name : List ℕ) → rules.is_file true (word_of line.text) ≡ true → file_parts (after_word line.text) ≡ Some (kind, name, options) → same_text name (codes "$(NAMED_GUID)") ≡ true → rules.holds_other line.text ≡ false
    → unless_faulty (rules.outer_faults line true) (rules.outer_row line) ≡ Ok (Some (row.RuleFile (head_with line kind None options)))
file_by line kind options name w p n f =
    ap (λ t. unless_faulty (if t then rules.named_faults line (file_parts (after_word line.text)) else rules.no_rule_faults line) (rules.outer_row line)) w
    ∙ ap (λ o. unless_faulty (rules.named_faults line o) (rules.named_row line o)) p
    ∙ ap₂ (λ t u. unless_faulty (if t then (if u then Some (bad_line UNDEFINED_MACRO line) else None) ∷ [] else rules.no_rule_faults line) (Some (row.RuleFile (head_with line kind None options)))) n f

pub file_says : (line : Taken) (marks : Marks) (full : Bool) (rule : RuleScope) (kind : ℕ) (options : Options) → forms.IsRuleFile line kind options → marks.unfiled ≡ true → marks.braces ≡ Shut
    → forms.Says line marks full (scope.Rule rule) (row.RuleFile (head_with line kind None options))
file_says line marks full rule kind options h u b =
    rule_line line marks full rule true Shut (row.RuleFile (head_with line kind None options)) h.plain u b
    (file_by line kind options h.name (file_word line kind options h) (ap file_parts (rest_found line.text h.word h.rest h.worded) ∙ file_parted h.rest kind h.name options h.parts) h.named h.filled)

-- a brace that closes
pub rule_closes : (line : Taken) (marks : Marks) (full : Bool) (rule : RuleScope) → forms.Closes line → marks.braces ≡ InRule → forms.Says line marks full (scope.Rule rule) row.Closes
rule_closes line marks full rule c b =
    rule_line line marks full rule marks.unfiled InRule row.Closes (closed_text line c) refl b
    (ap (λ t. unless_faulty (if t then [] else rules.kind_faults line (word_of line.text) (after_word line.text) (rules.rule_kind (word_of line.text))) (if t then Some row.Closes else rules.kind_row line (after_word line.text) (rules.rule_kind (word_of line.text)))) (ap is_close c))

-- a section
kind_line : (line : Taken) (marks : Marks) (full : Bool) (rule : RuleScope) (known : RuleKind) (rest : List ℕ) (r : Row) (h : forms.IsKind line known rest) → marks.braces ≡ InRule
    → unless_faulty (rules.kind_faults line h.word rest (Some known)) (rules.kind_row line rest (Some known)) ≡ Ok (Some r) → forms.Says line marks full (scope.Rule rule) r
kind_line line marks full rule known rest r h b e =
    rule_line line marks full rule marks.unfiled InRule r h.plain refl b
    (ap (λ t. unless_faulty (if t then [] else rules.kind_faults line (word_of line.text) (after_word line.text) (rules.rule_kind (word_of line.text))) (if t then Some row.Closes else rules.kind_row line (after_word line.text) (rules.rule_kind (word_of line.text)))) h.no_brace
    ∙ ap₂ (λ w m. unless_faulty (rules.kind_faults line w m (rules.rule_kind w)) (rules.kind_row line m (rules.rule_kind w))) (word_found line.text h.word rest h.worded) (rest_found line.text h.word rest h.worded)
    ∙ ap (λ o. unless_faulty (rules.kind_faults line h.word rest o) (rules.kind_row line rest o)) h.kind_is ∙ e)

holding : (line : Taken) (first rest second : List ℕ) (known : RuleKind) (kind : ℕ) (r : Row) → forms.HoldsFile known kind second → word_of rest ≡ second
    → unless_faulty (rules.plain_faults line first rest) (rules.plain_row line kind rest) ≡ Ok (Some r)
    → unless_faulty (rules.kind_faults line first rest (Some known)) (rules.kind_row line rest (Some known)) ≡ Ok (Some r)
holding line first rest second (kinds.Plain known) kind r h w e = ap (λ k. unless_faulty (rules.plain_faults line first rest) (rules.plain_row line k rest)) h ∙ e
holding line first rest second (kinds.Worded known) kind r h w e =
    ap (λ t. unless_faulty (if t then rules.quoted_faults line (rules.stated_words (after_word rest)) else rules.plain_faults line first rest) (if t then rules.quoted_row line known (rules.stated_words (after_word rest)) else rules.plain_row line known rest)) (ap rules.is_string w ∙ h.1)
    ∙ ap (λ k. unless_faulty (rules.plain_faults line first rest) (rules.plain_row line k rest)) h.0 ∙ e
holding line first rest second kinds.Compressed kind r h w e = absurd h

plain_by : (line : Taken) (kind : ℕ) (first rest second more : List ℕ) (options : RuleOptions) (written path : List ℕ) (same : Bool) (x : Result (Option Row) Fault) → word_of rest ≡ second → after_word rest ≡ more → same_word second first ≡ same → rules.rule_parts more ≡ (options, written, path)
    → unless_faulty (rules.path_faults line same (options, written, path)) (rules.path_row line kind (options, written, path)) ≡ x
    → unless_faulty (rules.plain_faults line first rest) (rules.plain_row line kind rest) ≡ x
plain_by line kind first rest second more options written path same x w m s p e =
    ap₂ (λ t q. unless_faulty (rules.path_faults line t q) (rules.path_row line kind q)) (ap (λ v. same_word v first) w ∙ s) (ap rules.rule_parts m ∙ p) ∙ e

path_by : (line : Taken) (kind : ℕ) (options : RuleOptions) (written path : List ℕ) (number : ℕ) → options.wrong ≡ false → stated_number line options.numbered written ≡ Ok number → rules.is_extension path ≡ false → (length path == 0) ≡ false → rules.other_around line path ≡ None
    → unless_faulty (rules.path_faults line true (options, written, path)) (rules.path_row line kind (options, written, path)) ≡ Ok (Some (rules.made_plan line kind options number (Template (without_workspace path))))
path_by line kind options written path number r n x s f = rw (r, n, x, s, f) refl

pub rule_path_says : (line : Taken) (marks : Marks) (full : Bool) (rule : RuleScope) (kind : ℕ) (options : RuleOptions) (number : ℕ) (path : List ℕ) → forms.IsRulePath line kind options number path → marks.braces ≡ InRule
    → forms.Says line marks full (scope.Rule rule) (rules.made_plan line kind options number (Template (without_workspace path)))
rule_path_says line marks full rule kind options number path h b =
    let r = rules.made_plan line kind options number (Template (without_workspace path)) in
    let second = word_found h.rest h.second h.more h.worded in
    kind_line line marks full rule h.known h.rest r h.kinded b
    (holding line h.kinded.word h.rest h.second h.known kind r h.holds second
    (plain_by line kind h.kinded.word h.rest h.second h.more options h.options_are.written path true (Ok (Some r)) second (rest_found h.rest h.second h.more h.worded) h.same (rule_states h.more options h.options_are.written path h.options_are.parts).0
    (path_by line kind options h.options_are.written path number (rule_states h.more options h.options_are.written path h.options_are.parts).1 h.options_are.number_is h.no_extension (filled_text path h.some) (rw (h.filled_before, h.filled_in) refl))))

extension_by : (line : Taken) (kind : ℕ) (same : Bool) (options : RuleOptions) (written path : List ℕ) (number : ℕ) → options.wrong ≡ false → stated_number line options.numbered written ≡ Ok number → rules.is_extension path ≡ true → rules.holds_other line.text ≡ false
    → unless_faulty (rules.path_faults line same (options, written, path)) (rules.path_row line kind (options, written, path)) ≡ Ok (Some (rules.made_plan line kind options number (Refused line.text)))
extension_by line kind same options written path number r n x f = rw (r, n, x, f) refl

pub rule_extension_says : (line : Taken) (marks : Marks) (full : Bool) (rule : RuleScope) (kind : ℕ) (options : RuleOptions) (number : ℕ) → forms.IsRuleExtension line kind options number → marks.braces ≡ InRule
    → forms.Says line marks full (scope.Rule rule) (rules.made_plan line kind options number (Refused line.text))
rule_extension_says line marks full rule kind options number h b =
    let r = rules.made_plan line kind options number (Refused line.text) in
    let second = word_found h.rest h.second h.more h.worded in
    let same = same_word h.second h.kinded.word in
    kind_line line marks full rule h.known h.rest r h.kinded b
    (holding line h.kinded.word h.rest h.second h.known kind r h.holds second
    (plain_by line kind h.kinded.word h.rest h.second h.more options h.options_are.written h.path same (Ok (Some r)) second (rest_found h.rest h.second h.more h.worded) refl (rule_states h.more options h.options_are.written h.path h.options_are.parts).0
    (extension_by line kind same options h.options_are.written h.path number (rule_states h.more options h.options_are.written h.path h.options_are.parts).1 h.options_are.number_is h.extension h.filled)))

words_stated : (text value words after : List ℕ) → after_equals text ≡ Some value → quoted_front value ≡ Some (words, after) → rules.stated_words text ≡ Some (words, after)
unfolding rules.stated_words
words_stated text value words after e q = ap (option_and_then quoted_front) e ∙ q

text_by : (line : Taken) (kind : ℕ) (options : RuleOptions) (written words : List ℕ) (number : ℕ) → options.wrong ≡ false → stated_number line options.numbered written ≡ Ok number → rules.holds_other line.text ≡ false
    → unless_faulty (rules.text_faults line (options, written, [])) (rules.text_row line kind words (options, written, [])) ≡ Ok (Some (rules.made_plan line kind options number (Words words)))
text_by line kind options written words number r n f = rw (r, n, f) refl

pub rule_text_says : (line : Taken) (marks : Marks) (full : Bool) (rule : RuleScope) (kind : ℕ) (options : RuleOptions) (number : ℕ) (words : List ℕ) → forms.IsRuleText line kind options number words → marks.braces ≡ InRule
    → forms.Says line marks full (scope.Rule rule) (rules.made_plan line kind options number (Words words))
rule_text_says line marks full rule kind options number words h b =
    let r = rules.made_plan line kind options number (Words words) in
    kind_line line marks full rule (kinds.Worded kind) h.rest r h.kinded b
    (ap (λ t. unless_faulty (if t then rules.quoted_faults line (rules.stated_words (after_word h.rest)) else rules.plain_faults line h.kinded.word h.rest) (if t then rules.quoted_row line kind (rules.stated_words (after_word h.rest)) else rules.plain_row line kind h.rest)) (ap rules.is_string (word_found h.rest h.second h.more h.worded) ∙ h.string)
    ∙ ap (λ o. unless_faulty (rules.quoted_faults line o) (rules.quoted_row line kind o)) (ap rules.stated_words (rest_found h.rest h.second h.more h.worded) ∙ words_stated h.more h.value words h.after (stated_found h.more h.value h.stated) h.quoted)
    ∙ ap (λ p. unless_faulty (rules.text_faults line p) (rules.text_row line kind words p)) (rule_states h.after options h.options_are.written [] h.options_are.parts).0
    ∙ text_by line kind options h.options_are.written words number (rule_states h.after options h.options_are.written [] h.options_are.parts).1 h.options_are.number_is h.filled)
