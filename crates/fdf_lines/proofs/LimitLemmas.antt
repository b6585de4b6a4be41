-- What the lines of a flash description come to is within the limits.
use Rattle.std.proofs.Common.{◌≡◌, ◌∙◌, ℕ, ◌+◌, ◌≤◌, nat_lt, nat_le, Bool, true, false, if◌then◌else◌, List, [], ◌∷◌, ◌++◌, map, All, Option, Some, None, Ok, refl, sym, ap, subst, arith}
use Rattle.std.specs.List.{flat_map, list_any}
use Rattle.std.proofs.lemmas.Bool.Decides.{nat_tests}
use Rattle.std.proofs.lemmas.List.Elements.{All-nil, All-cons, All-head, All-tail, All-push}
use Rattle.build_base.specs.FaultText.{fault_of}
use Rattle.build_base.specs.First.{unless}
use Rattle.build_base.specs.declared.fault.Fault.{Fault}
use Rattle.build_base.specs.declared.fault.Place.{Place}
use Rattle.build_base.specs.declared.lines.Taken.{Taken}
use Rattle.meta_lexer.specs.Parts.{first_text}
use Rattle.meta_lexer.specs.declared.head.Head.{Head}
use Rattle.doc_types.specs.Arches.{arch_named}
use Rattle.doc_types.specs.ModuleTypes.{module_type_named}
use Rattle.doc_types.specs.declared.arch.Arch.{Arch}
use Rattle.doc_types.specs.declared.module_type.ModuleType.{ModuleType}
use Rattle.doc_reading.specs.Blocks.{Block, lines_until, are_heads, sections_of}
use Rattle.doc_reading.specs.Gathering.{given_in, unless_faulty}
use Rattle.doc_reading.specs.Grammar.{Read, entered, gave, entry_of, heads_entered, rows_given, outcome_of, first_fault, read_of}
use Rattle.doc_reading.specs.Least.{least_of}
use Rattle.doc_reading.proofs.BlockLemmas.{blocks_begin}
use Rattle.doc_reading.proofs.FaultlessLemmas.{least_first, least_rest}
use Rattle.doc_reading.proofs.KeptLemmas.{Keeps, unless_value, kept_of}
use Rattle.meta_lexer.specs.Words.{is_identifier}
use Rattle.fdf_lines.specs.declared.flash_lines.FlashLines.{FlashLines}
use Rattle.fdf_words.specs.declared.rows.Row.{Row}
use Rattle.fdf_words.specs.declared.rows.Scope.{Scope}
use Rattle.fdf_words.specs.declared.rows.Scope.TheVariants as scope
use Rattle.fdf_lines.specs.declared.section.FlashSection.{FlashSection}
use Rattle.fdf_lines.specs.declared.section.FlashSection.TheVariants.{Defines, Device, Volume, Rule}
use Rattle.fdf_lines.specs.declared.section.HeadMeaning.TheVariants.{Section, BadQualifier}
use Rattle.fdf_lines.specs.Counts.{count_of, one_if, same_section, one_scope, scopes_in, heads_above, is_named, one_head, heads_here, is_statement, begins_statement, statements_in, lines_here, statements_here}
use Rattle.fdf_lines.specs.Grammar.{line_faults, line_row, is_full, many_fault, open_fault, unfiled_fault, flash_grammar}
use Rattle.fdf_lines.specs.Holding.{Holds}
use Rattle.fdf_lines.specs.Limits.{statements_of, WithinLimits}
use Rattle.fdf_lines.specs.Reads.{reads_as}
use Rattle.fdf_lines.specs.Sections.{is_image_name, section_named, rule_scope, plain_meaning, device_meaning, volume_meaning, rule_meaning, meaning_of, parts_meaning, head_meaning, meaning_faults, meaning_scope}
use Rattle.fdf_lines.specs.Standing.{marks_below}
use Rattle.fdf_lines.proofs.CountLemmas.{or_none, any_end, count_push, statements_begun, statements_more}
use Rattle.fdf_lines.proofs.StatementLemmas.{full_gives}
use Rattle.build_base.specs.FaultCodes.{TOO_MANY}

-- heads

abbrev scopes_of : FlashSection → Option Scope → ℕ
scopes_of section None = 0
scopes_of section (Some s) = one_scope section s

no_more : (n : ℕ) → 0 ≤ n
no_more n = omega arith

same_count : (n : ℕ) → n ≤ n
same_count n = omega arith

if_section : (section : FlashSection) (t : Bool) (s : Scope) → scopes_of section (meaning_scope (if t then Section s else BadQualifier)) ≤ one_scope section s
if_section section true s = same_count (one_scope section s)
if_section section false s = no_more (one_scope section s)

plain_scopes : (section : FlashSection) (qualifiers : List (List ℕ)) → scopes_of section (meaning_scope (plain_meaning qualifiers)) ≤ one_if (same_section Defines section)
plain_scopes section [] = same_count (one_if (same_section Defines section))
plain_scopes section (q ∷ qualifiers) = no_more (one_if (same_section Defines section))

device_scopes : (section : FlashSection) (qualifiers : List (List ℕ)) → scopes_of section (meaning_scope (device_meaning qualifiers)) ≤ one_if (same_section Device section)
device_scopes section [] = no_more (one_if (same_section Device section))
device_scopes section (name ∷ []) = if_section section (is_image_name name) (scope.Device name)
device_scopes section (name ∷ q ∷ qualifiers) = no_more (one_if (same_section Device section))

volume_scopes : (section : FlashSection) (qualifiers : List (List ℕ)) → scopes_of section (meaning_scope (volume_meaning qualifiers)) ≤ one_if (same_section Volume section)
volume_scopes section [] = no_more (one_if (same_section Volume section))
volume_scopes section (name ∷ []) = if_section section (is_image_name name) (scope.Volume name)
volume_scopes section (name ∷ q ∷ qualifiers) = no_more (one_if (same_section Volume section))

rule_made : (section : FlashSection) (arch : Option Arch) (kind : Option ModuleType) (named : Bool) (template name : List ℕ)
    → scopes_of section (meaning_scope (rule_scope arch kind named template name)) ≤ one_if (same_section Rule section)
rule_made section None kind named template name = no_more (one_if (same_section Rule section))
rule_made section (Some arch) None named template name = no_more (one_if (same_section Rule section))
rule_made section (Some arch) (Some kind) true template name = same_count (one_if (same_section Rule section))
rule_made section (Some arch) (Some kind) false template name = no_more (one_if (same_section Rule section))

rule_scopes : (section : FlashSection) (qualifiers : List (List ℕ)) → scopes_of section (meaning_scope (rule_meaning qualifiers)) ≤ one_if (same_section Rule section)
rule_scopes section [] = no_more (one_if (same_section Rule section))
rule_scopes section (arch ∷ []) = no_more (one_if (same_section Rule section))
rule_scopes section (arch ∷ kind ∷ []) = rule_made section (arch_named arch) (module_type_named kind) true [] _
rule_scopes section (arch ∷ kind ∷ template ∷ []) = rule_made section (arch_named arch) (module_type_named kind) (is_identifier template) template _
rule_scopes section (arch ∷ kind ∷ template ∷ q ∷ qualifiers) = no_more (one_if (same_section Rule section))

named_scopes : (section : FlashSection) (named : Option (Option FlashSection)) (qualifiers : List (List ℕ))
    → scopes_of section (meaning_scope (meaning_of named qualifiers)) ≤ one_if (is_named section named)
named_scopes section None qualifiers = same_count 0
named_scopes section (Some None) qualifiers = same_count 0
named_scopes section (Some (Some Defines)) qualifiers = plain_scopes section qualifiers
named_scopes section (Some (Some Device)) qualifiers = device_scopes section qualifiers
named_scopes section (Some (Some Volume)) qualifiers = volume_scopes section qualifiers
named_scopes section (Some (Some Rule)) qualifiers = rule_scopes section qualifiers

parts_scopes : (section : FlashSection) (parts : List (List ℕ)) → scopes_of section (meaning_scope (parts_meaning parts)) ≤ one_if (is_named section (section_named (first_text parts)))
parts_scopes section [] = no_more (one_if (is_named section (section_named (first_text []))))
parts_scopes section (name ∷ qualifiers) = named_scopes section (section_named name) qualifiers

head_scopes : (section : FlashSection) (head : Head) → scopes_of section (meaning_scope (head_meaning head)) ≤ one_head section head
unfolding head_meaning
head_scopes section head = parts_scopes section head.parts

below_none : (a b : ℕ) → a ≤ b → a + 0 ≤ b
below_none a b l = omega arith

given_scopes : (section : FlashSection) (fault : Option Fault) (s : Option Scope) (n : ℕ) → scopes_of section s ≤ n
    → count_of (one_scope section) (given_in (unless fault s)) ≤ n
given_scopes section None None n l = l
given_scopes section None (Some s) n l = below_none (one_scope section s) n l
given_scopes section (Some fault) s n l = no_more n

entry_scopes : (section : FlashSection) (line : Taken) (head : Head) → count_of (one_scope section) (given_in (entry_of flash_grammar line head)) ≤ one_head section head
entry_scopes section line head =
    given_scopes section (least_of (meaning_faults line head (head_meaning head))) (meaning_scope (head_meaning head)) (one_head section head) (head_scopes section head)

count_join : {T : Type 0} (counts : T → ℕ) (xs ys : List T) → count_of counts (xs ++ ys) ≡ count_of counts xs + count_of counts ys
count_join counts [] ys = omega arith
count_join counts (x ∷ xs) ys = ap (λ n. counts x + n) (count_join counts xs ys) ∙ omega arith

both_below : (a b c d : ℕ) → a ≤ c → b ≤ d → a + b ≤ c + d
both_below a b c d l m = omega arith

all_scopes : (section : FlashSection) (line : Taken) (heads : List Head)
    → count_of (one_scope section) (flat_map given_in (map (entry_of flash_grammar line) heads)) ≤ heads_here section heads
all_scopes section line [] = same_count 0
all_scopes section line (head ∷ heads) =
    let one = given_in (entry_of flash_grammar line head) in
    let rest = flat_map given_in (map (entry_of flash_grammar line) heads) in
    subst (λ n. n ≤ heads_here section (head ∷ heads)) (sym (count_join (one_scope section) one rest))
    (both_below _ _ _ _ (entry_scopes section line head) (all_scopes section line heads))

-- heads enter no more than there are of them
entered_scopes : (section : FlashSection) (line : Taken) (heads : List Head) (scopes : List Scope) → heads_entered flash_grammar line heads ≡ Ok scopes
    → count_of (one_scope section) scopes ≤ heads_here section heads
entered_scopes section line heads scopes e =
    let outcomes = map (entry_of flash_grammar line) heads in
    subst (λ ss. count_of (one_scope section) ss ≤ heads_here section heads) (unless_value _ (flat_map given_in outcomes) scopes e) (all_scopes section line heads)

few_if : {F : Type 0} (t : Bool) (fault : F) (n : ℕ) → nat_lt 65535 n ≡ t → (if t then Some fault else None) ≡ None → n ≤ 65535
few_if true fault n e f = absurd cc
few_if false fault n e f = grind (arith, nat_tests)

few_heads : (line : Taken) (n : ℕ) → many_fault line n ≡ None → n ≤ 65535
few_heads line n f = few_if (nat_lt 65535 n) (fault_of TOO_MANY line.at _) n refl f

heads_more : (section : FlashSection) (above : List (Read Scope Row)) (at : Place) (scopes : List Scope) (here : ℕ) → count_of (one_scope section) scopes ≤ here
    → heads_above section above + here ≤ 65535 → heads_above section (above ++ entered at scopes ∷ []) ≤ 65535
heads_more section above at scopes here l few = subst (λ n. n ≤ 65535) (sym (count_push (scopes_in section) above (entered at scopes))) (omega arith)

heads_kept : (section : FlashSection) (above : List (Read Scope Row)) (rows : List Row) → heads_above section above ≤ 65535 → heads_above section (above ++ gave rows ∷ []) ≤ 65535
heads_kept section above rows few = subst (λ n. n ≤ 65535) (sym (count_push (scopes_in section) above (gave rows))) (omega arith)

-- statements

abbrev Few : Block (Read Scope Row) → Type 0
Few section = statements_of section.rest ≤ 65535

few_begun : (above : List (Read Scope Row)) (at : Place) (scopes : List Scope) → All Few (sections_of above) → All Few (sections_of (above ++ entered at scopes ∷ []))
few_begun above at scopes few =
    subst (All Few) (sym (blocks_begin are_heads above (entered at scopes) refl)) (All-push Few (sections_of above) (record { first = entered at scopes; rest = [] }) few (no_more 65535))

no_sections : (reads : List (Read Scope Row)) → list_any are_heads reads ≡ false → sections_of reads ≡ []
no_sections [] e = refl
no_sections (entered at scopes ∷ reads) e = absurd cc
no_sections (gave rows ∷ reads) e = no_sections reads e

until_all : (reads : List (Read Scope Row)) → list_any are_heads reads ≡ false → lines_until are_heads reads ≡ reads
until_all [] e = refl
until_all (entered at scopes ∷ reads) e = absurd cc
until_all (gave rows ∷ reads) e = ap (λ rs. gave rows ∷ rs) (until_all reads e)

until_heads : (reads : List (Read Scope Row)) (rows : List Row) → list_any are_heads reads ≡ true → lines_until are_heads (reads ++ gave rows ∷ []) ≡ lines_until are_heads reads
until_heads [] rows e = absurd cc
until_heads (entered at scopes ∷ reads) rows e = refl
until_heads (gave others ∷ reads) rows e = ap (λ rs. gave others ∷ rs) (until_heads reads rows e)

none_after : (reads : List (Read Scope Row)) (rows : List Row) → list_any are_heads reads ≡ false → list_any are_heads (reads ++ gave rows ∷ []) ≡ false
none_after reads rows e = any_end are_heads reads (gave rows) ∙ or_none (list_any are_heads reads) ∙ e

few_none : (reads : List (Read Scope Row)) → list_any are_heads reads ≡ false → All Few (sections_of reads)
few_none reads e = subst (All Few) (sym (no_sections reads e)) (All-nil Few)

without_zero : (a n : ℕ) → 0 + a + n ≤ 65535 → a + n ≤ 65535
without_zero a n l = omega arith

few_case : (t : Bool) (read : Read Scope Row) (above : List (Read Scope Row)) (rows : List Row) → list_any are_heads above ≡ t
    → All Few (sections_of (read ∷ above)) → statements_here (read ∷ above) + statements_in (gave rows) ≤ 65535
    → (All Few (sections_of above) → statements_here above + statements_in (gave rows) ≤ 65535 → All Few (sections_of (above ++ gave rows ∷ [])))
    → All Few (sections_of ((read ∷ above) ++ gave rows ∷ []))
few_case true (gave others) above rows e few l more =
    more few (subst (λ t. count_of statements_in (if t then lines_here above else gave others ∷ above) + statements_in (gave rows) ≤ 65535) e l)
few_case false (gave others) above rows e few l more = few_none (above ++ gave rows ∷ []) (none_after above rows e)
few_case true (entered at scopes) above rows e few l more =
    let old : Block (Read Scope Row) = record { first = entered at scopes; rest = lines_until are_heads above } in
    let new : Block (Read Scope Row) = record { first = entered at scopes; rest = lines_until are_heads (above ++ gave rows ∷ []) } in
    All-cons Few new (sections_of (above ++ gave rows ∷ []))
    (subst (λ ls. statements_of ls ≤ 65535) (sym (until_heads above rows e)) (All-head Few old (sections_of above) few))
    (more (All-tail Few old (sections_of above) few)
    (subst (λ t. count_of statements_in (if t then lines_here above else entered at scopes ∷ above) + statements_in (gave rows) ≤ 65535) e l))
few_case false (entered at scopes) above rows e few l more =
    let new : Block (Read Scope Row) = record { first = entered at scopes; rest = lines_until are_heads (above ++ gave rows ∷ []) } in
    let here : count_of statements_in (entered at scopes ∷ above) + statements_in (gave rows) ≤ 65535 =
    subst (λ t. count_of statements_in (if t then lines_here above else entered at scopes ∷ above) + statements_in (gave rows) ≤ 65535) e l in
    All-cons Few new (sections_of (above ++ gave rows ∷ []))
    (subst (λ ls. statements_of ls ≤ 65535) (sym (until_all (above ++ gave rows ∷ []) (none_after above rows e)))
    (subst (λ n. n ≤ 65535) (sym (count_push statements_in above (gave rows))) (without_zero (count_of statements_in above) (statements_in (gave rows)) here)))
    (few_none (above ++ gave rows ∷ []) (none_after above rows e))

few_more : (above : List (Read Scope Row)) (rows : List Row) → All Few (sections_of above) → statements_here above + statements_in (gave rows) ≤ 65535
    → All Few (sections_of (above ++ gave rows ∷ []))
few_more [] rows few l = All-nil Few
few_more (read ∷ above) rows few l = few_case (list_any are_heads above) read above rows refl few l (few_more above rows)

-- no line gives a statement too many

full_none : (above : List (Read Scope Row)) (line : Taken) (scopes : List Scope) (rows : List Row) → rows_given flash_grammar above line scopes ≡ Ok rows
    → is_full (statements_here above) ≡ true → begins_statement rows ≡ false
full_none above line scopes rows e full =
    let marks = marks_below above in
    let given = flat_map given_in (map (outcome_of flash_grammar above line) scopes) in
    subst (λ rs. list_any is_statement rs ≡ false) (unless_value _ given rows e)
    (subst (λ t. list_any is_statement (flat_map given_in (map (λ s. unless_faulty (line_faults line marks t s) (line_row line marks s)) scopes)) ≡ false) (sym full)
    (full_gives line marks scopes))

clash : {X : Type 0} → true ≡ false → X
clash e = absurd cc

one_here : (t b : Bool) (n : ℕ) → nat_le 65535 n ≡ t → (t ≡ true → b ≡ false) → n ≤ 65535 → n + one_if b ≤ 65535
one_here true true n e none l = clash (none refl)
one_here true false n e none l = omega arith
one_here false true n e none l = grind (arith, nat_tests)
one_here false false n e none l = omega arith

rows_here : (above : List (Read Scope Row)) (line : Taken) (scopes : List Scope) (rows : List Row) → rows_given flash_grammar above line scopes ≡ Ok rows
    → statements_here above ≤ 65535 → statements_here above + statements_in (gave rows) ≤ 65535
rows_here above line scopes rows e few =
    one_here (is_full (statements_here above)) (begins_statement rows) (statements_here above) refl (full_none above line scopes rows e) few

-- with the statements below the last heads
record Kept (reads : List (Read Scope Row)) : Type 0 where
  limits : WithinLimits reads
  here : statements_here reads ≤ 65535

heads_keep : (above : List (Read Scope Row)) (line : Taken) (heads : List Head) (scopes : List Scope) → Kept above → flash_grammar.at_heads above line heads ≡ None
    → heads_entered flash_grammar line heads ≡ Ok scopes → Kept (above ++ entered line.at scopes ∷ [])
heads_keep above line heads scopes k f e =
    let marks = marks_below above in
    let devices = many_fault line (heads_above Device above + heads_here Device heads) in
    let volumes = many_fault line (heads_above Volume above + heads_here Volume heads) in
    let rules = many_fault line (heads_above Rule above + heads_here Rule heads) in
    let filed = least_rest (open_fault line marks.braces) (unfiled_fault line marks.unfiled ∷ devices ∷ volumes ∷ rules ∷ []) f in
    let counted = least_rest (unfiled_fault line marks.unfiled) (devices ∷ volumes ∷ rules ∷ []) filed in
    let below = least_rest devices (volumes ∷ rules ∷ []) counted in
    let last = least_rest volumes (rules ∷ []) below in
    record {
      limits = record {
        devices = heads_more Device above line.at scopes _ (entered_scopes Device line heads scopes e) (few_heads line _ (least_first devices (volumes ∷ rules ∷ []) counted));
        volumes = heads_more Volume above line.at scopes _ (entered_scopes Volume line heads scopes e) (few_heads line _ (least_first volumes (rules ∷ []) below));
        rules = heads_more Rule above line.at scopes _ (entered_scopes Rule line heads scopes e) (few_heads line _ (least_first rules [] last));
        statements = few_begun above line.at scopes k.limits.statements;
      };
      here = subst (λ n. n ≤ 65535) (sym (statements_begun above line.at scopes)) (no_more 65535);
    }

rows_keep : (above : List (Read Scope Row)) (line : Taken) (scopes : List Scope) (rows : List Row) → Kept above → rows_given flash_grammar above line scopes ≡ Ok rows
    → Kept (above ++ gave rows ∷ [])
rows_keep above line scopes rows k e =
    let here = rows_here above line scopes rows e k.here in
    record {
      limits = record {
        devices = heads_kept Device above rows k.limits.devices;
        volumes = heads_kept Volume above rows k.limits.volumes;
        rules = heads_kept Rule above rows k.limits.rules;
        statements = few_more above rows k.limits.statements here;
      };
      here = subst (λ n. n ≤ 65535) (sym (statements_more above rows)) here;
    }

kept_none : Kept []
kept_none = record { limits = record { devices = no_more 65535; volumes = no_more 65535; rules = no_more 65535; statements = All-nil Few }; here = no_more 65535 }

flash_keeps : Keeps flash_grammar Kept
flash_keeps = record { none = kept_none; heads = heads_keep; rows = rows_keep }

-- the reader of a document without a fault
pub within_held : (lines : List Taken) (format : FlashLines) → first_fault flash_grammar lines ≡ None → Holds (read_of flash_grammar lines) format
    → WithinLimits (reads_as format.reads)
within_held lines format e h = subst WithinLimits (sym h.reads) (kept_of flash_grammar Kept flash_keeps lines e).limits
