-- A document has no more devices, volumes and rules than there are heads of them, and a volume no more items than its section has statements.
use Rattle.std.proofs.Common.{◌≡◌, ◌∙◌, ℕ, ◌+◌, ◌≤◌, Bool, true, false, ◌||◌, List, [], ◌∷◌, ◌++◌, length, map, take, Option, Some, None, refl, sym, ap, subst, arith, suc}
use Rattle.std.specs.Prelude.{slice_get}
use Rattle.std.specs.List.{All, flat_map, list_any, position_or_len}
use Rattle.std.proofs.lemmas.List.{length-map, length-append}
use Rattle.std.proofs.lemmas.List.Concat.{flat_map-append}
use Rattle.std.proofs.lemmas.List.Elements.{All-nil, All-cons, All-append, All-head, All-tail}
use Rattle.build_base.specs.declared.fault.Place.{Place}
use Rattle.doc_reading.specs.Blocks.{Block, lines_until, are_heads, sections_of}
use Rattle.doc_reading.specs.Grammar.{Read, entered, gave}
use Rattle.doc_types.specs.declared.volume.SectionPlan.{SectionPlan}
use Rattle.fdf_lines.specs.Counts.{count_of, one_if, same_section, one_scope, scopes_in, heads_above, is_statement, statements_in}
use Rattle.fdf_lines.specs.Limits.{statements_of}
use Rattle.fdf_lines.specs.declared.section.FlashSection.{FlashSection}
use Rattle.fdf_lines.specs.declared.section.FlashSection.TheVariants as section
use Rattle.fdf_words.specs.declared.rows.FileHead.{FileHead}
use Rattle.fdf_words.specs.declared.rows.LineRead.{LineRead}
use Rattle.fdf_words.specs.declared.rows.LineRead.TheVariants.{Body}
use Rattle.fdf_words.specs.declared.rows.Row.{Row}
use Rattle.fdf_words.specs.declared.rows.Row.TheVariants as row
use Rattle.fdf_words.specs.declared.rows.RuleScope.{RuleScope}
use Rattle.fdf_words.specs.declared.rows.Scope.{Scope}
use Rattle.fdf_words.specs.declared.rows.Scope.TheVariants as scope
use Rattle.flash_document.specs.Columns.{row_at, column}
use Rattle.flash_document.specs.Document.{part_device, part_rule, plan_at, item_plan, volume_plan}
use Rattle.flash_document.specs.Flash.{line_of}
use Rattle.flash_document.specs.Parts.{stated_of, stated_from, stated_below, all_stated}
use Rattle.flash_document.specs.Sets.{is_heads, section_lines}
use Rattle.flash_document.specs.Shape.{FewItems}
use Rattle.flash_document.specs.Volumes.{item_at, items_of, volume_of, rule_sections, rule_with, rule_head, rule_of_lines}
use Rattle.flash_document.specs.Whole.{volume_in, volumes_of}
use Rattle.flash_document.specs.declared.held.HeldRegion.{HeldRegion}
use Rattle.flash_document.specs.declared.stated.FdfSection.{FdfSection}
use Rattle.flash_document.specs.declared.stated.StatedVolume.{StatedVolume}
use Rattle.flash_document.proofs.CarryLemmas.{at_place}

none_more : (n : ℕ) → 0 ≤ n
none_more n = omega arith

as_many : (n : ℕ) → n ≤ n
as_many n = omega arith

both_below : (a b c d : ℕ) → a ≤ c → b ≤ d → a + b ≤ c + d
both_below a b c d l m = omega arith

below_both : (a b c : ℕ) → a ≤ b → b ≤ c → a ≤ c
below_both a b c l m = omega arith

joined : {T : Type 0} (xs ys : List T) (m n : ℕ) → length xs ≤ m → length ys ≤ n → length (xs ++ ys) ≤ m + n
joined xs ys m n l k = subst (λ c. c ≤ m + n) (sym (length-append xs ys)) (both_below (length xs) (length ys) m n l k)

-- what a scope states counts at most once, and that only for its own section
module _ {T : Type 0} (says : FdfSection → List T) (section : FlashSection)
    (one : (at : Place) (s : Scope) (k : ℕ) (lines : List LineRead) → length (says (stated_of at s k lines)) ≤ one_scope section s) where
  from_count : (at : Place) (k : ℕ) (scopes : List Scope) (lines : List LineRead) → length (flat_map says (stated_from at k scopes lines)) ≤ count_of (one_scope section) scopes
  from_count at k [] lines = none_more 0
  from_count at k (s ∷ scopes) lines =
      joined (says (stated_of at s k lines)) (flat_map says (stated_from at (k + 1) scopes lines)) (one_scope section s) (count_of (one_scope section) scopes) (one at s k lines)
      (from_count at (k + 1) scopes lines)

  below_count : (read : Read Scope Row) (lines : List LineRead) → length (flat_map says (stated_below (line_of read) lines)) ≤ scopes_in section read
  below_count (entered at scopes) lines = from_count at 0 scopes lines
  below_count (gave rows) lines = none_more 0

  pub all_count : (reads : List (Read Scope Row)) → length (flat_map says (all_stated (map line_of reads))) ≤ heads_above section reads
  all_count [] = none_more 0
  all_count (read ∷ reads) =
      let here = stated_below (line_of read) (section_lines (map line_of reads)) in
      let below = all_stated (map line_of reads) in
      subst (λ xs. length xs ≤ heads_above section (read ∷ reads)) (sym (flat_map-append says here below))
      (joined (flat_map says here) (flat_map says below) (scopes_in section read) (heads_above section reads) (below_count read (section_lines (map line_of reads))) (all_count reads))

-- devices
device_rule : (names : List (List ℕ)) (at : Place) (rule : RuleScope) (sections : List SectionPlan) (head : Option FileHead) (n : ℕ)
    → length (part_device names (rule_with at rule sections head)) ≤ n
device_rule names at rule sections None n = none_more n
device_rule names at rule sections (Some head) n = none_more n

pub one_device : (names : List (List ℕ)) (at : Place) (s : Scope) (k : ℕ) (lines : List LineRead) → length (part_device names (stated_of at s k lines)) ≤ one_scope section.Device s
unfolding same_section rule_of_lines
one_device names at scope.Settings k lines = none_more _
one_device names at (scope.Device name) k lines = as_many 1
one_device names at (scope.Volume name) k lines = none_more _
one_device names at (scope.Rule rule) k lines = device_rule names at rule (column rule_sections k lines) (rule_head k lines) _

-- volumes
volume_rule : (at : Place) (rule : RuleScope) (sections : List SectionPlan) (head : Option FileHead) (n : ℕ) → length (volume_in (rule_with at rule sections head)) ≤ n
volume_rule at rule sections None n = none_more n
volume_rule at rule sections (Some head) n = none_more n

one_volume : (at : Place) (s : Scope) (k : ℕ) (lines : List LineRead) → length (volume_in (stated_of at s k lines)) ≤ one_scope section.Volume s
unfolding same_section rule_of_lines
one_volume at scope.Settings k lines = none_more _
one_volume at (scope.Device name) k lines = none_more _
one_volume at (scope.Volume name) k lines = as_many 1
one_volume at (scope.Rule rule) k lines = volume_rule at rule (column rule_sections k lines) (rule_head k lines) _

pub volumes_count : (reads : List (Read Scope Row)) → length (volumes_of (all_stated (map line_of reads))) ≤ heads_above section.Volume reads
volumes_count reads = all_count volume_in section.Volume one_volume reads

-- rules
rule_once : (at : Place) (rule : RuleScope) (sections : List SectionPlan) (head : Option FileHead) → length (part_rule (rule_with at rule sections head)) ≤ 1
rule_once at rule sections None = none_more 1
rule_once at rule sections (Some head) = as_many 1

pub one_rule : (at : Place) (s : Scope) (k : ℕ) (lines : List LineRead) → length (part_rule (stated_of at s k lines)) ≤ one_scope section.Rule s
unfolding same_section rule_of_lines
one_rule at scope.Settings k lines = none_more _
one_rule at (scope.Device name) k lines = none_more _
one_rule at (scope.Volume name) k lines = none_more _
one_rule at (scope.Rule rule) k lines = rule_once at rule (column rule_sections k lines) (rule_head k lines)

one_plan : (names : List (List ℕ)) (regions : List HeldRegion) (o : Option StatedVolume) → length (plan_at names regions o) ≤ 1
one_plan names regions None = none_more 1
one_plan names regions (Some volume) = as_many 1

one_more : (a n : ℕ) → a ≤ 1 + n → a ≤ suc n
one_more a n l = omega arith

-- no more plans than numbers
pub plans_few : (names : List (List ℕ)) (regions : List HeldRegion) (volumes : List StatedVolume) (order : List ℕ)
    → length (flat_map (λ p. plan_at names regions (slice_get volumes p)) order) ≤ length order
plans_few names regions volumes [] = none_more 0
plans_few names regions volumes (p ∷ order) =
    let rest = flat_map (λ q. plan_at names regions (slice_get volumes q)) order in
    one_more (length (plan_at names regions (slice_get volumes p) ++ rest)) (length order)
    (joined (plan_at names regions (slice_get volumes p)) rest 1 (length order) (one_plan names regions (slice_get volumes p)) (plans_few names regions volumes order))

-- a row is at most one item, and that only where it is a statement
row_items : (r : Row) (k : ℕ) (lines : List LineRead) → length (item_at (Some r) k lines) ≤ one_if (is_statement r)
row_items (row.Apriori head) k lines = as_many 1
row_items (row.File head) k lines = as_many 1
row_items (row.Inf line) k lines = as_many 1
row_items row.Ignored k lines = none_more 0
row_items (row.Set x) k lines = none_more 0
row_items (row.Number x) k lines = none_more 0
row_items (row.Region x) k lines = none_more 0
row_items (row.Pcds x) k lines = none_more 0
row_items (row.Content x) k lines = none_more 0
row_items (row.Setting x) k lines = none_more 0
row_items (row.Member x) k lines = none_more 0
row_items (row.Section x) k lines = none_more 0
row_items (row.Whole x) k lines = none_more 0
row_items row.Closes k lines = none_more 0
row_items (row.RuleFile x) k lines = none_more 0
row_items (row.RuleSection x) k lines = none_more 0

first_if : (a b : Bool) (n : ℕ) → one_if (a || b) ≤ n → one_if a ≤ n
first_if true b n l = l
first_if false b n l = none_more n

second_if : (a b : Bool) (n : ℕ) → one_if (a || b) ≤ n → one_if b ≤ n
second_if true true n l = l
second_if true false n l = none_more n
second_if false b n l = l

rows_count : (rows : List Row) (n : ℕ) → one_if (list_any is_statement rows) ≤ n → All (λ r. one_if (is_statement r) ≤ n) rows
rows_count [] n l = All-nil (λ r. one_if (is_statement r) ≤ n)
rows_count (r ∷ rows) n l =
    All-cons (λ x. one_if (is_statement x) ≤ n) r rows (first_if (is_statement r) (list_any is_statement rows) n l)
    (rows_count rows n (second_if (is_statement r) (list_any is_statement rows) n l))

found_items : (rows : List Row) (i : ℕ) (o : Option Row) → slice_get rows i ≡ o → (k : ℕ) (lines : List LineRead) → length (item_at o k lines) ≤ one_if (list_any is_statement rows)
found_items rows i None e k lines = none_more _
found_items rows i (Some r) e k lines =
    below_both (length (item_at (Some r) k lines)) (one_if (is_statement r)) (one_if (list_any is_statement rows)) (row_items r k lines)
    (at_place (λ x. one_if (is_statement x) ≤ one_if (list_any is_statement rows)) rows i (Some r) e (rows_count rows (one_if (list_any is_statement rows)) (as_many _)))

line_items : (read : Read Scope Row) (k : ℕ) (lines : List LineRead) → length (item_at (row_at k (line_of read)) k lines) ≤ statements_in read
line_items (entered at scopes) k lines = none_more 0
line_items (gave rows) k lines = found_items rows k (slice_get rows k) refl k lines

items_count : (k : ℕ) (reads : List (Read Scope Row)) → length (items_of k (map line_of reads)) ≤ statements_of reads
items_count k [] = none_more 0
items_count k (read ∷ reads) =
    joined (item_at (row_at k (line_of read)) k (map line_of reads)) (items_of k (map line_of reads)) (statements_in read) (statements_of reads)
    (line_items read k (map line_of reads)) (items_count k reads)

-- the lines of a section, as the shared reader tells them
pub section_reads : (reads : List (Read Scope Row)) → section_lines (map line_of reads) ≡ map line_of (lines_until are_heads reads)
section_reads [] = refl
section_reads (entered at scopes ∷ reads) = refl
section_reads (gave rows ∷ reads) =
    ap (λ n. take n (Body rows ∷ map line_of reads)) (one_plus (position_or_len is_heads (map line_of reads))) ∙ ap (λ ls. Body rows ∷ ls) (section_reads reads)
  where
    one_plus : (n : ℕ) → 1 + n ≡ suc n
    one_plus n = omega arith

abbrev pub FewStated : StatedVolume → Type 0
FewStated volume = length volume.items ≤ 65535

few_volume : (at : Place) (name : List ℕ) (k : ℕ) (lines : List LineRead) → length (items_of k lines) ≤ 65535 → FewStated (volume_of at name k lines)
unfolding volume_of
few_volume at name k lines l = l

few_rule : (at : Place) (rule : RuleScope) (sections : List SectionPlan) (head : Option FileHead) → All FewStated (volume_in (rule_with at rule sections head))
few_rule at rule sections None = All-nil FewStated
few_rule at rule sections (Some head) = All-nil FewStated

few_one : (at : Place) (s : Scope) (k : ℕ) (lines : List LineRead) → length (items_of k lines) ≤ 65535 → All FewStated (volume_in (stated_of at s k lines))
unfolding rule_of_lines
few_one at scope.Settings k lines l = All-nil FewStated
few_one at (scope.Device name) k lines l = All-nil FewStated
few_one at (scope.Volume name) k lines l = All-cons FewStated (volume_of at name k lines) [] (few_volume at name k lines l) (All-nil FewStated)
few_one at (scope.Rule rule) k lines l = few_rule at rule (column rule_sections k lines) (rule_head k lines)

few_from : (at : Place) (k : ℕ) (scopes : List Scope) (lines : List LineRead) → ((n : ℕ) → length (items_of n lines) ≤ 65535)
    → All FewStated (flat_map volume_in (stated_from at k scopes lines))
few_from at k [] lines few = All-nil FewStated
few_from at k (s ∷ scopes) lines few =
    All-append FewStated (volume_in (stated_of at s k lines)) (flat_map volume_in (stated_from at (k + 1) scopes lines)) (few_one at s k lines (few k)) (few_from at (k + 1) scopes lines few)

abbrev FewIn : Block (Read Scope Row) → Type 0
FewIn section = statements_of section.rest ≤ 65535

few_section : (reads : List (Read Scope Row)) → statements_of (lines_until are_heads reads) ≤ 65535 → (k : ℕ) → length (items_of k (section_lines (map line_of reads))) ≤ 65535
few_section reads l k =
    subst (λ ls. length (items_of k ls) ≤ 65535) (sym (section_reads reads))
    (below_both (length (items_of k (map line_of (lines_until are_heads reads)))) (statements_of (lines_until are_heads reads)) 65535 (items_count k (lines_until are_heads reads)) l)

pub few_stated : (reads : List (Read Scope Row)) → All FewIn (sections_of reads) → All FewStated (volumes_of (all_stated (map line_of reads)))
few_stated [] few = All-nil FewStated
few_stated (entered at scopes ∷ reads) few =
    let first : Block (Read Scope Row) = record { first = entered at scopes; rest = lines_until are_heads reads } in
    let here = stated_from at 0 scopes (section_lines (map line_of reads)) in
    let below = all_stated (map line_of reads) in
    subst (All FewStated) (sym (flat_map-append volume_in here below))
    (All-append FewStated (flat_map volume_in here) (flat_map volume_in below)
    (few_from at 0 scopes (section_lines (map line_of reads)) (few_section reads (All-head FewIn first (sections_of reads) few)))
    (few_stated reads (All-tail FewIn first (sections_of reads) few)))
few_stated (gave rows ∷ reads) few = few_stated reads few

pub few_plan : (names : List (List ℕ)) (regions : List HeldRegion) (volume : StatedVolume) → FewStated volume → FewItems (volume_plan names regions volume)
few_plan names regions volume l = subst (λ n. n ≤ 65535) (sym (length-map volume.items (item_plan names))) l
