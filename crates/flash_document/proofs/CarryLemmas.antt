-- What holds of the rows and the heads of all lines holds of what the sections state.
use Rattle.std.proofs.Common.{◌≡◌, ◌∙◌, ℕ, ◌+◌, Bool, true, false, ◌==◌, if◌then◌else◌, List, [], ◌∷◌, take, fold, Option, Some, None, refl, subst, arith, zero, suc}
use Rattle.std.specs.Prelude.{slice_get, bit_and, bit_or}
use Rattle.std.specs.List.{All, list_all, flat_map, position_or_len}
use Rattle.std.specs.Option.{IfSome}
use Rattle.std.proofs.lemmas.Bool.{and_parts}
use Rattle.std.proofs.lemmas.Bool.Decides.{nat_tests}
use Rattle.std.proofs.lemmas.List.Elements.{All-nil, All-cons, All-append, All-get_or, All-head, All-tail}
use Rattle.std.proofs.lemmas.Nat.{and_or_apart}
use Rattle.std.proofs.lemmas.Option.{slice_get_within, get_or_from_slice_get}
use Rattle.build_base.specs.declared.fault.Place.{Place}
use Rattle.doc_types.specs.declared.volume.SectionPlan.{SectionPlan}
use Rattle.doc_types.specs.declared.volume.VolumePlan.{VolumePlan}
use Rattle.fdf_words.specs.declared.rows.LineRead.{LineRead}
use Rattle.fdf_words.specs.declared.rows.LineRead.TheVariants.{Heads, Body}
use Rattle.fdf_words.specs.declared.rows.FileHead.{FileHead}
use Rattle.fdf_words.specs.declared.rows.RuleScope.{RuleScope}
use Rattle.fdf_words.specs.declared.rows.Row.{Row}
use Rattle.fdf_words.specs.declared.rows.Row.TheVariants as row
use Rattle.fdf_words.specs.declared.rows.Scope.{Scope}
use Rattle.fdf_words.specs.declared.rows.Scope.TheVariants as scope
use Rattle.fdf_words.specs.declared.rows.SectionLine.{SectionLine}
use Rattle.flash_document.specs.Columns.{row_at, in_row, column}
use Rattle.flash_document.specs.Devices.{device_of}
use Rattle.flash_document.specs.Document.{volume_plan, plan_at}
use Rattle.flash_document.specs.Parts.{stated_of, stated_from, stated_below, all_stated}
use Rattle.flash_document.specs.Sets.{is_heads, section_lines}
use Rattle.flash_document.specs.Volumes.{attributes, is_on, with_flag, flags_of, section_then, sections_in, item_at, items_of, volume_of, rule_sections, rule_with, rule_head, rule_of_lines}
use Rattle.flash_document.specs.Whole.{volume_in, volumes_of}
use Rattle.flash_document.specs.declared.held.HeldRegion.{HeldRegion}
use Rattle.flash_document.specs.declared.stated.FdfSection.{FdfSection}
use Rattle.flash_document.specs.declared.stated.FdfSection.TheVariants as stated
use Rattle.flash_document.specs.declared.stated.FdfStatement.{FdfStatement}
use Rattle.flash_document.specs.declared.stated.FdfStatement.TheVariants as item
use Rattle.flash_document.specs.declared.stated.StatedVolume.{StatedVolume}

-- what holds of all holds of one
pub at_place : {X : Type 0} (P : X → Type 0) (xs : List X) (i : ℕ) (o : Option X) → slice_get xs i ≡ o → All P xs → IfSome o P
at_place P xs i None e all = tt
at_place P xs i (Some x) e all = subst P (get_or_from_slice_get xs i x x e) (All-get_or P xs i x (slice_get_within xs i x e) all)

taken_all : {X : Type 0} (P : X → Type 0) (n : ℕ) (xs : List X) → All P xs → All P (take n xs)
taken_all P zero xs all = All-nil P
taken_all P (suc n) [] all = All-nil P
taken_all P (suc n) (x ∷ xs) all = All-cons P x (take n xs) (All-head P x xs all) (taken_all P n xs (All-tail P x xs all))

-- no attribute that may be stated is the erase polarity
flag_clear : (on : Bool) (flags bits : ℕ) → bit_and flags 2048 ≡ 0 → bit_and bits 2048 ≡ 0 → bit_and (if on then bit_or flags bits else flags) 2048 ≡ 0
flag_clear true flags bits h b = and_or_apart 2048 flags bits b ∙ h
flag_clear false flags bits h b = h

is_nothing : (n : ℕ) → (n == 0) ≡ true → n ≡ 0
is_nothing n h = grind (arith, nat_tests)

all_clear : (k : ℕ) (lines : List LineRead) (bs : List ℕ) (flags : ℕ) → list_all (λ b. bit_and b 2048 == 0) bs ≡ true → bit_and flags 2048 ≡ 0
    → bit_and (fold (with_flag k lines) flags bs) 2048 ≡ 0
all_clear k lines [] flags all h = h
all_clear k lines (b ∷ bs) flags all h =
    let both = and_parts (bit_and b 2048 == 0) (list_all (λ c. bit_and c 2048 == 0) bs) all in
    all_clear k lines bs (with_flag k lines flags b) both.1 (flag_clear (is_on k lines b) flags b h (is_nothing (bit_and b 2048) both.0))

flags_clear : (k : ℕ) (lines : List LineRead) → bit_and (flags_of k lines) 2048 ≡ 0
flags_clear k lines = all_clear k lines attributes 0 refl refl

-- of some rows and heads
abbrev pub LineHas : (Row → Type 0) → (Scope → Type 0) → LineRead → Type 0
LineHas P Q (Heads at scopes) = All Q scopes
LineHas P Q (Body rows) = All P rows

abbrev pub ItemHas : (Row → Type 0) → FdfStatement → Type 0
ItemHas P (item.Apriori at pei members) = Unit {0}
ItemHas P (item.File file) = P (row.File file.head) × All (λ s. P (row.Section s)) file.sections
ItemHas P (item.Inf line) = Unit {0}

pub record VolumeHas (P : Row → Type 0) (Q : Scope → Type 0) (volume : StatedVolume) : Type 0 where
  pub name : Q (scope.Volume volume.name)
  pub items : All (ItemHas P) volume.items
  pub flags : bit_and volume.flags 2048 ≡ 0

abbrev pub StatedHas : (Row → Type 0) → (Scope → Type 0) → FdfSection → Type 0
StatedHas P Q stated.Settings = Unit {0}
StatedHas P Q (stated.Device device) = Q (scope.Device device.name)
StatedHas P Q (stated.Volume volume) = VolumeHas P Q volume
StatedHas P Q (stated.Rule rule) = All (λ s. P (row.RuleSection s)) rule.rule.file.sections

module _ (P : Row → Type 0) (Q : Scope → Type 0) where
  row_has : (k : ℕ) (line : LineRead) → LineHas P Q line → IfSome (row_at k line) P
  row_has k (Heads at scopes) h = tt
  row_has k (Body rows) h = at_place P rows k (slice_get rows k) refl h

  section_has : (o : Option Row) (later : List SectionLine) → IfSome o P → All (λ s. P (row.Section s)) later → All (λ s. P (row.Section s)) (section_then o later)
  section_has None later h all = all
  section_has (Some row.Closes) later h all = All-nil (λ s. P (row.Section s))
  section_has (Some (row.Section s)) later h all = All-cons (λ s. P (row.Section s)) s later h all
  section_has (Some row.Ignored) later h all = all
  section_has (Some (row.Set x)) later h all = all
  section_has (Some (row.Number x)) later h all = all
  section_has (Some (row.Region x)) later h all = all
  section_has (Some (row.Pcds x)) later h all = all
  section_has (Some (row.Content x)) later h all = all
  section_has (Some (row.Setting x)) later h all = all
  section_has (Some (row.Apriori x)) later h all = all
  section_has (Some (row.Member x)) later h all = all
  section_has (Some (row.Inf x)) later h all = all
  section_has (Some (row.File x)) later h all = all
  section_has (Some (row.Whole x)) later h all = all
  section_has (Some (row.RuleFile x)) later h all = all
  section_has (Some (row.RuleSection x)) later h all = all

  sections_have : (k : ℕ) (lines : List LineRead) → All (LineHas P Q) lines → All (λ s. P (row.Section s)) (sections_in k lines)
  sections_have k [] all = All-nil (λ s. P (row.Section s))
  sections_have k (line ∷ lines) all =
      section_has (row_at k line) (sections_in k lines) (row_has k line (All-head (LineHas P Q) line lines all)) (sections_have k lines (All-tail (LineHas P Q) line lines all))

  item_has : (o : Option Row) (k : ℕ) (lines : List LineRead) → IfSome o P → All (LineHas P Q) lines → All (ItemHas P) (item_at o k lines)
  item_has None k lines h all = All-nil (ItemHas P)
  item_has (Some (row.Apriori head)) k lines h all = All-cons (ItemHas P) _ [] tt (All-nil (ItemHas P))
  item_has (Some (row.File head)) k lines h all = All-cons (ItemHas P) _ [] (h, sections_have k lines all) (All-nil (ItemHas P))
  item_has (Some (row.Inf line)) k lines h all = All-cons (ItemHas P) _ [] tt (All-nil (ItemHas P))
  item_has (Some row.Ignored) k lines h all = All-nil (ItemHas P)
  item_has (Some (row.Set x)) k lines h all = All-nil (ItemHas P)
  item_has (Some (row.Number x)) k lines h all = All-nil (ItemHas P)
  item_has (Some (row.Region x)) k lines h all = All-nil (ItemHas P)
  item_has (Some (row.Pcds x)) k lines h all = All-nil (ItemHas P)
  item_has (Some (row.Content x)) k lines h all = All-nil (ItemHas P)
  item_has (Some (row.Setting x)) k lines h all = All-nil (ItemHas P)
  item_has (Some (row.Member x)) k lines h all = All-nil (ItemHas P)
  item_has (Some (row.Section x)) k lines h all = All-nil (ItemHas P)
  item_has (Some (row.Whole x)) k lines h all = All-nil (ItemHas P)
  item_has (Some row.Closes) k lines h all = All-nil (ItemHas P)
  item_has (Some (row.RuleFile x)) k lines h all = All-nil (ItemHas P)
  item_has (Some (row.RuleSection x)) k lines h all = All-nil (ItemHas P)

  items_have : (k : ℕ) (lines : List LineRead) → All (LineHas P Q) lines → All (ItemHas P) (items_of k lines)
  items_have k [] all = All-nil (ItemHas P)
  items_have k (line ∷ lines) all =
      let later = All-tail (LineHas P Q) line lines all in
      All-append (ItemHas P) (item_at (row_at k line) k lines) (items_of k lines) (item_has (row_at k line) k lines (row_has k line (All-head (LineHas P Q) line lines all)) later) (items_have k lines later)

  rule_row_has : (o : Option Row) → IfSome o P → All (λ s. P (row.RuleSection s)) (in_row rule_sections o)
  rule_row_has None h = All-nil (λ s. P (row.RuleSection s))
  rule_row_has (Some (row.RuleSection s)) h = All-cons (λ s. P (row.RuleSection s)) s [] h (All-nil (λ s. P (row.RuleSection s)))
  rule_row_has (Some (row.Apriori x)) h = All-nil (λ s. P (row.RuleSection s))
  rule_row_has (Some (row.File x)) h = All-nil (λ s. P (row.RuleSection s))
  rule_row_has (Some (row.Inf x)) h = All-nil (λ s. P (row.RuleSection s))
  rule_row_has (Some row.Ignored) h = All-nil (λ s. P (row.RuleSection s))
  rule_row_has (Some (row.Set x)) h = All-nil (λ s. P (row.RuleSection s))
  rule_row_has (Some (row.Number x)) h = All-nil (λ s. P (row.RuleSection s))
  rule_row_has (Some (row.Region x)) h = All-nil (λ s. P (row.RuleSection s))
  rule_row_has (Some (row.Pcds x)) h = All-nil (λ s. P (row.RuleSection s))
  rule_row_has (Some (row.Content x)) h = All-nil (λ s. P (row.RuleSection s))
  rule_row_has (Some (row.Setting x)) h = All-nil (λ s. P (row.RuleSection s))
  rule_row_has (Some (row.Member x)) h = All-nil (λ s. P (row.RuleSection s))
  rule_row_has (Some (row.Section x)) h = All-nil (λ s. P (row.RuleSection s))
  rule_row_has (Some (row.Whole x)) h = All-nil (λ s. P (row.RuleSection s))
  rule_row_has (Some row.Closes) h = All-nil (λ s. P (row.RuleSection s))
  rule_row_has (Some (row.RuleFile x)) h = All-nil (λ s. P (row.RuleSection s))

  rule_sections_have : (k : ℕ) (lines : List LineRead) → All (LineHas P Q) lines → All (λ s. P (row.RuleSection s)) (column rule_sections k lines)
  rule_sections_have k [] all = All-nil (λ s. P (row.RuleSection s))
  rule_sections_have k (line ∷ lines) all =
      All-append (λ s. P (row.RuleSection s)) (in_row rule_sections (row_at k line)) (column rule_sections k lines)
      (rule_row_has (row_at k line) (row_has k line (All-head (LineHas P Q) line lines all))) (rule_sections_have k lines (All-tail (LineHas P Q) line lines all))

  rule_has : (at : Place) (rule : RuleScope) (sections : List SectionPlan) (head : Option FileHead) → All (λ s. P (row.RuleSection s)) sections → StatedHas P Q (rule_with at rule sections head)
  rule_has at rule sections None all = tt
  rule_has at rule sections (Some head) all = all

  rule_lines_have : (at : Place) (rule : RuleScope) (k : ℕ) (lines : List LineRead) → All (LineHas P Q) lines → StatedHas P Q (rule_of_lines at rule k lines)
  unfolding rule_of_lines
  rule_lines_have at rule k lines all = rule_has at rule (column rule_sections k lines) (rule_head k lines) (rule_sections_have k lines all)

  device_has : (at : Place) (name : List ℕ) (k : ℕ) (lines : List LineRead) → Q (scope.Device name) → StatedHas P Q (stated.Device (device_of at name k lines))
  unfolding device_of
  device_has at name k lines q = q

  volume_has : (at : Place) (name : List ℕ) (k : ℕ) (lines : List LineRead) → Q (scope.Volume name) → All (LineHas P Q) lines → VolumeHas P Q (volume_of at name k lines)
  unfolding volume_of
  volume_has at name k lines q all = record { name = q; items = items_have k lines all; flags = flags_clear k lines }

  stated_has : (at : Place) (s : Scope) (k : ℕ) (lines : List LineRead) → Q s → All (LineHas P Q) lines → StatedHas P Q (stated_of at s k lines)
  stated_has at scope.Settings k lines q all = tt
  stated_has at (scope.Device name) k lines q all = device_has at name k lines q
  stated_has at (scope.Volume name) k lines q all = volume_has at name k lines q all
  stated_has at (scope.Rule rule) k lines q all = rule_lines_have at rule k lines all

  from_has : (at : Place) (k : ℕ) (scopes : List Scope) (lines : List LineRead) → All Q scopes → All (LineHas P Q) lines → All (StatedHas P Q) (stated_from at k scopes lines)
  from_has at k [] lines qs all = All-nil (StatedHas P Q)
  from_has at k (s ∷ scopes) lines qs all =
      All-cons (StatedHas P Q) (stated_of at s k lines) (stated_from at (k + 1) scopes lines) (stated_has at s k lines (All-head Q s scopes qs) all)
      (from_has at (k + 1) scopes lines (All-tail Q s scopes qs) all)

  below_has : (line : LineRead) (lines : List LineRead) → LineHas P Q line → All (LineHas P Q) lines → All (StatedHas P Q) (stated_below line lines)
  below_has (Heads at scopes) lines h all = from_has at 0 scopes lines h all
  below_has (Body rows) lines h all = All-nil (StatedHas P Q)

  pub all_have : (lines : List LineRead) → All (LineHas P Q) lines → All (StatedHas P Q) (all_stated lines)
  all_have [] all = All-nil (StatedHas P Q)
  all_have (line ∷ lines) all =
      let later = All-tail (LineHas P Q) line lines all in
      All-append (StatedHas P Q) (stated_below line (section_lines lines)) (all_stated lines)
      (below_has line (section_lines lines) (All-head (LineHas P Q) line lines all) (taken_all (LineHas P Q) (position_or_len is_heads lines) lines later)) (all_have lines later)

  part_volume : (part : FdfSection) → StatedHas P Q part → All (VolumeHas P Q) (volume_in part)
  part_volume stated.Settings h = All-nil (VolumeHas P Q)
  part_volume (stated.Device device) h = All-nil (VolumeHas P Q)
  part_volume (stated.Volume volume) h = All-cons (VolumeHas P Q) volume [] h (All-nil (VolumeHas P Q))
  part_volume (stated.Rule rule) h = All-nil (VolumeHas P Q)

  pub volumes_have : (parts : List FdfSection) → All (StatedHas P Q) parts → All (VolumeHas P Q) (volumes_of parts)
  volumes_have [] all = All-nil (VolumeHas P Q)
  volumes_have (part ∷ parts) all =
      All-append (VolumeHas P Q) (volume_in part) (volumes_of parts) (part_volume part (All-head (StatedHas P Q) part parts all)) (volumes_have parts (All-tail (StatedHas P Q) part parts all))

-- what holds of each volume's plan holds of the plans in any order
module _ (P : StatedVolume → Type 0) (Q : VolumePlan → Type 0) (names : List (List ℕ)) (regions : List HeldRegion) (each : (volume : StatedVolume) → P volume → Q (volume_plan names regions volume)) where
  one_passes : (o : Option StatedVolume) → IfSome o P → All Q (plan_at names regions o)
  one_passes None h = All-nil Q
  one_passes (Some volume) h = All-cons Q (volume_plan names regions volume) [] (each volume h) (All-nil Q)

  pub plans_pass : (volumes : List StatedVolume) → All P volumes → (order : List ℕ) → All Q (flat_map (λ p. plan_at names regions (slice_get volumes p)) order)
  plans_pass volumes all [] = All-nil Q
  plans_pass volumes all (p ∷ order) =
      All-append Q (plan_at names regions (slice_get volumes p)) (flat_map (λ q. plan_at names regions (slice_get volumes q)) order)
      (one_passes (slice_get volumes p) (at_place P volumes p (slice_get volumes p) refl all)) (plans_pass volumes all order)
