-- A document without a fault has its shape.
use Rattle.std.proofs.Common.{◌≡◌, ◌∙◌, ℕ, ◌+◌, ◌*◌, ◌%◌, ◌==◌, ◌<◌, ◌≤◌, Bool, true, false, nat_le, List, [], ◌∷◌, length, map, Option, Some, None, Result, Ok, Err, if◌then◌else◌, get_or, nat_eq, inl, inr, refl, sym, ap, subst, arith}
use Rattle.std.specs.Prelude.{IfOk, slice_get}
use Rattle.std.specs.List.{All, flat_map}
use Rattle.std.specs.Option.{IfSome}
use Rattle.std.specs.Cmp.Lexicographic.{pointwise}
use Rattle.std.proofs.lemmas.List.{length-map, length-append}
use Rattle.std.proofs.lemmas.List.Elements.{All-nil, All-cons, All-append, All-head, All-tail}
use Rattle.std.proofs.lemmas.Option.{slice_get_cases}
use Rattle.std.proofs.lemmas.Bool.Decides.{nat_tests}
use Rattle.std.proofs.Math.Nat.{mul-mod_right}
use Rattle.build_base.specs.Answer.{Answers}
use Rattle.build_base.specs.First.{or_else, unless, and_then}
use Rattle.build_base.specs.declared.fault.Fault.{Fault}
use Rattle.build_base.specs.declared.fault.Place.{Place}
use Rattle.build_base.specs.declared.refusal.Refusal.{Refusal}
use Rattle.build_base.specs.declared.lines.Lines.{Lines}
use Rattle.meta_lexer.specs.Faults.{first_fault}
use Rattle.doc_types.specs.declared.flash.FlashDoc.{FlashDoc}
use Rattle.doc_types.specs.Volumes.{SizeFits}
use Rattle.fdf_lines.specs.Grammar.{rows_of_flash}
use Rattle.fdf_lines.specs.Limits.{WithinLimits}
use Rattle.fdf_lines.specs.declared.section.FlashSection.TheVariants as section
use Rattle.fdf_words.specs.declared.rows.LineRead.{LineRead}
use Rattle.fdf_words.specs.declared.rows.RegionContent.{RegionContent}
use Rattle.fdf_words.specs.declared.rows.Content.{Content}
use Rattle.fdf_words.specs.declared.rows.Content.TheVariants as content
use Rattle.flash_document.specs.Devices.{capped}
use Rattle.flash_document.specs.Document.{numbered, ordered_names, kind_numbered, content_kind, region_kind, region_plan, device_plan, part_device, part_rule, body_source, section_plan, item_plan, plan_at, volume_plan, document_of, flash_of_lines}
use Rattle.flash_document.specs.Flash.{line_of, flash_of}
use Rattle.flash_document.specs.Names.{lower_case, place_from, place_of}
use Rattle.flash_document.specs.Parts.{all_stated}
use Rattle.flash_document.specs.Shape.{HeadFits, KindFits, RegionFits, DeviceFits, SectionFits, IsStated, IsRuled, ItemIsStated, ItemsAreStated, NameFits, RuleFits, SectionsAreRuled, FewItems, HasShape}
use Rattle.flash_document.specs.Whole.{volumes_of, volume_in, names_of, nests_of, nest_in, all_held, held_of, first_size, volume_size, block_of, size_of, size_fault, part_too_large, whole_blocks, blocks_with, volume_blocks, part_blocks, part_unstated, loop_fault, row_unknown, line_unknown, part_sizes, part_key, twin, is_again, above_with, twin_marks, first_marked, whole_fault}
use Rattle.flash_document.specs.declared.held.HeldRegion.{HeldRegion}
use Rattle.flash_document.specs.declared.held.HeldSizes.{HeldSizes}
use Rattle.flash_document.specs.declared.stated.FdfSection.{FdfSection}
use Rattle.flash_document.specs.declared.stated.FdfSection.TheVariants.{Settings, Device, Volume, Rule}
use Rattle.flash_document.specs.declared.stated.FdfStatement.{FdfStatement}
use Rattle.flash_document.specs.declared.stated.FdfStatement.TheVariants as item
use Rattle.flash_document.specs.declared.stated.StatedRegion.{StatedRegion}
use Rattle.flash_document.specs.declared.stated.StatedVolume.{StatedVolume}
use Rattle.fdf_words.specs.declared.rows.LineRead.TheVariants.{Heads, Body}
use Rattle.fdf_words.specs.declared.rows.Row.{Row}
use Rattle.fdf_words.specs.declared.rows.Row.TheVariants as row
use Rattle.fdf_words.specs.declared.rows.Scope.{Scope}
use Rattle.fdf_words.specs.declared.rows.SectionBody.{SectionBody}
use Rattle.fdf_words.specs.declared.rows.SectionBody.TheVariants as body
use Rattle.fdf_words.specs.declared.rows.SectionLine.{SectionLine}
use Rattle.doc_reading.specs.Grammar.{Read}
use Rattle.doc_types.specs.declared.volume.RuleDoc.{RuleDoc}
use Rattle.doc_types.specs.declared.volume.SectionPlan.{SectionPlan}
use Rattle.flash_document.proofs.CarryLemmas.{LineHas, ItemHas, VolumeHas, StatedHas, all_have, volumes_have, plans_pass}
use Rattle.flash_document.proofs.CountLemmas.{FewStated, all_count, one_device, volumes_count, one_rule, plans_few, few_stated, few_plan}
use Rattle.volume_nesting.proofs.NestLemmas.{order_ordered}
use Rattle.flash_document.proofs.NestedLemmas.{passed, plans_nested}
use Rattle.volume_nesting.proofs.OrderLemmas.{order_below, order_few}
use Rattle.flash_document.proofs.RowLemmas.{RowFits, ScopeFits, ReadFits, rows_fit, lines_fit}

-- of two faults neither is there
neither : (a b : Option Fault) → or_else a b ≡ None → (a ≡ None) × (b ≡ None)
neither None b h = (refl, h)
neither (Some fault) b h = absurd cc

-- a place of a name is that of one of them
place_below : (n : ℕ) (key : List ℕ) (names : List (List ℕ)) (k : ℕ) → place_from n key names ≡ Some k → k < n + length names
unfolding place_from
place_below n key [] k h = absurd cc
place_below n key (name ∷ names) k h =
    elim (pointwise nat_eq (lower_case name) key) as (λ b. (if b then Some n else place_from (n + 1) key names) ≡ Some k → k < n + length (name ∷ names)) [
      | true ↦ λ e. subst (λ o. IfSome o (λ m. m < n + length (name ∷ names))) e (omega arith)
      | false ↦ λ e. let below : k < n + 1 + length names = place_below (n + 1) key names k e in omega arith
    ] h

numbered_fits : (count : ℕ) (number : Option ℕ) → ((k : ℕ) → number ≡ Some k → k < 0 + count) → KindFits count (kind_numbered number)
numbered_fits count None below = tt
numbered_fits count (Some k) below =
    let low : k < 0 + count = below k refl in
    let fits : k < count = omega arith in
    fits

content_fits : (names : List (List ℕ)) (stated : Content) → KindFits (length names) (content_kind names stated)
content_fits names (content.Volume name) = numbered_fits (length names) (place_of names name) (place_below 0 (lower_case name) names)
content_fits names (content.Tree path) = tt
content_fits names (content.Bytes bytes) = tt

kind_fits : (names : List (List ℕ)) (stated : Option RegionContent) → KindFits (length names) (region_kind names stated)
kind_fits names None = tt
kind_fits names (Some stated) = content_fits names stated.content

regions_fit : (names : List (List ℕ)) (regions : List StatedRegion) → All (RegionFits (length names)) (map (region_plan names) regions)
regions_fit names [] = All-nil (RegionFits (length names))
regions_fit names (region ∷ regions) =
    All-cons (RegionFits (length names)) (region_plan names region) (map (region_plan names) regions) (kind_fits names region.content) (regions_fit names regions)

part_fits : (names : List (List ℕ)) (part : FdfSection) → All (DeviceFits (length names)) (part_device names part)
part_fits names Settings = All-nil (DeviceFits (length names))
part_fits names (Device device) = All-cons (DeviceFits (length names)) (device_plan names device) [] (regions_fit names device.regions) (All-nil (DeviceFits (length names)))
part_fits names (Volume volume) = All-nil (DeviceFits (length names))
part_fits names (Rule rule) = All-nil (DeviceFits (length names))

devices_fit : (names : List (List ℕ)) (parts : List FdfSection) → All (DeviceFits (length names)) (flat_map (part_device names) parts)
devices_fit names [] = All-nil (DeviceFits (length names))
devices_fit names (part ∷ parts) =
    All-append (DeviceFits (length names)) (part_device names part) (flat_map (part_device names) parts) (part_fits names part) (devices_fit names parts)

small_size : (at : Place) (size : ℕ) → size_fault at (Some size) ≡ None → size ≤ 268435456
small_size at size h =
    let small : nat_le size 268435456 ≡ true = passed (nat_le size 268435456) _ h in
    grind (arith, nat_tests)

small_product : (n : ℕ) → capped n ≤ 268435456 → capped n ≡ n
small_product n h = omega arith

whole_size : (at : Place) (block size : ℕ) → whole_blocks at block (Some size) ≡ None → size % block ≡ 0
whole_size at block size h =
    let full : (size % block == 0) ≡ true = passed (size % block == 0) _ h in
    grind (arith, nat_tests)

held_shape : (at : Place) (block : ℕ) (size : Option ℕ) → size_fault at size ≡ None → whole_blocks at block size ≡ None → SizeFits block size
held_shape at block None small full = tt
held_shape at block (Some size) small full = (small_size at size small, whole_size at block size full)

size_shape : (at : Place) (block : ℕ) (blocks : Option ℕ) (held : Option HeldSizes) → size_fault at (volume_size block blocks held) ≡ None → blocks_with at held block blocks ≡ None
    → SizeFits block (volume_size block blocks held)
size_shape at block (Some blocks) held small full =
    let low : capped (block * blocks) ≤ 268435456 = small_size at (capped (block * blocks)) small in
    let same : capped (block * blocks) ≡ block * blocks = small_product (block * blocks) low in
    (low, ap (λ n. n % block) same ∙ mul-mod_right block blocks)
size_shape at block None held small full = held_shape at block (first_size held) small full

-- a volume whose size can be made
pub record Makes (regions : List HeldRegion) (volume : StatedVolume) : Type 0 where
  pub small : size_fault volume.at (size_of volume (held_of regions volume)) ≡ None
  pub full : volume_blocks volume (held_of regions volume) ≡ None

plan_fits : (names : List (List ℕ)) (regions : List HeldRegion) (volume : StatedVolume) → Makes regions volume → HeadFits (volume_plan names regions volume)
plan_fits names regions volume h = size_shape volume.at (block_of volume (held_of regions volume)) volume.blocks (held_of regions volume) h.small h.full

some_none : {X : Type 0} {fault : Fault} → Some fault ≡ None → X
some_none e = absurd cc

volume_makes : (regions : List HeldRegion) (again : Bool) (volume : StatedVolume) → part_too_large regions again (Volume volume) ≡ None → part_blocks regions again (Volume volume) ≡ None
    → twin again (Volume volume) ≡ None → All (Makes regions) (volume ∷ [])
volume_makes regions true volume small full once = some_none once
volume_makes regions false volume small full once = All-cons (Makes regions) volume [] (record { small = small; full = full }) (All-nil (Makes regions))

part_makes : (regions : List HeldRegion) (again : Bool) (part : FdfSection) → part_too_large regions again part ≡ None → part_blocks regions again part ≡ None → twin again part ≡ None
    → All (Makes regions) (volume_in part)
part_makes regions again Settings small full once = All-nil (Makes regions)
part_makes regions again (Device device) small full once = All-nil (Makes regions)
part_makes regions again (Volume volume) small full once = volume_makes regions again volume small full once
part_makes regions again (Rule rule) small full once = All-nil (Makes regions)

-- where no name stands twice, each volume is the first of its name
all_make : (regions : List HeldRegion) (parts : List FdfSection) (above : List (List ℕ)) → first_marked (part_too_large regions) parts (twin_marks parts above) ≡ None
    → first_marked (part_blocks regions) parts (twin_marks parts above) ≡ None → first_marked twin parts (twin_marks parts above) ≡ None → All (Makes regions) (volumes_of parts)
unfolding twin_marks
all_make regions [] above small full once = All-nil (Makes regions)
all_make regions (part ∷ parts) above small full once =
    let again : Bool = is_again above (part_key part) in
    let below : List (List ℕ) = above_with above (part_key part) in
    let s = neither (part_too_large regions again part) (first_marked (part_too_large regions) parts (twin_marks parts below)) small in
    let f = neither (part_blocks regions again part) (first_marked (part_blocks regions) parts (twin_marks parts below)) full in
    let o = neither (twin again part) (first_marked twin parts (twin_marks parts below)) once in
    All-append (Makes regions) (volume_in part) (volumes_of parts) (part_makes regions again part s.0 f.0 o.0) (all_make regions parts below s.1 f.1 o.1)

none_some : {X Y : Type 0} {x : X} → None ≡ Some x → Y
none_some e = absurd cc

-- as many plans as numbers
plans_count : (names : List (List ℕ)) (regions : List HeldRegion) (volumes : List StatedVolume) (order : List ℕ) → All (λ p. p < length volumes) order
    → length (flat_map (λ p. plan_at names regions (slice_get volumes p)) order) ≡ length order
plans_count names regions volumes [] all = refl
plans_count names regions volumes (p ∷ order) all =
    length-append (plan_at names regions (slice_get volumes p)) (flat_map (λ q. plan_at names regions (slice_get volumes q)) order)
    ∙ ap (λ n. n + length (flat_map (λ q. plan_at names regions (slice_get volumes q)) order)) (one (slice_get volumes p) refl)
    ∙ ap (λ n. 1 + n) (plans_count names regions volumes order (All-tail (λ q. q < length volumes) p order all))
    ∙ omega arith
  where
    one : (o : Option StatedVolume) → slice_get volumes p ≡ o → length (plan_at names regions o) ≡ 1
    one None e =
        elim (slice_get_cases volumes p).1 [
          | inl found ↦ none_some (sym e ∙ found.2)
          | inr past ↦ absurd (let l = All-head (λ q. q < length volumes) p order all in omega (arith, past.0, l))
        ]
    one (Some volume) e = refl

numbered_below : (parts : List FdfSection) → All (λ p. p < length (volumes_of parts)) (numbered parts)
numbered_below parts =
    subst (λ n. All (λ p. p < n) (numbered parts)) (length-map (volumes_of parts) (nest_in (names_of parts))) (order_below (nests_of parts))

-- a list without a fault has none at any item
faultless : {X : Type 0} (fault : X → Option Fault) (xs : List X) → first_fault fault xs ≡ None → All (λ x. fault x ≡ None) xs
faultless fault [] h = All-nil (λ x. fault x ≡ None)
faultless fault (x ∷ xs) h =
    let both = neither (fault x) (first_fault fault xs) h in
    All-cons (λ y. fault y ≡ None) x xs both.0 (faultless fault xs both.1)

line_known : (names : List (List ℕ)) (line : LineRead) → line_unknown names line ≡ None → LineHas (λ r. row_unknown names r ≡ None) (λ s. Unit {0}) line
line_known names (Heads at scopes) h = any scopes
  where
    any : (xs : List Scope) → All (λ s. Unit {0}) xs
    any [] = All-nil (λ s. Unit {0})
    any (x ∷ xs) = All-cons (λ s. Unit {0}) x xs tt (any xs)
line_known names (Body rows) h = faultless (row_unknown names) rows h

lines_known : (names : List (List ℕ)) (lines : List LineRead) → All (λ line. line_unknown names line ≡ None) lines → All (LineHas (λ r. row_unknown names r ≡ None) (λ s. Unit {0})) lines
lines_known names [] all = All-nil (LineHas (λ r. row_unknown names r ≡ None) (λ s. Unit {0}))
lines_known names (line ∷ lines) all =
    All-cons (LineHas (λ r. row_unknown names r ≡ None) (λ s. Unit {0})) line lines (line_known names line (All-head (λ l. line_unknown names l ≡ None) line lines all))
    (lines_known names lines (All-tail (λ l. line_unknown names l ≡ None) line lines all))

-- names of devices, and rules
device_names : (names : List (List ℕ)) (part : FdfSection) → StatedHas RowFits ScopeFits part → All NameFits (part_device names part)
device_names names Settings h = All-nil NameFits
device_names names (Device device) h = All-cons NameFits (device_plan names device) [] h (All-nil NameFits)
device_names names (Volume volume) h = All-nil NameFits
device_names names (Rule rule) h = All-nil NameFits

all_names : (names : List (List ℕ)) (parts : List FdfSection) → All (StatedHas RowFits ScopeFits) parts → All NameFits (flat_map (part_device names) parts)
all_names names [] all = All-nil NameFits
all_names names (part ∷ parts) all =
    All-append NameFits (part_device names part) (flat_map (part_device names) parts)
    (device_names names part (All-head (StatedHas RowFits ScopeFits) part parts all)) (all_names names parts (All-tail (StatedHas RowFits ScopeFits) part parts all))

rule_sections_fit : (sections : List SectionPlan) → All (λ s. RowFits (row.RuleSection s)) sections → All (SectionFits 0) sections
rule_sections_fit [] all = All-nil (SectionFits 0)
rule_sections_fit (s ∷ sections) all =
    let h = All-head (λ x. RowFits (row.RuleSection x)) s sections all in
    All-cons (SectionFits 0) s sections (record { nested = h.1; guid = h.0 }) (rule_sections_fit sections (All-tail (λ x. RowFits (row.RuleSection x)) s sections all))

rule_sections_ruled : (sections : List SectionPlan) → All (λ s. RowFits (row.RuleSection s)) sections → All (λ s. IsRuled s.source) sections
rule_sections_ruled [] all = All-nil (λ s. IsRuled s.source)
rule_sections_ruled (s ∷ sections) all =
    let h = All-head (λ x. RowFits (row.RuleSection x)) s sections all in
    All-cons (λ x. IsRuled x.source) s sections h.2 (rule_sections_ruled sections (All-tail (λ x. RowFits (row.RuleSection x)) s sections all))

-- what follows of a rule's sections holds of all rules
module _ (P : RuleDoc → Type 0) (each : (rule : RuleDoc) → All (λ s. RowFits (row.RuleSection s)) rule.file.sections → P rule) where
  rule_passes : (part : FdfSection) → StatedHas RowFits ScopeFits part → All P (part_rule part)
  rule_passes Settings h = All-nil P
  rule_passes (Device device) h = All-nil P
  rule_passes (Volume volume) h = All-nil P
  rule_passes (Rule rule) h = All-cons P rule.rule [] (each rule.rule h) (All-nil P)

  rules_pass : (parts : List FdfSection) → All (StatedHas RowFits ScopeFits) parts → All P (flat_map part_rule parts)
  rules_pass [] all = All-nil P
  rules_pass (part ∷ parts) all =
      All-append P (part_rule part) (flat_map part_rule parts) (rule_passes part (All-head (StatedHas RowFits ScopeFits) part parts all))
      (rules_pass parts (All-tail (StatedHas RowFits ScopeFits) part parts all))

-- the statements of a volume
body_stated : (names : List (List ℕ)) (stated : SectionBody) → IsStated (body_source names stated)
body_stated names (body.Tree path) = tt
body_stated names (body.Volume name) = tt
body_stated names (body.Words text) = tt

sections_stated : (names : List (List ℕ)) (sections : List SectionLine) → All (λ s. IsStated s.source) (map (section_plan names) sections)
sections_stated names [] = All-nil (λ s. IsStated s.source)
sections_stated names (s ∷ sections) = All-cons (λ x. IsStated x.source) (section_plan names s) (map (section_plan names) sections) (body_stated names s.body) (sections_stated names sections)

item_stated : (names : List (List ℕ)) (stated : FdfStatement) → ItemHas RowFits stated → ItemIsStated (item_plan names stated)
item_stated names (item.Apriori at pei members) h = tt
item_stated names (item.File file) h = record { guid = h.0; sources = sections_stated names file.sections }
item_stated names (item.Inf line) h = tt

items_stated : (names : List (List ℕ)) (items : List FdfStatement) → All (ItemHas RowFits) items → All ItemIsStated (map (item_plan names) items)
items_stated names [] all = All-nil ItemIsStated
items_stated names (stated ∷ items) all =
    All-cons ItemIsStated (item_plan names stated) (map (item_plan names) items) (item_stated names stated (All-head (ItemHas RowFits) stated items all))
    (items_stated names items (All-tail (ItemHas RowFits) stated items all))

volume_stated : (names : List (List ℕ)) (regions : List HeldRegion) (volume : StatedVolume) → VolumeHas RowFits ScopeFits volume → ItemsAreStated (volume_plan names regions volume)
volume_stated names regions volume h = items_stated names volume.items h.items

-- as many as the lines may state
record Few (parts : List FdfSection) : Type 0 where
  devices : (names : List (List ℕ)) → length (flat_map (part_device names) parts) ≤ 65535
  volumes : length (volumes_of parts) ≤ 65535
  rules : length (flat_map part_rule parts) ≤ 65535
  items : All FewStated (volumes_of parts)

no_more : (a b c : ℕ) → a ≤ b → b ≤ c → a ≤ c
no_more a b c l m = omega arith

few_lines : (reads : List (Read Scope Row)) → WithinLimits reads → Few (all_stated (map line_of reads))
few_lines reads limits =
    record {
      devices = λ names. no_more _ _ 65535 (all_count (part_device names) section.Device (one_device names) reads) limits.devices;
      volumes = no_more _ _ 65535 (volumes_count reads) limits.volumes;
      rules = no_more _ _ 65535 (all_count part_rule section.Rule one_rule reads) limits.rules;
      items = few_stated reads limits.statements;
    }

few_numbered : (parts : List FdfSection) → length (volumes_of parts) ≤ 65535 → length (numbered parts) ≤ 65535
few_numbered parts l =
    no_more (length (numbered parts)) (length (nests_of parts)) 65535 (order_few (nests_of parts))
    (subst (λ n. n ≤ 65535) (sym (length-map (volumes_of parts) (nest_in (names_of parts)))) l)

document_shape : (root : List ℕ) (lines : List LineRead) (parts : List FdfSection) → parts ≡ all_stated lines → All (LineHas RowFits ScopeFits) lines → Few parts → whole_fault lines parts ≡ None
    → HasShape (document_of root lines parts)
unfolding whole_fault document_of
document_shape root lines parts told all few h =
    let regions : List HeldRegion = all_held parts in
    let names : List (List ℕ) = ordered_names parts in
    let a = neither (first_fault part_unstated parts) _ h in
    let marks : List Bool = twin_marks parts [] in
    let b = neither (first_marked (part_too_large regions) parts marks) _ a.1 in
    let c = neither (loop_fault parts) _ b.1 in
    let d = neither (first_fault (line_unknown (names_of parts)) lines) _ c.1 in
    let e = neither (first_marked (part_blocks regions) parts marks) _ d.1 in
    let f = neither (first_marked (part_sizes regions) parts marks) _ e.1 in
    let g = neither (first_marked twin parts marks) _ f.1 in
    let same : length names ≡ length (flat_map (λ p. plan_at names regions (slice_get (volumes_of parts) p)) (numbered parts)) =
    length-map (numbered parts) (λ p. get_or (names_of parts) p []) ∙ sym (plans_count names regions (volumes_of parts) (numbered parts) (numbered_below parts)) in
    let stated : All (StatedHas RowFits ScopeFits) parts = subst (All (StatedHas RowFits ScopeFits)) (sym told) (all_have RowFits ScopeFits lines all) in
    let known : All (StatedHas (λ r. row_unknown (names_of parts) r ≡ None) (λ s. Unit {0})) parts =
    subst (All (StatedHas (λ r. row_unknown (names_of parts) r ≡ None) (λ s. Unit {0}))) (sym told)
    (all_have (λ r. row_unknown (names_of parts) r ≡ None) (λ s. Unit {0}) lines (lines_known (names_of parts) lines (faultless (line_unknown (names_of parts)) lines d.0))) in
    record {
      volumes = plans_pass (Makes regions) HeadFits names regions (plan_fits names regions) (volumes_of parts) (all_make regions parts [] b.0 e.0 g.0) (numbered parts);
      regions = subst (λ count. All (DeviceFits count) (flat_map (part_device names) parts)) same (devices_fit names parts);
      nested = plans_nested (names_of parts) regions (volumes_of parts) names (volumes_have RowFits ScopeFits parts stated)
          (volumes_have (λ r. row_unknown (names_of parts) r ≡ None) (λ s. Unit {0}) parts known) [] (numbered parts) refl (order_ordered (nests_of parts)) (numbered_below parts);
      names = all_names names parts stated;
      rules = rules_pass RuleFits (λ rule h. rule_sections_fit rule.file.sections h) parts stated;
      device_count = few.devices names;
      volume_count = no_more _ (length (numbered parts)) 65535 (plans_few names regions (volumes_of parts) (numbered parts)) (few_numbered parts few.volumes);
      rule_count = few.rules;
      items = plans_pass FewStated FewItems names regions (few_plan names regions) (volumes_of parts) few.items (numbered parts);
      files = plans_pass (VolumeHas RowFits ScopeFits) ItemsAreStated names regions (volume_stated names regions) (volumes_of parts) (volumes_have RowFits ScopeFits parts stated) (numbered parts);
      rule_sources = rules_pass SectionsAreRuled (λ rule h. rule_sections_ruled rule.file.sections h) parts stated;
    }

whole_shape : (fault : Option Fault) (doc found : FlashDoc) → (fault ≡ None → HasShape doc) → unless fault doc ≡ Ok found → HasShape found
whole_shape None doc found shape h = subst (λ r. IfOk r HasShape) h (shape refl)
whole_shape (Some fault) doc found shape h = absurd cc

lines_shape : (root : List ℕ) (lines : List LineRead) (doc : FlashDoc) → All (LineHas RowFits ScopeFits) lines → Few (all_stated lines) → flash_of_lines root lines ≡ Ok doc → HasShape doc
unfolding flash_of_lines
lines_shape root lines doc all few h =
    whole_shape (whole_fault lines (all_stated lines)) (document_of root lines (all_stated lines)) doc (document_shape root lines (all_stated lines) refl all few) h

after_rows : (root : List ℕ) (rows : Result (List (Read Scope Row)) Fault) (doc : FlashDoc) → IfOk rows (All ReadFits) → IfOk rows WithinLimits
    → and_then rows (λ reads. flash_of_lines root (map line_of reads)) ≡ Ok doc → HasShape doc
after_rows root (Ok reads) doc fit limits h = lines_shape root (map line_of reads) doc (lines_fit reads fit) (few_lines reads limits) h
after_rows root (Err fault) doc fit limits h = absurd cc

pub shape_of : (lines : Lines) (result : Result FlashDoc Refusal) → Answers result (flash_of lines) → IfOk result (λ flash. IfOk (rows_of_flash lines.rows) WithinLimits) → IfOk result HasShape
unfolding flash_of
shape_of lines (Err refusal) h limits = tt
shape_of lines (Ok doc) h limits = after_rows lines.root (rows_of_flash lines.rows) doc (rows_fit lines.rows) limits h
