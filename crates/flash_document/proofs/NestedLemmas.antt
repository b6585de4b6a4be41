-- The volumes of a document without a fault, by their numbers.
use Rattle.std.proofs.Common.{◌≡◌, ◌∙◌, ℕ, ◌+◌, ◌*◌, ◌<◌, Bool, true, false, ◌==◌, nat_eq, if◌then◌else◌, List, [], ◌∷◌, ◌++◌, length, map, get_or, Option, Some, None, unwrap_or, refl, sym, ap, subst, inl, inr, arith, append_assoc}
use Rattle.std.specs.Prelude.{slice_get, is_some, bit_and, bit_or}
use Rattle.std.specs.List.{All, flat_map}
use Rattle.std.specs.Option.{IfSome, option_map}
use Rattle.std.specs.Cmp.Lexicographic.{pointwise}
use Rattle.std.proofs.lemmas.Bool.{and_parts, both_ways}
use Rattle.std.proofs.lemmas.List.{length-append}
use Rattle.std.proofs.lemmas.List.Elements.{All-nil, All-cons, All-head, All-tail}
use Rattle.std.proofs.lemmas.List.Folds.{list_all-append}
use Rattle.std.proofs.lemmas.Nat.{and_or_apart, and_or_self, or_shifted}
use Rattle.std.specs.Int.Bits.{or_add_and}
use Rattle.std.proofs.lemmas.Option.{slice_get_cases, slice_get-map, unwrap_or-slice_get}
use Rattle.build_base.specs.declared.fault.Fault.{Fault}
use Rattle.build_base.specs.declared.fault.Place.{Place}
use Rattle.doc_types.specs.declared.volume.VolumePlan.{VolumePlan}
use Rattle.fdf_words.specs.declared.rows.Row.{Row}
use Rattle.fdf_words.specs.declared.rows.Row.TheVariants as row
use Rattle.fdf_words.specs.declared.rows.Scope.{Scope}
use Rattle.fdf_words.specs.declared.rows.SectionBody.{SectionBody}
use Rattle.fdf_words.specs.declared.rows.SectionBody.TheVariants as body
use Rattle.fdf_words.specs.declared.rows.SectionLine.{SectionLine}
use Rattle.flash_document.specs.Document.{body_source, section_plan, item_plan, polarity_of, erase_flag, exponent, attributes_of, volume_plan, plan_at}
use Rattle.flash_document.specs.Names.{lower_case, place_from, place_of}
use Rattle.volume_nesting.specs.Numbering.{has, nest_of, all_among}
use Rattle.flash_document.specs.Shape.{SourceFits, GuidFits, SectionFits, ItemFits, VolumeFits, VolumesFit}
use Rattle.flash_document.specs.Whole.{place_list, body_names, section_nest, item_nest, nest_in, body_unknown, row_unknown}
use Rattle.flash_document.specs.declared.held.HeldRegion.{HeldRegion}
use Rattle.flash_document.specs.declared.stated.FdfStatement.{FdfStatement}
use Rattle.flash_document.specs.declared.stated.FdfStatement.TheVariants as item
use Rattle.flash_document.specs.declared.stated.StatedVolume.{StatedVolume}
use Rattle.flash_document.proofs.CarryLemmas.{ItemHas, VolumeHas, at_place}
use Rattle.flash_document.proofs.NameLemmas.{place_named, named_among}
use Rattle.flash_document.proofs.RowLemmas.{RowFits, ScopeFits}
use Rattle.volume_nesting.proofs.NestLemmas.{IsOrdered}

-- a test whose failure is a fault holds where there is none
pub passed : (test : Bool) (fault : Fault) → (if test then None else Some fault) ≡ None → test ≡ true
passed true fault h = refl
passed false fault h = absurd cc

-- the rows whose names are known
abbrev Known : List (List ℕ) → Row → Type 0
Known names r = row_unknown names r ≡ None

abbrev AnyScope : Scope → Type 0
AnyScope s = Unit {0}

-- the erase polarity is the one of the head
no_exponent : (n : ℕ) → bit_and (n * 65536) 2048 ≡ 0
no_exponent n =
    let both : bit_or (n * 65536) 2048 ≡ n * 65536 + 2048 = or_shifted n 16 2048 (omega arith) in
    let sum = or_add_and (n * 65536) 2048 in
    omega (arith, both, sum)

erase_bit : (flags erase : ℕ) → bit_and flags 2048 ≡ 0 → bit_and (bit_or flags (erase_flag erase)) 2048 ≡ (if erase == 0 then 0 else 2048)
erase_bit flags erase h =
    elim (erase == 0) as (λ b. bit_and (bit_or flags (if b then 0 else 2048)) 2048 ≡ (if b then 0 else 2048)) [
      | true ↦ and_or_apart 2048 flags 0 refl ∙ h
      | false ↦ and_or_self 2048 flags
    ]

erased : (volume : StatedVolume) → bit_and volume.flags 2048 ≡ 0 → bit_and (attributes_of volume) 2048 ≡ (if polarity_of volume.erase == 0 then 0 else 2048)
erased volume h =
    and_or_apart 2048 (bit_or volume.flags (erase_flag (polarity_of volume.erase))) (exponent (unwrap_or volume.alignment 1) * 65536) (no_exponent (exponent (unwrap_or volume.alignment 1)))
    ∙ erase_bit volume.flags (polarity_of volume.erase) h

-- among the volumes above and the others, by the names of the file
module _ (names : List (List ℕ)) (above rest : List ℕ) (ordered : List (List ℕ)) (told : ordered ≡ map (λ p. get_or names p []) (above ++ rest)) where
  name_below : (name : List ℕ) (o : Option ℕ) → place_of names name ≡ o → is_some o ≡ true → all_among above (place_list o ++ []) ≡ true
      → unwrap_or (place_of ordered name) 0 < length above
  name_below name None e some all = absurd (both_ways false refl some)
  name_below name (Some q) e some all =
      let (i, same, named) = place_named 0 (lower_case name) names q e in
      let at : pointwise nat_eq (lower_case (get_or names q [])) (lower_case name) ≡ true = subst (λ k. pointwise nat_eq (lower_case (get_or names k [])) (lower_case name) ≡ true) (let s : i ≡ q = omega (arith, same) in s) named in
      let (u, found, low) = named_among 0 (lower_case name) (λ p. get_or names p []) above rest q (and_parts (has above q) true all).0 at in
      let place : place_of ordered name ≡ Some u = ap (place_from 0 (lower_case name)) told ∙ found in
      let below : u < length above = omega (arith, low) in
      subst (λ o. unwrap_or o 0 < length above) (sym place) below

  body_nested : (at : Place) (b : SectionBody) → all_among above (flat_map (λ name. place_list (place_of names name)) (body_names b)) ≡ true → body_unknown names at b ≡ None
      → SourceFits (length above) (body_source ordered b)
  body_nested at (body.Volume name) all known = name_below name (place_of names name) refl (passed (is_some (place_of names name)) _ known) all
  body_nested at (body.Tree path) all known = tt
  body_nested at (body.Words text) all known = tt

  body_guid : (s : SectionLine) (b : SectionBody) → is_some s.guid ≡ (s.kind == 24) → GuidFits (section_plan ordered s) (body_source ordered b)
  body_guid s (body.Volume name) h = h
  body_guid s (body.Tree path) h = h
  body_guid s (body.Words text) h = h

  sections_nested : (sections : List SectionLine) → all_among above (flat_map (section_nest names) sections) ≡ true → All (λ s. RowFits (row.Section s)) sections
      → All (λ s. Known names (row.Section s)) sections → All (SectionFits (length above)) (map (section_plan ordered) sections)
  sections_nested [] all fit known = All-nil (SectionFits (length above))
  sections_nested (s ∷ sections) all fit known =
      let both = and_parts _ _ (sym (list_all-append (has above) (section_nest names s) (flat_map (section_nest names) sections)) ∙ all) in
      All-cons (SectionFits (length above)) (section_plan ordered s) (map (section_plan ordered) sections)
      (record {
        nested = body_nested s.at s.body both.0 (All-head (λ x. Known names (row.Section x)) s sections known);
        guid = body_guid s s.body (All-head (λ x. RowFits (row.Section x)) s sections fit);
      })
      (sections_nested sections both.1 (All-tail (λ x. RowFits (row.Section x)) s sections fit) (All-tail (λ x. Known names (row.Section x)) s sections known))

  item_nested : (i : FdfStatement) → all_among above (item_nest names i) ≡ true → ItemHas RowFits i → ItemHas (Known names) i → ItemFits (length above) (item_plan ordered i)
  item_nested (item.Apriori at pei members) all fit known = tt
  item_nested (item.File file) all fit known = sections_nested file.sections all fit.1 known.1
  item_nested (item.Inf line) all fit known = tt

  items_nested : (items : List FdfStatement) → all_among above (flat_map (item_nest names) items) ≡ true → All (ItemHas RowFits) items → All (ItemHas (Known names)) items
      → All (ItemFits (length above)) (map (item_plan ordered) items)
  items_nested [] all fit known = All-nil (ItemFits (length above))
  items_nested (i ∷ items) all fit known =
      let both = and_parts _ _ (sym (list_all-append (has above) (item_nest names i) (flat_map (item_nest names) items)) ∙ all) in
      All-cons (ItemFits (length above)) (item_plan ordered i) (map (item_plan ordered) items)
      (item_nested i both.0 (All-head (ItemHas RowFits) i items fit) (All-head (ItemHas (Known names)) i items known))
      (items_nested items both.1 (All-tail (ItemHas RowFits) i items fit) (All-tail (ItemHas (Known names)) i items known))

  volume_nested : (regions : List HeldRegion) (v : StatedVolume) → all_among above (nest_in names v) ≡ true → VolumeHas RowFits ScopeFits v → VolumeHas (Known names) AnyScope v
      → VolumeFits (length above) (volume_plan ordered regions v)
  volume_nested regions v all fit known = record { erased = erased v fit.flags; name = fit.name; items = items_nested v.items all fit.items known.items }

none_some : {X Y : Type 0} {x : X} → None ≡ Some x → Y
none_some e = absurd cc

plan_nested : (names : List (List ℕ)) (regions : List HeldRegion) (above rest : List ℕ) (ordered : List (List ℕ)) → ordered ≡ map (λ p. get_or names p []) (above ++ rest)
    → (o : Option StatedVolume) → is_some o ≡ true → IfSome o (λ v. all_among above (nest_in names v) ≡ true) → IfSome o (VolumeHas RowFits ScopeFits) → IfSome o (VolumeHas (Known names) AnyScope)
    → (plans : List VolumePlan) → VolumesFit (length above + 1) plans → VolumesFit (length above) (plan_at ordered regions o ++ plans)
plan_nested names regions above rest ordered told None some all fit known plans later = absurd (both_ways false refl some)
plan_nested names regions above rest ordered told (Some v) some all fit known plans later = (volume_nested names above rest ordered told regions v all fit known, later)

nest_there : (names : List (List ℕ)) (above : List ℕ) (volumes : List StatedVolume) (p : ℕ) (o : Option StatedVolume) → slice_get volumes p ≡ o
    → all_among above (nest_of (map (nest_in names) volumes) p) ≡ true → IfSome o (λ v. all_among above (nest_in names v) ≡ true)
nest_there names above volumes p None e all = tt
nest_there names above volumes p (Some v) e all =
    subst (λ xs. all_among above xs ≡ true)
    (sym (unwrap_or-slice_get (map (nest_in names) volumes) p []) ∙ ap (λ o. unwrap_or o []) (slice_get-map (nest_in names) volumes p ∙ ap (option_map (nest_in names)) e)) all

some_there : {X : Type 0} (xs : List X) (p : ℕ) → p < length xs → is_some (slice_get xs p) ≡ true
some_there xs p l =
    elim (slice_get_cases xs p).1 [
      | inl found ↦ ap is_some found.2
      | inr past ↦ absurd (omega (arith, past.0, l))
    ]

pub plans_nested : (names : List (List ℕ)) (regions : List HeldRegion) (volumes : List StatedVolume) (ordered : List (List ℕ)) → All (VolumeHas RowFits ScopeFits) volumes → All (VolumeHas (Known names) AnyScope) volumes
    → (above order : List ℕ) → ordered ≡ map (λ p. get_or names p []) (above ++ order) → IsOrdered (map (nest_in names) volumes) above order → All (λ p. p < length volumes) order
    → VolumesFit (length above) (flat_map (λ p. plan_at ordered regions (slice_get volumes p)) order)
plans_nested names regions volumes ordered fit known above [] told h below = tt
plans_nested names regions volumes ordered fit known above (p ∷ order) told h below =
    let count : length (above ++ p ∷ []) ≡ length above + 1 = length-append above (p ∷ []) in
    plan_nested names regions above (p ∷ order) ordered told (slice_get volumes p) (some_there volumes p (All-head (λ q. q < length volumes) p order below))
    (nest_there names above volumes p (slice_get volumes p) refl h.0) (at_place (VolumeHas RowFits ScopeFits) volumes p (slice_get volumes p) refl fit)
    (at_place (VolumeHas (Known names) AnyScope) volumes p (slice_get volumes p) refl known) (flat_map (λ q. plan_at ordered regions (slice_get volumes q)) order)
    (subst (λ n. VolumesFit n (flat_map (λ q. plan_at ordered regions (slice_get volumes q)) order)) count
    (plans_nested names regions volumes ordered fit known (above ++ p ∷ []) order (told ∙ ap (map (λ q. get_or names q [])) (sym (append_assoc above (p ∷ []) order))) h.1
    (All-tail (λ q. q < length volumes) p order below)))
