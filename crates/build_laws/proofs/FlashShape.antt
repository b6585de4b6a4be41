-- The flash description of a world has its shape, and what follows for what its numbers name.
use Rattle.std.proofs.Common.{◌≡◌, ℕ, zero, suc, ◌+◌, ◌≤◌, ◌<◌, ◌&&◌, Bool, true, false, List, [], ◌∷◌, length, map, slice_get, Option, Some, None, Result, Ok, Err, IfOk, All, refl, ap, subst, arith}
use Rattle.std.specs.Option.{IfSome}
use Rattle.std.proofs.lemmas.Bool.Decides.{nat_tests}
use Rattle.std.proofs.lemmas.List.Elements.{All-nil, All-head, All-tail}
use Rattle.build_base.specs.First.{and_then, unless}
use Rattle.build_base.specs.World.{World, field}
use Rattle.build_base.specs.declared.fault.Fault.{Fault}
use Rattle.build_base.specs.declared.lines.Lines.{Lines}
use Rattle.build_base.specs.declared.lines.Taken.{Taken}
use Rattle.doc_reading.specs.Grammar.{Read, entered, gave, first_fault, read_of}
use Rattle.doc_types.specs.declared.flash.DevicePlan.{DevicePlan}
use Rattle.doc_types.specs.declared.flash.FlashDoc.{FlashDoc}
use Rattle.doc_types.specs.declared.flash.Region.{Region}
use Rattle.doc_types.specs.declared.flash.RegionKind.{RegionKind}
use Rattle.doc_types.specs.declared.flash.RegionKind.TheVariants as kind
use Rattle.doc_types.specs.declared.platform.PlatformDoc.{PlatformDoc}
use Rattle.doc_types.specs.declared.volume.FilePlan.{FilePlan}
use Rattle.doc_types.specs.declared.volume.Item.{Item}
use Rattle.doc_types.specs.declared.volume.Item.TheVariants as item
use Rattle.doc_types.specs.declared.volume.SectionPlan.{SectionPlan}
use Rattle.doc_types.specs.declared.volume.SectionSource.{SectionSource}
use Rattle.doc_types.specs.declared.volume.SectionSource.TheVariants as source
use Rattle.doc_types.specs.declared.volume.VolumePlan.{VolumePlan}
use Rattle.fdf_lines.specs.Counts.{saturated, heads_above, statements_here}
use Rattle.fdf_lines.specs.Grammar.{flash_grammar, rows_of_flash}
use Rattle.fdf_lines.specs.Limits.{WithinLimits}
use Rattle.fdf_lines.specs.Reads.{reads_as}
use Rattle.fdf_lines.specs.Standing.{marks_below, volume_below}
use Rattle.fdf_lines.specs.declared.section.FlashSection.TheVariants.{Device, Volume, Rule}
use Rattle.fdf_lines.proofs.LimitLemmas.{within_held}
use Rattle.fdf_words.specs.declared.rows.Row.{Row}
use Rattle.fdf_words.specs.declared.rows.Scope.{Scope}
use Rattle.flash_document.specs.Flash.{line_of, flash_of}
use Rattle.flash_document.specs.Shape.{KindFits, RegionFits, DeviceFits, SourceFits, SectionFits, ItemFits, VolumeFits, VolumesFit, FewItems, HasShape}
use Rattle.flash_document.proofs.CarryLemmas.{at_place}
use Rattle.flash_document.proofs.ShapeLemmas.{shape_of}
use Rattle.file_steps.specs.Asks.{source_below, sections_below}
use Rattle.step_answers.specs.Volumes.{fits_u16, item_of_number, volume_at}
use Rattle.volume_steps.specs.Asks.{kind_below, regions_below}
use Rattle.file_steps.specs.FileTrees.{item_at}
use Rattle.volume_steps.specs.VolumeTrees.{device_at}
use Rattle.document_steps.specs.Trees.{empty_flash}
use Rattle.build_rules.specs.Values.{job_macros, lines_in, platform_value, flash_file, flash_of_file, flash_value}

-- What lines come to is within the limits.

lines_again : (reads : List (Read Scope Row)) → reads_as (map line_of reads) ≡ reads
lines_again [] = refl
lines_again (entered at scopes ∷ reads) = ap (λ rs. entered at scopes ∷ rs) (lines_again reads)
lines_again (gave rows ∷ reads) = ap (λ rs. gave rows ∷ rs) (lines_again reads)

-- the lines of any reader that holds them are
faultless_within : (lines : List Taken) (fault : Option Fault) → first_fault flash_grammar lines ≡ fault → IfOk (unless fault (read_of flash_grammar lines)) WithinLimits
faultless_within lines None e =
    let reads = read_of flash_grammar lines in
    subst WithinLimits (lines_again reads)
    (within_held lines
    (record {
      alloc = record { memory = record { seal = tt } };
      reads = map line_of reads;
      marks = marks_below reads;
      volume = volume_below reads;
      statements = saturated (statements_here reads);
      devices = saturated (heads_above Device reads);
      volumes = saturated (heads_above Volume reads);
      rules = saturated (heads_above Rule reads);
    })
    e
    (record { reads = lines_again reads; marks = refl; volume = refl; statements = refl; devices = refl; volumes = refl; rules = refl }))
faultless_within lines (Some fault) e = tt

rows_within : (lines : List Taken) → IfOk (rows_of_flash lines) WithinLimits
unfolding rows_of_flash
rows_within lines = faultless_within lines (first_fault flash_grammar lines) refl

-- The flash description of a world.

lines_shape : (lines : Result Lines Fault) (flash : FlashDoc) → and_then lines flash_of ≡ Ok flash → HasShape flash
lines_shape (Ok lines) flash e = shape_of lines (Ok flash) e (rows_within lines.rows)
lines_shape (Err fault) flash e = absurd cc

empty_shape : (platform : PlatformDoc) → HasShape (empty_flash platform)
empty_shape platform =
    record {
      volumes = All-nil _;
      regions = All-nil _;
      nested = tt;
      names = All-nil _;
      rules = All-nil _;
      device_count = omega arith;
      volume_count = omega arith;
      rule_count = omega arith;
      items = All-nil _;
      files = All-nil _;
      rule_sources = All-nil _;
    }

file_shape : (w : World) (platform : PlatformDoc) (file : Option (List ℕ)) (flash : FlashDoc) → flash_of_file w platform file ≡ Ok flash → HasShape flash
file_shape w platform None flash e = subst (λ (r : Result FlashDoc Fault). IfOk r HasShape) e (empty_shape platform)
file_shape w platform (Some path) flash e = lines_shape (lines_in w path platform.macros (job_macros w)) flash e

platform_shape : (w : World) (platform : Result PlatformDoc Fault) (flash : FlashDoc)
    → and_then platform (λ platform. flash_of_file w platform (flash_file platform.flash (field w 7))) ≡ Ok flash → HasShape flash
platform_shape w (Ok platform) flash e = file_shape w platform (flash_file platform.flash (field w 7)) flash e
platform_shape w (Err fault) flash e = absurd cc

pub flash_shape : (w : World) (flash : FlashDoc) → flash_value w ≡ Ok flash → HasShape flash
unfolding flash_value
flash_shape w flash e = platform_shape w (platform_value w) flash e

-- What its numbers name.

pub both_true : (a b : Bool) → a ≡ true → b ≡ true → (a && b) ≡ true
both_true true b h k = k
both_true false b h k = absurd cc

number_names : {A : Type 0} (flash : FlashDoc) (found : Option A) (x : A) → item_of_number flash found ≡ Ok x → found ≡ Some x
number_names flash (Some y) x e = let same : y ≡ x = cc in ap Some same
number_names flash None x e = absurd cc

pub named_has : {A : Type 0} (P : A → Type 0) (flash : FlashDoc) (xs : List A) (n : ℕ) (x : A) → item_of_number flash (slice_get xs n) ≡ Ok x → All P xs → P x
named_has P flash xs n x e all =
    let found : slice_get xs n ≡ Some x = number_names flash (slice_get xs n) x e in
    at_place P xs n (Some x) found all

fits_16 : (n : ℕ) → n ≤ 65535 → fits_u16 n ≡ true
fits_16 n few = grind (arith, nat_tests)

pub items_fit : (flash : FlashDoc) (v : ℕ) (plan : VolumePlan) → HasShape flash → volume_at flash v ≡ Ok plan → fits_u16 (length plan.items) ≡ true
items_fit flash v plan shape e = fits_16 (length plan.items) (named_has FewItems flash flash.volumes v plan e shape.items)

-- the regions of a device

kind_fits : (count : ℕ) (k : RegionKind) → count ≤ 65535 → KindFits count k → kind_below k ≡ true
kind_fits count kind.Empty few h = refl
kind_fits count (kind.Bytes bytes) few h = refl
kind_fits count (kind.Tree path) few h = refl
kind_fits count (kind.Volume n) few h =
    let low : n < count = h in
    let below : n ≤ 65535 = omega arith in
    fits_16 n below

all_regions : (count : ℕ) (regions : List Region) → count ≤ 65535 → All (RegionFits count) regions → regions_below regions ≡ true
all_regions count [] few all = refl
all_regions count (region ∷ regions) few all =
    both_true (kind_below region.kind) (regions_below regions) (kind_fits count region.kind few (All-head (RegionFits count) region regions all))
    (all_regions count regions few (All-tail (RegionFits count) region regions all))

pub regions_fit : (flash : FlashDoc) (d : ℕ) (plan : DevicePlan) → HasShape flash → device_at flash d ≡ Ok plan → regions_below plan.regions ≡ true
regions_fit flash d plan shape e =
    all_regions (length flash.volumes) plan.regions shape.volume_count (named_has (DeviceFits (length flash.volumes)) flash flash.devices d plan e shape.regions)

-- how many images there are
pub counts_fit : (flash : FlashDoc) → HasShape flash → (fits_u16 (length flash.volumes) && fits_u16 (length flash.devices)) ≡ true
counts_fit flash shape =
    both_true (fits_u16 (length flash.volumes)) (fits_u16 (length flash.devices)) (fits_16 (length flash.volumes) shape.volume_count) (fits_16 (length flash.devices) shape.device_count)

-- the sections of a file

volume_fits : (first : ℕ) (plans : List VolumePlan) (n : ℕ) (plan : VolumePlan) → VolumesFit first plans → slice_get plans n ≡ Some plan → VolumeFits (first + n) plan
volume_fits first [] n plan fit e = absurd cc
volume_fits first (p ∷ plans) zero plan fit e =
    let none : first ≡ first + 0 = omega arith in
    subst (λ k. VolumeFits k plan) none (subst (λ o. IfSome o (VolumeFits first)) e fit.0)
volume_fits first (p ∷ plans) (suc n) plan fit e =
    let next : first + 1 + n ≡ first + suc n = omega arith in
    subst (λ k. VolumeFits k plan) next (volume_fits (first + 1) plans n plan fit.1 e)

source_fits : (v : ℕ) (s : SectionSource) → SourceFits v s → source_below v s ≡ true
source_fits v (source.Tree path) h = refl
source_fits v (source.Template text) h = refl
source_fits v (source.Volume n) h =
    let low : n < v = h in
    grind (arith, nat_tests)
source_fits v (source.Words text) h = refl
source_fits v (source.Refused text) h = refl

all_sections : (v : ℕ) (sections : List SectionPlan) → All (SectionFits v) sections → sections_below v sections ≡ true
all_sections v [] all = refl
all_sections v (section ∷ sections) all =
    both_true (source_below v section.source) (sections_below v sections) (source_fits v section.source (All-head (SectionFits v) section sections all).nested)
    (all_sections v sections (All-tail (SectionFits v) section sections all))

pub item_fits : (flash : FlashDoc) (v i : ℕ) (plan : VolumePlan) (it : Item) → HasShape flash → volume_at flash v ≡ Ok plan → item_at flash plan i ≡ Ok it → ItemFits v it
item_fits flash v i plan it shape e f =
    let fit : VolumeFits (0 + v) plan = volume_fits 0 flash.volumes v plan shape.nested (number_names flash (slice_get flash.volumes v) plan e) in
    let same : 0 + v ≡ v = omega arith in
    let here : VolumeFits v plan = subst (λ n. VolumeFits n plan) same fit in
    named_has (ItemFits v) flash plan.items i it f here.items

pub sections_fit : (v : ℕ) (plan : FilePlan) → ItemFits v (item.File plan) → sections_below v plan.sections ≡ true
sections_fit v plan fit = all_sections v plan.sections fit
