-- What is read of lines without a fault has the shape of a platform.
use Rattle.std.proofs.Common.{◌≡◌, ◌∙◌, ◌++◌, Bool, true, false, if◌then◌else◌, ℕ, List, [], ◌∷◌, Option, Some, None, Result, Ok, refl, sym, ap, subst}
use Rattle.std.specs.List.{All, AllByRecursion, flat_map}
use Rattle.std.proofs.lemmas.Grind.{flat_map-append}
use Rattle.std.proofs.lemmas.List.Elements.{All-from_recursion}
use Rattle.build_base.specs.First.{or_fault, unless, first_of}
use Rattle.build_base.specs.FaultText.{fault_of}
use Rattle.build_base.specs.declared.guid.Guid.{Guid as GuidBytes}
use Rattle.build_base.specs.declared.fault.Fault.{Fault}
use Rattle.build_base.specs.declared.lines.Lines.{Lines}
use Rattle.doc_reading.specs.Grammar.{Read, entered, gave, first_fault, read_of, rows_of}
use Rattle.doc_types.specs.SkuWalks.{EndsAtDefault}
use Rattle.doc_types.specs.declared.arch.Arch.{Arch}
use Rattle.doc_types.specs.declared.platform.Component.{Component}
use Rattle.doc_types.specs.declared.platform.PlatformDoc.{PlatformDoc}
use Rattle.dsc_lines.specs.declared.rows.DscRow.{DscRow}
use Rattle.dsc_lines.specs.declared.rows.DscRow.TheVariants.{Key, Sku, Library, Pcd, Part}
use Rattle.dsc_lines.specs.declared.rows.SkuLine.{SkuLine}
use Rattle.dsc_lines.specs.declared.section.Scope.{Scope}
use Rattle.dsc_platform.specs.declared.sku_uses.SkuUse.{SkuUse}
use Rattle.dsc_platform.specs.declared.stated.Stated.{Stated}
use Rattle.dsc_platform.specs.Cutting.{components_of}
use Rattle.dsc_platform.specs.Platform.{dsc_grammar, skus_of, whole_fault, required, with_required, document_of, platform_made, platform_of}
use Rattle.dsc_platform.specs.Repeats.{repeats_fault}
use Rattle.dsc_lines.specs.SkuLines.{is_default}
use Rattle.dsc_platform.specs.SkuUses.{row_uses, uses_in, uses_of, is_known, unknown, standing_fault, uses_fault}
use Rattle.dsc_platform.specs.SkuWalks.{loops_fault}
use Rattle.dsc_platform.specs.Stating.{sku_in, nothing, with_rows, names_of}
use Rattle.dsc_platform.proofs.SkuEndLemmas.{ParentsKnown, none_of, true_false, all_end}
use Rattle.build_base.specs.FaultCodes.{SKU_UNKNOWN}

-- a name that is used stands among these
abbrev UseKnown : List (List ℕ) → SkuUse → Type 0
UseKnown names use_ = use_.chosen ≡ false → is_known names use_.text ≡ true

abbrev ParentKnown : List (List ℕ) → SkuLine → Type 0
ParentKnown names line = is_default line.sku.name ≡ false → is_known names line.sku.parent ≡ true

known_where : (t : Bool) (fault : Fault) → (if t then None else Some fault) ≡ None → t ≡ true
known_where true fault e = refl
known_where false fault e = absurd cc

-- no name is at fault
uses_known : (names : List (List ℕ)) (uses : List SkuUse) → uses_fault names uses ≡ None → AllByRecursion (UseKnown names) uses
uses_known names [] e = tt
uses_known names (use_ ∷ later) e =
    let both = none_of (standing_fault names use_ later) (uses_fault names later) e in
    (own both.0, uses_known names later both.1)
  where
    plain : use_.chosen ≡ false → standing_fault names use_ later ≡ unknown use_.at names use_.text
    plain c = rw c refl

    own : standing_fault names use_ later ≡ None → use_.chosen ≡ false → is_known names use_.text ≡ true
    own f c = known_where (is_known names use_.text) (fault_of SKU_UNKNOWN use_.at use_.text) (sym (plain c) ∙ f)

all_split : {X : Type 0} (P : X → Type 0) (xs ys : List X) → AllByRecursion P (xs ++ ys) → AllByRecursion P xs × AllByRecursion P ys
all_split P [] ys h = (tt, h)
all_split P (x ∷ xs) ys h = let rest = all_split P xs ys h.1 in ((h.0, rest.0), rest.1)

all_join : {X : Type 0} (P : X → Type 0) (xs ys : List X) → AllByRecursion P xs → AllByRecursion P ys → AllByRecursion P (xs ++ ys)
all_join P [] ys h k = k
all_join P (x ∷ xs) ys h k = (h.0, all_join P xs ys h.1 k)

-- a row
row_known : (names : List (List ℕ)) (row : DscRow) → AllByRecursion (UseKnown names) (row_uses row) → AllByRecursion (ParentKnown names) (sku_in row)
row_known names (Sku line) h = (own (is_default line.sku.name) refl h, tt)
  where
    own : (t : Bool) → is_default line.sku.name ≡ t → AllByRecursion (UseKnown names) (if t then [] else record { at = line.at; text = line.sku.parent; chosen = false } ∷ [])
        → is_default line.sku.name ≡ false → is_known names line.sku.parent ≡ true
    own true d k f = absurd (true_false (sym d ∙ f))
    own false d k f = k.0 refl
row_known names (Key key) h = tt
row_known names (Library library) h = tt
row_known names (Pcd pcd) h = tt
row_known names (Part part) h = tt

rows_known : (names : List (List ℕ)) (rows : List DscRow) → AllByRecursion (UseKnown names) (flat_map row_uses rows) → AllByRecursion (ParentKnown names) (flat_map sku_in rows)
rows_known names [] h = tt
rows_known names (row ∷ rows) h =
    let both = all_split (UseKnown names) (row_uses row) (flat_map row_uses rows) h in
    all_join (ParentKnown names) (sku_in row) (flat_map sku_in rows) (row_known names row both.0) (rows_known names rows both.1)

-- what the lines came to
reads_known : (names : List (List ℕ)) (reads : List (Read Scope DscRow)) → AllByRecursion (UseKnown names) (uses_of reads) → AllByRecursion (ParentKnown names) (flat_map sku_in (rows_of reads))
reads_known names [] h = tt
reads_known names (entered at scopes ∷ reads) h = reads_known names reads (all_split (UseKnown names) (uses_in (entered at scopes)) (uses_of reads) h).1
reads_known names (gave rows ∷ reads) h =
    let both = all_split (UseKnown names) (flat_map row_uses rows) (uses_of reads) h in
    subst (AllByRecursion (ParentKnown names)) (sym (flat_map-append sku_in rows (rows_of reads)))
    (all_join (ParentKnown names) (flat_map sku_in rows) (flat_map sku_in (rows_of reads)) (rows_known names rows both.0) (reads_known names reads both.1))

sound_lines : (fault : Option Fault) (outcome : Result PlatformDoc Fault) (document : PlatformDoc) → or_fault fault outcome ≡ Ok document → outcome ≡ Ok document
sound_lines None outcome document e = e
sound_lines (Some fault) outcome document e = absurd cc

sound_whole : (fault : Option Fault) (value document : PlatformDoc) → unless fault value ≡ Ok document → (fault ≡ None) × (value ≡ document)
sound_whole None value document e = (refl, cc)
sound_whole (Some fault) value document e = absurd cc

-- a document that is made
of_required : (lines : Lines) (stated : Stated) (components : List Component) (uses : List SkuUse) (name : Option (List ℕ)) (guid : Option GuidBytes) (arches : Option (List Arch)) (document : PlatformDoc)
    → required lines stated components uses name guid arches ≡ Ok document → (whole_fault stated.skus components uses ≡ None) × (document.skus ≡ skus_of stated.skus)
of_required lines stated components uses None guid arches document e = absurd cc
of_required lines stated components uses (Some name) None arches document e = absurd cc
of_required lines stated components uses (Some name) (Some guid) None document e = absurd cc
of_required lines stated components uses (Some name) (Some guid) (Some arches) document e =
    let both = sound_whole (whole_fault stated.skus components uses)
    (with_required lines stated.keys.options stated.skus stated.libraries stated.pcds components name guid arches) document e in
    (both.0, ap (λ d. d.skus) (sym both.1))

of_reads : (lines : Lines) (reads : List (Read Scope DscRow)) (document : PlatformDoc) → platform_made lines reads ≡ Ok document → All (λ sku. EndsAtDefault document.skus sku.name) document.skus
unfolding platform_made document_of
of_reads lines reads document e =
    let stated = with_rows nothing (rows_of reads) in
    let made = of_required lines stated (components_of reads) (uses_of reads) stated.keys.name stated.keys.guid stated.keys.arches document e in
    let rest = none_of (repeats_fault (components_of reads)) (first_of (uses_fault (names_of stated.skus) (uses_of reads) ∷ loops_fault stated.skus ∷ [])) made.0 in
    let uses = none_of (uses_fault (names_of stated.skus) (uses_of reads)) (first_of (loops_fault stated.skus ∷ [])) rest.1 in
    let loops = none_of (loops_fault stated.skus) None uses.1 in
    let known : ParentsKnown stated.skus =
    All-from_recursion (ParentKnown (names_of stated.skus)) stated.skus (reads_known (names_of stated.skus) reads (uses_known (names_of stated.skus) (uses_of reads) uses.0)) in
    subst (λ skus. All (λ sku. EndsAtDefault skus sku.name) skus) (sym made.1) (all_end stated.skus known loops.0)

-- each SKU's walk by parents ends at DEFAULT
pub skus_end : (lines : Lines) (document : PlatformDoc) → platform_of lines ≡ Ok document → All (λ sku. EndsAtDefault document.skus sku.name) document.skus
unfolding platform_of
skus_end lines document e =
    let reads = read_of dsc_grammar lines.rows in
    of_reads lines reads document (sound_lines (first_fault dsc_grammar lines.rows) (platform_made lines reads) document e)
