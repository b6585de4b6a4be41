-- The rows of dynamic PCDs (EDK II DSC specification, PCD sections and SKU identifiers).
use Rattle.std.specs.Prelude.{ℕ, ◌+◌, Bool, true, false, ◌&&◌, ◌||◌, not, nat_lt, ◌^◌, if◌then◌else◌, List, [], ◌∷◌, ◌++◌, length, map, filter, Option, Some, None, Result, Ok, codes}
use Rattle.std.specs.List.{All, flat_map, list_any}
use Rattle.std.specs.Str.{bytes_eq}
use Rattle.build_base.specs.First.{or_else, or_fault, and_then, first_of}
use Rattle.build_base.specs.FaultText.{fault_of}
use Rattle.build_base.specs.declared.fault.Fault.{Fault}
use Rattle.build_base.specs.declared.fault.Place.{Place}
use Rattle.meta_lexer.specs.Faults.{first_fault}
use Rattle.meta_lexer.specs.Numbers.{number_of}
use Rattle.meta_lexer.specs.Parts.{field_texts}
use Rattle.meta_lexer.specs.Words.{same_word}
use Rattle.doc_types.specs.declared.arch.Arch.{Arch}
use Rattle.doc_types.specs.declared.asks.PlatformAsk.{PlatformAsk}
use Rattle.doc_types.specs.declared.platform.Component.{Component}
use Rattle.doc_types.specs.declared.package.DecPcd.{DecPcd}
use Rattle.doc_types.specs.declared.parts.ModuleParts.{ModuleParts}
use Rattle.doc_types.specs.declared.pcd.Datum.{Datum}
use Rattle.doc_types.specs.declared.pcd.Kind.{Kind}
use Rattle.doc_types.specs.declared.platform.Store.{Store}
use Rattle.doc_types.specs.declared.platform.Store.TheVariants.{Vpd}
use Rattle.doc_types.specs.declared.pcd.PcdSet.{PcdSet}
use Rattle.doc_types.specs.declared.platform.PlatformDoc.{PlatformDoc}
use Rattle.doc_types.specs.declared.platform.Sku.{Sku}
use Rattle.doc_types.specs.declared.values.PcdRow.{PcdRow}
use Rattle.doc_types.specs.declared.values.SkuRow.{SkuRow}
use Rattle.doc_types.specs.declared.values.Values.{Values}
use Rattle.doc_types.specs.SkuWalks.{EndsAtDefault}
use Rattle.pcd_values.specs.Skus.{value_within}
use Rattle.pcd_ranks.specs.Names.{covers, is_common, is_void, is_dynamic}
use Rattle.pcd_ranks.specs.Listing.{Use, Stated, uses_in, uses_of, stated_in, stated_for, declared_in}
use Rattle.pcd_resolve.specs.Kinds.{of_kind, head_of}
use Rattle.pcd_resolve.specs.Faults.{checked_kind}
use Rattle.pcd_ranks.specs.Assignments.{Assignment, by_declaration, by_line, by_set, sets_of, value_from}
use Rattle.pcd_resolve.specs.Rows.{row_of, names_of, all_rows, joined}
use Rattle.build_base.specs.FaultCodes.{BAD_VALUE, SKU_UNKNOWN}

-- the SKUs that are wanted: those of the words, else those of SKUID_IDENTIFIER
abbrev pub wanted : List (List ℕ) → List ℕ → List (List ℕ)
wanted [] choice = field_texts choice
wanted (name ∷ names) choice = name ∷ names

-- ALL alone stands for every SKU
abbrev pub is_all : List (List ℕ) → Bool
is_all (name ∷ []) = same_word name (codes "ALL")
is_all names = false

abbrev pub is_chosen : List (List ℕ) → Sku → Bool
is_chosen names sku = is_all names || bytes_eq sku.name (codes "DEFAULT")
    || list_any (λ name. bytes_eq name sku.name) names

-- the chosen SKUs, in the order of [SkuIds]; DEFAULT is always chosen
unfoldable pub chosen : PlatformAsk → List Sku
chosen ask = filter (is_chosen (wanted ask.skus ask.platform.sku_choice)) ask.platform.skus

abbrev pub sku_unknown : PlatformDoc → List ℕ → Option Fault
sku_unknown platform name = if list_any (λ sku. bytes_eq sku.name name) platform.skus then None
    else Some (fault_of SKU_UNKNOWN platform.at name)

-- SkuUnknown: the words choose a SKU that the platform doesn't have
unfoldable pub words_fault : PlatformAsk → Option Fault
words_fault ask = if is_all ask.skus then None else first_fault (sku_unknown ask.platform) ask.skus

abbrev pub is_outside : Option Component → Bool
is_outside None = true
is_outside (Some home) = false

-- a line of a section counts where its architecture is common or a built one
unfoldable pub counts : List Arch → Stated → Bool
counts arches stated = is_outside stated.home
    && (is_common stated.line.arch || list_any (λ arch. covers stated.line.arch arch) arches)

-- BadValue of a VPD line: two further fields of another type than VOID*, or a maximum that is no
-- number below 2^32
abbrev pub too_great : Option ℕ → Bool
too_great None = true
too_great (Some n) = not (nat_lt n (2 ^ 32))

abbrev pub is_some_number : Option ℕ → Bool
is_some_number None = false
is_some_number (Some n) = true

abbrev pub bad_rest : Datum → List (List ℕ) → Bool
bad_rest datum [] = false
bad_rest datum (field ∷ []) = is_void datum && is_some_number (number_of field)
    && too_great (number_of field)
bad_rest datum (max ∷ value ∷ more) = not (is_void datum) || too_great (number_of max)

abbrev pub rest_fault : Place → Datum → List (List ℕ) → Option Fault
rest_fault at datum [] = None
rest_fault at datum (field ∷ more) = if bad_rest datum (field ∷ more)
    then Some (fault_of BAD_VALUE at field) else None

abbrev pub store_fault : Place → Datum → Store → Option Fault
store_fault at datum (Vpd offset rest) = rest_fault at datum rest
store_fault at datum store = None

unfoldable pub vpd_fault : Datum → Stated → Option Fault
vpd_fault datum stated = store_fault stated.line.at datum stated.line.store

-- the default of the declaration counts for the SKU DEFAULT
abbrev pub default_for : DecPcd → List ℕ → List Assignment
default_for line sku = if bytes_eq sku (codes "DEFAULT") then by_declaration line ∷ [] else []

-- the assignments of a PCD for a SKU: its own lines, and the sets, which apply to every SKU
unfoldable pub sku_assignments : DecPcd → List Stated → List PcdSet → List ℕ → List Assignment
sku_assignments line lines sets sku =
    default_for line sku ++ map (by_line line.datum)
    (filter (λ stated. bytes_eq stated.line.sku sku) lines) ++ map by_set sets

abbrev pub named_if : List ℕ → Option Assignment → List SkuRow
named_if sku None = []
named_if sku (Some taken) = record { sku = sku; value = sku } ∷ []

-- the SKUs that have a value of their own, each with its name in the place of the value
unfoldable pub own_value_rows : DecPcd → List Stated → List PcdSet → List Sku → List SkuRow
own_value_rows line lines sets skus =
    flat_map (λ sku. named_if sku.name (value_from (sku_assignments line lines sets sku.name))) skus

-- the SKU whose value a SKU takes
unfoldable pub source : DecPcd → List Stated → List PcdSet → List Sku → List ℕ → Option (List ℕ)
source line lines sets skus sku =
    value_within (own_value_rows line lines sets skus) skus sku (length skus + 1)

abbrev pub row_by_source : Kind → DecPcd → List Stated → List PcdSet → List ℕ → Option (List ℕ)
    → Result (List PcdRow) Fault
row_by_source kind line lines sets sku None = Ok []
row_by_source kind line lines sets sku (Some from) =
    row_of kind line sku (sku_assignments line lines sets from)

-- the rows of a dynamic PCD, one for each chosen SKU
unfoldable pub dynamic_rows : Kind → DecPcd → List Stated → List PcdSet → List Sku → List Sku
    → Result (List PcdRow) Fault
dynamic_rows kind line lines sets skus picked =
    or_fault (first_fault (vpd_fault line.datum) lines)
    (all_rows
    (map (λ sku. row_by_source kind line lines sets sku.name
    (source line lines sets skus sku.name)) picked))

abbrev pub rows_declared : PlatformAsk → List Stated → List PcdSet → Kind → Option DecPcd
    → Result (List PcdRow) Fault
rows_declared ask lines sets kind None = Ok []
rows_declared ask lines sets kind (Some line) =
    dynamic_rows kind line (filter (counts ask.arches) lines) sets ask.platform.skus (chosen ask)

-- The line that gives a PCD of modules its type and its token: the first one of the kind, module by
-- module, else the first one.
unfoldable pub declaration_among : Kind → List ℕ → List ModuleParts → Option DecPcd
declaration_among kind pcd modules =
    or_else (first_of (map (λ parts. of_kind kind (declared_in parts pcd)) modules))
    (first_of (map (λ parts. head_of (declared_in parts pcd)) modules))

abbrev pub rows_by : PlatformAsk → List ℕ → List Stated → List PcdSet → Option Kind
    → Result (List PcdRow) Fault
rows_by ask pcd lines sets None = Ok []
rows_by ask pcd lines sets (Some kind) =
    if is_dynamic kind then rows_declared ask lines sets kind
    (declaration_among kind pcd ask.modules) else Ok []

abbrev pub platform_sets : PlatformAsk → List PcdSet
platform_sets ask = ask.commands ++ ask.flash.sets

-- the rows of one PCD, or its first fault
unfoldable pub rows_at : PlatformAsk → List Use → List Stated → List ℕ → Result (List PcdRow) Fault
rows_at ask uses lines pcd =
    and_then (checked_kind pcd (uses_of pcd uses) (stated_for pcd lines))
    (rows_by ask pcd (stated_for pcd lines) (sets_of pcd (platform_sets ask)))

-- the rows of the dynamic PCDs, PCD by PCD, or the first fault
unfoldable pub platform_values : PlatformAsk → Result Values Fault
platform_values ask =
    or_fault (words_fault ask)
    (joined
    (all_rows (map (rows_at ask (uses_in ask.modules) (stated_in ask.platform))
    (names_of (uses_in ask.modules)))))

-- each SKU's walk by parents ends at DEFAULT
abbrev pub SkusEnd : List Sku → Type 0
SkusEnd skus = All (λ sku. EndsAtDefault skus sku.name) skus
