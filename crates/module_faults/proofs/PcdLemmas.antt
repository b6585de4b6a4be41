-- The rows of PCDs fail by names.
use Rattle.std.specs.Prelude.{codes, filter}
use Rattle.std.specs.List.{list_any}
use Rattle.std.specs.Str.{bytes_eq}
use Rattle.std.proofs.Common.{ℕ, nat_lt, not, ◌&&◌, ◌||◌, List, [], ◌∷◌, length, map, Option, Some, None, Result, Ok, Err}
use Rattle.build_base.specs.FaultCodes.{BAD_VALUE, DATUM_CONFLICT, DYNAMIC_IN_COMPONENT, KIND_ASKED, KIND_CONFLICT, NOT_DECLARED, SKU_ON_FIXED, SKU_UNKNOWN}
use Rattle.build_base.specs.FaultText.{fault_of}
use Rattle.build_base.specs.declared.fault.Fault.{Fault}
use Rattle.build_base.specs.declared.fault.Place.{Place}
use Rattle.meta_lexer.specs.Faults.{first_fault}
use Rattle.doc_types.specs.Pcds.{full_name}
use Rattle.doc_types.specs.declared.asks.ModuleAsk.{ModuleAsk}
use Rattle.doc_types.specs.declared.asks.PlatformAsk.{PlatformAsk}
use Rattle.doc_types.specs.declared.choice.Module.{Module}
use Rattle.doc_types.specs.declared.package.DecPcd.{DecPcd}
use Rattle.doc_types.specs.declared.pcd.Datum.{Datum}
use Rattle.doc_types.specs.declared.pcd.Kind.{Kind}
use Rattle.doc_types.specs.declared.pcd.PcdSet.{PcdSet}
use Rattle.doc_types.specs.declared.platform.PlatformDoc.{PlatformDoc}
use Rattle.doc_types.specs.declared.platform.Sku.{Sku}
use Rattle.doc_types.specs.declared.platform.Store.{Store}
use Rattle.doc_types.specs.declared.platform.Store.TheVariants as store
use Rattle.doc_types.specs.declared.values.PcdRow.{PcdRow}
use Rattle.pcd_values.specs.Parsing.{parsed}
use Rattle.pcd_ranks.specs.Names.{is_void, is_dynamic, same_kind}
use Rattle.pcd_ranks.specs.Listing.{Use, Stated, uses_in, uses_of, uses_of_module, stated_in, stated_for, declared_in}
use Rattle.pcd_ranks.specs.Assignments.{Assignment, assignments, sets_of, value_from, max_from}
use Rattle.pcd_resolve.specs.Faults.{nothing, not_declared, datum_text, is_against, datum_fault, datum_conflict, is_inside, dynamic_in_component, sku_on_fixed, kind_conflict, asks_other, kind_asked, kind_faults, faults_of_kind, pcd_fault, checked_kind}
use Rattle.pcd_resolve.specs.Kinds.{asked_kind, has_kind, Claim, claims, kind_of, declaration}
use Rattle.pcd_resolve.specs.Platform.{is_all, sku_unknown, words_fault, bad_rest, rest_fault, store_fault, vpd_fault, sku_assignments, source, row_by_source, dynamic_rows, rows_declared, declaration_among, rows_by, platform_sets, rows_at, platform_values, counts, chosen}
use Rattle.pcd_resolve.specs.Rows.{stated_max, void_max, maximum, row_by, row_from, row_of, rows_named, fixed_row, rows_by_kind, rows_of, names_of, all_rows, joined, sets_in, rows_in, module_values}
use Rattle.named_faults.specs.Named.{IsNamed, FailsByName}
use Rattle.named_faults.proofs.NamedLemmas.{if_named, if_fails, first_named, then_fails, or_fault_fails, front_fails, fault_if_named, fault_unless_named}
use Rattle.named_faults.proofs.CodeLemmas.{bad_value_named, datum_conflict_named, does_not_fit_named, dynamic_in_component_named, kind_asked_named, kind_conflict_named, not_declared_named, sku_on_fixed_named, sku_unknown_named}
use Rattle.text_faults.proofs.PartLemmas.{first_fault_named}
use Rattle.module_faults.proofs.ValueLemmas.{parsed_fails}

-- The faults that are none of a value.

declared_named : (used : Use) → IsNamed (not_declared used)
unfolding not_declared
declared_named used = fault_if_named (nothing used.own) (fault_of NOT_DECLARED used.line.at (full_name used.line.pcd)) not_declared_named

datum_named : (kind : Kind) (uses : List Use) (stated : Stated) (datum : Option Datum) → IsNamed (datum_fault kind uses stated datum)
datum_named kind uses stated None = record {}
datum_named kind uses stated (Some datum) = fault_if_named (list_any (is_against kind datum stated) uses) (fault_of DATUM_CONFLICT stated.line.at (datum_text datum)) datum_conflict_named

conflict_named : (kind : Kind) (uses : List Use) (stated : Stated) → IsNamed (datum_conflict kind uses stated)
unfolding datum_conflict
conflict_named kind uses stated = datum_named kind uses stated stated.line.datum

component_named : (stated : Stated) → IsNamed (dynamic_in_component stated)
unfolding dynamic_in_component
component_named stated = fault_if_named (is_inside stated.home && is_dynamic stated.line.kind) (fault_of DYNAMIC_IN_COMPONENT stated.line.at (full_name stated.line.pcd)) dynamic_in_component_named

fixed_named : (stated : Stated) → IsNamed (sku_on_fixed stated)
unfolding sku_on_fixed
fixed_named stated =
    fault_if_named (not (is_dynamic stated.line.kind) && not (bytes_eq stated.line.sku (codes "DEFAULT"))) (fault_of SKU_ON_FIXED stated.line.at (full_name stated.line.pcd)) sku_on_fixed_named

kind_named : (pcd : List ℕ) (kind : Kind) (claim : Claim) → IsNamed (kind_conflict pcd kind claim)
unfolding kind_conflict
kind_named pcd kind claim = fault_unless_named (same_kind claim.kind kind) (fault_of KIND_CONFLICT claim.at pcd) kind_conflict_named

asked_named : (kind : Kind) (used : Use) → IsNamed (kind_asked kind used)
unfolding kind_asked
asked_named kind used =
    fault_if_named (asks_other kind (asked_kind used.line.asked) || not (has_kind used.own kind)) (fault_of KIND_ASKED used.line.at (full_name used.line.pcd)) kind_asked_named

kinds_named : (pcd : List ℕ) (uses : List Use) (lines : List Stated) (kind : Kind) → IsNamed (kind_faults pcd uses lines kind)
unfolding kind_faults
kinds_named pcd uses lines kind =
    first_named
    (first_fault (datum_conflict kind uses) lines ∷ first_fault dynamic_in_component lines ∷ first_fault sku_on_fixed lines
    ∷ first_fault (kind_conflict pcd kind) (claims uses lines) ∷ first_fault (kind_asked kind) uses ∷ []) (
      first_fault_named (datum_conflict kind uses) lines (conflict_named kind uses),
      (
        first_fault_named dynamic_in_component lines component_named,
        (
          first_fault_named sku_on_fixed lines fixed_named,
          (first_fault_named (kind_conflict pcd kind) (claims uses lines) (kind_named pcd kind), (first_fault_named (kind_asked kind) uses (asked_named kind), record {})),
        ),
      ),
    )

of_kind_named : (pcd : List ℕ) (uses : List Use) (lines : List Stated) (kind : Option Kind) → IsNamed (faults_of_kind pcd uses lines kind)
of_kind_named pcd uses lines None = record {}
of_kind_named pcd uses lines (Some kind) = kinds_named pcd uses lines kind

pcd_named : (pcd : List ℕ) (uses : List Use) (lines : List Stated) → IsNamed (pcd_fault pcd uses lines)
unfolding pcd_fault
pcd_named pcd uses lines =
    first_named (first_fault not_declared uses ∷ faults_of_kind pcd uses lines (kind_of (claims uses lines)) ∷ [])
    (first_fault_named not_declared uses declared_named, (of_kind_named pcd uses lines (kind_of (claims uses lines)), record {}))

checked_fails : (pcd : List ℕ) (uses : List Use) (lines : List Stated) → FailsByName (checked_kind pcd uses lines)
unfolding checked_kind
checked_fails pcd uses lines = or_fault_fails (pcd_fault pcd uses lines) (Ok (kind_of (claims uses lines))) (pcd_named pcd uses lines) (λ e. record {})

-- Rows.

void_fails : (taken : Assignment) (text bytes : List ℕ) (stated : Option ℕ) → FailsByName (void_max taken text bytes stated)
void_fails taken text bytes None = record {}
void_fails taken text bytes (Some max) = if_fails (nat_lt max (length bytes)) _ _ does_not_fit_named (record {})

maximum_fails : (datum : Datum) (taken : Assignment) (text bytes : List ℕ) (stated : Option ℕ) → FailsByName (maximum datum taken text bytes stated)
unfolding maximum
maximum_fails datum taken text bytes stated = if_fails (is_void datum) _ _ (void_fails taken text bytes stated) (record {})

given_fails : (kind : Kind) (line : DecPcd) (sku : List ℕ) (all : List Assignment) (taken : Assignment) (value : Option (List ℕ)) → FailsByName (row_by kind line sku all taken value)
given_fails kind line sku all taken None = record {}
given_fails kind line sku all taken (Some text) =
    then_fails (parsed taken.at text line.datum) _ (parsed_fails taken.at text line.datum)
    (λ bytes e. then_fails (maximum line.datum taken text bytes (stated_max (max_from all))) _ (maximum_fails line.datum taken text bytes (stated_max (max_from all))) (λ max e. record {}))

from_fails : (kind : Kind) (line : DecPcd) (sku : List ℕ) (all : List Assignment) (found : Option Assignment) → FailsByName (row_from kind line sku all found)
from_fails kind line sku all None = record {}
from_fails kind line sku all (Some taken) = given_fails kind line sku all taken taken.value

row_fails : (kind : Kind) (line : DecPcd) (sku : List ℕ) (all : List Assignment) → FailsByName (row_of kind line sku all)
unfolding row_of
row_fails kind line sku all = from_fails kind line sku all (value_from all)

all_fail : {X : Type 0} (f : X → Result (List PcdRow) Fault) (xs : List X) → ((x : X) → FailsByName (f x)) → FailsByName (all_rows (map f xs))
all_fail f [] n = record {}
all_fail f (x ∷ xs) n = then_fails (f x) _ (n x) (λ front e. front_fails front (all_rows (map f xs)) (all_fail f xs n))

joined_fails : (found : Result (List PcdRow) Fault) → FailsByName found → FailsByName (joined found)
joined_fails (Ok rows) n = record {}
joined_fails (Err fault) n = n

-- The rows of dynamic PCDs.

rest_named : (at : Place) (datum : Datum) (rest : List (List ℕ)) → IsNamed (rest_fault at datum rest)
rest_named at datum [] = record {}
rest_named at datum (field ∷ more) = fault_if_named (bad_rest datum (field ∷ more)) (fault_of BAD_VALUE at field) bad_value_named

store_named : (at : Place) (datum : Datum) (s : Store) → IsNamed (store_fault at datum s)
store_named at datum (store.Vpd offset rest) = rest_named at datum rest
store_named at datum store.Plain = record {}
store_named at datum (store.Hii variable guid offset attributes) = record {}

vpd_named : (datum : Datum) (stated : Stated) → IsNamed (vpd_fault datum stated)
unfolding vpd_fault
vpd_named datum stated = store_named stated.line.at datum stated.line.store

source_fails : (kind : Kind) (line : DecPcd) (lines : List Stated) (sets : List PcdSet) (sku : List ℕ) (from : Option (List ℕ)) → FailsByName (row_by_source kind line lines sets sku from)
source_fails kind line lines sets sku None = record {}
source_fails kind line lines sets sku (Some from) = row_fails kind line sku (sku_assignments line lines sets from)

dynamic_fails : (kind : Kind) (line : DecPcd) (lines : List Stated) (sets : List PcdSet) (skus picked : List Sku) → FailsByName (dynamic_rows kind line lines sets skus picked)
unfolding dynamic_rows
dynamic_fails kind line lines sets skus picked =
    let f : Sku → Result (List PcdRow) Fault = λ sku. row_by_source kind line lines sets sku.name (source line lines sets skus sku.name) in
    or_fault_fails (first_fault (vpd_fault line.datum) lines) (all_rows (map f picked)) (first_fault_named (vpd_fault line.datum) lines (vpd_named line.datum))
    (λ e. all_fail f picked (λ sku. source_fails kind line lines sets sku.name (source line lines sets skus sku.name)))

declared_fails : (ask : PlatformAsk) (lines : List Stated) (sets : List PcdSet) (kind : Kind) (found : Option DecPcd) → FailsByName (rows_declared ask lines sets kind found)
declared_fails ask lines sets kind None = record {}
declared_fails ask lines sets kind (Some line) = dynamic_fails kind line (filter (counts ask.arches) lines) sets ask.platform.skus (chosen ask)

by_fails : (ask : PlatformAsk) (pcd : List ℕ) (lines : List Stated) (sets : List PcdSet) (kind : Option Kind) → FailsByName (rows_by ask pcd lines sets kind)
by_fails ask pcd lines sets None = record {}
by_fails ask pcd lines sets (Some kind) = if_fails (is_dynamic kind) _ _ (declared_fails ask lines sets kind (declaration_among kind pcd ask.modules)) (record {})

at_fails : (ask : PlatformAsk) (uses : List Use) (lines : List Stated) (pcd : List ℕ) → FailsByName (rows_at ask uses lines pcd)
unfolding rows_at
at_fails ask uses lines pcd =
    then_fails (checked_kind pcd (uses_of pcd uses) (stated_for pcd lines)) _ (checked_fails pcd (uses_of pcd uses) (stated_for pcd lines))
    (λ kind e. by_fails ask pcd (stated_for pcd lines) (sets_of pcd (platform_sets ask)) kind)

pub unknown_named : (platform : PlatformDoc) (name : List ℕ) → IsNamed (sku_unknown platform name)
unknown_named platform name = fault_unless_named (list_any (λ sku. bytes_eq sku.name name) platform.skus) (fault_of SKU_UNKNOWN platform.at name) sku_unknown_named

words_named : (ask : PlatformAsk) → IsNamed (words_fault ask)
unfolding words_fault
words_named ask = if_named (is_all ask.skus) _ _ (record {}) (first_fault_named (sku_unknown ask.platform) ask.skus (unknown_named ask.platform))

pub platform_fails : (ask : PlatformAsk) → FailsByName (platform_values ask)
unfolding platform_values
platform_fails ask =
    let f : List ℕ → Result (List PcdRow) Fault = rows_at ask (uses_in ask.modules) (stated_in ask.platform) in
    or_fault_fails (words_fault ask) _ (words_named ask)
    (λ e. joined_fails (all_rows (map f (names_of (uses_in ask.modules)))) (all_fail f (names_of (uses_in ask.modules)) (at_fails ask (uses_in ask.modules) (stated_in ask.platform))))

-- The rows of a module.

fixed_fails : (user : Module) (uses : List Use) (lines : List Stated) (sets : List PcdSet) (kind : Kind) (found : Option DecPcd) → FailsByName (fixed_row user uses lines sets kind found)
fixed_fails user uses lines sets kind None = record {}
fixed_fails user uses lines sets kind (Some line) = row_fails kind line (codes "DEFAULT") (assignments user line uses lines sets)

by_kind_fails : (user : Module) (uses : List Use) (lines : List Stated) (declared : List DecPcd) (sets : List PcdSet) (dynamic : List PcdRow) (kind : Option Kind)
    → FailsByName (rows_by_kind user uses lines declared sets dynamic kind)
by_kind_fails user uses lines declared sets dynamic None = record {}
by_kind_fails user uses lines declared sets dynamic (Some kind) = if_fails (is_dynamic kind) _ _ (record {}) (fixed_fails user uses lines sets kind (declaration kind declared))

of_fails : (pcd : List ℕ) (user : Module) (uses : List Use) (lines : List Stated) (declared : List DecPcd) (sets : List PcdSet) (dynamic : List PcdRow)
    → FailsByName (rows_of pcd user uses lines declared sets dynamic)
unfolding rows_of
of_fails pcd user uses lines declared sets dynamic = then_fails (checked_kind pcd uses lines) _ (checked_fails pcd uses lines) (λ kind e. by_kind_fails user uses lines declared sets dynamic kind)

in_fails : (ask : ModuleAsk) (uses : List Use) (lines : List Stated) (pcd : List ℕ) → FailsByName (rows_in ask uses lines pcd)
unfolding rows_in
in_fails ask uses lines pcd =
    of_fails pcd ask.parts.«module» (uses_of pcd uses) (stated_for pcd lines) (declared_in ask.parts pcd) (sets_of pcd (sets_in ask)) (rows_named pcd ask.dynamic.rows)

pub module_fails : (ask : ModuleAsk) → FailsByName (module_values ask)
unfolding module_values
module_fails ask =
    let f : List ℕ → Result (List PcdRow) Fault = rows_in ask (uses_of_module ask.parts) (stated_in ask.platform) in
    joined_fails (all_rows (map f (names_of (uses_of_module ask.parts)))) (all_fail f (names_of (uses_of_module ask.parts)) (in_fails ask (uses_of_module ask.parts) (stated_in ask.platform)))
