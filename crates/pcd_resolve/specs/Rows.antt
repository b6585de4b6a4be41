-- The rows of a module.
use Rattle.std.specs.Prelude.{ℕ, nat_lt, if◌then◌else◌, List, [], ◌∷◌, ◌++◌, length, fold, map, filter, Option, Some, None, Result, Ok, Err, codes}
use Rattle.std.specs.Str.{bytes_eq}
use Rattle.std.specs.BTreeSet.{insert_key}
use Rattle.std.specs.Cmp.Lexicographic.{slice_cmp}
use Rattle.std.specs.Ordering.{nat_cmp}
use Rattle.build_base.specs.First.{and_then, with_front}
use Rattle.build_base.specs.FaultText.{fault_of}
use Rattle.build_base.specs.declared.fault.Fault.{Fault}
use Rattle.doc_types.specs.declared.asks.ModuleAsk.{ModuleAsk}
use Rattle.doc_types.specs.declared.package.DecPcd.{DecPcd}
use Rattle.doc_types.specs.declared.choice.Module.{Module}
use Rattle.doc_types.specs.declared.pcd.Datum.{Datum}
use Rattle.doc_types.specs.declared.pcd.Kind.{Kind}
use Rattle.doc_types.specs.declared.pcd.PcdSet.{PcdSet}
use Rattle.doc_types.specs.declared.values.PcdRow.{PcdRow}
use Rattle.doc_types.specs.declared.values.Values.{Values}
use Rattle.pcd_values.specs.Parsing.{width, parsed}
use Rattle.doc_types.specs.Pcds.{full_name}
use Rattle.pcd_ranks.specs.Names.{is_void, is_dynamic}
use Rattle.pcd_ranks.specs.Listing.{Use, Stated, uses_of_module, uses_of, stated_in, stated_for, declared_in}
use Rattle.pcd_resolve.specs.Kinds.{declaration}
use Rattle.pcd_resolve.specs.Faults.{checked_kind}
use Rattle.pcd_ranks.specs.Assignments.{Assignment, assignments, sets_of, value_from, max_from}
use Rattle.build_base.specs.FaultCodes.{DOES_NOT_FIT}

-- the maximum of a VOID* where one is stated, else its length
abbrev pub stated_max : Option Assignment → Option ℕ
stated_max None = None
stated_max (Some a) = a.max

abbrev pub void_max : Assignment → List ℕ → List ℕ → Option ℕ → Result ℕ Fault
void_max taken text bytes None = Ok (length bytes)
void_max taken text bytes (Some max) = if nat_lt max (length bytes)
    then Err (fault_of DOES_NOT_FIT taken.at text) else Ok max

-- that of another type is its width
unfoldable pub maximum : Datum → Assignment → List ℕ → List ℕ → Option ℕ → Result ℕ Fault
maximum datum taken text bytes stated = if is_void datum then void_max taken text bytes stated
    else Ok (width datum)

abbrev pub row : Kind → DecPcd → List ℕ → ℕ → List ℕ → ℕ → PcdRow
row kind line sku rank bytes max =
    record {
      pcd = line.pcd;
      kind = kind;
      datum = line.datum;
      token = line.token;
      max = max;
      rank =
          rank;
      sku = sku;
      value = bytes;
    }

abbrev pub row_by : Kind → DecPcd → List ℕ → List Assignment → Assignment → Option (List ℕ)
    → Result (List PcdRow) Fault
row_by kind line sku all taken None = Ok []
row_by kind line sku all taken (Some text) =
    and_then (parsed taken.at text line.datum) (λ bytes.
    and_then (maximum line.datum taken text bytes (stated_max (max_from all)))
    (λ max. Ok (row kind line sku taken.rank bytes max ∷ [])))

abbrev pub row_from : Kind → DecPcd → List ℕ → List Assignment → Option Assignment
    → Result (List PcdRow) Fault
row_from kind line sku all None = Ok []
row_from kind line sku all (Some taken) = row_by kind line sku all taken taken.value

-- the row of a PCD for a SKU, from its assignments
unfoldable pub row_of : Kind → DecPcd → List ℕ → List Assignment → Result (List PcdRow) Fault
row_of kind line sku all = row_from kind line sku all (value_from all)

-- the rows of a dynamic kind are those of the platform
abbrev pub rows_named : List ℕ → List PcdRow → List PcdRow
rows_named pcd rows = filter (λ row. bytes_eq (full_name row.pcd) pcd) rows

abbrev pub fixed_row : Module → List Use → List Stated → List PcdSet → Kind → Option DecPcd
    → Result (List PcdRow) Fault
fixed_row user uses lines sets kind None = Ok []
fixed_row user uses lines sets kind (Some line) =
    row_of kind line (codes "DEFAULT") (assignments user line uses lines sets)

abbrev pub rows_by_kind : Module → List Use → List Stated → List DecPcd → List PcdSet → List PcdRow
    → Option Kind
    → Result (List PcdRow) Fault
rows_by_kind user uses lines declared sets dynamic None = Ok []
rows_by_kind user uses lines declared sets dynamic (Some kind) =
    if is_dynamic kind then Ok dynamic
    else fixed_row user uses lines sets kind (declaration kind declared)

-- The rows of one PCD of a module, or its first fault: from its uses there, the platform's lines
-- that name it, the lines by which the module's packages declare it, the values that it is given
-- outside its own lines, and the rows of its dynamic kind.
unfoldable pub rows_of : List ℕ → Module → List Use → List Stated → List DecPcd → List PcdSet
    → List PcdRow
    → Result (List PcdRow) Fault
rows_of pcd user uses lines declared sets dynamic =
    and_then (checked_kind pcd uses lines) (rows_by_kind user uses lines declared sets dynamic)

-- names with those of uses, in ascending order
abbrev pub with_names : List (List ℕ) → List Use → List (List ℕ)
with_names names uses = fold (insert_key (slice_cmp nat_cmp)) names
    (map (λ used. full_name used.line.pcd) uses)

-- the names of uses in ascending order, each once
unfoldable pub names_of : List Use → List (List ℕ)
names_of uses = with_names [] uses

-- the rows of all PCDs, or the first fault
abbrev pub all_rows : List (Result (List PcdRow) Fault) → Result (List PcdRow) Fault
all_rows [] = Ok []
all_rows (outcome ∷ outcomes) = and_then outcome (λ rows. with_front rows (all_rows outcomes))

abbrev pub joined : Result (List PcdRow) Fault → Result Values Fault
joined (Ok rows) = Ok (record { rows = rows })
joined (Err fault) = Err fault

-- the words' sets stand before those of the FDF; only those of one rank are compared by their order
abbrev pub sets_in : ModuleAsk → List PcdSet
sets_in ask = ask.commands ++ ask.flash.sets

unfoldable pub rows_in : ModuleAsk → List Use → List Stated → List ℕ → Result (List PcdRow) Fault
rows_in ask uses lines pcd =
    rows_of pcd ask.parts.«module» (uses_of pcd uses) (stated_for pcd lines)
    (declared_in ask.parts pcd) (sets_of pcd (sets_in ask))
    (rows_named pcd ask.dynamic.rows)

-- the values of a module, PCD by PCD, or the first fault
unfoldable pub module_values : ModuleAsk → Result Values Fault
module_values ask =
    joined
    (all_rows (map (rows_in ask (uses_of_module ask.parts) (stated_in ask.platform))
    (names_of (uses_of_module ask.parts))))
