-- Resolved rows fit their places.
use Rattle.std.proofs.Common.{◌≡◌, ℕ, ◌≤◌, Bool, true, false, if◌then◌else◌, nat_lt, List, [], ◌∷◌, ◌++◌, length, map, filter, codes, cond, All, Option, Some, None, Result, Ok, Err, refl, ap, sym, arith, subst}
use Rattle.std.specs.Int.{w16, w32, w64, to_le_bytes}
use Rattle.std.proofs.lemmas.Bool.Decides.{nat_tests}
use Rattle.std.proofs.lemmas.List.Elements.{All-nil, All-cons, All-head, All-tail, All-append}
use Rattle.build_base.specs.First.{and_then, or_fault, with_front}
use Rattle.build_base.specs.FaultCodes.{DOES_NOT_FIT}
use Rattle.build_base.specs.FaultText.{fault_of}
use Rattle.build_base.specs.declared.fault.Place.{Place}
use Rattle.build_base.specs.declared.fault.Fault.{Fault}
use Rattle.meta_lexer.specs.Faults.{first_fault}
use Rattle.meta_lexer.specs.Words.{has_macro_use}
use Rattle.macro_expressions.specs.declared.expression.Value.{Value}
use Rattle.macro_expressions.specs.declared.expression.Value.TheVariants.{Number, Word}
use Rattle.macro_expressions.specs.Expressions.{value_of_text}
use Rattle.std.specs.Str.{bytes_eq}
use Rattle.doc_types.specs.declared.asks.ModuleAsk.{ModuleAsk}
use Rattle.doc_types.specs.declared.asks.PlatformAsk.{PlatformAsk}
use Rattle.doc_types.specs.declared.choice.Module.{Module}
use Rattle.doc_types.specs.declared.package.DecPcd.{DecPcd}
use Rattle.doc_types.specs.declared.pcd.Datum.{Datum}
use Rattle.doc_types.specs.declared.pcd.Datum.TheVariants.{U8, U16, U32, U64, Boolean, Void}
use Rattle.doc_types.specs.declared.pcd.Kind.{Kind}
use Rattle.doc_types.specs.declared.pcd.PcdSet.{PcdSet}
use Rattle.doc_types.specs.declared.platform.Sku.{Sku}
use Rattle.doc_types.specs.declared.values.PcdRow.{PcdRow}
use Rattle.doc_types.specs.declared.values.Values.{Values}
use Rattle.pcd_values.specs.Parsing.{width, bytes_of, fitting, number_bytes, number_value, parsed}
use Rattle.doc_types.specs.Pcds.{full_name}
use Rattle.pcd_ranks.specs.Names.{is_void, is_dynamic}
use Rattle.pcd_ranks.specs.Listing.{Use, Stated, uses_in, uses_of, uses_of_module, stated_in, stated_for, declared_in}
use Rattle.pcd_ranks.specs.Assignments.{Assignment, assignments, sets_of, value_from, max_from}
use Rattle.pcd_resolve.specs.Faults.{checked_kind}
use Rattle.pcd_resolve.specs.Kinds.{declaration}
use Rattle.pcd_resolve.specs.Rows.{stated_max, void_max, maximum, row, row_by, row_from, row_of, rows_named, fixed_row, rows_by_kind, rows_of, names_of, all_rows, joined, sets_in, rows_in, module_values}
use Rattle.pcd_resolve.specs.Platform.{counts, chosen, words_fault, vpd_fault, sku_assignments, source, row_by_source, dynamic_rows, rows_declared, declaration_among, rows_by, platform_sets, rows_at, platform_values}
use Rattle.vpd_image.specs.Places.{size_by, size_of}
use Rattle.vpd_laws.specs.Sized.{IsSized}

through : {A B F P : Type 0} (r : Result A F) (f : A → Result B F) (y : B) → and_then r f ≡ Ok y → ((x : A) → r ≡ Ok x → f x ≡ Ok y → P) → P
through (Ok x) f y e k = k x refl e
through (Err fault) f y e k = absurd cc

past : {A F : Type 0} (fault : Option F) (r : Result A F) (y : A) → or_fault fault r ≡ Ok y → r ≡ Ok y
past None r y e = e
past (Some fault) r y e = absurd cc

-- A number's bytes are as many as its type is wide.

some_if : {A : Type 0} (b : Bool) (x y : A) → (if b then Some x else None) ≡ Some y → x ≡ y
some_if true x y e = cc
some_if false x y e = absurd cc

bytes_wide : (datum : Datum) (n : ℕ) (bytes : List ℕ) → bytes_of datum n ≡ Some bytes → length bytes ≡ width datum
bytes_wide U8 n bytes e = ap length (sym (some_if (nat_lt n 256) (n ∷ []) bytes e))
bytes_wide U16 n bytes e = ap length (sym (some_if (nat_lt n 65536) (to_le_bytes w16 n) bytes e))
bytes_wide U32 n bytes e = ap length (sym (some_if (nat_lt n 4294967296) (to_le_bytes w32 n) bytes e))
bytes_wide U64 n bytes e = let s : to_le_bytes w64 n ≡ bytes = cc in ap length (sym s)
bytes_wide Boolean n bytes e = ap length (sym (some_if (nat_lt n 2) (n ∷ []) bytes e))
bytes_wide Void n bytes e = absurd cc

fitted : (at : Place) (text : List ℕ) (found : Option (List ℕ)) (bytes : List ℕ) → fitting at text found ≡ Ok bytes → found ≡ Some bytes
fitted at text (Some found) bytes e = let s : found ≡ bytes = cc in ap (λ z. Some z) s
fitted at text None bytes e = absurd cc

number_wide : (at : Place) (text : List ℕ) (datum : Datum) (found : Result Value ℕ) (bytes : List ℕ) → number_bytes at text datum found ≡ Ok bytes → length bytes ≡ width datum
number_wide at text datum (Ok (Number n)) bytes e = bytes_wide datum n bytes (fitted at text (bytes_of datum n) bytes e)
number_wide at text datum (Ok (Word w)) bytes e = absurd cc
number_wide at text datum (Err code) bytes e = absurd cc

not_first : {A F : Type 0} (b : Bool) (fault : F) (r : Result A F) (x : A) → (if b then Err fault else r) ≡ Ok x → r ≡ Ok x
not_first true fault r x e = absurd cc
not_first false fault r x e = e

value_wide : (at : Place) (text : List ℕ) (datum : Datum) (bytes : List ℕ) → number_value at text datum ≡ Ok bytes → length bytes ≡ width datum
unfolding number_value
value_wide at text datum bytes e =
    number_wide at text datum (value_of_text text) bytes (not_first (has_macro_use text) _ (number_bytes at text datum (value_of_text text)) bytes e)

-- A VOID* has at most its maximum, and a value of another type is as wide as that.

void_sized : (taken : Assignment) (text bytes : List ℕ) (stated : Option ℕ) (max : ℕ) → void_max taken text bytes stated ≡ Ok max → length bytes ≤ max
void_sized taken text bytes None max e = let s : length bytes ≡ max = cc in omega arith
void_sized taken text bytes (Some most) max e = bounded (fault_of DOES_NOT_FIT taken.at text) (nat_lt most (length bytes)) refl e
  where
    bounded : (fault : Fault) (b : Bool) → nat_lt most (length bytes) ≡ b → (if b then Err fault else Ok most) ≡ Ok max → length bytes ≤ max
    bounded fault true t o = absurd cc
    bounded fault false t o = let s : most ≡ max = cc in let l : length bytes ≤ most = grind (arith, nat_tests, t) in omega arith

bytes_sized : (datum : Datum) (at : Place) (taken : Assignment) (text bytes : List ℕ) (stated : Option ℕ) (max : ℕ) → parsed at text datum ≡ Ok bytes → maximum datum taken text bytes stated ≡ Ok max
    → length bytes ≤ size_by datum max
unfolding parsed maximum is_void
bytes_sized U8 at taken text bytes stated max p m = let w : length bytes ≡ 1 = value_wide at text U8 bytes p in omega arith
bytes_sized U16 at taken text bytes stated max p m = let w : length bytes ≡ 2 = value_wide at text U16 bytes p in omega arith
bytes_sized U32 at taken text bytes stated max p m = let w : length bytes ≡ 4 = value_wide at text U32 bytes p in omega arith
bytes_sized U64 at taken text bytes stated max p m = let w : length bytes ≡ 8 = value_wide at text U64 bytes p in omega arith
bytes_sized Boolean at taken text bytes stated max p m = let w : length bytes ≡ 1 = value_wide at text Boolean bytes p in omega arith
bytes_sized Void at taken text bytes stated max p m = void_sized taken text bytes stated max m

abbrev AreSized : List PcdRow → Type 0
AreSized rows = All IsSized rows

none_sized : AreSized []
none_sized = All-nil IsSized

same_sized : (xs ys : List PcdRow) → AreSized xs → xs ≡ ys → AreSized ys
same_sized xs ys a e = subst AreSized e a

one_sized : (kind : Kind) (line : DecPcd) (sku : List ℕ) (rank : ℕ) (bytes : List ℕ) (max : ℕ) → length bytes ≤ size_by line.datum max → AreSized (row kind line sku rank bytes max ∷ [])
unfolding size_of
one_sized kind line sku rank bytes max h = All-cons IsSized (row kind line sku rank bytes max) [] (record { fits = h }) none_sized

given_sized : (kind : Kind) (line : DecPcd) (sku : List ℕ) (all : List Assignment) (taken : Assignment) (value : Option (List ℕ)) (rows : List PcdRow) → row_by kind line sku all taken value ≡ Ok rows → AreSized rows
given_sized kind line sku all taken None rows e = let s : [] ≡ rows = cc in same_sized [] rows none_sized s
given_sized kind line sku all taken (Some text) rows e =
    through (parsed taken.at text line.datum)
    (λ bytes. and_then (maximum line.datum taken text bytes (stated_max (max_from all))) (λ max. Ok (row kind line sku taken.rank bytes max ∷ []))) rows e
    (λ bytes p b.
    through (maximum line.datum taken text bytes (stated_max (max_from all))) (λ max. Ok (row kind line sku taken.rank bytes max ∷ [])) rows b
    (λ max m c.
    let s : row kind line sku taken.rank bytes max ∷ [] ≡ rows = cc in
    same_sized (row kind line sku taken.rank bytes max ∷ []) rows
    (one_sized kind line sku taken.rank bytes max (bytes_sized line.datum taken.at taken text bytes (stated_max (max_from all)) max p m)) s))

from_sized : (kind : Kind) (line : DecPcd) (sku : List ℕ) (all : List Assignment) (found : Option Assignment) (rows : List PcdRow) → row_from kind line sku all found ≡ Ok rows → AreSized rows
from_sized kind line sku all None rows e = let s : [] ≡ rows = cc in same_sized [] rows none_sized s
from_sized kind line sku all (Some taken) rows e = given_sized kind line sku all taken taken.value rows e

row_sized : (kind : Kind) (line : DecPcd) (sku : List ℕ) (all : List Assignment) (rows : List PcdRow) → row_of kind line sku all ≡ Ok rows → AreSized rows
unfolding row_of
row_sized kind line sku all rows e = from_sized kind line sku all (value_from all) rows e

-- Rows that are joined fit where each outcome's rows do.

front_sized : (front : List PcdRow) (rest : Result (List PcdRow) Fault) (rows : List PcdRow) → AreSized front → ((more : List PcdRow) → rest ≡ Ok more → AreSized more) → with_front front rest ≡ Ok rows → AreSized rows
front_sized front (Ok more) rows a k e = let s : front ++ more ≡ rows = cc in same_sized (front ++ more) rows (All-append IsSized front more a (k more refl)) s
front_sized front (Err fault) rows a k e = absurd cc

all_sized : {X : Type 0} (f : X → Result (List PcdRow) Fault) (xs : List X) (rows : List PcdRow) → ((x : X) (some : List PcdRow) → f x ≡ Ok some → AreSized some) → all_rows (map f xs) ≡ Ok rows → AreSized rows
all_sized f [] rows h e = let s : [] ≡ rows = cc in same_sized [] rows none_sized s
all_sized f (x ∷ xs) rows h e =
    through (f x) (λ front. with_front front (all_rows (map f xs))) rows e
    (λ front a b. front_sized front (all_rows (map f xs)) rows (h x front a) (λ more c. all_sized f xs more h c) b)

source_sized : (kind : Kind) (line : DecPcd) (lines : List Stated) (sets : List PcdSet) (sku : List ℕ) (from : Option (List ℕ)) (rows : List PcdRow) → row_by_source kind line lines sets sku from ≡ Ok rows → AreSized rows
source_sized kind line lines sets sku None rows e = let s : [] ≡ rows = cc in same_sized [] rows none_sized s
source_sized kind line lines sets sku (Some from) rows e = row_sized kind line sku (sku_assignments line lines sets from) rows e

dynamic_sized : (kind : Kind) (line : DecPcd) (lines : List Stated) (sets : List PcdSet) (skus picked : List Sku) (rows : List PcdRow) → dynamic_rows kind line lines sets skus picked ≡ Ok rows → AreSized rows
unfolding dynamic_rows
dynamic_sized kind line lines sets skus picked rows e =
    let f : Sku → Result (List PcdRow) Fault = λ sku. row_by_source kind line lines sets sku.name (source line lines sets skus sku.name) in
    all_sized f picked rows (λ sku some a. source_sized kind line lines sets sku.name (source line lines sets skus sku.name) some a)
    (past (first_fault (vpd_fault line.datum) lines) (all_rows (map f picked)) rows e)

declared_sized : (ask : PlatformAsk) (lines : List Stated) (sets : List PcdSet) (kind : Kind) (found : Option DecPcd) (rows : List PcdRow) → rows_declared ask lines sets kind found ≡ Ok rows → AreSized rows
declared_sized ask lines sets kind None rows e = let s : [] ≡ rows = cc in same_sized [] rows none_sized s
declared_sized ask lines sets kind (Some line) rows e = dynamic_sized kind line (filter (counts ask.arches) lines) sets ask.platform.skus (chosen ask) rows e

kind_sized : (ask : PlatformAsk) (pcd : List ℕ) (lines : List Stated) (sets : List PcdSet) (found : Option Kind) (rows : List PcdRow) → rows_by ask pcd lines sets found ≡ Ok rows → AreSized rows
kind_sized ask pcd lines sets None rows e = let s : [] ≡ rows = cc in same_sized [] rows none_sized s
kind_sized ask pcd lines sets (Some kind) rows e =
    elim (is_dynamic kind) as (λ b. (if b then rows_declared ask lines sets kind (declaration_among kind pcd ask.modules) else Ok []) ≡ Ok rows → AreSized rows) [
      | true ↦ λ o. declared_sized ask lines sets kind (declaration_among kind pcd ask.modules) rows o
      | false ↦ λ o. let s : [] ≡ rows = cc in same_sized [] rows none_sized s
    ] e

pcd_sized : (ask : PlatformAsk) (uses : List Use) (lines : List Stated) (pcd : List ℕ) (rows : List PcdRow) → rows_at ask uses lines pcd ≡ Ok rows → AreSized rows
unfolding rows_at
pcd_sized ask uses lines pcd rows e =
    through (checked_kind pcd (uses_of pcd uses) (stated_for pcd lines)) (rows_by ask pcd (stated_for pcd lines) (sets_of pcd (platform_sets ask))) rows e
    (λ found a b. kind_sized ask pcd (stated_for pcd lines) (sets_of pcd (platform_sets ask)) found rows b)

joined_sized : (found : Result (List PcdRow) Fault) (values : Values) → ((rows : List PcdRow) → found ≡ Ok rows → AreSized rows) → joined found ≡ Ok values → AreSized values.rows
joined_sized (Ok rows) values k e = let s : record { rows = rows } ≡ values = cc in subst (λ v. AreSized v.rows) s (k rows refl)
joined_sized (Err fault) values k e = absurd cc

pub values_sized : (ask : PlatformAsk) (values : Values) → platform_values ask ≡ Ok values → AreSized values.rows
unfolding platform_values
values_sized ask values e =
    let f : List ℕ → Result (List PcdRow) Fault = rows_at ask (uses_in ask.modules) (stated_in ask.platform) in
    let found : Result (List PcdRow) Fault = all_rows (map f (names_of (uses_in ask.modules))) in
    joined_sized found values (λ rows a. all_sized f (names_of (uses_in ask.modules)) rows (λ pcd some b. pcd_sized ask (uses_in ask.modules) (stated_in ask.platform) pcd some b) a)
    (past (words_fault ask) (joined found) values e)

-- The rows of a module.

kept_sized : (test : PcdRow → Bool) (rows : List PcdRow) → AreSized rows → AreSized (filter test rows)
kept_sized test [] a = none_sized
kept_sized test (row ∷ rows) a =
    elim (test row) as (λ b. AreSized (cond b (row ∷ filter test rows) (filter test rows))) [
      | true ↦ All-cons IsSized row (filter test rows) (All-head IsSized row rows a) (kept_sized test rows (All-tail IsSized row rows a))
      | false ↦ kept_sized test rows (All-tail IsSized row rows a)
    ]

fixed_sized : (user : Module) (uses : List Use) (lines : List Stated) (sets : List PcdSet) (kind : Kind) (found : Option DecPcd) (rows : List PcdRow) → fixed_row user uses lines sets kind found ≡ Ok rows → AreSized rows
fixed_sized user uses lines sets kind None rows e = let s : [] ≡ rows = cc in same_sized [] rows none_sized s
fixed_sized user uses lines sets kind (Some line) rows e = row_sized kind line (codes "DEFAULT") (assignments user line uses lines sets) rows e

by_kind_sized : (user : Module) (uses : List Use) (lines : List Stated) (declared : List DecPcd) (sets : List PcdSet) (dynamic : List PcdRow) (found : Option Kind) (rows : List PcdRow) → AreSized dynamic
    → rows_by_kind user uses lines declared sets dynamic found ≡ Ok rows → AreSized rows
by_kind_sized user uses lines declared sets dynamic None rows a e = let s : [] ≡ rows = cc in same_sized [] rows none_sized s
by_kind_sized user uses lines declared sets dynamic (Some kind) rows a e =
    elim (is_dynamic kind) as (λ b. (if b then Ok dynamic else fixed_row user uses lines sets kind (declaration kind declared)) ≡ Ok rows → AreSized rows) [
      | true ↦ λ o. let s : dynamic ≡ rows = cc in same_sized dynamic rows a s
      | false ↦ λ o. fixed_sized user uses lines sets kind (declaration kind declared) rows o
    ] e

named_sized : (pcd : List ℕ) (user : Module) (uses : List Use) (lines : List Stated) (declared : List DecPcd) (sets : List PcdSet) (dynamic rows : List PcdRow) → AreSized dynamic
    → rows_of pcd user uses lines declared sets dynamic ≡ Ok rows → AreSized rows
unfolding rows_of
named_sized pcd user uses lines declared sets dynamic rows a e =
    through (checked_kind pcd uses lines) (rows_by_kind user uses lines declared sets dynamic) rows e (λ found b c. by_kind_sized user uses lines declared sets dynamic found rows a c)

used_sized : (ask : ModuleAsk) (uses : List Use) (lines : List Stated) (pcd : List ℕ) (rows : List PcdRow) → AreSized ask.dynamic.rows → rows_in ask uses lines pcd ≡ Ok rows → AreSized rows
unfolding rows_in
used_sized ask uses lines pcd rows a e =
    named_sized pcd ask.parts.«module» (uses_of pcd uses) (stated_for pcd lines) (declared_in ask.parts pcd) (sets_of pcd (sets_in ask)) (rows_named pcd ask.dynamic.rows) rows
    (kept_sized (λ row. bytes_eq (full_name row.pcd) pcd) ask.dynamic.rows a) e

pub module_sized : (ask : ModuleAsk) (values : Values) → AreSized ask.dynamic.rows → module_values ask ≡ Ok values → AreSized values.rows
unfolding module_values
module_sized ask values a e =
    let f : List ℕ → Result (List PcdRow) Fault = rows_in ask (uses_of_module ask.parts) (stated_in ask.platform) in
    joined_sized (all_rows (map f (names_of (uses_of_module ask.parts)))) values
    (λ rows b. all_sized f (names_of (uses_of_module ask.parts)) rows (λ pcd some c. used_sized ask (uses_of_module ask.parts) (stated_in ask.platform) pcd some a c) b) e
