-- Macros in a table by their names.
use Rattle.std.proofs.Common.{◌≡◌, ◌∙◌, ℕ, ◌+◌, ◌<◌, Bool, true, false, cond, List, [], ◌∷◌, ◌++◌, length, take, get_or, map, Some, None, refl, sym, ap, subst, add-one}
use Rattle.std.specs.Option.{option_or}
use Rattle.std.specs.Cmp.Lexicographic.{nat_list_eq_equiv, same_text as same_bytes}
use Rattle.std.specs.HashMap.{HashMap, IsUnique, get, get_by}
use Rattle.std.specs.List.{AllByRecursion, IsDistinct}
use Rattle.std.specs.Map.{keys_of, lookup}
use Rattle.std.proofs.Math.Seq.{take-suc}
use Rattle.std.proofs.lemmas.List.Sums.{fold-append}
use Rattle.indexmap.specs.IndexMap.{insert_entry}
use Rattle.build_base.specs.declared.lines.Macro.{Macro}
use Rattle.macro_expressions.specs.Macros.{macro_of, same_text, value_of, value_from, put_macro, table_of}
use Rattle.macro_expressions.proofs.MacroFronts.{value_from_found, value_from_two}

-- a pair that is put is a macro that is put
pub put_entry : (es : List (List ℕ × List ℕ)) (name value : List ℕ) → map macro_of (insert_entry same_text es name value) ≡ put_macro name value (map macro_of es)
unfolding put_macro
put_entry [] name value = refl
put_entry (e ∷ es) name value =
    by_case (same_text name e.0) (same_text e.0 name) (nat_list_eq_equiv.symm name e.0) (put_entry es name value)
  where
    by_case : (a b : Bool) → a ≡ b → map macro_of (insert_entry same_text es name value) ≡ put_macro name value (map macro_of es)
        → map macro_of (cond a ((e.0, value) ∷ es) (e ∷ insert_entry same_text es name value)) ≡ cond b (record { name = e.0; value = value } ∷ map macro_of es) (macro_of e ∷ put_macro name value (map macro_of es))
    by_case true true h rest = refl
    by_case false false h rest = ap (λ ms. macro_of e ∷ ms) rest
    by_case true false h rest = cc
    by_case false true h rest = cc

-- a name that stands nowhere has no value
no_value : (es : List (List ℕ × List ℕ)) (name : List ℕ) → AllByRecursion (λ y. same_text name y ≡ false) (keys_of es) → value_of name (map macro_of es) ≡ None
unfolding value_from
no_value [] name h = refl
no_value (e ∷ es) name h =
    ap (λ b. value_from (cond b (Some e.1) None) name (map macro_of es)) (nat_list_eq_equiv.symm e.0 name ∙ h.0) ∙ no_value es name h.1

-- where each name stands once, the first of a name is the last
looked_up : (es : List (List ℕ × List ℕ)) (name : List ℕ) → IsDistinct same_text (keys_of es) → lookup (same_text name) es ≡ value_of name (map macro_of es)
unfolding value_from IsDistinct
looked_up [] name d = refl
looked_up (e ∷ es) name d =
    by_case (same_text name e.0) refl (looked_up es name d.1)
    ∙ sym (value_from_found (cond (same_text e.0 name) (Some e.1) None) name (map macro_of es))
  where
    by_case : (b : Bool) → same_text name e.0 ≡ b → lookup (same_text name) es ≡ value_of name (map macro_of es)
        → cond b (Some e.1) (lookup (same_text name) es) ≡ option_or (value_of name (map macro_of es)) (cond (same_text e.0 name) (Some e.1) None)
    by_case true h rest =
        let same : e.0 ≡ name = sym (same_bytes name e.0 (sym h)) in
        let none : value_of name (map macro_of es) ≡ None = no_value es name (subst (λ n. AllByRecursion (λ y. same_text n y ≡ false) (keys_of es)) same d.0) in
        sym (ap (λ o. option_or o (cond (same_text e.0 name) (Some e.1) None)) none ∙ ap (λ b. cond b (Some e.1) None) (nat_list_eq_equiv.symm e.0 name ∙ h))
    by_case false h rest =
        rest ∙ value_from_found None name (map macro_of es) ∙ ap (λ b. option_or (value_of name (map macro_of es)) (cond b (Some e.1) None)) (sym (nat_list_eq_equiv.symm e.0 name ∙ h))

pub found_value : {S : Type 0} (m : HashMap (List ℕ) (List ℕ) S) (name : List ℕ) → IsUnique same_text m → get_by (same_text name) m ≡ value_of name (map macro_of m.entries)
found_value m name d = looked_up m.entries name d

-- with a pair more, or another value
pub put_table : {S : Type 0} (old new : HashMap (List ℕ) (List ℕ) S) (before : List Macro) (k name value : List ℕ) → before ≡ map macro_of old.entries → k ≡ name
    → new.entries ≡ insert_entry same_text old.entries k value → map macro_of new.entries ≡ put_macro name value before
put_table old new before k name value b e h =
    ap (map macro_of) h ∙ put_entry old.entries k value ∙ ap (λ n. put_macro n value (map macro_of old.entries)) e ∙ ap (put_macro name value) (sym b)

pub put_values : {S : Type 0} (old new : HashMap (List ℕ) (List ℕ) S) (before : List Macro) (k name value : List ℕ) → before ≡ map macro_of old.entries → k ≡ name
    → IsUnique same_text old → IsUnique same_text new → ((q : List ℕ) → get same_text new q ≡ cond (same_text k q) (Some value) (get same_text old q))
    → (q : List ℕ) → value_of q (map macro_of new.entries) ≡ cond (same_text name q) (Some value) (value_of q before)
put_values old new before k name value b e u v h = λ q.
    sym (found_value new q v) ∙ h q ∙ ap (λ n. cond (same_text n q) (Some value) (get same_text old q)) e
    ∙ ap (λ o. cond (same_text name q) (Some value) o) (found_value old q u ∙ ap (value_of q) (sym b))

-- with a macro more of a list
pub table_next : (ms : List Macro) (i : ℕ) (m : Macro) → i < length ms → m ≡ get_or ms i m → table_of (take (i + 1) ms) ≡ put_macro m.name m.value (table_of (take i ms))
unfolding table_of
table_next ms i m h e =
    ap (λ n. table_of (take n ms)) (add-one i) ∙ ap table_of (take-suc ms i m h ∙ ap (λ y. take i ms ++ y ∷ []) (sym e))
    ∙ fold-append (λ table (x : Macro). put_macro x.name x.value table) [] (take i ms) (m ∷ [])

pub value_next : (ms : List Macro) (i : ℕ) (m : Macro) (name : List ℕ) → i < length ms → m ≡ get_or ms i m
    → value_of name (take (i + 1) ms) ≡ cond (same_text m.name name) (Some m.value) (value_of name (take i ms))
unfolding value_from
value_next ms i m name h e =
    ap (λ n. value_of name (take n ms)) (add-one i) ∙ ap (value_of name) (take-suc ms i m h ∙ ap (λ y. take i ms ++ y ∷ []) (sym e))
    ∙ value_from_two None name (take i ms) (m ∷ [])
