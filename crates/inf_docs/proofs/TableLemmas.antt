-- Tables with more rows.
use Rattle.std.proofs.Common.{◌≡◌, List, [], ◌++◌, Option, refl, sym, ap, ◌∙◌, append_assoc, append-nil}
use Rattle.std.specs.List.{flat_map}
use Rattle.std.proofs.lemmas.Grind.{flat_map-append}
use Rattle.doc_reading.specs.Reading.{last_or}
use Rattle.doc_reading.proofs.Turns.{last_or-append}
use Rattle.inf_docs.specs.declared.row.Row.{Row}
use Rattle.inf_docs.specs.declared.tables.ModuleTables.{ModuleTables}
use Rattle.inf_docs.specs.Modules.{base_name_in, file_guid_in, kind_in, version_in, entry_point_in, constructor_in, destructor_in, served_in, package_in, class_in, guid_in, pcd_in, with_rows}

last_join : {R : Type 0} (f : Row → List R) (o : Option R) (xs ys : List Row) → last_or (last_or o (flat_map f xs)) (flat_map f ys) ≡ last_or o (flat_map f (xs ++ ys))
last_join f o xs ys = sym (ap (last_or o) (flat_map-append f xs ys) ∙ last_or-append o (flat_map f xs) (flat_map f ys))

list_join : {R : Type 0} (f : Row → List R) (old : List R) (xs ys : List Row) → (old ++ flat_map f xs) ++ flat_map f ys ≡ old ++ flat_map f (xs ++ ys)
list_join f old xs ys = append_assoc old (flat_map f xs) (flat_map f ys) ∙ ap (λ zs. old ++ zs) (sym (flat_map-append f xs ys))

-- some rows, and then others
pub rows_join : (t : ModuleTables) (xs ys : List Row) → with_rows (with_rows t xs) ys ≡ with_rows t (xs ++ ys)
unfolding with_rows
rows_join t xs ys =
    rw (
      last_join base_name_in t.base_name xs ys,
      last_join file_guid_in t.file_guid xs ys,
      last_join kind_in t.kind xs ys,
      last_join version_in t.version xs ys,
      list_join entry_point_in t.entry_points xs ys,
      list_join constructor_in t.constructors xs ys,
      list_join destructor_in t.destructors xs ys,
      list_join served_in t.serves xs ys,
      list_join package_in t.packages xs ys,
      list_join class_in t.classes xs ys,
      list_join guid_in t.guids xs ys,
      list_join pcd_in t.pcds xs ys,
    ) refl

-- no rows
pub rows_none : (t : ModuleTables) → t ≡ with_rows t []
unfolding with_rows
rows_none t =
    rw (
      append-nil t.entry_points,
      append-nil t.constructors,
      append-nil t.destructors,
      append-nil t.serves,
      append-nil t.packages,
      append-nil t.classes,
      append-nil t.guids,
      append-nil t.pcds,
    ) refl
