-- What is stated with more rows.
use Rattle.std.proofs.Common.{◌≡◌, ◌∙◌, List, [], ◌∷◌, ◌++◌, Option, refl, sym, ap, append_assoc, append-nil}
use Rattle.std.specs.List.{flat_map}
use Rattle.std.proofs.lemmas.Grind.{flat_map-append}
use Rattle.std.proofs.lemmas.List.{map-append}
use Rattle.doc_reading.specs.Reading.{last_or}
use Rattle.doc_reading.proofs.Turns.{last_or-append}
use Rattle.dsc_lines.specs.declared.rows.DscRow.{DscRow}
use Rattle.dsc_lines.specs.declared.rows.SkuLine.{SkuLine}
use Rattle.dsc_platform.specs.declared.stated.Stated.{Stated}
use Rattle.dsc_lines.specs.declared.rows.Part.{Part}
use Rattle.dsc_lines.specs.Standing.{parts_in}
use Rattle.dsc_platform.specs.Stating.{name_in, guid_in, arches_in, output_in, choice_in, flash_in, sku_in, library_in, pcd_in, with_rows, sku_name, names_of}

-- what a list gives, with one more
pub flat_push : {X T : Type 0} (f : X → List T) (xs : List X) (x : X) → flat_map f (xs ++ x ∷ []) ≡ flat_map f xs ++ f x
flat_push f xs x = flat_map-append f xs (x ∷ []) ∙ ap (λ ys. flat_map f xs ++ ys) (append-nil (f x))

last_join : {R : Type 0} (f : DscRow → List R) (o : Option R) (xs ys : List DscRow) → last_or (last_or o (flat_map f xs)) (flat_map f ys) ≡ last_or o (flat_map f (xs ++ ys))
last_join f o xs ys = sym (ap (last_or o) (flat_map-append f xs ys) ∙ last_or-append o (flat_map f xs) (flat_map f ys))

list_join : {R : Type 0} (f : DscRow → List R) (old : List R) (xs ys : List DscRow) → (old ++ flat_map f xs) ++ flat_map f ys ≡ old ++ flat_map f (xs ++ ys)
list_join f old xs ys = append_assoc old (flat_map f xs) (flat_map f ys) ∙ ap (λ zs. old ++ zs) (sym (flat_map-append f xs ys))

-- some rows, and then others
pub rows_join : (s : Stated) (xs ys : List DscRow) → with_rows (with_rows s xs) ys ≡ with_rows s (xs ++ ys)
rows_join s xs ys =
    rw (
      last_join name_in s.keys.name xs ys,
      last_join guid_in s.keys.guid xs ys,
      last_join arches_in s.keys.arches xs ys,
      last_join output_in s.keys.options.output xs ys,
      last_join choice_in s.keys.options.sku_choice xs ys,
      last_join flash_in s.keys.options.flash xs ys,
      list_join sku_in s.skus xs ys,
      list_join library_in s.libraries xs ys,
      list_join pcd_in s.pcds xs ys,
    ) refl

-- no rows
pub rows_none : (s : Stated) → s ≡ with_rows s []
rows_none s = rw (append-nil s.skus, append-nil s.libraries, append-nil s.pcds) refl

-- one SKU more
pub names_push : (skus : List SkuLine) (sku : SkuLine) → names_of (skus ++ sku ∷ []) ≡ names_of skus ++ sku.sku.name ∷ []
names_push skus sku = map-append sku_name skus (sku ∷ [])

-- the parts of components among some rows, with one more
pub parts_more : (old : List Part) (rows : List DscRow) (row : DscRow) → (old ++ flat_map parts_in rows) ++ parts_in row ≡ old ++ flat_map parts_in (rows ++ row ∷ [])
parts_more old rows row =
    append_assoc old (flat_map parts_in rows) (parts_in row) ∙ ap (λ ps. old ++ ps) (sym (flat_push parts_in rows row))
