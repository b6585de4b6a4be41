-- What the lines state, components apart. The last line of a key holds; the other lists stand in
-- the order of the lines.
use Rattle.std.specs.Prelude.{ℕ, List, [], ◌∷◌, ◌++◌, map, None}
use Rattle.std.specs.List.{flat_map}
use Rattle.build_base.specs.declared.guid.Guid.{Guid as GuidBytes}
use Rattle.doc_reading.specs.Reading.{last_or}
use Rattle.doc_types.specs.declared.arch.Arch.{Arch}
use Rattle.doc_types.specs.declared.platform.LibraryLine.{LibraryLine}
use Rattle.doc_types.specs.declared.platform.PcdLine.{PcdLine}
use Rattle.dsc_lines.specs.declared.rows.KeyValue.TheVariants.{Name, Guid, Arches, Output, SkuChoice, Flash}
use Rattle.dsc_lines.specs.declared.rows.DscRow.{DscRow}
use Rattle.dsc_lines.specs.declared.rows.DscRow.TheVariants.{Key, Sku, Library, Pcd}
use Rattle.dsc_lines.specs.declared.rows.SkuLine.{SkuLine}
use Rattle.dsc_platform.specs.declared.stated.Keys.{Keys}
use Rattle.dsc_platform.specs.declared.stated.Stated.{Stated}

abbrev pub name_in : DscRow → List (List ℕ)
name_in (Key (Name name)) = name ∷ []
name_in row = []

abbrev pub guid_in : DscRow → List GuidBytes
guid_in (Key (Guid guid)) = guid ∷ []
guid_in row = []

abbrev pub arches_in : DscRow → List (List Arch)
arches_in (Key (Arches arches)) = arches ∷ []
arches_in row = []

abbrev pub output_in : DscRow → List (List ℕ)
output_in (Key (Output output)) = output ∷ []
output_in row = []

abbrev pub choice_in : DscRow → List (List ℕ)
choice_in (Key (SkuChoice at choice)) = choice ∷ []
choice_in row = []

abbrev pub flash_in : DscRow → List (List ℕ)
flash_in (Key (Flash flash)) = flash ∷ []
flash_in row = []

abbrev pub sku_in : DscRow → List SkuLine
sku_in (Sku sku) = sku ∷ []
sku_in row = []

abbrev pub library_in : DscRow → List LibraryLine
library_in (Library library) = library ∷ []
library_in row = []

abbrev pub pcd_in : DscRow → List PcdLine
pcd_in (Pcd pcd) = pcd ∷ []
pcd_in row = []

abbrev pub keys_with : Keys → List DscRow → Keys
keys_with keys rows =
    record {
      name = last_or keys.name (flat_map name_in rows);
      guid = last_or keys.guid (flat_map guid_in rows);
      arches = last_or keys.arches (flat_map arches_in rows);
      options =
          record {
            output = last_or keys.options.output (flat_map output_in rows);
            sku_choice = last_or keys.options.sku_choice (flat_map choice_in rows);
            flash = last_or keys.options.flash (flat_map flash_in rows);
          };
    }

abbrev pub nothing : Stated
nothing =
    record {
      keys =
          record {
            name = None;
            guid = None;
            arches = None;
            options =
                record { output = None; sku_choice = None; flash = None };
          };
      skus = [];
      libraries = [];
      pcds = [];
    }

-- with more rows
abbrev pub with_rows : Stated → List DscRow → Stated
with_rows stated rows =
    record {
      keys = keys_with stated.keys rows;
      skus = stated.skus ++ flat_map sku_in rows;
      libraries = stated.libraries ++ flat_map library_in rows;
      pcds = stated.pcds ++ flat_map pcd_in rows;
    }

abbrev pub sku_name : SkuLine → List ℕ
sku_name line = line.sku.name

abbrev pub names_of : List SkuLine → List (List ℕ)
names_of skus = map sku_name skus

-- the names of the SKUs that some rows state
abbrev pub names_in : List DscRow → List (List ℕ)
names_in rows = names_of (flat_map sku_in rows)
