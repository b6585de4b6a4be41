-- The encoding of platform descriptions: the fields of a record in order, and an enum as the number
-- of the variant, in the order of declaration, and its fields. The rule is this project's own.
use Rattle.std.specs.Prelude.{◌≡◌, ◌⊎◌, ℕ, List, Option, refl}
use Rattle.std.proofs.Common.{inl, inr}
use Rattle.build_base.specs.declared.guid.Guid.{Guid}
use Rattle.build_base.specs.declared.fault.Place.{Place}
use Rattle.build_base.specs.declared.lines.Macro.{Macro}
use Rattle.doc_types.specs.declared.arch.Arch.{Arch}
use Rattle.doc_types.specs.declared.platform.Component.{Component}
use Rattle.doc_types.specs.declared.pcd.Datum.{Datum}
use Rattle.doc_types.specs.declared.pcd.Kind.{Kind}
use Rattle.doc_types.specs.declared.platform.LibraryLine.{LibraryLine}
use Rattle.doc_types.specs.declared.platform.PcdLine.{PcdLine}
use Rattle.doc_types.specs.declared.pcd.PcdName.{PcdName}
use Rattle.doc_types.specs.declared.platform.PlatformDoc.{PlatformDoc}
use Rattle.doc_types.specs.declared.platform.Sku.{Sku}
use Rattle.doc_types.specs.declared.platform.Store.{Store}
use Rattle.doc_types.specs.declared.platform.Store.TheVariants as store
use Rattle.packed_values.specs.Encoding.{Encoding}
use Rattle.packed_values.specs.Plain.{number_encoding, text_encoding, path_encoding, guid_encoding}
use Rattle.packed_values.specs.Base.{place_encoding, macro_encoding}
use Rattle.packed_values.specs.Parts.{encoding_by, pair_encoding, option_encoding, rows_encoding, quadruple_encoding, triple_encoding}
use Rattle.packed_values.specs.Arms.{arm, last_arm, tagged_encoding, unit_encoding}
use Rattle.packed_documents.specs.Pcds.{pcd_name_encoding}
use Rattle.packed_documents.specs.Words.{arch_encoding, datum_encoding, kind_encoding, module_type_encoding}

unfoldable pub sku_encoding : Encoding Sku
sku_encoding = encoding_by (λ x. (x.id, (x.name, x.parent)))
    (λ p. record { id = p.0; name = p.1.0; parent = p.1.1 }) (λ x. refl)
    (pair_encoding (number_encoding 8) (pair_encoding text_encoding text_encoding))

unfoldable pub library_line_encoding : Encoding LibraryLine
library_line_encoding = encoding_by (λ x. (x.at, (x.arch, (x.kind, (x.class, x.instance)))))
    (λ p.
    record { at = p.0; arch = p.1.0; kind = p.1.1.0; class = p.1.1.1.0; instance = p.1.1.1.1 })
    (λ x. refl)
    (pair_encoding place_encoding
    (pair_encoding arch_encoding
    (pair_encoding (option_encoding module_type_encoding)
    (pair_encoding text_encoding path_encoding))))

abbrev pub StoreParts : Type 0
StoreParts = (Unit {0})
    ⊎ (((List ℕ) × ((List ℕ) × (ℕ × (List ℕ)))) ⊎ ((Option ℕ) × (List (List ℕ))))

abbrev pub store_parts : Store → StoreParts
store_parts store.Plain = inl tt
store_parts (store.Hii variable guid offset attributes) =
    inr (inl (variable, (guid, (offset, attributes))))
store_parts (store.Vpd offset rest) = inr (inr ((offset, rest)))

abbrev pub store_of : StoreParts → Store
store_of (inl _) = store.Plain
store_of (inr (inl p)) = store.Hii p.0 p.1.0 p.1.1.0 p.1.1.1
store_of (inr (inr p)) = store.Vpd p.0 p.1

pub store_back : (x : Store) → store_of (store_parts x) ≡ x
store_back store.Plain = refl
store_back (store.Hii variable guid offset attributes) = refl
store_back (store.Vpd offset rest) = refl

unfoldable pub store_encoding : Encoding Store
store_encoding = encoding_by store_parts store_of store_back
    (tagged_encoding
    (arm unit_encoding
    (arm (pair_encoding text_encoding
    (pair_encoding text_encoding (pair_encoding (number_encoding 4) text_encoding)))
    (last_arm (pair_encoding (option_encoding (number_encoding 4))
    (rows_encoding text_encoding))))))

abbrev pub pcd_line_first : PcdLine → Place × Arch × Kind
pcd_line_first x = (x.at, x.arch, x.kind)

unfoldable pub pcd_line_first_encoding : Encoding (Place × Arch × Kind)
pcd_line_first_encoding = triple_encoding place_encoding arch_encoding kind_encoding

abbrev pub pcd_line_second : PcdLine → (List ℕ) × PcdName × (Option (List ℕ))
pcd_line_second x = (x.sku, x.pcd, x.value)

unfoldable pub pcd_line_second_encoding : Encoding ((List ℕ) × PcdName × (Option (List ℕ)))
pcd_line_second_encoding = triple_encoding text_encoding pcd_name_encoding
    (option_encoding text_encoding)

abbrev pub pcd_line_third : PcdLine → (Option Datum) × (Option ℕ) × Store
pcd_line_third x = (x.datum, x.max, x.store)

unfoldable pub pcd_line_third_encoding : Encoding ((Option Datum) × (Option ℕ) × Store)
pcd_line_third_encoding = triple_encoding (option_encoding datum_encoding)
    (option_encoding (number_encoding 4)) store_encoding

abbrev pub pcd_line_of : (Place × Arch × Kind) × ((List ℕ) × PcdName × (Option (List ℕ)))
    × ((Option Datum) × (Option ℕ) × Store) → PcdLine
pcd_line_of p =
    record {
      at = p.0.0;
      arch = p.0.1;
      kind = p.0.2;
      sku = p.1.0;
      pcd = p.1.1;
      value = p.1.2;
      datum = p.2.0;
      max = p.2.1;
      store = p.2.2;
    }

unfoldable pub pcd_line_encoding : Encoding PcdLine
pcd_line_encoding = encoding_by (λ x. (pcd_line_first x, pcd_line_second x, pcd_line_third x))
    pcd_line_of (λ x. refl)
    (triple_encoding pcd_line_first_encoding pcd_line_second_encoding pcd_line_third_encoding)

abbrev pub component_first : Component → Place × Arch × (List ℕ)
component_first x = (x.at, x.arch, x.inf)

unfoldable pub component_first_encoding : Encoding (Place × Arch × (List ℕ))
component_first_encoding = triple_encoding place_encoding arch_encoding path_encoding

abbrev pub component_second : Component → (Option Guid) × (List LibraryLine) × (List PcdLine)
component_second x = (x.file_guid, x.libraries, x.pcds)

unfoldable pub component_second_encoding : Encoding
    ((Option Guid) × (List LibraryLine) × (List PcdLine))
component_second_encoding = triple_encoding (option_encoding guid_encoding)
    (rows_encoding library_line_encoding)
    (rows_encoding pcd_line_encoding)

abbrev pub component_of : (Place × Arch × (List ℕ))
    × ((Option Guid) × (List LibraryLine) × (List PcdLine)) → Component
component_of p =
    record {
      at = p.0.0;
      arch = p.0.1;
      inf = p.0.2;
      file_guid = p.1.0;
      libraries = p.1.1;
      pcds = p.1.2;
    }

unfoldable pub component_encoding : Encoding Component
component_encoding = encoding_by (λ x. (component_first x, component_second x))
    component_of (λ x. refl)
    (pair_encoding component_first_encoding component_second_encoding)

abbrev pub platform_doc_first : PlatformDoc → Place × (List ℕ) × Guid × (List ℕ)
platform_doc_first x = (x.at, x.name, x.guid, x.output)

unfoldable pub platform_doc_first_encoding : Encoding (Place × (List ℕ) × Guid × (List ℕ))
platform_doc_first_encoding = quadruple_encoding place_encoding text_encoding guid_encoding
    path_encoding

abbrev pub platform_doc_second : PlatformDoc → (List Arch) × (List ℕ) × (Option (List ℕ))
    × (List Sku)
platform_doc_second x = (x.arches, x.sku_choice, x.flash, x.skus)

unfoldable pub platform_doc_second_encoding :
    Encoding ((List Arch) × (List ℕ) × (Option (List ℕ)) × (List Sku))
platform_doc_second_encoding = quadruple_encoding (rows_encoding arch_encoding) text_encoding
    (option_encoding path_encoding)
    (rows_encoding sku_encoding)

abbrev pub platform_doc_third : PlatformDoc → (List LibraryLine) × (List Component) × (List PcdLine)
    × (List Macro)
platform_doc_third x = (x.libraries, x.components, x.pcds, x.macros)

unfoldable pub platform_doc_third_encoding :
    Encoding ((List LibraryLine) × (List Component) × (List PcdLine) × (List Macro))
platform_doc_third_encoding = quadruple_encoding (rows_encoding library_line_encoding)
    (rows_encoding component_encoding)
    (rows_encoding pcd_line_encoding) (rows_encoding macro_encoding)

abbrev pub platform_doc_of : (Place × (List ℕ) × Guid × (List ℕ))
    × ((List Arch) × (List ℕ) × (Option (List ℕ)) × (List Sku))
    × ((List LibraryLine) × (List Component) × (List PcdLine) × (List Macro)) → PlatformDoc
platform_doc_of p =
    record {
      at = p.0.0;
      name = p.0.1;
      guid = p.0.2;
      output = p.0.3;
      arches = p.1.0;
      sku_choice = p.1.1;
      flash = p.1.2;
      skus = p.1.3;
      libraries = p.2.0;
      components = p.2.1;
      pcds = p.2.2;
      macros = p.2.3;
    }

unfoldable pub platform_doc_encoding : Encoding PlatformDoc
platform_doc_encoding = encoding_by
    (λ x. (platform_doc_first x, platform_doc_second x, platform_doc_third x))
    platform_doc_of (λ x. refl)
    (triple_encoding platform_doc_first_encoding platform_doc_second_encoding
    platform_doc_third_encoding)
