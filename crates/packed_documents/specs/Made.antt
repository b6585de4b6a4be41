-- The encoding of what is made for modules: their fields in order. The rule is this project's own.
use Rattle.std.specs.Prelude.{ℕ, List, refl}
use Rattle.doc_types.specs.declared.choice.Call.{Call}
use Rattle.doc_types.specs.declared.choice.Choice.{Choice}
use Rattle.doc_types.specs.declared.pcd.Datum.{Datum}
use Rattle.doc_types.specs.declared.image.FileImage.{FileImage}
use Rattle.doc_types.specs.declared.pcd.Kind.{Kind}
use Rattle.doc_types.specs.declared.choice.Module.{Module}
use Rattle.doc_types.specs.declared.pcd.PcdName.{PcdName}
use Rattle.doc_types.specs.declared.values.PcdRow.{PcdRow}
use Rattle.doc_types.specs.declared.texts.Texts.{Texts}
use Rattle.doc_types.specs.declared.values.Values.{Values}
use Rattle.doc_types.specs.declared.vpd.Vpd.{Vpd}
use Rattle.doc_types.specs.declared.vpd.VpdPlace.{VpdPlace}
use Rattle.packed_values.specs.Encoding.{Encoding}
use Rattle.packed_values.specs.Plain.{byte_encoding, number_encoding, bool_encoding, text_encoding, path_encoding, guid_encoding}
use Rattle.packed_values.specs.Base.{place_encoding}
use Rattle.packed_values.specs.Parts.{encoding_by, pair_encoding, rows_encoding, quadruple_encoding}
use Rattle.packed_documents.specs.Pcds.{pcd_name_encoding}
use Rattle.packed_documents.specs.Words.{arch_encoding, datum_encoding, kind_encoding}

unfoldable pub module_encoding : Encoding Module
module_encoding = encoding_by (λ x. (x.arch, x.inf))
    (λ p. record { arch = p.0; inf = p.1 }) (λ x. refl)
    (pair_encoding arch_encoding path_encoding)

unfoldable pub call_encoding : Encoding Call
call_encoding = encoding_by (λ x. (x.inf, x.name))
    (λ p. record { inf = p.0; name = p.1 }) (λ x. refl)
    (pair_encoding path_encoding text_encoding)

unfoldable pub choice_encoding : Encoding Choice
choice_encoding = encoding_by (λ x. (x.library, (x.instances, (x.constructors, x.destructors))))
    (λ p.
    record { library = p.0; instances = p.1.0; constructors = p.1.1.0; destructors = p.1.1.1 })
    (λ x. refl)
    (pair_encoding bool_encoding
    (pair_encoding (rows_encoding path_encoding)
    (pair_encoding (rows_encoding call_encoding) (rows_encoding call_encoding))))

abbrev pub pcd_row_first : PcdRow → PcdName × Kind × Datum × ℕ
pcd_row_first x = (x.pcd, x.kind, x.datum, x.token)

unfoldable pub pcd_row_first_encoding : Encoding (PcdName × Kind × Datum × ℕ)
pcd_row_first_encoding = quadruple_encoding pcd_name_encoding kind_encoding datum_encoding
    (number_encoding 4)

abbrev pub pcd_row_second : PcdRow → ℕ × ℕ × (List ℕ) × (List ℕ)
pcd_row_second x = (x.max, x.rank, x.sku, x.value)

unfoldable pub pcd_row_second_encoding : Encoding (ℕ × ℕ × (List ℕ) × (List ℕ))
pcd_row_second_encoding = quadruple_encoding (number_encoding 4) byte_encoding text_encoding
    text_encoding

abbrev pub pcd_row_of : (PcdName × Kind × Datum × ℕ) × (ℕ × ℕ × (List ℕ) × (List ℕ)) → PcdRow
pcd_row_of p =
    record {
      pcd = p.0.0;
      kind = p.0.1;
      datum = p.0.2;
      token = p.0.3;
      max = p.1.0;
      rank = p.1.1;
      sku = p.1.2;
      value = p.1.3;
    }

unfoldable pub pcd_row_encoding : Encoding PcdRow
pcd_row_encoding = encoding_by (λ x. (pcd_row_first x, pcd_row_second x))
    pcd_row_of (λ x. refl)
    (pair_encoding pcd_row_first_encoding pcd_row_second_encoding)

unfoldable pub values_encoding : Encoding Values
values_encoding = encoding_by (λ x. x.rows)
    (λ p. record { rows = p }) (λ x. refl)
    (rows_encoding pcd_row_encoding)

unfoldable pub texts_encoding : Encoding Texts
texts_encoding = encoding_by (λ x. (x.c, x.h))
    (λ p. record { c = p.0; h = p.1 }) (λ x. refl)
    (pair_encoding text_encoding text_encoding)

unfoldable pub file_image_encoding : Encoding FileImage
file_image_encoding = encoding_by (λ x. (x.at, (x.guid, (x.align, x.bytes))))
    (λ p. record { at = p.0; guid = p.1.0; align = p.1.1.0; bytes = p.1.1.1 }) (λ x. refl)
    (pair_encoding place_encoding
    (pair_encoding guid_encoding (pair_encoding (number_encoding 4) text_encoding)))

unfoldable pub vpd_place_encoding : Encoding VpdPlace
vpd_place_encoding = encoding_by (λ x. (x.pcd, (x.sku, (x.offset, x.size))))
    (λ p. record { pcd = p.0; sku = p.1.0; offset = p.1.1.0; size = p.1.1.1 }) (λ x. refl)
    (pair_encoding pcd_name_encoding
    (pair_encoding text_encoding (pair_encoding (number_encoding 4) (number_encoding 4))))

unfoldable pub vpd_encoding : Encoding Vpd
vpd_encoding = encoding_by (λ x. (x.image, (x.map, x.places)))
    (λ p. record { image = p.0; map = p.1.0; places = p.1.1 }) (λ x. refl)
    (pair_encoding text_encoding (pair_encoding text_encoding (rows_encoding vpd_place_encoding)))
