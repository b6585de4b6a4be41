-- The encoding of package descriptions: their fields in order. The rule is this project's own.
use Rattle.std.specs.Prelude.{ℕ, List, refl}
use Rattle.build_base.specs.declared.fault.Place.{Place}
use Rattle.doc_types.specs.declared.arch.Arch.{Arch}
use Rattle.doc_types.specs.declared.pcd.Datum.{Datum}
use Rattle.doc_types.specs.declared.package.DecDoc.{DecDoc}
use Rattle.doc_types.specs.declared.package.DecPcd.{DecPcd}
use Rattle.doc_types.specs.declared.pcd.Kind.{Kind}
use Rattle.doc_types.specs.declared.depex.NamedGuid.{NamedGuid}
use Rattle.doc_types.specs.declared.pcd.PcdName.{PcdName}
use Rattle.packed_values.specs.Encoding.{Encoding}
use Rattle.packed_values.specs.Plain.{number_encoding, text_encoding, guid_encoding}
use Rattle.packed_values.specs.Base.{place_encoding}
use Rattle.packed_values.specs.Parts.{encoding_by, pair_encoding, rows_encoding, quadruple_encoding, triple_encoding}
use Rattle.packed_documents.specs.Pcds.{pcd_name_encoding}
use Rattle.packed_documents.specs.Words.{arch_encoding, datum_encoding, kind_encoding}

unfoldable pub named_guid_encoding : Encoding NamedGuid
named_guid_encoding = encoding_by (λ x. (x.at, (x.arch, (x.name, x.guid))))
    (λ p. record { at = p.0; arch = p.1.0; name = p.1.1.0; guid = p.1.1.1 }) (λ x. refl)
    (pair_encoding place_encoding
    (pair_encoding arch_encoding (pair_encoding text_encoding guid_encoding)))

abbrev pub dec_pcd_first : DecPcd → Place × Arch × Kind × PcdName
dec_pcd_first x = (x.at, x.arch, x.kind, x.pcd)

unfoldable pub dec_pcd_first_encoding : Encoding (Place × Arch × Kind × PcdName)
dec_pcd_first_encoding = quadruple_encoding place_encoding arch_encoding kind_encoding
    pcd_name_encoding

abbrev pub dec_pcd_second : DecPcd → (List ℕ) × Datum × ℕ
dec_pcd_second x = (x.default, x.datum, x.token)

unfoldable pub dec_pcd_second_encoding : Encoding ((List ℕ) × Datum × ℕ)
dec_pcd_second_encoding = triple_encoding text_encoding datum_encoding (number_encoding 4)

abbrev pub dec_pcd_of : (Place × Arch × Kind × PcdName) × ((List ℕ) × Datum × ℕ) → DecPcd
dec_pcd_of p =
    record {
      at = p.0.0;
      arch = p.0.1;
      kind = p.0.2;
      pcd = p.0.3;
      default = p.1.0;
      datum = p.1.1;
      token = p.1.2;
    }

unfoldable pub dec_pcd_encoding : Encoding DecPcd
dec_pcd_encoding = encoding_by (λ x. (dec_pcd_first x, dec_pcd_second x))
    dec_pcd_of (λ x. refl)
    (pair_encoding dec_pcd_first_encoding dec_pcd_second_encoding)

unfoldable pub dec_doc_encoding : Encoding DecDoc
dec_doc_encoding = encoding_by (λ x. (x.at, (x.name, (x.guid, (x.guids, x.pcds)))))
    (λ p. record { at = p.0; name = p.1.0; guid = p.1.1.0; guids = p.1.1.1.0; pcds = p.1.1.1.1 })
    (λ x. refl)
    (pair_encoding place_encoding
    (pair_encoding text_encoding
    (pair_encoding guid_encoding
    (pair_encoding (rows_encoding named_guid_encoding) (rows_encoding dec_pcd_encoding)))))
