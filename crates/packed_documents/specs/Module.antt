-- The encoding of module descriptions: their fields in order. The rule is this project's own.
use Rattle.std.specs.Prelude.{ℕ, List, refl}
use Rattle.build_base.specs.declared.guid.Guid.{Guid}
use Rattle.build_base.specs.declared.fault.Place.{Place}
use Rattle.doc_types.specs.declared.depex.DepexPart.{DepexPart}
use Rattle.doc_types.specs.declared.module.InfDoc.{InfDoc}
use Rattle.doc_types.specs.declared.module_type.ModuleType.{ModuleType}
use Rattle.doc_types.specs.declared.module.Named.{Named}
use Rattle.doc_types.specs.declared.module.Served.{Served}
use Rattle.doc_types.specs.declared.module.UsedPcd.{UsedPcd}
use Rattle.packed_values.specs.Encoding.{Encoding}
use Rattle.packed_values.specs.Plain.{text_encoding, guid_encoding}
use Rattle.packed_values.specs.Base.{place_encoding}
use Rattle.packed_values.specs.Parts.{encoding_by, pair_encoding, option_encoding, rows_encoding, quadruple_encoding, triple_encoding}
use Rattle.packed_documents.specs.Pcds.{pcd_name_encoding}
use Rattle.packed_documents.specs.Words.{arch_encoding, asked_encoding, module_type_encoding}

unfoldable pub named_encoding : Encoding Named
named_encoding = encoding_by (λ x. (x.at, (x.arch, x.name)))
    (λ p. record { at = p.0; arch = p.1.0; name = p.1.1 }) (λ x. refl)
    (pair_encoding place_encoding (pair_encoding arch_encoding text_encoding))

unfoldable pub served_encoding : Encoding Served
served_encoding = encoding_by (λ x. (x.name, x.types))
    (λ p. record { name = p.0; types = p.1 }) (λ x. refl)
    (pair_encoding text_encoding (rows_encoding module_type_encoding))

unfoldable pub used_pcd_encoding : Encoding UsedPcd
used_pcd_encoding = encoding_by (λ x. (x.at, (x.arch, (x.asked, (x.pcd, x.default)))))
    (λ p. record { at = p.0; arch = p.1.0; asked = p.1.1.0; pcd = p.1.1.1.0; default = p.1.1.1.1 })
    (λ x. refl)
    (pair_encoding place_encoding
    (pair_encoding arch_encoding
    (pair_encoding asked_encoding
    (pair_encoding pcd_name_encoding (option_encoding text_encoding)))))

unfoldable pub depex_part_encoding : Encoding DepexPart
depex_part_encoding = encoding_by (λ x. (x.at, (x.arch, (x.kind, x.terms))))
    (λ p. record { at = p.0; arch = p.1.0; kind = p.1.1.0; terms = p.1.1.1 }) (λ x. refl)
    (pair_encoding place_encoding
    (pair_encoding arch_encoding
    (pair_encoding (option_encoding module_type_encoding) (rows_encoding text_encoding))))

abbrev pub inf_doc_first : InfDoc → Place × (List ℕ) × Guid × ModuleType
inf_doc_first x = (x.at, x.base_name, x.file_guid, x.module_type)

unfoldable pub inf_doc_first_encoding : Encoding (Place × (List ℕ) × Guid × ModuleType)
inf_doc_first_encoding = quadruple_encoding place_encoding text_encoding guid_encoding
    module_type_encoding

abbrev pub inf_doc_second : InfDoc → (List ℕ) × (List Named) × (List Named) × (List Named)
inf_doc_second x = (x.version, x.entry_points, x.constructors, x.destructors)

unfoldable pub inf_doc_second_encoding : Encoding
    ((List ℕ) × (List Named) × (List Named) × (List Named))
inf_doc_second_encoding = quadruple_encoding text_encoding (rows_encoding named_encoding)
    (rows_encoding named_encoding)
    (rows_encoding named_encoding)

abbrev pub inf_doc_third : InfDoc → (List Served) × (List Named) × (List Named)
inf_doc_third x = (x.serves, x.packages, x.classes)

unfoldable pub inf_doc_third_encoding : Encoding ((List Served) × (List Named) × (List Named))
inf_doc_third_encoding = triple_encoding (rows_encoding served_encoding)
    (rows_encoding named_encoding)
    (rows_encoding named_encoding)

abbrev pub inf_doc_fourth : InfDoc → (List Named) × (List UsedPcd) × (List DepexPart)
inf_doc_fourth x = (x.guids, x.pcds, x.depex)

unfoldable pub inf_doc_fourth_encoding : Encoding ((List Named) × (List UsedPcd) × (List DepexPart))
inf_doc_fourth_encoding = triple_encoding (rows_encoding named_encoding)
    (rows_encoding used_pcd_encoding)
    (rows_encoding depex_part_encoding)

abbrev pub inf_doc_of : (Place × (List ℕ) × Guid × ModuleType)
    × ((List ℕ) × (List Named) × (List Named) × (List Named))
    × ((List Served) × (List Named) × (List Named))
    × ((List Named) × (List UsedPcd) × (List DepexPart)) → InfDoc
inf_doc_of p =
    record {
      at = p.0.0;
      base_name = p.0.1;
      file_guid = p.0.2;
      module_type = p.0.3;
      version = p.1.0;
      entry_points = p.1.1;
      constructors = p.1.2;
      destructors = p.1.3;
      serves = p.2.0;
      packages = p.2.1;
      classes = p.2.2;
      guids = p.3.0;
      pcds = p.3.1;
      depex = p.3.2;
    }

unfoldable pub inf_doc_encoding : Encoding InfDoc
inf_doc_encoding = encoding_by
    (λ x. (inf_doc_first x, inf_doc_second x, inf_doc_third x, inf_doc_fourth x))
    inf_doc_of (λ x. refl)
    (quadruple_encoding inf_doc_first_encoding inf_doc_second_encoding inf_doc_third_encoding
    inf_doc_fourth_encoding)
