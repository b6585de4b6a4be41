-- The encoding of PCD names and of what is set: their fields in order. The rule is this project's
-- own.
use Rattle.std.specs.Prelude.{refl}
use Rattle.doc_types.specs.declared.pcd.PcdName.{PcdName}
use Rattle.doc_types.specs.declared.pcd.PcdSet.{PcdSet}
use Rattle.packed_values.specs.Encoding.{Encoding}
use Rattle.packed_values.specs.Plain.{byte_encoding, text_encoding}
use Rattle.packed_values.specs.Base.{place_encoding}
use Rattle.packed_values.specs.Parts.{encoding_by, pair_encoding}

unfoldable pub pcd_name_encoding : Encoding PcdName
pcd_name_encoding = encoding_by (λ x. (x.space, x.name))
    (λ p. record { space = p.0; name = p.1 }) (λ x. refl)
    (pair_encoding text_encoding text_encoding)

unfoldable pub pcd_set_encoding : Encoding PcdSet
pcd_set_encoding = encoding_by (λ x. (x.at, (x.rank, (x.pcd, x.value))))
    (λ p. record { at = p.0; rank = p.1.0; pcd = p.1.1.0; value = p.1.1.1 }) (λ x. refl)
    (pair_encoding place_encoding
    (pair_encoding byte_encoding (pair_encoding pcd_name_encoding text_encoding)))
