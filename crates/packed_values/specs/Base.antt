-- The encoding of places, faults and macros: their fields in order.
use Rattle.std.specs.Prelude.{refl}
use Rattle.build_base.specs.declared.fault.Place.{Place}
use Rattle.build_base.specs.declared.fault.Fault.{Fault}
use Rattle.build_base.specs.declared.lines.Macro.{Macro}
use Rattle.packed_values.specs.Encoding.{Encoding}
use Rattle.packed_values.specs.Plain.{number_encoding, text_encoding, path_encoding}
use Rattle.packed_values.specs.Parts.{encoding_by, pair_encoding}

unfoldable pub place_encoding : Encoding Place
place_encoding = encoding_by (λ x. (x.path, x.line)) (λ p. record { path = p.0; line = p.1 })
    (λ x. refl)
    (pair_encoding path_encoding (number_encoding 8))

unfoldable pub fault_encoding : Encoding Fault
fault_encoding = encoding_by (λ x. (x.code, (x.place, x.detail)))
    (λ p. record { code = p.0; place = p.1.0; detail = p.1.1 }) (λ x. refl)
    (pair_encoding (number_encoding 2) (pair_encoding place_encoding text_encoding))

unfoldable pub macro_encoding : Encoding Macro
macro_encoding = encoding_by (λ x. (x.name, x.value)) (λ p. record { name = p.0; value = p.1 })
    (λ x. refl)
    (pair_encoding text_encoding text_encoding)
