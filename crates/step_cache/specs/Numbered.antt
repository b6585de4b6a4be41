-- The encoding of entries with numbers in place of answers: their fields in order. The rule is this
-- project's own.
use Rattle.std.specs.Prelude.{ℕ, List, refl}
use Rattle.step_cache.specs.declared.numbered.Asked.{Asked}
use Rattle.step_cache.specs.declared.numbered.Numbered.{Numbered}
use Rattle.step_cache.specs.declared.numbered.Pooled.{Pooled}
use Rattle.packed_values.specs.Encoding.{Encoding}
use Rattle.packed_values.specs.Plain.{number_encoding, text_encoding}
use Rattle.packed_values.specs.Parts.{encoding_by, pair_encoding, rows_encoding}
use Rattle.packed_outcomes.specs.Key.{key_encoding}
use Rattle.packed_outcomes.specs.Talk.{ask_encoding}

unfoldable pub asked_encoding : Encoding Asked
asked_encoding = encoding_by (λ x. (x.ask, x.number)) (λ p. record { ask = p.0; number = p.1 })
    (λ x. refl)
    (pair_encoding ask_encoding (number_encoding 8))

unfoldable pub numbered_encoding : Encoding Numbered
numbered_encoding = encoding_by (λ x. (x.key, (x.batches, x.result)))
    (λ p. record { key = p.0; batches = p.1.0; result = p.1.1 }) (λ x. refl)
    (pair_encoding key_encoding
    (pair_encoding (rows_encoding (rows_encoding asked_encoding)) (number_encoding 8)))

unfoldable pub pooled_encoding : Encoding Pooled
pooled_encoding = encoding_by (λ x. (x.pool, x.entries)) (λ p. record { pool = p.0; entries = p.1 })
    (λ x. refl)
    (pair_encoding (rows_encoding text_encoding) (rows_encoding numbered_encoding))

-- a pool and entries as the parts of a text
abbrev pub pooled_with : List (List ℕ) → List Numbered → Pooled
pooled_with pool entries = record { pool = pool; entries = entries }
