-- How long a head is.
use Rattle.std.proofs.Common.{◌≡◌, ℕ, length, refl}
use Rattle.packed_values.specs.Plain.{number_encoding}
use Rattle.cache_heads.specs.Heads.{head_of}

pub length_head : (e n : ℕ) → length (head_of e n) ≡ 20
unfolding number_encoding
length_head e n = refl
