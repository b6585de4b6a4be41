-- What a key feeds to a hash; the rules are this project's own.
use Rattle.std.specs.Prelude.{◌≡◌, ◌+◌, ◌*◌, ◌%◌, ◌^◌, ℕ, List, IsTrue}
use Rattle.std.specs.Hash as fed
use Rattle.std.specs.Ordering.{eq_by_cmp}
use Rattle.std.proofs.Common.{ap}
use Rattle.std.proofs.lemmas.Map.Views.{tells_apart}
use Rattle.build_base.specs.Digest.{digest}
use Rattle.step_pack.specs.declared.key.Key.{Key}
use Rattle.step_pack.specs.declared.key.Key.TheVariants as key
use Rattle.step_pack.specs.KeyLaws.{keys_exact}
use Rattle.step_pack.specs.Keys.{variant, arch_of, first_of, second_of, key_cmp}

-- the digest of the path, where there is one, else 0
abbrev pub path_number : Key → ℕ
path_number (key.Dec path) = digest path
path_number (key.Inf path) = digest path
path_number (key.Choice m) = digest m.inf
path_number (key.Values m) = digest m.inf
path_number (key.Code m) = digest m.inf
path_number (key.Depex m) = digest m.inf
path_number _ = 0

-- the fields but for the path, as one number
abbrev pub fields_number : Key → ℕ
fields_number k =
    (first_of k * 65536 + second_of k) * 256 + arch_of k * 16 + variant k

-- a number of a key; others may have it too
abbrev pub key_number : Key → ℕ
key_number k = (path_number k + fields_number k) % 2 ^ 64

-- the one write of a key
abbrev pub key_input : Key → List (List ℕ)
key_input k = fed.u64 (key_number k)

-- equal keys make the same write
pub equal_inputs : (a b : Key) → IsTrue (eq_by_cmp key_cmp a b) → key_input a ≡ key_input b
equal_inputs a b e = ap key_input (tells_apart keys_exact a b e)
