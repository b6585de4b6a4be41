-- Places that are multiples of 16, one after another.
use Rattle.std.proofs.Common.{◌≡◌, ℕ, ◌-◌, ◌%◌, ◌<◌, ◌≤◌, ◌==◌, ◌&&◌, Bool, true, false, None, Some, List, length, drop, take, refl, arith, sym, length-drop}
use Rattle.std.proofs.lemmas.List.{take_all}
use Rattle.build_base.proofs.Least.{find_least, find_none}
use Rattle.volume_reader.specs.Head.{is_head, volume_from}

-- whether a volume's header stands at a place
abbrev pub stands : List ℕ → ℕ → Bool
stands bytes at = at % 16 == 0 && is_head (drop at bytes)

whole_rest : (bytes : List ℕ) (at : ℕ) → take (length bytes - at) (drop at bytes) ≡ drop at bytes
whole_rest bytes at = take_all (length bytes - at) (drop at bytes) (omega (arith, length-drop at bytes))

pub volume_here : (bytes : List ℕ) (from at : ℕ) → from ≤ at → at < length bytes → at % 16 ≡ 0 → is_head (take (length bytes - at) (drop at bytes)) ≡ true → ((m : ℕ) → from ≤ m → m < at → stands bytes m ≡ false) → Some at ≡ volume_from bytes from
unfolding volume_from
volume_here bytes from at a b e h none = sym (find_least (stands bytes) from (length bytes - from) at a (omega arith) (let k = rw (whole_rest bytes at) at h in rw (e, k) refl) none)

pub volume_none : (bytes : List ℕ) (from at : ℕ) → length bytes ≤ at → ((m : ℕ) → from ≤ m → m < at → stands bytes m ≡ false) → None ≡ volume_from bytes from
unfolding volume_from
volume_none bytes from at b none = sym (find_none (stands bytes) from (length bytes - from) (λ m a c. none m a (omega arith)))
