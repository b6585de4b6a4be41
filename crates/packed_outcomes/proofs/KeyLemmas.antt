-- The encoding of a key is its packed form.
use Rattle.std.proofs.Common.{◌≡◌, ℕ, ◌∷◌, refl, ap}
use Rattle.doc_types.specs.declared.arch.Arch.{Arch}
use Rattle.doc_types.specs.declared.arch.Arch.TheVariants.{Common, Ia32, X64, Arm, Aarch64, Riscv64, Loongarch64, Ebc}
use Rattle.step_pack.specs.Keys.{arch_byte}
use Rattle.step_pack.specs.Packed.{packed, packed_path}
use Rattle.step_pack.specs.declared.key.Key.{Key}
use Rattle.step_pack.specs.declared.key.Key.TheVariants as key
use Rattle.packed_values.specs.Plain.{byte_encoding, number_encoding, text_encoding, path_encoding}
use Rattle.packed_values.specs.Parts.{pair_encoding}
use Rattle.packed_values.specs.Arms.{arm, last_arm, tagged_encoding, unit_encoding}
use Rattle.packed_documents.specs.Words.{arch_number, arch_encoding}
use Rattle.packed_documents.specs.Made.{module_encoding}
use Rattle.packed_outcomes.specs.Key.{key_encoding}

same_arch : (arch : Arch) → arch_number arch ≡ arch_byte arch
same_arch Common = refl
same_arch Ia32 = refl
same_arch X64 = refl
same_arch Arm = refl
same_arch Aarch64 = refl
same_arch Riscv64 = refl
same_arch Loongarch64 = refl
same_arch Ebc = refl

pub key_encoding_is_packed : (k : Key) → key_encoding.encode k ≡ packed k
unfolding key_encoding module_encoding arch_encoding path_encoding text_encoding number_encoding byte_encoding pair_encoding arm last_arm tagged_encoding unit_encoding packed
key_encoding_is_packed (key.Dec path) = refl
key_encoding_is_packed (key.Inf path) = refl
key_encoding_is_packed key.Platform = refl
key_encoding_is_packed key.Flash = refl
key_encoding_is_packed (key.Choice m) = ap (λ (n : ℕ). 4 ∷ n ∷ packed_path m.inf) (same_arch m.arch)
key_encoding_is_packed key.PlatformPcds = refl
key_encoding_is_packed (key.Values m) = ap (λ (n : ℕ). 6 ∷ n ∷ packed_path m.inf) (same_arch m.arch)
key_encoding_is_packed (key.Code m) = ap (λ (n : ℕ). 7 ∷ n ∷ packed_path m.inf) (same_arch m.arch)
key_encoding_is_packed (key.Depex m) = ap (λ (n : ℕ). 8 ∷ n ∷ packed_path m.inf) (same_arch m.arch)
key_encoding_is_packed (key.File v i) = refl
key_encoding_is_packed (key.Volume v) = refl
key_encoding_is_packed (key.Device d) = refl
key_encoding_is_packed key.Report = refl
key_encoding_is_packed key.All = refl
key_encoding_is_packed key.Vpd = refl
key_encoding_is_packed (key.Based number) = refl
