-- The order of keys is total, and keys that compare equal are the same; the rules are this
-- project's own.
use Rattle.std.proofs.Common.{◌≡◌, ℕ, List, [], ◌∷◌, refl, sym, ap, ◌∙◌, true≢false, slice_index_or}
use Rattle.std.specs.Cmp.{IsTotalOrder, then_total, on_total, nat_cmp_total}
use Rattle.std.specs.Cmp.Lexicographic.{nat_list_cmp_total}
use Rattle.std.specs.Int.{to_le_bytes, w32, w64}
use Rattle.std.specs.Ordering.{nat_cmp, ordering_then, is_lt, is_gt}
use Rattle.std.specs.declared.cmp.Ordering.{Ordering}
use Rattle.std.specs.declared.cmp.Ordering.TheVariants.{Less, Equal, Greater}
use Rattle.std.proofs.lemmas.Map.Lookups.{CmpEqualImpliesEq, exact_bytes, exact_unsigned}
use Rattle.std.specs.Prelude.{length}
use Rattle.doc_types.specs.declared.arch.Arch.{Arch}
use Rattle.doc_types.specs.declared.arch.Arch.TheVariants.{Common, Ia32, X64, Arm, Aarch64, Riscv64, Loongarch64, Ebc}
use Rattle.doc_types.specs.declared.choice.Module.{Module}
use Rattle.step_pack.specs.declared.key.Key.{Key}
use Rattle.step_pack.specs.declared.key.Key.TheVariants as key
use Rattle.step_pack.specs.Keys.{arch_byte, variant, arch_of, path_of, first_of, second_of, text_cmp, number_cmp, path_cmp, key_cmp}

pub numbers_total : IsTotalOrder number_cmp
unfolding number_cmp
numbers_total = then_total (on_total (to_le_bytes w32) nat_list_cmp_total) nat_cmp_total

pub paths_total : IsTotalOrder path_cmp
unfolding path_cmp
paths_total =
    then_total (on_total (λ (path : List ℕ). to_le_bytes w64 (length path)) nat_list_cmp_total)
    nat_list_cmp_total

pub keys_total : IsTotalOrder key_cmp
unfolding key_cmp
keys_total =
    then_total (on_total variant nat_cmp_total)
    (then_total (on_total arch_of nat_cmp_total)
    (then_total (on_total path_of paths_total)
    (then_total (on_total first_of numbers_total) (on_total second_of numbers_total))))

-- where one behind the other is equal, both are
both_equal : (a b : Ordering) → ordering_then a b ≡ Equal → (a ≡ Equal) × (b ≡ Equal)
both_equal Less b e = absurd (true≢false (ap is_lt e))
both_equal Equal b e = (refl, e)
both_equal Greater b e = absurd (true≢false (ap is_gt e))

pub numbers_exact : CmpEqualImpliesEq number_cmp
unfolding number_cmp
numbers_exact a b e = exact_unsigned a b
    (both_equal (text_cmp (to_le_bytes w32 a) (to_le_bytes w32 b)) (nat_cmp a b) e).1

pub paths_exact : CmpEqualImpliesEq path_cmp
unfolding path_cmp
paths_exact p q e =
    exact_bytes p q (both_equal (text_cmp (to_le_bytes w64 (length p)) (to_le_bytes w64 (length q)))
    (text_cmp p q) e).1

-- the key of a variant and fields
abbrev pub arch_at : ℕ → Arch
arch_at n = slice_index_or (Common ∷ Ia32 ∷ X64 ∷ Arm ∷ Aarch64 ∷ Riscv64 ∷ Loongarch64 ∷ Ebc ∷ [])
    n Common

abbrev pub module_at : ℕ → List ℕ → Module
module_at arch path = record { arch = arch_at arch; inf = path }

abbrev pub key_at : ℕ → ℕ → List ℕ → ℕ → ℕ → Key
key_at n arch path v i =
    slice_index_or (
    key.Dec path ∷ key.Inf path ∷ key.Platform ∷ key.Flash ∷ key.Choice (module_at arch path)
    ∷ key.PlatformPcds
    ∷ key.Values (module_at arch path) ∷ key.Code (module_at arch path)
    ∷ key.Depex (module_at arch path)
    ∷ key.File v i ∷ key.Volume v ∷ key.Device v ∷ key.Report ∷ key.All ∷ key.Vpd ∷ key.Based v
    ∷ []) n key.All

arch_back : (arch : Arch) → arch_at (arch_byte arch) ≡ arch
arch_back Common = refl
arch_back Ia32 = refl
arch_back X64 = refl
arch_back Arm = refl
arch_back Aarch64 = refl
arch_back Riscv64 = refl
arch_back Loongarch64 = refl
arch_back Ebc = refl

module_back : (m : Module) → module_at (arch_byte m.arch) m.inf ≡ m
module_back m = ap (λ (a : Arch). record { arch = a; inf = m.inf }) (arch_back m.arch)

pub key_back : (k : Key) → key_at (variant k) (arch_of k) (path_of k) (first_of k) (second_of k) ≡ k
key_back (key.Dec path) = refl
key_back (key.Inf path) = refl
key_back key.Platform = refl
key_back key.Flash = refl
key_back (key.Choice m) = ap key.Choice (module_back m)
key_back key.PlatformPcds = refl
key_back (key.Values m) = ap key.Values (module_back m)
key_back (key.Code m) = ap key.Code (module_back m)
key_back (key.Depex m) = ap key.Depex (module_back m)
key_back (key.File v i) = refl
key_back (key.Volume v) = refl
key_back (key.Device d) = refl
key_back key.Report = refl
key_back key.All = refl
key_back key.Vpd = refl
key_back (key.Based v) = refl

same_fields : (n m a b : ℕ) (p q : List ℕ) (v w i j : ℕ) → n ≡ m → a ≡ b → p ≡ q → v ≡ w → i ≡ j
    → key_at n a p v i ≡ key_at m b q w j
same_fields n m a b p q v w i j e f g h l = rw (e, f, g, h, l) refl

pub keys_exact : CmpEqualImpliesEq key_cmp
unfolding key_cmp
keys_exact x y e =
    let numbers : Ordering = ordering_then (number_cmp (first_of x) (first_of y))
    (number_cmp (second_of x) (second_of y)) in
    let paths : Ordering = ordering_then (path_cmp (path_of x) (path_of y)) numbers in
    let arches : Ordering = ordering_then (nat_cmp (arch_of x) (arch_of y)) paths in
    let one : (nat_cmp (variant x) (variant y) ≡ Equal) × (arches ≡ Equal) =
    both_equal (nat_cmp (variant x) (variant y)) arches e in
    let two : (nat_cmp (arch_of x) (arch_of y) ≡ Equal) × (paths ≡ Equal) =
    both_equal (nat_cmp (arch_of x) (arch_of y)) paths one.1 in
    let three : (path_cmp (path_of x) (path_of y) ≡ Equal) × (numbers ≡ Equal) =
    both_equal (path_cmp (path_of x) (path_of y)) numbers two.1 in
    let four : (number_cmp (first_of x) (first_of y) ≡ Equal)
    × (number_cmp (second_of x) (second_of y) ≡ Equal) =
    both_equal (number_cmp (first_of x) (first_of y)) (number_cmp (second_of x) (second_of y))
    three.1 in
    sym (key_back x)
    ∙ same_fields (variant x) (variant y) (arch_of x) (arch_of y) (path_of x) (path_of y)
    (first_of x) (first_of y) (second_of x) (second_of y)
    (exact_unsigned (variant x) (variant y) one.0) (exact_unsigned (arch_of x) (arch_of y) two.0)
    (paths_exact (path_of x) (path_of y) three.0)
    (numbers_exact (first_of x) (first_of y) four.0)
    (numbers_exact (second_of x) (second_of y) four.1)
    ∙ key_back y
