-- The order of the keys of steps. It is this project's own, and that of the bytes of their packed
-- form: a key's variant, and then its fields, where a number has its bytes lowest first, and a path
-- the eight bytes of its length before its own.
use Rattle.std.specs.Prelude.{ℕ, List, [], length}
use Rattle.std.specs.Cmp.Lexicographic.{slice_cmp}
use Rattle.std.specs.Int.{to_le_bytes, w32, w64}
use Rattle.std.specs.Ordering.{nat_cmp, on, then_cmp, ordering_then}
use Rattle.std.specs.declared.cmp.Ordering.{Ordering}
use Rattle.std.specs.declared.cmp.Ordering.TheVariants.{Equal}
use Rattle.doc_types.specs.declared.arch.Arch.{Arch}
use Rattle.doc_types.specs.declared.arch.Arch.TheVariants.{Common, Ia32, X64, Arm, Aarch64, Riscv64, Loongarch64, Ebc}
use Rattle.doc_types.specs.declared.choice.Module.{Module}
use Rattle.step_pack.specs.declared.key.Key.{Key}
use Rattle.step_pack.specs.declared.key.Key.TheVariants as key

-- the byte of an architecture
abbrev pub arch_byte : Arch → ℕ
arch_byte Common = 0
arch_byte Ia32 = 1
arch_byte X64 = 2
arch_byte Arm = 3
arch_byte Aarch64 = 4
arch_byte Riscv64 = 5
arch_byte Loongarch64 = 6
arch_byte Ebc = 7

-- the byte of a variant
abbrev pub variant : Key → ℕ
variant (key.Dec path) = 0
variant (key.Inf path) = 1
variant key.Platform = 2
variant key.Flash = 3
variant (key.Choice m) = 4
variant key.PlatformPcds = 5
variant (key.Values m) = 6
variant (key.Code m) = 7
variant (key.Depex m) = 8
variant (key.File v i) = 9
variant (key.Volume v) = 10
variant (key.Device d) = 11
variant key.Report = 12
variant key.All = 13
variant key.Vpd = 14
variant (key.Based v) = 15

-- the fields of a key: one that it doesn't have is 0, or empty
abbrev pub arch_of : Key → ℕ
arch_of (key.Choice m) = arch_byte m.arch
arch_of (key.Values m) = arch_byte m.arch
arch_of (key.Code m) = arch_byte m.arch
arch_of (key.Depex m) = arch_byte m.arch
arch_of _ = 0

abbrev pub path_of : Key → List ℕ
path_of (key.Dec path) = path
path_of (key.Inf path) = path
path_of (key.Choice m) = m.inf
path_of (key.Values m) = m.inf
path_of (key.Code m) = m.inf
path_of (key.Depex m) = m.inf
path_of _ = []

abbrev pub first_of : Key → ℕ
first_of (key.File v i) = v
first_of (key.Volume v) = v
first_of (key.Device d) = d
first_of (key.Based v) = v
first_of _ = 0

abbrev pub second_of : Key → ℕ
second_of (key.File v i) = i
second_of _ = 0

-- the order of texts, byte by byte
abbrev pub text_cmp : List ℕ → List ℕ → Ordering
text_cmp = slice_cmp nat_cmp

-- The order of numbers by their bytes, lowest first. Numbers below 2^32 that have the same bytes
-- are the same; so that this holds of all numbers, they are compared too.
unfoldable pub number_cmp : ℕ → ℕ → Ordering
number_cmp = then_cmp (on (to_le_bytes w32) text_cmp) nat_cmp

-- the order of paths by the bytes of their lengths, lowest first, and then by their own
unfoldable pub path_cmp : List ℕ → List ℕ → Ordering
path_cmp = then_cmp (on (λ path. to_le_bytes w64 (length path)) text_cmp) text_cmp

-- the order of keys of one variant, by their fields
abbrev pub fields_cmp : Key → Key → Ordering
fields_cmp =
    then_cmp (on arch_of nat_cmp) (
    then_cmp (on path_of path_cmp) (
    then_cmp (on first_of number_cmp) (on second_of number_cmp)))

-- the same by the fields alone that the first of them has
abbrev pub module_cmp : Module → Key → Ordering
module_cmp m b = ordering_then (nat_cmp (arch_byte m.arch) (arch_of b)) (path_cmp m.inf (path_of b))

abbrev pub item_cmp : ℕ → ℕ → Key → Ordering
item_cmp v i b = ordering_then (number_cmp v (first_of b)) (number_cmp i (second_of b))

abbrev pub held_cmp : Key → Key → Ordering
held_cmp (key.Dec path) b = path_cmp path (path_of b)
held_cmp (key.Inf path) b = path_cmp path (path_of b)
held_cmp (key.Choice m) b = module_cmp m b
held_cmp (key.Values m) b = module_cmp m b
held_cmp (key.Code m) b = module_cmp m b
held_cmp (key.Depex m) b = module_cmp m b
held_cmp (key.File v i) b = item_cmp v i b
held_cmp (key.Volume v) b = number_cmp v (first_of b)
held_cmp (key.Device d) b = number_cmp d (first_of b)
held_cmp (key.Based v) b = number_cmp v (first_of b)
held_cmp _ b = Equal

-- the order of keys
unfoldable pub key_cmp : Key → Key → Ordering
key_cmp = then_cmp (on variant nat_cmp) fields_cmp
