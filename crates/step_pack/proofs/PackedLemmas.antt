-- The order of keys is that of their packed forms, byte by byte.
use Rattle.std.proofs.Common.{◌≡◌, ◌<◌, ◌^◌, ℕ, List, [], ◌∷◌, ◌++◌, length, refl, ap, ◌∙◌, subst, arith}
use Rattle.std.specs.Int.{to_le_bytes, w64}
use Rattle.std.specs.Ordering.{nat_cmp, ordering_then}
use Rattle.std.specs.declared.cmp.Ordering.{Ordering}
use Rattle.std.specs.declared.cmp.Ordering.TheVariants.{Less, Equal, Greater}
use Rattle.step_pack.specs.declared.key.Key.{Key}
use Rattle.step_pack.specs.declared.key.Key.TheVariants as key
use Rattle.doc_types.specs.declared.choice.Module.{Module}
use Rattle.step_pack.specs.Keys.{arch_byte, variant, arch_of, path_of, first_of, second_of, text_cmp, number_cmp, path_cmp, fields_cmp, key_cmp}
use Rattle.step_pack.specs.KeyLaws.{module_at, key_at, key_back}
use Rattle.std.proofs.lemmas.Map.Lookups.{exact_unsigned}
use Rattle.step_pack.specs.Packed.{packed_number, packed_path, packed_module, packed_fields, packed, HasNumbers}
use Rattle.step_pack.proofs.NumberLemmas.{then_assoc, then_equal, numbers_by_bytes}

-- texts behind texts of one length
joined : (xs ys as_ bs : List ℕ) → length xs ≡ length ys → text_cmp (xs ++ as_) (ys ++ bs) ≡ ordering_then (text_cmp xs ys) (text_cmp as_ bs)
joined [] [] as_ bs e = refl
joined [] (y ∷ ys) as_ bs e = absurd (omega (arith, e))
joined (x ∷ xs) [] as_ bs e = absurd (omega (arith, e))
joined (x ∷ xs) (y ∷ ys) as_ bs e =
    ap (λ (o : Ordering). ordering_then (nat_cmp x y) o) (joined xs ys as_ bs (omega (arith, e)))
    ∙ then_assoc (nat_cmp x y) (text_cmp xs ys) (text_cmp as_ bs)

paths : (p q : List ℕ) → text_cmp (packed_path p) (packed_path q) ≡ path_cmp p q
unfolding path_cmp
paths p q = joined (to_le_bytes w64 (length p)) (to_le_bytes w64 (length q)) p q refl

one_path : (p q : List ℕ) → text_cmp (packed_path p) (packed_path q) ≡ ordering_then (path_cmp p q) Equal
one_path p q = paths p q ∙ then_equal (path_cmp p q)

modules : (m n : Module) → text_cmp (packed_module m) (packed_module n) ≡ ordering_then (nat_cmp (arch_byte m.arch) (arch_byte n.arch)) (ordering_then (path_cmp m.inf n.inf) Equal)
modules m n = ap (λ (o : Ordering). ordering_then (nat_cmp (arch_byte m.arch) (arch_byte n.arch)) o) (one_path m.inf n.inf)

one_number : (v w : ℕ) → v < 2 ^ 32 → w < 2 ^ 32 → text_cmp (packed_number v) (packed_number w) ≡ ordering_then (number_cmp v w) Equal
one_number v w a b = numbers_by_bytes v w a b ∙ then_equal (number_cmp v w)

two_numbers : (v w i j : ℕ) → v < 2 ^ 32 → w < 2 ^ 32 → i < 2 ^ 32 → j < 2 ^ 32
    → text_cmp (packed_number v ++ packed_number i) (packed_number w ++ packed_number j) ≡ ordering_then (number_cmp v w) (number_cmp i j)
two_numbers v w i j a b c d =
    joined (packed_number v) (packed_number w) (packed_number i) (packed_number j) refl
    ∙ ap (λ (o : Ordering). ordering_then o (text_cmp (packed_number i) (packed_number j))) (numbers_by_bytes v w a b)
    ∙ ap (λ (o : Ordering). ordering_then (number_cmp v w) o) (numbers_by_bytes i j c d)

-- keys of one variant
one_variant : (a : Key) (arch : ℕ) (q : List ℕ) (w j : ℕ) → HasNumbers a → HasNumbers (key_at (variant a) arch q w j)
    → text_cmp (packed_fields a) (packed_fields (key_at (variant a) arch q w j)) ≡ fields_cmp a (key_at (variant a) arch q w j)
unfolding number_cmp path_cmp
one_variant (key.Dec p) arch q w j g h = one_path p q
one_variant (key.Inf p) arch q w j g h = one_path p q
one_variant key.Platform arch q w j g h = refl
one_variant key.Flash arch q w j g h = refl
one_variant (key.Choice m) arch q w j g h = modules m (module_at arch q)
one_variant key.PlatformPcds arch q w j g h = refl
one_variant (key.Values m) arch q w j g h = modules m (module_at arch q)
one_variant (key.Code m) arch q w j g h = modules m (module_at arch q)
one_variant (key.Depex m) arch q w j g h = modules m (module_at arch q)
one_variant (key.File v i) arch q w j g h = two_numbers v w i j g.0 h.0 g.1 h.1
one_variant (key.Volume v) arch q w j g h = one_number v w g h
one_variant (key.Device v) arch q w j g h = one_number v w g h
one_variant key.Report arch q w j g h = refl
one_variant key.All arch q w j g h = refl
one_variant key.Vpd arch q w j g h = refl
one_variant (key.Based v) arch q w j g h = one_number v w g h

fields_by_bytes : (a b : Key) → variant a ≡ variant b → HasNumbers a → HasNumbers b → text_cmp (packed_fields a) (packed_fields b) ≡ fields_cmp a b
fields_by_bytes a b e g h =
    let is : key_at (variant a) (arch_of b) (path_of b) (first_of b) (second_of b) ≡ b =
    ap (λ (n : ℕ). key_at n (arch_of b) (path_of b) (first_of b) (second_of b)) e ∙ key_back b in
    subst (λ (k : Key). HasNumbers k → text_cmp (packed_fields a) (packed_fields k) ≡ fields_cmp a k) is
    (one_variant a (arch_of b) (path_of b) (first_of b) (second_of b) g) h

pub keys_by_bytes : (a b : Key) → HasNumbers a → HasNumbers b → text_cmp (packed a) (packed b) ≡ key_cmp a b
unfolding key_cmp packed
keys_by_bytes a b g h =
    (elim (nat_cmp (variant a) (variant b)) as (λ o. nat_cmp (variant a) (variant b) ≡ o → ordering_then o (text_cmp (packed_fields a) (packed_fields b)) ≡ ordering_then o (fields_cmp a b)) [
      | Less ↦ λ e. refl
      | Greater ↦ λ e. refl
      | Equal ↦ λ e. fields_by_bytes a b (exact_unsigned (variant a) (variant b) e) g h
    ]) refl
