-- The order of keys by their variants and the fields that they have.
use Rattle.std.proofs.Common.{◌≡◌, ◌↔◌, ℕ, List, Bool, true, false, IsTrue, refl, sym, ap, ◌∙◌, subst}
use Rattle.std.specs.Cmp.{tied_itself}
use Rattle.std.specs.Ordering.{nat_cmp, ordering_then, is_eq, eq_by_cmp}
use Rattle.std.specs.declared.cmp.Ordering.{Ordering}
use Rattle.std.specs.declared.cmp.Ordering.TheVariants.{Less, Equal, Greater}
use Rattle.std.proofs.lemmas.Map.Lookups.{exact_unsigned}
use Rattle.std.proofs.lemmas.Map.Views.{tells_apart}
use Rattle.doc_types.specs.declared.choice.Module.{Module}
use Rattle.step_pack.specs.declared.key.Key.{Key}
use Rattle.step_pack.specs.declared.key.Key.TheVariants as key
use Rattle.step_pack.specs.Keys.{arch_byte, variant, arch_of, path_of, first_of, second_of, number_cmp, path_cmp, fields_cmp, held_cmp, key_cmp}
use Rattle.step_pack.specs.KeyLaws.{arch_at, key_at, key_back, keys_exact, keys_total}
use Rattle.step_pack.proofs.NumberLemmas.{then_equal}

modules_held : (m : Module) (arch : ℕ) (q : List ℕ)
    → ordering_then (nat_cmp (arch_byte m.arch) (arch_byte (arch_at arch))) (path_cmp m.inf q)
    ≡ ordering_then (nat_cmp (arch_byte m.arch) (arch_byte (arch_at arch))) (ordering_then (path_cmp m.inf q) Equal)
modules_held m arch q = ap (λ (o : Ordering). ordering_then (nat_cmp (arch_byte m.arch) (arch_byte (arch_at arch))) o) (then_equal (path_cmp m.inf q))

-- keys of one variant have the same fields, so the others say nothing
one_variant : (a : Key) (arch : ℕ) (q : List ℕ) (w j : ℕ) → held_cmp a (key_at (variant a) arch q w j) ≡ fields_cmp a (key_at (variant a) arch q w j)
unfolding number_cmp path_cmp
one_variant (key.Dec p) arch q w j = then_equal (path_cmp p q)
one_variant (key.Inf p) arch q w j = then_equal (path_cmp p q)
one_variant key.Platform arch q w j = refl
one_variant key.Flash arch q w j = refl
one_variant (key.Choice m) arch q w j = modules_held m arch q
one_variant key.PlatformPcds arch q w j = refl
one_variant (key.Values m) arch q w j = modules_held m arch q
one_variant (key.Code m) arch q w j = modules_held m arch q
one_variant (key.Depex m) arch q w j = modules_held m arch q
one_variant (key.File v i) arch q w j = refl
one_variant (key.Volume v) arch q w j = then_equal (number_cmp v w)
one_variant (key.Device v) arch q w j = then_equal (number_cmp v w)
one_variant key.Report arch q w j = refl
one_variant key.All arch q w j = refl
one_variant key.Vpd arch q w j = refl
one_variant (key.Based v) arch q w j = then_equal (number_cmp v w)

by_fields : (a b : Key) → variant a ≡ variant b → held_cmp a b ≡ fields_cmp a b
by_fields a b e =
    let is : key_at (variant a) (arch_of b) (path_of b) (first_of b) (second_of b) ≡ b =
    ap (λ (n : ℕ). key_at n (arch_of b) (path_of b) (first_of b) (second_of b)) e ∙ key_back b in
    subst (λ (k : Key). held_cmp a k ≡ fields_cmp a k) is (one_variant a (arch_of b) (path_of b) (first_of b) (second_of b))

pub alike : (a b : Key) → nat_cmp (variant a) (variant b) ≡ Equal → held_cmp a b ≡ key_cmp a b
unfolding key_cmp
alike a b e = by_fields a b (exact_unsigned (variant a) (variant b) e) ∙ ap (λ (o : Ordering). ordering_then o (fields_cmp a b)) (sym e)

differing : (a b : Ordering) → (a ≡ Equal → ⊥) → a ≡ ordering_then a b
differing Less b n = refl
differing Equal b n = absurd (n refl)
differing Greater b n = refl

pub apart : (a b : Key) → (nat_cmp (variant a) (variant b) ≡ Equal → ⊥) → nat_cmp (variant a) (variant b) ≡ key_cmp a b
unfolding key_cmp
apart a b n = differing (nat_cmp (variant a) (variant b)) (fields_cmp a b) n

-- keys are the same where they compare equal
pub same_by_order : (a b : Key) (same : Bool) → IsTrue same ↔ (a ≡ b) → same ≡ eq_by_cmp key_cmp a b
same_by_order a b true h = sym (subst (λ (k : Key). eq_by_cmp key_cmp a k ≡ true) (h.0 refl) (ap is_eq (tied_itself keys_total a)))
same_by_order a b false h =
    elim (eq_by_cmp key_cmp a b) as (λ r. eq_by_cmp key_cmp a b ≡ r → false ≡ r) [
      | true ↦ λ e. h.1 (tells_apart keys_exact a b e)
      | false ↦ λ e. refl
    ] refl
