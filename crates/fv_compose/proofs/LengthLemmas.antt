-- The least length that holds what is taken.
use Rattle.std.proofs.Common.{◌≡◌, ℕ, ◌+◌, ◌%◌, ◌<◌, ◌≤◌, ◌&&◌, ◌==◌, Bool, true, false, None, Some, ap, sym, ◌∙◌, arith, inl, inr, ◌⊎◌, refl, Option, IfSome, if◌then◌else◌}
use Rattle.std.proofs.Math.Nat.{mod-zero, mod-eq_of_lt}
use Rattle.std.proofs.lemmas.Bool.Decides.{nat_tests}
use Rattle.std.proofs.lemmas.Bool.{cases_lt, cases_eq}
use Rattle.build_base.specs.Least.{IsLeast}
use Rattle.build_base.proofs.Least.{find_least, find_none}
use Rattle.fv_compose.specs.Volume.{holds, Fits, blocks_for, IsLength}

pub holds_room : (top : Bool) (taken size : ℕ) → holds top taken size ≡ true → taken ≤ size
holds_room top taken size h = grind (arith, nat_tests)

pub holds_space : (taken size : ℕ) → holds true taken size ≡ true → (size ≡ taken) ⊎ (taken + 24 ≤ size)
holds_space taken size h =
    elim (cases_eq size taken) [
      | inl e ↦ inl e
      | inr n ↦ inr (grind (arith, nat_tests))
    ]

abbrev test : ℕ → Bool → ℕ → ℕ → Bool
test block top taken size = holds top taken size && size % block == 0

test_true : (block : ℕ) (top : Bool) (taken m : ℕ) → Fits block top taken m → test block top taken m ≡ true
test_true block top taken m f = rw (f.room, f.whole) refl

both : (a b : Bool) → (a && b) ≡ true → (a ≡ true) × (b ≡ true)
both true b h = (refl, h)
both false b h = absurd cc

test_fits : (block : ℕ) (top : Bool) (taken m : ℕ) → test block top taken m ≡ true → Fits block top taken m
test_fits block top taken m t =
    let p = both (holds top taken m) (m % block == 0) t in
    let q : (m % block == 0) ≡ true = p.1 in
    record { room = p.0; whole = grind (arith, nat_tests) }

test_false : (block : ℕ) (top : Bool) (taken m : ℕ) → (Fits block top taken m → ⊥) → test block top taken m ≡ false
test_false block top taken m h =
    elim (test block top taken m) as (λ b. test block top taken m ≡ b → b ≡ false) [
      | true ↦ λ e. absurd (h (test_fits block top taken m e))
      | false ↦ λ e. refl
    ] refl

pub blocks_zero : (block : ℕ) (top : Bool) (taken : ℕ) → block ≡ 0 → 0 < taken → blocks_for block top taken ≡ None
unfolding blocks_for
blocks_zero block top taken z h =
    find_none (test block top taken) 0 268435457
    (λ m a lt. test_false block top taken m (λ f. let s : m ≡ 0 = sym (mod-zero m) ∙ ap (λ b. m % b) (sym z) ∙ f.whole in let r : taken ≤ m = holds_room top taken m f.room in absurd (omega arith)))

pub blocks_none : (block : ℕ) (top : Bool) (taken k : ℕ) → IsLeast (Fits block top taken) k → 268435456 < k → blocks_for block top taken ≡ None
unfolding blocks_for
blocks_none block top taken k least past =
    find_none (test block top taken) 0 268435457
    (λ m a lt. test_false block top taken m (λ f. let s : k ≤ m = least.least m f in absurd (omega arith)))

pub blocks_some : (block : ℕ) (top : Bool) (taken k : ℕ) → IsLeast (Fits block top taken) k → k ≤ 268435456 → blocks_for block top taken ≡ Some k
unfolding blocks_for
blocks_some block top taken k least within =
    find_least (test block top taken) 0 268435457 k (omega arith) (omega arith) (test_true block top taken k least.holds)
    (λ m a lt. test_false block top taken m (λ f. let s : k ≤ m = least.least m f in absurd (omega arith)))

-- a whole number of blocks that holds something
pub length_is : (block : ℕ) (top : Bool) (taken size : ℕ) → 0 < taken → holds top taken size ≡ true → size ≤ 268435456 → size % block ≡ 0 → IsLength block top taken size
length_is block top taken size some room small whole =
    let r : taken ≤ size = holds_room top taken size room in
    record {
      room = room;
      small = small;
      block_some =
          elim (cases_lt 0 block) [
            | inl lt ↦ lt
            | inr le ↦ let z : block ≡ 0 = omega arith in let e : size ≡ 0 = sym (mod-zero size) ∙ ap (λ b. size % b) (sym z) ∙ whole in absurd (omega arith)
          ];
      block_small =
          elim (cases_lt size block) [
            | inl lt ↦ let e : size ≡ 0 = sym (mod-eq_of_lt lt) ∙ whole in absurd (omega arith)
            | inr le ↦ le
          ];
    }

-- a stated length that holds what is taken
pub stated_length : (block : ℕ) (top : Bool) (taken size : ℕ) (answer : Option ℕ) → 0 < taken → size ≤ 268435456 → size % block ≡ 0 → answer ≡ (if holds top taken size then Some size else None) → IfSome answer (IsLength block top taken)
stated_length block top taken size answer some small whole e =
    elim (holds top taken size) as (λ b. holds top taken size ≡ b → answer ≡ (if b then Some size else None) → IfSome answer (IsLength block top taken)) [
      | true ↦ λ t s. rw s (length_is block top taken size some t small whole)
      | false ↦ λ t s. rw s tt
    ] refl e
