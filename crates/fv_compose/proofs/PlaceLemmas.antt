-- Least multiples, and the least start of a file.
use Rattle.std.proofs.Common.{◌≡◌, ◌≢◌, ℕ, ◌+◌, ◌-◌, ◌*◌, ◌/◌, ◌%◌, ◌<◌, ◌≤◌, ◌⊎◌, inl, inr, Bool, true, refl, ap, sym, ◌∙◌, arith, subst, nat_lt, nat_le, ◌==◌, ◌&&◌, ◌||◌}
use Rattle.std.proofs.Math.Nat.{div-mul-le_self, lt-div-mul-add, mul-le-mul_right, mul-mod_left, mod-eq-sub-div-mul, mod-one}
use Rattle.std.proofs.lemmas.List.Sums.{AllPass-from_list_all}
use Rattle.std.proofs.lemmas.Bool.Decides.{nat_tests}
use Rattle.std.proofs.lemmas.Bool.{cases_lt, cases_eq}
use Rattle.build_base.specs.Least.{IsLeast}
use Rattle.fv_compose.specs.Place.{IsStart, IsUp, IsHead, align_up, start_of}
use Rattle.ffs_sections.specs.Alignment.{IsAlignment, alignments}

pub up_after : (unit at : ℕ) → 0 < unit → at ≤ align_up unit at
unfolding align_up
up_after unit at h = omega (arith, lt-div-mul-add {a = at + (unit - 1)} h)

pub up_near : (unit at : ℕ) → 0 < unit → align_up unit at < at + unit
unfolding align_up
up_near unit at h = omega (arith, div-mul-le_self (at + (unit - 1)) unit)

pub up_whole : (unit at : ℕ) → align_up unit at % unit ≡ 0
unfolding align_up
up_whole unit at = mul-mod_left ((at + (unit - 1)) / unit) unit

multiples_apart : (unit a b : ℕ) → a * unit < b * unit + unit → a * unit ≤ b * unit
multiples_apart unit a b h =
    elim (cases_lt b a) [
      | inl lt ↦ let more : b + 1 ≤ a = omega arith in let up : (b + 1) * unit ≤ a * unit = mul-le-mul_right unit more in omega arith
      | inr le ↦ mul-le-mul_right unit le
    ]

-- a multiple from `at` on is at least it
pub up_least : (unit at m : ℕ) → 0 < unit → m % unit ≡ 0 → at ≤ m → align_up unit at ≤ m
unfolding align_up
up_least unit at m h w k =
    let whole : m / unit * unit ≡ m = omega (arith, mod-eq-sub-div-mul m unit, div-mul-le_self m unit) in
    let near : (at + (unit - 1)) / unit * unit < at + unit = omega (arith, div-mul-le_self (at + (unit - 1)) unit) in
    let le : (at + (unit - 1)) / unit * unit ≤ m / unit * unit = multiples_apart unit ((at + (unit - 1)) / unit) (m / unit) (omega arith) in
    omega arith

pub up_is_least : (unit at : ℕ) → 0 < unit → IsLeast (IsUp unit at) (align_up unit at)
up_is_least unit at h = record {
  holds = record { whole = up_whole unit at; after = up_after unit at h };
  least = λ m p. up_least unit at m h p.whole p.after;
}

-- an alignment is 1 or a multiple of 16
abbrev known : ℕ → Bool
known align = nat_lt 0 align && nat_le align 16777216 && (align == 1 || align % 16 == 0)

pub record Known (align : ℕ) : Type 0 where
  pub positive : 0 < align
  pub small : align ≤ 16777216
  pub kind : (align ≡ 1) ⊎ (align % 16 ≡ 0)

known_is : (align : ℕ) → known align ≡ true → Known align
known_is align h = record { positive = grind (arith, nat_tests, h); small = grind (arith, nat_tests, h); kind = grind (arith, nat_tests, h) }

pub known_alignment : (align : ℕ) → IsAlignment align → Known align
known_alignment align c =
    let k : ℕ = c.0 in
    known_is align (subst (λ n. known n ≡ true) c.2 (AllPass-from_list_all known alignments refl k align c.1))

pub head_short : (head : ℕ) → IsHead head → head ≤ 32
head_short head (inl e) = omega (arith, e)
head_short head (inr e) = omega (arith, e)

start_whole : (align head x : ℕ) → align % 16 ≡ 0 → IsHead head → head ≤ align_up align x → (align_up align x - head) % 8 ≡ 0
unfolding align_up
start_whole align head x h i k =
    let a : 16 * (align / 16) ≡ align = omega arith in
    let m : (x + (align - 1)) / align * (16 * (align / 16)) ≡ (x + (align - 1)) / align * align = ap (λ n. (x + (align - 1)) / align * n) a in
    elim i [ inl e ↦ omega arith | inr e ↦ omega arith ]

start_same : (at align head : ℕ) → (align_up 8 at + head) % align ≡ 0 → start_of at align head ≡ align_up 8 at
unfolding start_of
start_same at align head h = grind (arith, nat_tests)

start_later : (at align head : ℕ) → (align_up 8 at + head) % align ≢ 0 → start_of at align head ≡ align_up align (align_up 8 at + 24 + head) - head
unfolding start_of
start_later at align head h = grind (arith, nat_tests)

pub start_is : (at align head : ℕ) → Known align → IsHead head → IsStart at align head (start_of at align head)
start_is at align head k i =
    elim (cases_eq ((align_up 8 at + head) % align) 0) [
      | inl e ↦ rw (start_same at align head e) record { eight = up_whole 8 at; after = omega arith; aligned = e; pad = inl refl }
      | inr n ↦
          let after : align_up 8 at + 24 + head ≤ align_up align (align_up 8 at + 24 + head) = up_after align (align_up 8 at + 24 + head) k.positive in
          let back : align_up align (align_up 8 at + 24 + head) - head + head ≡ align_up align (align_up 8 at + 24 + head) = omega arith in
          let ne : (align ≡ 1) → ⊥ = λ one. n (ap (λ u. (align_up 8 at + head) % u) one ∙ mod-one (align_up 8 at + head)) in
          let kind : align % 16 ≡ 0 = elim k.kind [ inl one ↦ absurd (ne one) | inr h ↦ h ] in
          rw (start_later at align head n) record {
            eight = start_whole align head (align_up 8 at + 24 + head) kind i (omega arith);
            after = omega arith;
            aligned = rw back (up_whole align (align_up 8 at + 24 + head));
            pad = inr (omega arith);
          }
    ]

pub start_least : (at align head m : ℕ) → Known align → IsStart at align head m → start_of at align head ≤ m
start_least at align head m k p =
    elim (cases_eq ((align_up 8 at + head) % align) 0) [
      | inl e ↦ rw (start_same at align head e) p.after
      | inr n ↦
          let more : align_up 8 at + 24 ≤ m = elim p.pad [ inl same ↦ absurd (n (ap (λ u. (u + head) % align) (sym same) ∙ p.aligned)) | inr h ↦ h ] in
          let least : align_up align (align_up 8 at + 24 + head) ≤ m + head = up_least align (align_up 8 at + 24 + head) (m + head) k.positive p.aligned (omega arith) in
          rw (start_later at align head n) (omega arith)
    ]

pub start_is_least : (at align head : ℕ) → IsAlignment align → IsHead head → IsLeast (IsStart at align head) (start_of at align head)
start_is_least at align head a i =
    let k : Known align = known_alignment align a in
    record { holds = start_is at align head k i; least = λ m p. start_least at align head m k p }

pub start_near : (at align head : ℕ) → Known align → (align_up 8 at ≤ start_of at align head) × (start_of at align head < align_up 8 at + 24 + align)
start_near at align head k =
    elim (cases_eq ((align_up 8 at + head) % align) 0) [
      | inl e ↦ rw (start_same at align head e) (omega arith, omega (arith, k.positive))
      | inr n ↦
          let after : align_up 8 at + 24 + head ≤ align_up align (align_up 8 at + 24 + head) = up_after align (align_up 8 at + 24 + head) k.positive in
          let near : align_up align (align_up 8 at + 24 + head) < align_up 8 at + 24 + head + align = up_near align (align_up 8 at + 24 + head) k.positive in
          rw (start_later at align head n) (omega arith, omega arith)
    ]
