-- The least pad that aligns what stands after it.
use Rattle.std.proofs.Common.{◌≡◌, ◌≢◌, ℕ, ◌+◌, ◌-◌, ◌%◌, ◌*◌, ◌/◌, ◌||◌, ◌<◌, ◌≤◌, ◌⊎◌, inl, inr, Bool, true, false, None, Some, ap, sym, ◌∙◌, arith, ◌&&◌, ◌==◌, IsTrue, nat_lt, nat_le, map, List, refl, subst, ◌^◌, rules}
use Rattle.build_base.specs.Least.{IsLeast}
use Rattle.std.proofs.Math.Nat.{add-mod-mod, mod-eq-sub-div-mul, div-mul-le_self, mod-eq_of_lt, add-mod_right, mod-lt, mod-add-mod}
use Rattle.std.proofs.lemmas.Bool.{cases_lt, cases_eq, eqb-true}
use Rattle.std.proofs.lemmas.Bool.Decides.{nat_tests}
use Rattle.std.specs.List.{range_with_len}
use Rattle.std.proofs.lemmas.List.Folds.{Any-from_list_any}
use Rattle.std.proofs.lemmas.List.Sums.{AllPass-from_list_all}
use Rattle.build_base.proofs.Least.{find_least, find_none}
use Rattle.ffs_sections.specs.Alignment.{IsPad, is_pad, pad_of, is_section_alignment}

-- a remainder of what is below twice the divisor
wrap : (x a : ℕ) → x < a + a → ((x < a) × (x % a ≡ x)) ⊎ ((a ≤ x) × (x % a + a ≡ x))
wrap x a h =
    elim (cases_lt x a) [
      | inl lt ↦ inl (lt, mod-eq_of_lt lt)
      | inr le ↦
          let e : x - a + a ≡ x = omega arith in
          let lt : x - a < a = omega arith in
          let m : x % a ≡ x - a = ap (λ z. z % a) (sym e) ∙ add-mod_right (x - a) a ∙ mod-eq_of_lt lt in
          inr (le, omega arith)
    ]

-- the size in closed form
abbrev pub pad_size : ℕ → ℕ → ℕ → ℕ
pad_size place align shift = (shift % align + (align - place % align)) % align

pad_below : (place align shift : ℕ) → 0 < align → pad_size place align shift < align
pad_below place align shift h = mod-lt (shift % align + (align - place % align)) h

pad_holds : (place align shift : ℕ) → 0 < align → (place + pad_size place align shift) % align ≡ shift % align
pad_holds place align shift h =
    let r : place % align < align = mod-lt place h in
    let t : shift % align < align = mod-lt shift h in
    let n : ℕ = pad_size place align shift in
    let b : n < align = pad_below place align shift h in
    let e : (place % align + n) % align ≡ (place + n) % align = mod-add-mod place align n in
    elim (wrap (shift % align + (align - place % align)) align (omega arith)) [
      | inl u ↦ elim (wrap (place % align + n) align (omega arith)) [ inl v ↦ omega arith | inr v ↦ omega arith ]
      | inr u ↦ elim (wrap (place % align + n) align (omega arith)) [ inl v ↦ omega arith | inr v ↦ omega arith ]
    ]

pad_only : (place align shift m : ℕ) → 0 < align → m < align → (place + m) % align ≡ shift % align → m ≡ pad_size place align shift
pad_only place align shift m h b k =
    let r : place % align < align = mod-lt place h in
    let t : shift % align < align = mod-lt shift h in
    let e : (place % align + m) % align ≡ (place + m) % align = mod-add-mod place align m in
    elim (wrap (shift % align + (align - place % align)) align (omega arith)) [
      | inl u ↦ elim (wrap (place % align + m) align (omega arith)) [ inl v ↦ omega arith | inr v ↦ omega arith ]
      | inr u ↦ elim (wrap (place % align + m) align (omega arith)) [ inl v ↦ omega arith | inr v ↦ omega arith ]
    ]

is_pad_true : (place align shift m : ℕ) → m % 4 ≡ 0 → (place + m) % align ≡ shift % align → is_pad place align shift m ≡ true
is_pad_true place align shift m four e = grind (arith, nat_tests)

is_pad_false : (place align shift m : ℕ) → 0 < align → m < align → (m ≡ pad_size place align shift → m % 4 ≢ 0) → is_pad place align shift m ≡ false
is_pad_false place align shift m h b other =
    elim (cases_eq ((place + m) % align) (shift % align)) [
      | inl e ↦ let n : m % 4 ≢ 0 = other (pad_only place align shift m h b e) in grind (arith, nat_tests)
      | inr n ↦ grind (arith, nat_tests)
    ]

pub pad_some : (place align shift : ℕ) → 0 < align → pad_size place align shift % 4 ≡ 0 → pad_of place align shift ≡ Some (pad_size place align shift)
unfolding pad_of
pad_some place align shift h four =
    let n : ℕ = pad_size place align shift in
    let b : n < align = pad_below place align shift h in
    let e : (place + n) % align ≡ shift % align = pad_holds place align shift h in
    let t : is_pad place align shift n ≡ true = is_pad_true place align shift n four e in
    find_least (is_pad place align shift) 0 align n (omega arith) (omega arith) t
    (λ m u lt. is_pad_false place align shift m h (omega arith) (λ same. absurd (omega arith)))

pub pad_none : (place align shift : ℕ) → 0 < align → pad_size place align shift % 4 ≢ 0 → pad_of place align shift ≡ None
unfolding pad_of
pad_none place align shift h four =
    find_none (is_pad place align shift) 0 align (λ m u lt. is_pad_false place align shift m h (omega arith) (λ same z. four (ap (λ k. k % 4) (sym same) ∙ z)))

abbrev powers : List ℕ
powers = map (λ k. 2 ^ k) (range_with_len 0 25)

align_known : (align : ℕ) → is_section_alignment align ≡ true → (nat_lt 0 align && nat_le align 16777216 && (align == 1 || align == 2 || align % 4 == 0)) ≡ true
unfolding is_section_alignment
align_known align h =
    let any = Any-from_list_any (λ power. power == align) powers h in
    let same : any.1 ≡ align = eqb-true any.1 align any.4 in
    let P : ℕ → Type 0 = λ x. (nat_lt 0 x && nat_le x 16777216 && (x == 1 || x == 2 || x % 4 == 0)) ≡ true in
    subst P (any.3 ∙ same) (AllPass-from_list_all (λ x. nat_lt 0 x && nat_le x 16777216 && (x == 1 || x == 2 || x % 4 == 0)) powers refl any.0 any.1 any.2)

is_true : (b : Bool) → IsTrue b → b ≡ true
is_true b h = search rules

pub record Aligned (align : ℕ) : Type 0 where
  pub positive : 0 < align
  pub small : align ≤ 16777216
  pub kind : (align ≤ 2) ⊎ (align % 4 ≡ 0)

pub aligned : (align : ℕ) → IsTrue (is_section_alignment align) → Aligned align
aligned align h =
    let t : is_section_alignment align ≡ true = is_true (is_section_alignment align) h in
    let k : (nat_lt 0 align && nat_le align 16777216 && (align == 1 || align == 2 || align % 4 == 0)) ≡ true = align_known align t in
    record { positive = grind (arith, nat_tests); small = grind (arith, nat_tests); kind = grind (arith, nat_tests) }

-- a multiple of 4 leaves one when divided by an alignment
four_left : (m align : ℕ) → 0 < align → (align ≤ 2) ⊎ (align % 4 ≡ 0) → m % 4 ≡ 0 → m % align % 4 ≡ 0
four_left m align h (inl small) e =
    elim (cases_eq align 1) [
      | inl one ↦ rw one (omega arith)
      | inr n ↦ let two : align ≡ 2 = omega arith in rw two (omega arith)
    ]
four_left m align h (inr four) e =
    let q : 4 * (align / 4) ≡ align = omega arith in
    let d : m / align * align + m % align ≡ m = omega (arith, mod-eq-sub-div-mul m align, div-mul-le_self m align) in
    let w : m / align * (4 * (align / 4)) ≡ m / align * align = ap (λ k. m / align * k) q in
    omega arith

-- no smaller number, of all numbers, is a pad
pub pad_least : (place align shift : ℕ) → 0 < align → pad_size place align shift % 4 ≡ 0 → IsLeast (IsPad place align shift) (pad_size place align shift)
pad_least place align shift h four = record {
  holds = record { four = four; holds = pad_holds place align shift h };
  least = λ m p.
      elim (cases_lt m align) [
        | inl lt ↦ let e : m ≡ pad_size place align shift = pad_only place align shift m h lt p.holds in omega arith
        | inr le ↦ let b : pad_size place align shift < align = pad_below place align shift h in omega arith
      ];
}

-- where there is no pad below an alignment, no number is one
pub pad_never : (place align shift m : ℕ) → Aligned align → pad_size place align shift % 4 ≢ 0 → ¬ IsPad place align shift m
pad_never place align shift m a four p =
    let lt : m % align < align = mod-lt m a.positive in
    let same : (place + m % align) % align ≡ shift % align = add-mod-mod place m align ∙ p.holds in
    let e : m % align ≡ pad_size place align shift = pad_only place align shift (m % align) a.positive lt same in
    four (ap (λ k. k % 4) (sym e) ∙ four_left m align a.positive a.kind p.four)
