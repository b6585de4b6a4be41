-- Encodings made of encodings: tuples, options, rows, and types that are seen as others.
use Rattle.std.specs.Prelude.{◌≡◌, ◌++◌, ◌^◌, ℕ, Bool, true, false, List, [], ◌∷◌, length, nat_lt, ◌&&◌, Option, Some, None}
use Rattle.std.specs.List.{list_all}
use Rattle.std.specs.Int.{bytes_low_first}
use Rattle.std.proofs.Common.{ap, ap₂, ◌∙◌, sym, arith, refl, append_assoc}
use Rattle.packed_values.specs.Encoding.{Encoding}
use Rattle.packed_values.specs.Plain.{number_unique, and_left}

pub and_right : (a b : Bool) → (a && b) ≡ true → b ≡ true
and_right true b e = e
and_right false b e = cc

-- a type that is seen as another
abbrev pub encoding_by : {A B : Type 0} (split : A → B) (join : B → A)
    → ((x : A) → join (split x) ≡ x)
    → Encoding B → Encoding A
encoding_by {A} {B} split join back encoding = record {
  encode = λ x. encoding.encode (split x);
  is_value = λ x. encoding.is_value (split x);
  unique = λ x y r s vx vy e.
      let both = encoding.unique (split x) (split y) r s vx vy e
      in (sym (back x) ∙ ap join both.0 ∙ back y, both.1);
}

pub pair_unique : {A B : Type 0} (F : Encoding A) (G : Encoding B) (x y : A × B) (r s : List ℕ)
    → (F.is_value x.0 && G.is_value x.1) ≡ true → (F.is_value y.0 && G.is_value y.1) ≡ true
    → (F.encode x.0 ++ G.encode x.1) ++ r ≡ (F.encode y.0 ++ G.encode y.1) ++ s → (x ≡ y)
    × (r ≡ s)
pair_unique {A} {B} F G x y r s vx vy e =
    let first = F.unique x.0 y.0 (G.encode x.1 ++ r) (G.encode y.1 ++ s) (and_left _ _ vx)
    (and_left _ _ vy)
    (sym (append_assoc (F.encode x.0) (G.encode x.1) r) ∙ e
    ∙ append_assoc (F.encode y.0) (G.encode y.1) s) in
    let second = G.unique x.1 y.1 r s (and_right _ _ vx) (and_right _ _ vy) first.1 in
    let pair : A → B → A × B = λ a b. (a, b) in
    (ap₂ pair first.0 second.0, second.1)

unfoldable pub pair_encoding : {A B : Type 0} → Encoding A → Encoding B → Encoding (A × B)
pair_encoding F G = record {
  encode = λ x. F.encode x.0 ++ G.encode x.1;
  is_value = λ x. F.is_value x.0 && G.is_value x.1;
  unique = pair_unique F G;
}

-- three values in order
unfoldable pub triple_encoding : {A B C : Type 0} → Encoding A → Encoding B → Encoding C
    → Encoding (A × B × C)
triple_encoding F G H = encoding_by (λ x. (x.0, (x.1, x.2))) (λ p. (p.0, p.1.0, p.1.1)) (λ x. refl)
    (pair_encoding F (pair_encoding G H))

-- four values in order
unfoldable pub quadruple_encoding : {A B C D : Type 0} → Encoding A → Encoding B → Encoding C
    → Encoding D → Encoding (A × B × C × D)
quadruple_encoding F G H I = encoding_by (λ x. (x.0, (x.1, (x.2, x.3))))
    (λ p. (p.0, p.1.0, p.1.1.0, p.1.1.1)) (λ x. refl)
    (pair_encoding F (pair_encoding G (pair_encoding H I)))

abbrev pub option_bytes : {A : Type 0} → Encoding A → Option A → List ℕ
option_bytes F None = 0 ∷ []
option_bytes F (Some x) = 1 ∷ F.encode x

abbrev pub option_is_value : {A : Type 0} → Encoding A → Option A → Bool
option_is_value F None = true
option_is_value F (Some x) = F.is_value x

pub option_unique : {A : Type 0} (F : Encoding A) (x y : Option A) (r s : List ℕ)
    → option_is_value F x ≡ true → option_is_value F y ≡ true
    → option_bytes F x ++ r ≡ option_bytes F y ++ s → (x ≡ y) × (r ≡ s)
option_unique F None None r s vx vy e = (refl, cc)
option_unique F (Some x) (Some y) r s vx vy e =
    let tails : F.encode x ++ r ≡ F.encode y ++ s = cc in
    let both = F.unique x y r s vx vy tails in (ap Some both.0, both.1)
option_unique F None (Some y) r s vx vy e = cc
option_unique F (Some x) None r s vx vy e = cc

unfoldable pub option_encoding : {A : Type 0} → Encoding A → Encoding (Option A)
option_encoding F = record {
  encode = option_bytes F;
  is_value = option_is_value F;
  unique = option_unique F;
}

abbrev pub encodings : {A : Type 0} → Encoding A → List A → List ℕ
encodings F [] = []
encodings F (x ∷ xs) = F.encode x ++ encodings F xs

pub encodings_unique : {A : Type 0} (F : Encoding A) (xs ys : List A) (r s : List ℕ)
    → list_all F.is_value xs ≡ true → list_all F.is_value ys ≡ true
    → length xs ≡ length ys → encodings F xs ++ r ≡ encodings F ys ++ s → (xs ≡ ys) × (r ≡ s)
encodings_unique F [] [] r s vx vy len e = (refl, e)
encodings_unique F [] (y ∷ ys) r s vx vy len e = absurd (omega arith)
encodings_unique F (x ∷ xs) [] r s vx vy len e = absurd (omega arith)
encodings_unique {A} F (x ∷ xs) (y ∷ ys) r s vx vy len e =
    let first = F.unique x y (encodings F xs ++ r) (encodings F ys ++ s) (and_left _ _ vx)
    (and_left _ _ vy)
    (sym (append_assoc (F.encode x) (encodings F xs) r) ∙ e
    ∙ append_assoc (F.encode y) (encodings F ys) s) in
    let more = encodings_unique F xs ys r s (and_right _ _ vx) (and_right _ _ vy) (omega arith)
    first.1 in
    let row : A → List A → List A = λ a b. a ∷ b in
    (ap₂ row first.0 more.0, more.1)

abbrev pub rows_bytes : {A : Type 0} → Encoding A → List A → List ℕ
rows_bytes F xs = bytes_low_first 0 8 (length xs) ++ encodings F xs

abbrev pub rows_are_values : {A : Type 0} → Encoding A → List A → Bool
rows_are_values F xs = nat_lt (length xs) (256 ^ 8) && list_all F.is_value xs

pub rows_unique : {A : Type 0} (F : Encoding A) (xs ys : List A) (r s : List ℕ)
    → rows_are_values F xs ≡ true → rows_are_values F ys ≡ true
    → rows_bytes F xs ++ r ≡ rows_bytes F ys ++ s → (xs ≡ ys) × (r ≡ s)
rows_unique F xs ys r s vx vy e =
    let count = number_unique 8 (length xs) (length ys) (encodings F xs ++ r) (encodings F ys ++ s)
    (and_left _ _ vx) (and_left _ _ vy)
    (sym (append_assoc (bytes_low_first 0 8 (length xs)) (encodings F xs) r) ∙ e
    ∙ append_assoc (bytes_low_first 0 8 (length ys)) (encodings F ys) s) in
    encodings_unique F xs ys r s (and_right _ _ vx) (and_right _ _ vy) count.0 count.1

unfoldable pub rows_encoding : {A : Type 0} → Encoding A → Encoding (List A)
rows_encoding F = record {
  encode = rows_bytes F;
  is_value = rows_are_values F;
  unique = rows_unique F;
}
