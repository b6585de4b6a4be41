-- The variants of an enum: a tag, and what stands in the variant of that tag.
use Rattle.std.specs.Prelude.{◌≡◌, ◌++◌, ◌⊎◌, ℕ, suc, Bool, List, [], ◌∷◌, true}
use Rattle.std.proofs.Common.{ap, inl, inr, refl}
use Rattle.packed_values.specs.Encoding.{Encoding}

pub record Arms (A : Type 0) : Type 0 where
  pub tag : A → ℕ
  pub body : A → List ℕ
  pub is_value : A → Bool
  pub unique : (x y : A) (r s : List ℕ) → is_value x ≡ true → is_value y ≡ true
      → tag x ≡ tag y → body x ++ r ≡ body y ++ s → (x ≡ y) × (r ≡ s)

-- the last variant
unfoldable pub last_arm : {A : Type 0} → Encoding A → Arms A
last_arm encoding = record {
  tag = λ _. 0;
  body = encoding.encode;
  is_value = encoding.is_value;
  unique = λ x y r s vx vy t e. encoding.unique x y r s vx vy e;
}

abbrev pub arm_tag : {A B : Type 0} → Arms B → A ⊎ B → ℕ
arm_tag more (inl x) = 0
arm_tag more (inr y) = suc (more.tag y)

abbrev pub arm_body : {A B : Type 0} → Encoding A → Arms B → A ⊎ B → List ℕ
arm_body encoding more (inl x) = encoding.encode x
arm_body encoding more (inr y) = more.body y

abbrev pub arm_is_value : {A B : Type 0} → Encoding A → Arms B → A ⊎ B → Bool
arm_is_value encoding more (inl x) = encoding.is_value x
arm_is_value encoding more (inr y) = more.is_value y

pub arm_unique : {A B : Type 0} (encoding : Encoding A) (more : Arms B) (x y : A ⊎ B) (r s : List ℕ)
    → arm_is_value encoding more x ≡ true → arm_is_value encoding more y ≡ true
    → arm_tag more x ≡ arm_tag more y → arm_body encoding more x ++ r ≡ arm_body encoding more y
    ++ s
    → (x ≡ y) × (r ≡ s)
arm_unique encoding more (inl x) (inl y) r s vx vy t e = let both =
    encoding.unique x y r s vx vy e in (ap inl both.0, both.1)
arm_unique encoding more (inl x) (inr y) r s vx vy t e = cc
arm_unique encoding more (inr x) (inl y) r s vx vy t e = cc
arm_unique encoding more (inr x) (inr y) r s vx vy t e =
    let tags : more.tag x ≡ more.tag y = cc in
    let both = more.unique x y r s vx vy tags e in (ap inr both.0, both.1)

-- one variant before others
unfoldable pub arm : {A B : Type 0} → Encoding A → Arms B → Arms (A ⊎ B)
arm encoding more = record {
  tag = arm_tag more;
  body = arm_body encoding more;
  is_value = arm_is_value encoding more;
  unique = arm_unique encoding more;
}

pub tagged_unique : {A : Type 0} (arms : Arms A) (x y : A) (r s : List ℕ) → arms.is_value x ≡ true
    → arms.is_value y ≡ true
    → arms.tag x ∷ arms.body x ++ r ≡ arms.tag y ∷ arms.body y ++ s → (x ≡ y) × (r ≡ s)
tagged_unique arms x y r s vx vy e =
    let tags : arms.tag x ≡ arms.tag y = cc in
    let bodies : arms.body x ++ r ≡ arms.body y ++ s = cc in
    arms.unique x y r s vx vy tags bodies

-- the tag in one byte, and the fields
unfoldable pub tagged_encoding : {A : Type 0} → Arms A → Encoding A
tagged_encoding arms = record {
  encode = λ x. arms.tag x ∷ arms.body x;
  is_value = arms.is_value;
  unique = tagged_unique arms;
}

unfoldable pub unit_encoding : Encoding (Unit {0})
unit_encoding = record {
  encode = λ _. [];
  is_value = λ _. true;
  unique = λ x y r s vx vy e. (refl, e);
}
