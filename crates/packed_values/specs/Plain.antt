-- The encoding of bytes, numbers, truth values, texts, paths and GUIDs: the rule is this project's
-- own. A number has its bytes lowest first.
use Rattle.std.specs.Prelude.{◌≡◌, ◌++◌, ◌^◌, ℕ, Bool, true, false, List, [], ◌∷◌, length, nat_lt, ◌&&◌, ◌==◌}
use Rattle.std.specs.Int.{bytes_low_first}
use Rattle.std.proofs.Common.{ap, ap₂, ◌∙◌, sym, arith, refl, subst, append_assoc}
use Rattle.std.proofs.lemmas.List.{append_cancel_left}
use Rattle.byteorder.specs.Endian.{little_from}
use Rattle.byteorder.specs.Numbers.{little_number-reads_back}
use borrow.Author.Tests.{ltb-true}
use Rattle.std.proofs.lemmas.Bool.{eqb-true}
use Rattle.build_base.specs.Path.{is_path}
use Rattle.build_base.specs.declared.guid.Guid.{Guid}
use Rattle.packed_values.specs.Encoding.{Encoding}

pub append_split : (x y r s : List ℕ) → length x ≡ length y → x ++ r ≡ y ++ s → (x ≡ y) × (r ≡ s)
append_split [] [] r s len e = (refl, e)
append_split [] (b ∷ y) r s len e = absurd (omega arith)
append_split (a ∷ x) [] r s len e = absurd (omega arith)
append_split (a ∷ x) (b ∷ y) r s len e =
    let heads : a ≡ b = cc in
    let tails : x ++ r ≡ y ++ s = cc in
    let more = append_split x y r s (omega arith) tails in
    (ap₂ (λ (h : ℕ) (t : List ℕ). h ∷ t) heads more.0, more.1)

pub and_left : (a b : Bool) → (a && b) ≡ true → a ≡ true
and_left true b e = refl
and_left false b e = e

unfoldable pub byte_encoding : Encoding ℕ
byte_encoding = record {
  encode = λ x. x ∷ [];
  is_value = λ x. nat_lt x 256;
  unique = λ x y r s vx vy e. (cc, cc);
}

-- the number in k bytes, the lowest first
pub number_unique : (k x y : ℕ) (r s : List ℕ) → nat_lt x (256 ^ k) ≡ true
    → nat_lt y (256 ^ k) ≡ true
    → bytes_low_first 0 k x ++ r ≡ bytes_low_first 0 k y ++ s → (x ≡ y) × (r ≡ s)
number_unique k x y r s vx vy e =
    let same : x ≡ y = sym (little_number-reads_back k x r (ltb-true x (256 ^ k) vx))
    ∙ ap (little_from 0 k) e ∙ little_number-reads_back k y s (ltb-true y (256 ^ k) vy) in
    let P : ℕ → Type 0 = λ z. bytes_low_first 0 k x ++ r ≡ bytes_low_first 0 k z ++ s in
    (same, append_cancel_left (bytes_low_first 0 k x) r s (subst P (sym same) e))

unfoldable pub number_encoding : ℕ → Encoding ℕ
number_encoding k = record {
  encode = λ x. bytes_low_first 0 k x;
  is_value = λ x. nat_lt x (256 ^ k);
  unique = number_unique k;
}

abbrev pub bool_byte : Bool → ℕ
bool_byte true = 1
bool_byte false = 0

pub bool_unique : (x y : Bool) (r s : List ℕ) → bool_byte x ∷ r ≡ bool_byte y ∷ s → (x ≡ y)
    × (r ≡ s)
bool_unique true true r s e = (refl, cc)
bool_unique false false r s e = (refl, cc)
bool_unique true false r s e = cc
bool_unique false true r s e = cc

unfoldable pub bool_encoding : Encoding Bool
bool_encoding = record {
  encode = λ b. bool_byte b ∷ [];
  is_value = λ _. true;
  unique = λ x y r s vx vy e. bool_unique x y r s e;
}

-- a text: its length in eight bytes, and the bytes
pub text_unique : (x y r s : List ℕ) → nat_lt (length x) (256 ^ 8) ≡ true
    → nat_lt (length y) (256 ^ 8) ≡ true
    → (bytes_low_first 0 8 (length x) ++ x) ++ r ≡ (bytes_low_first 0 8 (length y) ++ y) ++ s
    → (x ≡ y) × (r ≡ s)
text_unique x y r s vx vy e =
    let both = number_unique 8 (length x) (length y) (x ++ r) (y ++ s) vx vy
    (sym (append_assoc (bytes_low_first 0 8 (length x)) x r) ∙ e
    ∙ append_assoc (bytes_low_first 0 8 (length y)) y s) in
    append_split x y r s both.0 both.1

unfoldable pub text_encoding : Encoding (List ℕ)
text_encoding = record {
  encode = λ x. bytes_low_first 0 8 (length x) ++ x;
  is_value = λ x. nat_lt (length x) (256 ^ 8);
  unique = text_unique;
}

-- the same, of the members that pass a test
abbrev pub encoding_where : {A : Type 0} → (A → Bool) → Encoding A → Encoding A
encoding_where test encoding = record {
  encode = encoding.encode;
  is_value = λ x. encoding.is_value x && test x;
  unique = λ x y r s vx vy e. encoding.unique x y r s (and_left _ _ vx) (and_left _ _ vy) e;
}

unfoldable pub path_encoding : Encoding (List ℕ)
path_encoding = encoding_where is_path text_encoding

-- a GUID: its sixteen bytes
unfoldable pub guid_encoding : Encoding Guid
guid_encoding = record {
  encode = λ x. x.0;
  is_value = λ x. length x.0 == 16;
  unique = λ x y r s vx vy e.
      let both = append_split x.0 y.0 r s (eqb-true _ _ vx ∙ sym (eqb-true _ _ vy)) e in
      (ap (λ (bytes : List ℕ). record { 0 = bytes }) both.0, both.1);
}
