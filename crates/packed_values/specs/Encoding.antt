-- How the values of a type are encoded as bytes: the rule is this project's own. An encoding is one
-- value's alone, and no other encoding begins with it.
use Rattle.std.specs.Prelude.{◌≡◌, ◌++◌, ℕ, Bool, true, List, Option, Some, None}

-- an encoding for each value; which members of the type are values; and that bytes begin with the
-- encoding of one value at most
pub record Encoding (A : Type 0) : Type 0 where
  pub encode : A → List ℕ
  pub is_value : A → Bool
  pub unique : (x y : A) (r s : List ℕ) → is_value x ≡ true → is_value y ≡ true
      → encode x ++ r ≡ encode y ++ s → (x ≡ y) × (r ≡ s)

-- `before` begins with the encoding of x, and `after` follows it
pub record IsRead {A : Type 0} (encoding : Encoding A) (before : List ℕ) (x : A) (after : List ℕ)
    : Type 0 where
  pub value : encoding.is_value x ≡ true
  pub bytes : before ≡ encoding.encode x ++ after

-- `before` begins with no encoding
pub record IsUnread {A : Type 0} (encoding : Encoding A) (before : List ℕ) : Type 0 where
  pub none : (x : A) (rest : List ℕ) → encoding.is_value x ≡ true → before ≡ encoding.encode x
      ++ rest → ⊥

-- the answer is the value whose encoding `before` begins with, and `after` follows it; none where
-- there is none
abbrev pub Decodes : {A : Type 0} → Encoding A → List ℕ → Option A → List ℕ → Type 0
Decodes encoding before (Some x) after = IsRead encoding before x after
Decodes encoding before None after = IsUnread encoding before

-- `new` is `old` with the encoding of x at its end
pub record IsAppended {A : Type 0} (encoding : Encoding A) (old : List ℕ) (x : A)
    (new : List ℕ) : Type 0 where
  pub value : encoding.is_value x ≡ true
  pub bytes : new ≡ old ++ encoding.encode x

-- the bytes are the encoding of x, and no more
pub record IsEncoding {A : Type 0} (encoding : Encoding A) (x : A) (bytes : List ℕ) : Type 0 where
  pub value : encoding.is_value x ≡ true
  pub text : bytes ≡ encoding.encode x
