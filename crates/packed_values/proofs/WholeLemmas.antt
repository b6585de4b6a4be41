-- Bytes that are one encoding and no more.
use Rattle.std.proofs.Common.{◌≡◌, ◌∙◌, ◌++◌, ℕ, List, [], sym, ap, append-nil}
use Rattle.packed_values.specs.Encoding.{Encoding, IsRead, IsUnread}
use Rattle.packed_values.specs.Encoding.{IsEncoding}

pub not_encoded : {A : Type 0} (F : Encoding A) (bytes : List ℕ) → IsUnread F bytes → (x : A) → IsEncoding F x bytes → ⊥
not_encoded F bytes none x s = none.none x [] s.value (s.text ∙ sym (append-nil (F.encode x)))

pub encoded_less : {A : Type 0} (F : Encoding A) (bytes after : List ℕ) (y : A) → IsRead F bytes y after → (after ≡ [] → ⊥)
    → (x : A) → IsEncoding F x bytes → ⊥
encoded_less F bytes after y read more x s =
    more (F.unique y x after [] read.value s.value (sym read.bytes ∙ s.text ∙ sym (append-nil (F.encode x)))).1

-- bytes are the encoding of one value at most
pub encoded_once : {A : Type 0} (F : Encoding A) (bytes : List ℕ) (x y : A) → IsEncoding F x bytes → IsEncoding F y bytes → x ≡ y
encoded_once F bytes x y a b = (F.unique x y [] [] a.value b.value (ap (λ (s : List ℕ). s ++ []) (sym a.text ∙ b.text))).0
