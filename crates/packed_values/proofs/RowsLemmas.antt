-- Rows that are put and read item by item.
use Rattle.std.proofs.Common.{◌≡◌, ◌∙◌, ◌++◌, ◌<◌, ◌+◌, ◌&&◌, ℕ, List, [], ◌∷◌, Bool, true, false, length, sym, ap, arith, append_assoc, append-nil, length-append}
use Rattle.std.specs.List.{list_all}
use Rattle.std.specs.Int.{bytes_low_first}
use Rattle.packed_values.specs.Encoding.{Encoding, IsRead, IsUnread, IsAppended}
use Rattle.packed_values.specs.Plain.{number_encoding, number_unique, and_left}
use Rattle.packed_values.specs.Parts.{and_right, rows_encoding, encodings}

pub encodings-push : {A : Type 0} (F : Encoding A) (xs : List A) (x : A) → encodings F (xs ++ x ∷ []) ≡ encodings F xs ++ F.encode x
encodings-push F [] x = append-nil (F.encode x)
encodings-push F (y ∷ xs) x =
    ap (λ (s : List ℕ). F.encode y ++ s) (encodings-push F xs x) ∙ sym (append_assoc (F.encode y) (encodings F xs) (F.encode x))

pub all-push : {A : Type 0} (p : A → Bool) (xs : List A) (x : A) → list_all p xs ≡ true → p x ≡ true → list_all p (xs ++ x ∷ []) ≡ true
all-push p [] x h e = grind (arith, e)
all-push p (y ∷ xs) x h e = both (p y) (list_all p (xs ++ x ∷ [])) (and_left _ _ h) (all-push p xs x (and_right _ _ h) e)
  where
    both : (a b : Bool) → a ≡ true → b ≡ true → (a && b) ≡ true
    both true b f g = g
    both false b f g = f

pub row_read : {A : Type 0} (F : Encoding A) (start here after : List ℕ) (xs : List A) (x : A)
    → start ≡ encodings F xs ++ here → IsRead F here x after → start ≡ encodings F (xs ++ x ∷ []) ++ after
row_read F start here after xs x e read =
    e ∙ ap (λ (s : List ℕ). encodings F xs ++ s) read.bytes ∙ sym (append_assoc (encodings F xs) (F.encode x) after)
    ∙ ap (λ (s : List ℕ). s ++ after) (sym (encodings-push F xs x))

no_item : {A : Type 0} (F : Encoding A) (xs ys : List A) (here rest : List ℕ) → list_all F.is_value xs ≡ true → list_all F.is_value ys ≡ true
    → length xs < length ys → IsUnread F here → encodings F xs ++ here ≡ encodings F ys ++ rest → ⊥
no_item F xs [] here rest vx vy less none e = absurd (omega arith)
no_item F [] (y ∷ ys) here rest vx vy less none e =
    none.none y (encodings F ys ++ rest) (and_left _ _ vy) (e ∙ append_assoc (F.encode y) (encodings F ys) rest)
no_item F (x ∷ xs) (y ∷ ys) here rest vx vy less none e =
    let first = F.unique x y (encodings F xs ++ here) (encodings F ys ++ rest) (and_left _ _ vx) (and_left _ _ vy)
    (sym (append_assoc (F.encode x) (encodings F xs) here) ∙ e ∙ append_assoc (F.encode y) (encodings F ys) rest) in
    no_item F xs ys here rest (and_right _ _ vx) (and_right _ _ vy) (omega arith) none first.1

pub rows_unread : {A : Type 0} (F : Encoding A) (before start here : List ℕ) (n : ℕ) (xs : List A)
    → IsRead (number_encoding 8) before n start → start ≡ encodings F xs ++ here → list_all F.is_value xs ≡ true → length xs < n
    → IsUnread F here → IsUnread (rows_encoding F) before
unfolding number_encoding rows_encoding
rows_unread F before start here n xs count e vx less none = record {
  none = λ ys rest vy f.
      let both = number_unique 8 n (length ys) start (encodings F ys ++ rest) count.value (and_left _ _ vy)
      (sym count.bytes ∙ f ∙ append_assoc (bytes_low_first 0 8 (length ys)) (encodings F ys) rest) in
      no_item F xs ys here rest vx (and_right _ _ vy) (omega (arith, both.0)) none (sym e ∙ both.1);
}

pub row_appended : {A : Type 0} (F : Encoding A) (start old new : List ℕ) (xs : List A) (x : A)
    → old ≡ start ++ encodings F xs → IsAppended F old x new → new ≡ start ++ encodings F (xs ++ x ∷ [])
row_appended F start old new xs x e put =
    put.bytes ∙ ap (λ (s : List ℕ). s ++ F.encode x) e ∙ append_assoc start (encodings F xs) (F.encode x)
    ∙ ap (λ (s : List ℕ). start ++ s) (sym (encodings-push F xs x))

pub count_push : {A : Type 0} (xs : List A) (x : A) (n : ℕ) → length xs ≡ n → length (xs ++ x ∷ []) ≡ n + 1
count_push xs x n e = omega (arith, length-append xs (x ∷ []), e)
