-- Texts that line feeds join, one more.
use Rattle.std.proofs.Common.{◌≡◌, rules, tests, false, refl, sym, ap, ◌∙◌, ℕ, zero, suc, ◌+◌, ◌<◌, ◌==◌, List, [], ◌∷◌, ◌++◌, length, get_or, take, append_assoc, arith, if◌then◌else◌}
use Rattle.std.specs.List.{join_with_byte}
use Rattle.std.proofs.lemmas.List.{take_more}

joined_last : (byte : ℕ) (y : List ℕ) (ys : List (List ℕ)) (x : List ℕ) → join_with_byte byte ((y ∷ ys) ++ x ∷ []) ≡ join_with_byte byte (y ∷ ys) ++ byte ∷ x
joined_last byte y [] x = refl
joined_last byte y (z ∷ ys) x = ap (λ rest. y ++ byte ∷ rest) (joined_last byte z ys x) ∙ sym (append_assoc y (byte ∷ join_with_byte byte (z ∷ ys)) (byte ∷ x))

pub joined_more : (byte i : ℕ) (texts : List (List ℕ)) (x : List ℕ) → i < length texts → x ≡ get_or texts i x
    → join_with_byte byte (take (i + 1) texts) ≡ join_with_byte byte (take i texts) ++ (if i == 0 then x else byte ∷ x)
joined_more byte i [] x h e = absurd (omega arith)
joined_more byte zero (y ∷ texts) x h e = sym e
joined_more byte (suc i) (y ∷ texts) x h e =
    let later : (suc i == 0) ≡ false = search (rules, tests) in
    rw later (ap (join_with_byte byte) (take_more (y ∷ texts) (suc i) x h ∙ ap (λ z. (y ∷ take i texts) ++ z ∷ []) (sym e)) ∙ joined_last byte y (take i texts) x)
