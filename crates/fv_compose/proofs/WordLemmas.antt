-- Sums of 16-bit words.
use Rattle.std.proofs.Common.{◌≡◌, ℕ, ◌+◌, ◌*◌, ◌<◌, ◌≤◌, List, ◌∷◌, length, get_or, drop, refl, arith, ◌∙◌, ap}
use Rattle.std.proofs.lemmas.List.{drop_more, drop_all}
use Rattle.fv_compose.specs.Header.{words_sum}

pub words_more : (bytes : List ℕ) (i : ℕ) → i + 1 < length bytes → words_sum (drop i bytes) ≡ get_or bytes i 0 + 256 * get_or bytes (i + 1) 0 + words_sum (drop (i + 2) bytes)
unfolding words_sum
words_more bytes i h =
    let e : i + 1 + 1 ≡ i + 2 = omega arith in
    let f : i < length bytes = omega arith in
    let two : drop (i + 1) bytes ≡ get_or bytes (i + 1) 0 ∷ drop (i + 2) bytes = drop_more bytes (i + 1) 0 h ∙ ap (λ k. get_or bytes (i + 1) 0 ∷ drop k bytes) e in
    rw (drop_more bytes i 0 f, two) refl

pub words_one : (bytes : List ℕ) (i : ℕ) → i < length bytes → length bytes ≤ i + 1 → words_sum (drop i bytes) ≡ get_or bytes i 0
unfolding words_sum
words_one bytes i h k = rw (drop_more bytes i 0 h, drop_all (i + 1) bytes k) refl

pub words_none : (bytes : List ℕ) (i : ℕ) → length bytes ≤ i → words_sum (drop i bytes) ≡ 0
unfolding words_sum
words_none bytes i h = rw (drop_all i bytes h) refl
