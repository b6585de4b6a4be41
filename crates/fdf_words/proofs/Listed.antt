-- Bytes in braces, one after another.
use Rattle.std.proofs.Common.{◌≡◌, ℕ, ◌+◌, ◌<◌, ◌≤◌, List, [], ◌∷◌, ◌++◌, length, get_or, drop, Option, Some, None, refl, ap, append_assoc, append-nil, sym}
use Rattle.std.specs.Option.{option_map}
use Rattle.std.proofs.lemmas.List.{drop_all, drop_more}
use Rattle.meta_lexer.specs.Fields.{bytes_at}
use Rattle.meta_lexer.specs.declared.field.Span.{Span}
use Rattle.fdf_words.specs.DataBytes.{byte_field, byte_list}

front_more : (out : List ℕ) (b : ℕ) (o : Option (List ℕ)) → option_map (λ bs. out ++ bs) (option_map (λ bs. b ∷ bs) o) ≡ option_map (λ bs. (out ++ b ∷ []) ++ bs) o
front_more out b None = refl
front_more out b (Some bs) = ap (λ z. Some z) (sym (append_assoc out (b ∷ []) bs))

pub listed_none : (text out : List ℕ) (spans : List Span) (i : ℕ) (d : Span) → i < length spans → byte_field (bytes_at text (get_or spans i d)) ≡ None
    → option_map (λ bs. out ++ bs) (byte_list text (drop i spans)) ≡ None
unfolding byte_list
listed_none text out spans i d h n = rw (drop_more spans i d h, n) refl

pub listed_more : (text out : List ℕ) (spans : List Span) (i b : ℕ) (d : Span) → i < length spans → byte_field (bytes_at text (get_or spans i d)) ≡ Some b
    → option_map (λ bs. out ++ bs) (byte_list text (drop i spans)) ≡ option_map (λ bs. (out ++ b ∷ []) ++ bs) (byte_list text (drop (i + 1) spans))
unfolding byte_list
listed_more text out spans i b d h n = rw (drop_more spans i d h, n) (front_more out b (byte_list text (drop (i + 1) spans)))

pub listed_end : (text out : List ℕ) (spans : List Span) (i : ℕ) → length spans ≤ i → option_map (λ bs. out ++ bs) (byte_list text (drop i spans)) ≡ Some out
unfolding byte_list
listed_end text out spans i h = rw (drop_all i spans h, append-nil out) refl
