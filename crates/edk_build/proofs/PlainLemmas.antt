-- Words of a text of plain bytes are of plain bytes, which are UTF-8.
use Rattle.std.proofs.Common.{◌≡◌, ◌<◌, ◌==◌, ◌&&◌, Bool, true, false, cond, ℕ, zero, suc, List, [], ◌∷◌, length, get_or, refl, sym, ◌∙◌, arith}
use Rattle.std.specs.List.{list_all, slice_split, flat_map, onto_first}
use Rattle.std.specs.Str.{IsAscii, IsUtf8}
use Rattle.std.proofs.lemmas.Bool.Decides.{nat_tests}
use Rattle.std.proofs.lemmas.List.Folds.{list_all-append, list_all_at}
use Rattle.std.proofs.lemmas.Str.{IsUtf8-from_ascii}
use Rattle.meta_lexer.specs.Lines.{is_plain}
use Rattle.meta_lexer.specs.Lines.{is_blank}
use Rattle.meta_lexer.specs.Parts.{word_at, words_of}
use Rattle.edk_build.specs.Script.{are_plain}

both : (a b : Bool) → (a && b) ≡ true → (a ≡ true) × (b ≡ true)
both true true e = (refl, refl)
both true false e = absurd cc
both false b e = absurd cc

joined : (a b : Bool) → a ≡ true → b ≡ true → (a && b) ≡ true
joined true true d e = refl
joined true false d e = e
joined false b d e = absurd cc

onto_plain : (x : ℕ) (pieces : List (List ℕ)) → is_plain x ≡ true → are_plain pieces ≡ true → are_plain (onto_first x pieces) ≡ true
onto_plain x [] h a = joined _ _ (joined _ _ h refl) refl
onto_plain x (piece ∷ pieces) h a = let p = both (list_all is_plain piece) (are_plain pieces) a in joined _ _ (joined (is_plain x) (list_all is_plain piece) h p.0) p.1

split_plain : (text : List ℕ) → list_all is_plain text ≡ true → are_plain (slice_split is_blank text) ≡ true
split_plain [] e = refl
split_plain (x ∷ xs) e = let p = both (is_plain x) (list_all is_plain xs) e in by (is_blank x) (slice_split is_blank xs) p.0 (split_plain xs p.1)
  where
    by : (b : Bool) (rest : List (List ℕ)) → is_plain x ≡ true → are_plain rest ≡ true → are_plain (cond b ([] ∷ rest) (onto_first x rest)) ≡ true
    by true rest h a = joined true _ refl a
    by false rest h a = onto_plain x rest h a

word_plain : (piece : List ℕ) (b : Bool) → list_all is_plain piece ≡ true → are_plain (cond b [] (piece ∷ [])) ≡ true
word_plain piece true e = refl
word_plain piece false e = joined _ _ e refl

among_plain : (pieces : List (List ℕ)) → are_plain pieces ≡ true → are_plain (flat_map word_at pieces) ≡ true
among_plain [] e = refl
among_plain (piece ∷ pieces) e = let p = both (list_all is_plain piece) (are_plain pieces) e in
    list_all-append (λ word. list_all is_plain word) (word_at piece) (flat_map word_at pieces) ∙ joined _ _ (word_plain piece (length piece == 0) p.0) (among_plain pieces p.1)

pub words_plain : (text : List ℕ) → list_all is_plain text ≡ true → are_plain (words_of text) ≡ true
unfolding words_of
words_plain text e = among_plain (slice_split is_blank text) (split_plain text e)

plain_byte : (b : ℕ) → is_plain b ≡ true → b < 128
plain_byte b e = grind (arith, nat_tests)

plain_ascii : (text : List ℕ) → list_all is_plain text ≡ true → IsAscii text
plain_ascii [] e i = omega arith
plain_ascii (b ∷ bs) e zero = plain_byte b (both (is_plain b) (list_all is_plain bs) e).0
plain_ascii (b ∷ bs) e (suc i) = plain_ascii bs (both (is_plain b) (list_all is_plain bs) e).1 i

pub plain_utf8 : (text : List ℕ) → list_all is_plain text ≡ true → IsUtf8 text
plain_utf8 text e = IsUtf8-from_ascii text (plain_ascii text e)

is_true : (b : Bool) → (b ≡ false → ⊥) → b ≡ true
is_true true h = refl
is_true false h = absurd (h refl)

pub plain_at : (words : List (List ℕ)) (i : ℕ) (d : List ℕ) → i < length words → are_plain words ≡ true → list_all is_plain (get_or words i d) ≡ true
plain_at words i d l e = is_true (list_all is_plain (get_or words i d)) (λ f. let w : false ≡ true = sym (list_all_at (λ word. list_all is_plain word) words i d l f) ∙ e in absurd cc)
