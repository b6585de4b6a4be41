-- The text of a cache, its head and its body.
use Rattle.std.proofs.Common.{ap₂, ◌&&◌, Bool, ◌≡◌, ◌∙◌, ◌++◌, ◌<◌, ◌≤◌, ◌+◌, ◌^◌, ℕ, zero, suc, List, [], ◌∷◌, true, false, true≢false, drop, take, length, length-append, append_assoc, codes, sym, ap, refl, arith, subst, nat_lt, nat_le, slice_index_or, take_at, drop_at, Option, Some, None, MatchOption}
use Rattle.std.specs.Int.{bytes_low_first}
use Rattle.std.proofs.lemmas.Bool.{leb-true}
use Rattle.std.proofs.lemmas.List.{take-append-drop, drop-append-le}
use Rattle.cache_heads.proofs.HeadLemmas.{length_head}
use Rattle.packed_values.specs.Encoding.{IsEncoding}
use Rattle.packed_values.specs.Parts.{and_right, pair_encoding, rows_encoding}
use Rattle.packed_values.specs.Plain.{number_encoding, number_unique, text_encoding}
use Rattle.packed_values.proofs.WholeLemmas.{encoded_once}
use Rattle.step_engine.specs.declared.talk.Entry.{Entry}
use Rattle.step_pack.specs.declared.key.Key.{Key}
use Rattle.step_pack.specs.declared.out.Out.{Out}
use Rattle.step_cache.specs.CacheText.{pooled, body_of, head_of, is_edition, newest, edition_in, cache_text, IsTextOf, IsNoTextOf, IsNoText}
use Rattle.step_cache.specs.Checking.{IsCacheOf}
use Rattle.step_cache.specs.Numbered.{numbered_encoding, pooled_encoding, pooled_with}
use Rattle.step_cache.specs.declared.numbered.Numbered.{Numbered}
use Rattle.step_cache.specs.declared.numbered.Pooled.{Pooled}

-- what is written behind a pool and room for a head
module _ (before items : List ℕ) (pool : List (List ℕ)) (entries : List Numbered) (behind : drop 20 before ≡ (rows_encoding text_encoding).encode pool)
    (is : items ≡ before ++ (rows_encoding numbered_encoding).encode entries) where
  body_behind : 28 ≤ length before → drop 20 items ≡ pooled_encoding.encode (pooled_with pool entries)
  unfolding pooled_encoding pair_encoding
  body_behind room =
      ap (drop 20) is ∙ drop-append-le 20 before ((rows_encoding numbered_encoding).encode entries) (omega (arith, room))
      ∙ ap (λ (b : List ℕ). b ++ (rows_encoding numbered_encoding).encode entries) behind

  pub text_behind : (text : List ℕ) → 28 ≤ length before → text ≡ head_of newest (length (drop 20 items)) ++ drop 20 items
      → text ≡ head_of newest (length (pooled_encoding.encode (pooled_with pool entries))) ++ pooled_encoding.encode (pooled_with pool entries)
  text_behind text room whole = whole ∙ ap (λ (b : List ℕ). head_of newest (length b) ++ b) (body_behind room)

pub both_values : (pool : List (List ℕ)) (entries : List Numbered) → (rows_encoding text_encoding).is_value pool ≡ true → (rows_encoding numbered_encoding).is_value entries ≡ true
    → pooled_encoding.is_value (pooled_with pool entries) ≡ true
unfolding pooled_encoding pair_encoding
both_values pool entries p e = ap₂ (λ (a b : Bool). a && b) p e

body_at : (e : ℕ) (es : List (Entry Key Out)) (bytes : List ℕ) → IsTextOf e es bytes → drop 20 bytes ≡ body_of es
unfolding cache_text
body_at e es bytes t =
    let head = head_of e (length (body_of es)) in
    rw t.text (drop_at head (body_of es) 20 (length_head e (length (body_of es))))

pub head_at : (e : ℕ) (es : List (Entry Key Out)) (bytes : List ℕ) → IsTextOf e es bytes → take 20 bytes ≡ head_of e (length (drop 20 bytes))
unfolding cache_text
head_at e es bytes t =
    let head = head_of e (length (body_of es)) in
    ap (take 20) t.text ∙ take_at head (body_of es) 20 (length_head e (length (body_of es)))
    ∙ ap (λ (body : List ℕ). head_of e (length body)) (sym (body_at e es bytes t))

pub too_short : (bytes : List ℕ) → length bytes < 20 → IsNoText bytes
unfolding cache_text
too_short bytes less e es t =
    let head = head_of e (length (body_of es)) in
    let q : length bytes ≡ length head + length (body_of es) = ap length t.text ∙ length-append head (body_of es) in
    let h = length_head e (length (body_of es)) in omega (arith, q, h)

-- the body is the encoding of the parts
pub body_encoded : (e : ℕ) (es : List (Entry Key Out)) (bytes : List ℕ) → IsTextOf e es bytes → IsEncoding pooled_encoding (pooled es) (drop 20 bytes)
body_encoded e es bytes t = record { value = t.parts; text = body_at e es bytes t }

pub parts_of_text : (bytes : List ℕ) (parts : Pooled) → IsEncoding pooled_encoding parts (drop 20 bytes) → (e : ℕ) (es : List (Entry Key Out)) → IsTextOf e es bytes → IsCacheOf parts es
parts_of_text bytes parts s e es t = record {
  order = t.order;
  answers = t.answers;
  is = encoded_once pooled_encoding (drop 20 bytes) parts (pooled es) s (body_encoded e es bytes t);
}

-- bytes whose head and body are right
pub text_made : (e : ℕ) (bytes : List ℕ) (parts : Pooled) (es : List (Entry Key Out)) → is_edition e ≡ true → take 20 bytes ≡ head_of e (length (drop 20 bytes))
    → IsEncoding pooled_encoding parts (drop 20 bytes) → IsCacheOf parts es → nat_lt (length bytes) (256 ^ 8) ≡ true → IsTextOf e es bytes
unfolding cache_text
text_made e bytes parts es known head s c fits =
    let body : drop 20 bytes ≡ body_of es = s.text ∙ ap (λ (p : Pooled). pooled_encoding.encode p) c.is in
    record {
      known = known;
      order = c.order;
      answers = c.answers;
      parts = ap (λ (p : Pooled). pooled_encoding.is_value p) (sym c.is) ∙ s.value;
      fits = fits;
      text = sym (take-append-drop 20 bytes) ∙ ap (λ (front : List ℕ). front ++ drop 20 bytes) head
          ∙ ap (λ (b : List ℕ). head_of e (length b) ++ b) body;
    }

-- the editions that are read are bytes of their own
first_byte : (e : ℕ) → is_edition e ≡ true → bytes_low_first 0 4 e ≡ e ∷ 0 ∷ 0 ∷ 0 ∷ []
first_byte zero h = cc
first_byte (suc zero) h = cc
first_byte (suc (suc zero)) h = refl
first_byte (suc (suc (suc zero))) h = refl
first_byte (suc (suc (suc (suc zero)))) h = refl
first_byte (suc (suc (suc (suc (suc zero))))) h = refl
first_byte (suc (suc (suc (suc (suc (suc n)))))) h =
    let e : ℕ = suc (suc (suc (suc (suc (suc n))))) in
    let most : e ≤ 5 = leb-true e 5 (and_right (nat_le 2 e) (nat_le e 5) h) in absurd (omega (arith, most))

pub edition_is : (e : ℕ) (es : List (Entry Key Out)) (bytes : List ℕ) → IsTextOf e es bytes → edition_in bytes ≡ e
unfolding cache_text number_encoding
edition_is e es bytes t =
    ap edition_in t.text ∙ ap (λ (front : List ℕ). slice_index_or front 0 0) (first_byte e t.known)

-- what a test refuses is the text of no cache
pub other_edition : (bytes : List ℕ) → is_edition (edition_in bytes) ≡ false → IsNoText bytes
other_edition bytes other e es t =
    let here : is_edition (edition_in bytes) ≡ true = ap is_edition (edition_is e es bytes t) ∙ t.known in
    absurd (true≢false (sym here ∙ other))

pub other_head : (bytes : List ℕ) → (take 20 bytes ≡ head_of (edition_in bytes) (length (drop 20 bytes)) → ⊥) → IsNoText bytes
other_head bytes other e es t =
    other (head_at e es bytes t ∙ ap (λ (n : ℕ). head_of n (length (drop 20 bytes))) (sym (edition_is e es bytes t)))

pub none_at_all : (bytes : List ℕ) → IsNoTextOf (edition_in bytes) bytes → IsNoText bytes
none_at_all bytes none e es t = none es (subst (λ (n : ℕ). IsTextOf n es bytes) (sym (edition_is e es bytes t)) t)

pub no_parts : (e : ℕ) (bytes : List ℕ) → ((parts : Pooled) → IsEncoding pooled_encoding parts (drop 20 bytes) → ⊥) → IsNoTextOf e bytes
no_parts e bytes none es t = none (pooled es) (body_encoded e es bytes t)

pub no_cache : (bytes : List ℕ) (parts : Pooled) → IsEncoding pooled_encoding parts (drop 20 bytes) → ((es : List (Entry Key Out)) → IsCacheOf parts es → ⊥)
    → (e : ℕ) → IsNoTextOf e bytes
no_cache bytes parts s none e es t = none es (parts_of_text bytes parts s e es t)

-- what is read of a body, and of parts
pub encoded_at : (bytes body : List ℕ) (r : Option Pooled) (parts : Pooled) → MatchOption r ((p : Pooled) → IsEncoding pooled_encoding p body → ⊥) (λ p. IsEncoding pooled_encoding p body)
    → r ≡ Some parts → body ≡ drop 20 bytes → IsEncoding pooled_encoding parts (drop 20 bytes)
encoded_at bytes body None parts m e b = cc
encoded_at bytes body (Some p) parts m e b =
    let same : p ≡ parts = cc in
    subst (λ (x : Pooled). IsEncoding pooled_encoding x (drop 20 bytes)) same (subst (λ (t : List ℕ). IsEncoding pooled_encoding p t) b m)

pub none_of : (parts : Pooled) (r : Option (List (Entry Key Out))) → MatchOption r ((es : List (Entry Key Out)) → IsCacheOf parts es → ⊥) (λ es. IsCacheOf parts es)
    → r ≡ None → (es : List (Entry Key Out)) → IsCacheOf parts es → ⊥
none_of parts None m e = m
none_of parts (Some es) m e = cc

pub one_of : (parts : Pooled) (r : Option (List (Entry Key Out))) (cache : List (Entry Key Out)) → MatchOption r ((es : List (Entry Key Out)) → IsCacheOf parts es → ⊥) (λ es. IsCacheOf parts es)
    → r ≡ Some cache → IsCacheOf parts cache
one_of parts None cache m e = cc
one_of parts (Some es) cache m e = let same : es ≡ cache = cc in subst (IsCacheOf parts) same m

pub same_text : (e : ℕ) (es : List (Entry Key Out)) (a b : List ℕ) → IsTextOf e es a → IsTextOf e es b → a ≡ b
same_text e es a b s t = s.text ∙ sym t.text

pub same_edition : (d e : ℕ) (a b : List (Entry Key Out)) (text : List ℕ) → IsTextOf d a text → IsTextOf e b text → d ≡ e
same_edition d e a b text s t = sym (edition_is d a text s) ∙ edition_is e b text t

pub edition_stands : (e : ℕ) (es : List (Entry Key Out)) (text : List ℕ) → IsTextOf e es text → take 4 (drop 8 text) ≡ e ∷ 0 ∷ 0 ∷ 0 ∷ []
unfolding cache_text number_encoding
edition_stands e es text t = ap (λ (b : List ℕ). take 4 (drop 8 b)) t.text ∙ first_byte e t.known

-- the text of another edition
pub other_text : (d e : ℕ) (es : List (Entry Key Out)) (text : List ℕ) → IsTextOf d es text → is_edition e ≡ true → IsTextOf e es (take 8 text ++ e ∷ drop 9 text)
unfolding cache_text number_encoding
other_text d e es text t known =
    let count : List ℕ = bytes_low_first 0 8 (20 + length (body_of es)) in
    let made : (n : ℕ) → is_edition n ≡ true → cache_text n es ≡ codes "EDKSTEPS" ++ (n ∷ 0 ∷ 0 ∷ 0 ∷ count ++ body_of es)
    = λ n k. ap (λ (four : List ℕ). (codes "EDKSTEPS" ++ four ++ count) ++ body_of es) (first_byte n k) in
    let is : take 8 text ++ e ∷ drop 9 text ≡ cache_text e es
    = ap (λ (b : List ℕ). take 8 b ++ e ∷ drop 9 b) (t.text ∙ made d t.known) ∙ sym (made e known) in
    let long : length (take 8 text ++ e ∷ drop 9 text) ≡ length text
    = ap length is ∙ sym (ap length t.text) in
    record {
      known = known;
      order = t.order;
      answers = t.answers;
      parts = t.parts;
      fits = ap (λ (n : ℕ). nat_lt n (256 ^ 8)) long ∙ t.fits;
      text = is;
    }

-- a text's length stands in its head, so what begins a text and is one is the whole of it
pub cut_text : (d e : ℕ) (es more : List (Entry Key Out)) (start rest : List ℕ) → IsTextOf d es start → IsTextOf e more (start ++ rest) → rest ≡ []
unfolding cache_text number_encoding
cut_text d e es more start rest small whole =
    let n : ℕ = 20 + length (body_of es) in
    let m : ℕ = 20 + length (body_of more) in
    let first : List ℕ = bytes_low_first 0 8 n in
    let second : List ℕ = bytes_low_first 0 8 m in
    let long : length start ≡ n = ap length small.text ∙ length-append (head_of d (length (body_of es))) (body_of es) in
    let longer : length (start ++ rest) ≡ m = ap length whole.text ∙ length-append (head_of e (length (body_of more))) (body_of more) in
    let joined : length (start ++ rest) ≡ length start + length rest = length-append start rest in
    let q : first ++ (body_of es ++ rest) ≡ second ++ body_of more
    = sym (append_assoc first (body_of es) rest) ∙ ap (drop 12) (ap (λ (b : List ℕ). b ++ rest) (sym small.text) ∙ whole.text) in
    let both = number_unique 8 n m (body_of es ++ rest) (body_of more) (subst (λ (k : ℕ). nat_lt k (256 ^ 8) ≡ true) long small.fits) (subst (λ (k : ℕ). nat_lt k (256 ^ 8) ≡ true) longer whole.fits) q in
    none_left rest (omega (arith, both.0, long, longer, joined))
  where
    none_left : (xs : List ℕ) → length xs ≡ 0 → xs ≡ []
    none_left [] h = refl
    none_left (x ∷ xs) h = absurd (omega arith)
