-- A pool as it is written, with a text more.
use Rattle.std.proofs.Common.{◌≡◌, ◌∙◌, ◌++◌, ◌+◌, ◌-◌, ◌<◌, ◌≤◌, ◌^◌, ℕ, suc, Bool, true, false, ◌&&◌, cond, nat_lt, List, [], ◌∷◌, length, take, drop, Option, Some, None, refl, sym, ap, ap₂, append_assoc, arith, subst, length-append, ltb-true, lt-ltb, MatchOption}
use Rattle.std.specs.Int.{bytes_low_first}
use Rattle.std.specs.List.{list_all}
use Rattle.std.specs.HashMap.{HashMap}
use Rattle.std.proofs.lemmas.List.{take-append-le, drop-append-le, take_all, drop_all, length-take-le, length-drop}
use Rattle.std.proofs.Math.Seq.{drop-append_seam, take-append_seam}
use Rattle.packed_values.specs.Plain.{text_encoding, number_encoding}
use Rattle.packed_values.specs.Parts.{encodings, rows_encoding}
use Rattle.packed_values.proofs.RowsLemmas.{encodings-push, all-push}
use Rattle.step_cache.specs.Places.{span_text, texts_at, AreIn, first_at, found_in, IsPlaced, IsPool, IsTextAt}
use Rattle.step_cache.specs.Pools.{has_text, with_text, number_in}
use Rattle.step_cache.specs.declared.places.Span.{Span}
use Rattle.step_cache.proofs.PoolLemmas.{number_last}
use Rattle.step_cache.proofs.OnceLemmas.{number_end}

-- what stands at a span stays where bytes follow
span_more : (bytes more : List ℕ) (span : Span) → span.start + span.count ≤ length bytes → span_text (bytes ++ more) span ≡ span_text bytes span
span_more bytes more span inside =
    ap (take span.count) (drop-append-le span.start bytes more (omega (arith, inside)))
    ∙ take-append-le span.count (drop span.start bytes) more (omega (arith, inside, length-drop span.start bytes))

texts_more : (bytes more : List ℕ) (spans : List Span) → AreIn bytes spans → texts_at (bytes ++ more) spans ≡ texts_at bytes spans
texts_more bytes more [] inside = refl
texts_more bytes more (s ∷ spans) inside =
    ap₂ (λ (t : List ℕ) (ts : List (List ℕ)). t ∷ ts) (span_more bytes more s inside.0) (texts_more bytes more spans inside.1)

inside_more : (bytes more : List ℕ) (spans : List Span) (last : Span) → AreIn bytes spans → last.start + last.count ≤ length (bytes ++ more)
    → AreIn (bytes ++ more) (spans ++ last ∷ [])
inside_more bytes more [] last inside l = (l, tt)
inside_more bytes more (s ∷ spans) last inside l =
    (omega (arith, inside.0, length-append bytes more), inside_more bytes more spans last inside.1 l)

texts_push : (bytes : List ℕ) (spans : List Span) (last : Span) → texts_at bytes (spans ++ last ∷ []) ≡ texts_at bytes spans ++ span_text bytes last ∷ []
texts_push bytes [] last = refl
texts_push bytes (s ∷ spans) last = ap (λ (ts : List (List ℕ)). span_text bytes s ∷ ts) (texts_push bytes spans last)

pub length_texts : (bytes : List ℕ) (spans : List Span) → length (texts_at bytes spans) ≡ length spans
length_texts bytes [] = refl
length_texts bytes (s ∷ spans) = ap suc (length_texts bytes spans)

length_number : (n : ℕ) → length (bytes_low_first 0 8 n) ≡ 8
length_number n = refl

-- with no texts
pub no_texts : {S : Type 0} (table : HashMap ℕ (List ℕ) S) → table.entries ≡ [] → IsPool [] [] table
unfolding first_at found_in has_text
no_texts table empty = record {
  inside = tt;
  texts = refl;
  values = refl;
  placed = λ text more. rw empty refl;
}

encoded : (text : List ℕ) → length (text_encoding.encode text) ≡ 8 + length text
unfolding text_encoding
encoded text = length-append (bytes_low_first 0 8 (length text)) text

none_encoded : (bytes : List ℕ) (spans : List Span) → encodings text_encoding (texts_at bytes spans) ≡ [] → spans ≡ []
none_encoded bytes [] e = refl
none_encoded bytes (s ∷ spans) e =
    let all : length (encodings text_encoding (texts_at bytes (s ∷ spans))) ≡ 0 = ap length e in
    absurd (omega (arith, all, encoded (span_text bytes s), length-append (text_encoding.encode (span_text bytes s)) (encodings text_encoding (texts_at bytes spans))))

-- a pool without room has no texts, and may be given it
module _ {S : Type 0} (bytes room : List ℕ) (spans : List Span) (table : HashMap ℕ (List ℕ) S) (pool : IsPool bytes spans table) (short : length bytes < 28) where
  none_there : spans ≡ []
  none_there = none_encoded bytes spans (sym pool.texts ∙ drop_all 28 bytes (omega (arith, short)))

  pub same_texts : texts_at room spans ≡ texts_at bytes spans
  same_texts = ap (texts_at room) none_there ∙ ap (texts_at bytes) (sym none_there)

  pub roomy : drop 28 room ≡ [] → IsPool room spans table
  roomy empty = record {
    inside = subst (AreIn room) (sym none_there) tt;
    texts = empty ∙ ap (λ (all : List Span). encodings text_encoding (texts_at room all)) (sym none_there);
    values = ap (λ (all : List (List ℕ)). list_all text_encoding.is_value all) same_texts ∙ pool.values;
    placed = subst (λ (all : List (List ℕ)). IsPlaced all table) (sym same_texts) pool.placed;
  }

lower : (a b : ℕ) → b ≤ a → nat_lt a (256 ^ 8) ≡ true → nat_lt b (256 ^ 8) ≡ true
lower a b less fits = lt-ltb b (256 ^ 8) (omega (arith, less, ltb-true a (256 ^ 8) fits))

-- the span of what stands behind a start and room for its length
abbrev pub last_span : ℕ → List ℕ → Span
last_span start bytes = record { start = start + 8; count = length bytes - (start + 8) }

-- what stands there becomes the last text
module _ {S : Type 0} (start : ℕ) (bytes items : List ℕ) (spans : List Span) (old new : HashMap ℕ (List ℕ) S) (room : start + 8 ≤ length bytes)
    (pool : IsPool (take start bytes) spans old)
    (is : items ≡ take start bytes ++ bytes_low_first 0 8 (length bytes - (start + 8)) ++ drop (start + 8) bytes) where
  abbrev front : List ℕ
  front = take start bytes

  abbrev text : List ℕ
  text = drop (start + 8) bytes

  abbrev form : List ℕ
  form = bytes_low_first 0 8 (length bytes - (start + 8))

  joined : items ≡ front ++ (form ++ text)
  joined = is ∙ append_assoc front form text

  sized : length front ≡ start
  sized = length-take-le start bytes (omega (arith, room))

  last_is : span_text items (last_span start bytes) ≡ text
  last_is =
      let front_size : start + 8 ≡ length (front ++ form) = omega (arith, length-append front form, sized) in
      ap (λ (all : List ℕ). span_text all (last_span start bytes)) is
      ∙ ap (λ (n : ℕ). take (length bytes - (start + 8)) (drop n ((front ++ form) ++ text))) front_size
      ∙ ap (take (length bytes - (start + 8))) (drop-append_seam (front ++ form) text)
      ∙ take_all (length bytes - (start + 8)) text (omega (arith, length-drop (start + 8) bytes))

  pub texts_added : texts_at items (spans ++ last_span start bytes ∷ []) ≡ texts_at (take start bytes) spans ++ drop (start + 8) bytes ∷ []
  texts_added =
      texts_push items spans (last_span start bytes)
      ∙ ap₂ (λ (ts : List (List ℕ)) (t : List ℕ). ts ++ t ∷ [])
      (ap (λ (all : List ℕ). texts_at all spans) joined ∙ texts_more front (form ++ text) spans pool.inside) last_is

  pub added : 28 ≤ start → nat_lt (length bytes) (256 ^ 8) ≡ true → IsPlaced (texts_at (take start bytes) spans ++ drop (start + 8) bytes ∷ []) new
      → IsPool items (spans ++ last_span start bytes ∷ []) new
  unfolding text_encoding
  added behind fits placed = record {
    inside = subst (λ (all : List ℕ). AreIn all (spans ++ last_span start bytes ∷ [])) (sym joined)
        (inside_more front (form ++ text) spans (last_span start bytes) pool.inside
        (omega (arith, room, sized, length-append front (form ++ text), length-append form text, length-drop (start + 8) bytes)));
    texts =
        let size : length text ≡ length bytes - (start + 8) = omega (arith, length-drop (start + 8) bytes) in
        let form_is : form ++ text ≡ text_encoding.encode text = ap (λ (n : ℕ). bytes_low_first 0 8 n ++ text) (sym size) in
        ap (drop 28) joined ∙ drop-append-le 28 front (form ++ text) (omega (arith, behind, sized))
        ∙ ap₂ (λ (a b : List ℕ). a ++ b) pool.texts form_is ∙ sym (encodings-push text_encoding (texts_at front spans) text)
        ∙ ap (encodings text_encoding) (sym texts_added);
    values = ap (λ (all : List (List ℕ)). list_all text_encoding.is_value all) texts_added ∙ all-push text_encoding.is_value (texts_at front spans) text pool.values (lower (length bytes) (length text) (omega (arith, length-drop (start + 8) bytes)) fits);
    placed = subst (λ (all : List (List ℕ)). IsPlaced all new) (sym texts_added) placed;
  }

-- what is found and what isn't
module _ (texts : List (List ℕ)) (text : List ℕ) where
  is_found : (n : ℕ) → found_in texts text ≡ Some n → (has_text texts text ≡ true) × (number_in texts text ≡ n)
  unfolding found_in
  is_found n e = step (has_text texts text) e
    where
      step : (b : Bool) → cond b (Some (number_in texts text)) None ≡ Some n → (b ≡ true) × (number_in texts text ≡ n)
      step true f = (refl, cc)
      step false f = cc

  lacked : found_in texts text ≡ None → has_text texts text ≡ false
  unfolding found_in
  lacked e = step (has_text texts text) e
    where
      step : (b : Bool) → cond b (Some (number_in texts text)) None ≡ None → b ≡ false
      step true f = cc
      step false f = refl

  found_there : (n : ℕ) → found_in texts text ≡ Some n → with_text texts text ≡ texts
  unfolding with_text
  found_there n e = ap (λ (b : Bool). cond b texts (texts ++ text ∷ [])) (is_found n e).0

  pub told_by : (o : Option ℕ) → found_in texts text ≡ o → MatchOption o (has_text texts text ≡ false) (IsTextAt texts text)
  told_by None e = lacked e
  told_by (Some n) e = (found_there n e, sym (is_found n e).1)

  pub grown : has_text texts text ≡ false → texts ++ text ∷ [] ≡ with_text texts text
  unfolding with_text
  grown none = sym (ap (λ (b : Bool). cond b texts (texts ++ text ∷ [])) none)

  pub grown_number : (n : ℕ) → has_text texts text ≡ false → n ≡ length texts → n ≡ number_in (texts ++ text ∷ []) text
  grown_number n none at = at ∙ sym (number_last texts text none ∙ number_end texts text none)

pub length_form : (n : ℕ) → length ((number_encoding 8).encode n) ≡ 8
unfolding number_encoding
length_form n = refl

-- a text that is put behind a length's room
module _ (bytes form text items : List ℕ) (is : items ≡ (bytes ++ form) ++ text) (size : length form ≡ 8) where
  pub front_of : take (length bytes) items ≡ bytes
  front_of = ap (take (length bytes)) (is ∙ append_assoc bytes form text) ∙ take-append_seam bytes (form ++ text)

  pub tail_of : drop (length bytes + 8) items ≡ text
  tail_of =
      let front_size : length bytes + 8 ≡ length (bytes ++ form) = omega (arith, length-append bytes form, size) in
      ap (drop (length bytes + 8)) is ∙ ap (λ (n : ℕ). drop n ((bytes ++ form) ++ text)) front_size ∙ drop-append_seam (bytes ++ form) text

-- a pool with its count
module _ {S : Type 0} (bytes items : List ℕ) (spans : List Span) (table : HashMap ℕ (List ℕ) S) (pool : IsPool bytes spans table) (room : 28 ≤ length bytes)
    (is : items ≡ take 20 bytes ++ bytes_low_first 0 8 (length spans) ++ drop 28 bytes) where
  pub counted : drop 20 items ≡ (rows_encoding text_encoding).encode (texts_at bytes spans)
  unfolding rows_encoding
  counted =
      let size : length (take 20 bytes) ≡ 20 = length-take-le 20 bytes (omega (arith, room)) in
      ap (drop 20) (is ∙ append_assoc (take 20 bytes) (bytes_low_first 0 8 (length spans)) (drop 28 bytes))
      ∙ ap (λ (n : ℕ). drop n (take 20 bytes ++ (bytes_low_first 0 8 (length spans) ++ drop 28 bytes))) (sym size)
      ∙ drop-append_seam (take 20 bytes) (bytes_low_first 0 8 (length spans) ++ drop 28 bytes)
      ∙ ap₂ (λ (n : ℕ) (b : List ℕ). bytes_low_first 0 8 n ++ b) (sym (length_texts bytes spans)) pool.texts

  pub counted_room : 28 ≤ length items
  counted_room =
      let size : length (take 20 bytes) ≡ 20 = length-take-le 20 bytes (omega (arith, room)) in
      omega (arith, ap length is, size, length-append (take 20 bytes ++ bytes_low_first 0 8 (length spans)) (drop 28 bytes), length-append (take 20 bytes) (bytes_low_first 0 8 (length spans)))

  pub counted_values : nat_lt (length spans) (256 ^ 8) ≡ true → (rows_encoding text_encoding).is_value (texts_at bytes spans) ≡ true
  unfolding rows_encoding
  counted_values fits =
      ap₂ (λ (a b : Bool). a && b) (ap (λ (n : ℕ). nat_lt n (256 ^ 8)) (length_texts bytes spans) ∙ fits) pool.values
