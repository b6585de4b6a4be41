-- A pool as it is written: each text behind its length, spans that say where, and a table from a
-- digest of a text to the numbers of the texts that may be it.
use Rattle.std.specs.Prelude.{◌≡◌, ◌≤◌, ◌+◌, ◌-◌, ◌*◌, ◌/◌, ℕ, zero, suc, Bool, true, false, IsTrue, nat_eq, nat_le, List, [], ◌∷◌, ◌++◌, length, map, take, drop, slice_get, unwrap_or, Option, Some, None, if◌then◌else◌}
use Rattle.std.specs.List.{list_all}
use Rattle.std.specs.Cmp.Lexicographic.{pointwise}
use Rattle.std.specs.Hash as fed
use Rattle.std.specs.Hash.FoldHasher.{initial, write, finish}
use Rattle.std.proofs.Common.{rules, ap}
use Rattle.build_base.specs.Digest.{digest as whole_digest}
use Rattle.std.specs.HashMap.{HashMap, get}
use Rattle.packed_values.specs.Plain.{text_encoding}
use Rattle.packed_values.specs.Parts.{encodings}
use Rattle.step_cache.specs.Pools.{text_is, has_text, with_text, number_in}
use Rattle.step_cache.specs.declared.places.Span.{Span}

-- so many samples of a text written to a hash: 64 bytes behind every 1,024th
unfoldable pub hash_samples : {H : Type 0} → (H → List ℕ → H) → H → List ℕ → ℕ → H
hash_samples write state text zero = state
hash_samples write state text (suc n) =
    write (hash_samples write state text n) (take 64 (drop (n * 1024) text))

-- a number of a text; others may have it too. A long text has that of its first and last 1,024
-- bytes and of samples
unfoldable pub digest : List ℕ → ℕ
digest text =
    if nat_le (length text) 16384 then whole_digest text
    else finish (hash_samples write (write (write initial (take 1024 text))
    (take 1024 (drop (length text - 1024) text))) text (length text / 1024))

-- what a text writes to a hash: its digest alone
abbrev pub digest_input : List ℕ → List (List ℕ)
digest_input text = fed.u64 (digest text)

pub equal_inputs : (a b : List ℕ) → IsTrue (pointwise nat_eq a b) → digest_input a ≡ digest_input b
equal_inputs a b e = ap digest_input (search rules)

-- so many bytes behind a start, or as many as there are
abbrev pub span_text : List ℕ → Span → List ℕ
span_text bytes span = take span.count (drop span.start bytes)

abbrev pub texts_at : List ℕ → List Span → List (List ℕ)
texts_at bytes spans = map (span_text bytes) spans

-- each span ends within the bytes
abbrev pub AreIn : List ℕ → List Span → Type 0
AreIn bytes [] = Unit {0}
AreIn bytes (span ∷ spans) = (span.start + span.count ≤ length bytes) × AreIn bytes spans

abbrev pub is_some_text : List ℕ → Option (List ℕ) → Bool
is_some_text text None = false
is_some_text text (Some other) = text_is text other

-- the first of the numbers at which the text stands
unfoldable pub first_at : List (List ℕ) → List ℕ → List ℕ → Option ℕ
first_at texts text [] = None
first_at texts text (n ∷ ns) =
    if is_some_text text (slice_get texts n) then Some n else first_at texts text ns

-- the number of a text, where it is there
unfoldable pub found_in : List (List ℕ) → List ℕ → Option ℕ
found_in texts text = if has_text texts text then Some (number_in texts text) else None

-- the text is there, at a number
abbrev pub IsTextAt : List (List ℕ) → List ℕ → ℕ → Type 0
IsTextAt texts text n = (with_text texts text ≡ texts) × (n ≡ number_in texts text)

-- what a table has at a digest
abbrev pub numbers_at : {S : Type 0} → HashMap ℕ (List ℕ) S → ℕ → List ℕ
numbers_at table d = unwrap_or (get nat_eq table d) []

-- a text is found by the numbers at its digest, also where more texts follow
abbrev pub IsPlaced : {S : Type 0} → List (List ℕ) → HashMap ℕ (List ℕ) S → Type 0
IsPlaced texts table = (text : List ℕ) (more : List (List ℕ))
    → first_at (texts ++ more) text (numbers_at table (digest text)) ≡ found_in texts text

-- behind room for a head and a count stand the texts of the spans, each behind its length
pub record IsPool {S : Type 0} (bytes : List ℕ) (spans : List Span) (table : HashMap ℕ (List ℕ) S)
    : Type 0 where
  pub inside : AreIn bytes spans
  pub texts : drop 28 bytes ≡ encodings text_encoding (texts_at bytes spans)
  pub values : list_all text_encoding.is_value (texts_at bytes spans) ≡ true
  pub placed : IsPlaced (texts_at bytes spans) table
