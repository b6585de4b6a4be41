-- Texts that pass their checks have bytes, and no line feed; so the texts that line feeds join are
-- read again.
use Rattle.std.specs.Prelude.{◌&&◌, nat_eq}
use Rattle.std.specs.Char.{to_ascii_lowercase}
use Rattle.std.specs.Cmp.Lexicographic.{pointwise}
use Rattle.std.specs.List.{All, AllByRecursion, join_with_byte, list_all, position_or_len, slice_split}
use Rattle.std.specs.Option.{is_some}
use Rattle.std.proofs.Common.{◌≡◌, ◌∙◌, ℕ, ◌+◌, ◌<◌, ◌==◌, not, nat_le, nat_lt, rules, tests, Bool, true, false, cond, if◌then◌else◌, List, [], ◌∷◌, ◌++◌, length, take, drop, get_or, map, Some, None, refl, sym, ap, subst, arith, take-append-drop}
use Rattle.std.proofs.lemmas.Bool.{and_from, and_parts}
use Rattle.std.proofs.lemmas.Bool.Decides.{nat_tests}
use Rattle.std.proofs.lemmas.List.Folds.{list_all-append}
use Rattle.std.proofs.lemmas.List.Splits.{slice_split_none, slice_split_at}
use Rattle.std.proofs.lemmas.List.Sums.{AllPass-from_list_all, split_at_first, passes_at_first}
use Rattle.doc_types.specs.Arches.{architectures, arch_named}
use Rattle.doc_types.specs.Pcds.{parted_at, pcd_name_of}
use Rattle.doc_types.specs.declared.arch.Arch.{Arch}
use Rattle.doc_types.specs.declared.pcd.PcdName.{PcdName}
use Rattle.meta_lexer.specs.Lines.{is_plain}
use Rattle.meta_lexer.specs.Lookup.{lookup}
use Rattle.meta_lexer.specs.Tokens.{is_word_byte}
use Rattle.meta_lexer.specs.Words.{is_identifier, begins_with_digit, same_word}
use Rattle.job_fields.specs.Readings.{texts_in}
use Rattle.job_fields.specs.Values.{equals_at, is_arch, is_built, is_define, is_name, is_name_byte, is_setting}

-- what passes one test passes another
pub all_as : (p q : ℕ → Bool) → ((x : ℕ) → p x ≡ true → q x ≡ true) → (xs : List ℕ) → list_all p xs ≡ true → list_all q xs ≡ true
all_as p q n [] e = refl
all_as p q n (x ∷ xs) e = let both = and_parts (p x) (list_all p xs) e in and_from (q x) (list_all q xs) (n x both.0) (all_as p q n xs both.1)

-- texts that all have a property have another
pub weakened : (P Q : List ℕ → Type 0) → ((x : List ℕ) → P x → Q x) → (texts : List (List ℕ)) → AllByRecursion P texts → AllByRecursion Q texts
weakened P Q n [] h = tt
weakened P Q n (x ∷ xs) h = (n x h.0, weakened P Q n xs h.1)

pub both_all : {X : Type 0} (P : X → Type 0) (xs ys : List X) → AllByRecursion P xs → AllByRecursion P ys → AllByRecursion P (xs ++ ys)
both_all P [] ys h k = k
both_all P (x ∷ xs) ys h k = (h.0, both_all P xs ys h.1 k)

-- Lines that are joined.

abbrev pub is_no_feed : ℕ → Bool
is_no_feed byte = not (byte == 10)

abbrev pub IsLine : List ℕ → Type 0
IsLine text = list_all is_no_feed text ≡ true

-- a line with bytes
abbrev pub IsFilled : List ℕ → Type 0
IsFilled text = ((length text == 0) ≡ false) × IsLine text

no_feed : (x : ℕ) → not (x == 10) ≡ true → (x == 10) ≡ false
no_feed x e = by (x == 10) refl e
  where
    by : (b : Bool) → (x == 10) ≡ b → not b ≡ true → b ≡ false
    by true t f = absurd cc
    by false t f = refl

feedless : (xs : List ℕ) → IsLine xs → All (λ byte. (byte == 10) ≡ false) xs
feedless xs e k d l = no_feed (get_or xs k d) (AllPass-from_list_all is_no_feed xs e k d l)

split_joined : (x : List ℕ) (xs : List (List ℕ)) → AllByRecursion IsLine (x ∷ xs) → slice_split (λ byte. byte == 10) (join_with_byte 10 (x ∷ xs)) ≡ x ∷ xs
split_joined x [] h = slice_split_none (λ byte. byte == 10) x (feedless x h.0)
split_joined x (y ∷ ys) h =
    slice_split_at (λ byte. byte == 10) x 10 (join_with_byte 10 (y ∷ ys)) (feedless x h.0) refl ∙ ap (λ ls. x ∷ ls) (split_joined y ys h.1)

pub filled : (x : ℕ) (xs : List ℕ) → (length (x ∷ xs) == 0) ≡ false
filled x xs = search (rules, tests)

filled_more : (xs ys : List ℕ) → (length xs == 0) ≡ false → (length (xs ++ ys) == 0) ≡ false
filled_more [] ys e = absurd cc
filled_more (x ∷ xs) ys e = filled x (xs ++ ys)

filled_joined : (x : List ℕ) (xs : List (List ℕ)) → (length x == 0) ≡ false → (length (join_with_byte 10 (x ∷ xs)) == 0) ≡ false
filled_joined x [] e = e
filled_joined x (y ∷ ys) e = filled_more x (10 ∷ join_with_byte 10 (y ∷ ys)) e

-- texts that are joined are read again
pub joined_read : (texts : List (List ℕ)) → AllByRecursion IsFilled texts → texts_in (join_with_byte 10 texts) ≡ texts
unfolding texts_in
joined_read [] h = refl
joined_read (x ∷ xs) h =
    ap (λ (b : Bool). if b then [] else slice_split (λ byte. byte == 10) (join_with_byte 10 (x ∷ xs))) (filled_joined x xs h.0.0)
    ∙ split_joined x xs (lines (x ∷ xs) h)
  where
    lines : (texts : List (List ℕ)) → AllByRecursion IsFilled texts → AllByRecursion IsLine texts
    lines texts h = weakened IsFilled IsLine (λ t f. f.1) texts h

-- Names.

-- a test that a line feed doesn't pass
feed_fails : (test : ℕ → Bool) → test 10 ≡ false → (x : ℕ) → test x ≡ true → is_no_feed x ≡ true
feed_fails test none x e = by (x == 10) refl
  where
    by : (b : Bool) → (x == 10) ≡ b → not b ≡ true
    by true t = let s : x ≡ 10 = grind (arith, nat_tests, t) in let f : test 10 ≡ true = subst (λ y. test y ≡ true) s e in absurd cc
    by false t = refl

not_empty : (n : ℕ) → nat_le 1 n ≡ true → (n == 0) ≡ false
not_empty n e = grind (arith, nat_tests, e)

name_byte_feed : is_name_byte 10 ≡ false
unfolding is_name_byte
name_byte_feed = refl

pub name_filled : (text : List ℕ) → is_name text ≡ true → IsFilled text
unfolding is_name
name_filled text e =
    let all = and_parts (nat_le 1 (length text) && nat_le (length text) 64) (list_all is_name_byte text) e in
    let both = and_parts (nat_le 1 (length text)) (nat_le (length text) 64) all.0 in
    (not_empty (length text) both.0, all_as is_name_byte is_no_feed (feed_fails is_name_byte name_byte_feed) text all.1)

-- Architectures.

lookup_line : (table : List (List ℕ × Arch)) (word : List ℕ) → AllByRecursion (λ (entry : List ℕ × Arch). IsFilled (map to_ascii_lowercase entry.0)) table → is_built (lookup table word) ≡ true
    → IsFilled (map to_ascii_lowercase word)
unfolding lookup same_word
lookup_line [] word all e = absurd cc
lookup_line (entry ∷ table) word all e = by (pointwise nat_eq (map to_ascii_lowercase word) (map to_ascii_lowercase entry.0)) refl (lookup_line table word all.1) e
  where
    by : (b : Bool) → pointwise nat_eq (map to_ascii_lowercase word) (map to_ascii_lowercase entry.0) ≡ b → (is_built (lookup table word) ≡ true → IsFilled (map to_ascii_lowercase word))
        → is_built (if b then Some entry.1 else lookup table word) ≡ true → IsFilled (map to_ascii_lowercase word)
    by true t below f = let same : map to_ascii_lowercase word ≡ map to_ascii_lowercase entry.0 = search (rules, t) in subst IsFilled (sym same) all.0
    by false t below f = below f

lower_feed : (x : ℕ) → is_no_feed (to_ascii_lowercase x) ≡ true → is_no_feed x ≡ true
lower_feed x e = feed_fails (λ y. is_no_feed (to_ascii_lowercase y)) refl x e

lower_line : (xs : List ℕ) → IsFilled (map to_ascii_lowercase xs) → IsFilled xs
lower_line [] e = e
lower_line (x ∷ xs) e = (filled x xs, lines (x ∷ xs) e.1)
  where
    lines : (ys : List ℕ) → IsLine (map to_ascii_lowercase ys) → IsLine ys
    lines [] f = refl
    lines (y ∷ ys) f =
        let both = and_parts (is_no_feed (to_ascii_lowercase y)) (list_all is_no_feed (map to_ascii_lowercase ys)) f in
        and_from (is_no_feed y) (list_all is_no_feed ys) (lower_feed y both.0) (lines ys both.1)

pub arch_filled : (text : List ℕ) → is_arch text ≡ true → IsFilled text
unfolding arch_named
arch_filled text e =
    lower_line text
    (lookup_line architectures text ((refl, refl), ((refl, refl), ((refl, refl), ((refl, refl), ((refl, refl), ((refl, refl), ((refl, refl), ((refl, refl), tt)))))))) e)

-- Macros.

plain_feed : is_plain 10 ≡ false
plain_feed = refl

word_feed : is_word_byte 10 ≡ false
word_feed = refl

dot_feed : (x : ℕ) → (x == 46) ≡ true → is_no_feed x ≡ true
dot_feed x e = let s : x ≡ 46 = grind (arith, nat_tests, e) in subst (λ y. is_no_feed y ≡ true) (sym s) refl

above_zero : (n : ℕ) → nat_lt 0 n ≡ true → (n == 0) ≡ false
above_zero n e = grind (arith, nat_tests, e)

identifier_filled : (text : List ℕ) → is_identifier text ≡ true → IsFilled text
unfolding is_identifier
identifier_filled text e =
    let most = and_parts (nat_lt 0 (length text) && nat_le (length text) 64 && list_all is_word_byte text) (not (begins_with_digit text)) e in
    let words = and_parts (nat_lt 0 (length text) && nat_le (length text) 64) (list_all is_word_byte text) most.0 in
    let sizes = and_parts (nat_lt 0 (length text)) (nat_le (length text) 64) words.0 in
    (above_zero (length text) sizes.0, all_as is_word_byte is_no_feed (feed_fails is_word_byte word_feed) text words.1)

pub both_lines : (xs ys : List ℕ) → IsLine xs → IsLine ys → IsLine (xs ++ ys)
both_lines xs ys a b = list_all-append is_no_feed xs ys ∙ and_from (list_all is_no_feed xs) (list_all is_no_feed ys) a b

-- a line with bytes, and more of the line
pub filled_line : (xs ys : List ℕ) → IsFilled xs → IsLine ys → IsFilled (xs ++ ys)
filled_line xs ys a b = (filled_more xs ys a.0, both_lines xs ys a.1 b)

plain_line : (text : List ℕ) → list_all is_plain text ≡ true → IsLine text
plain_line text e = all_as is_plain is_no_feed (feed_fails is_plain plain_feed) text e

pub define_filled : (text : List ℕ) → is_define text ≡ true → IsFilled text
unfolding is_define
define_filled text e =
    let both = and_parts (is_identifier (take (equals_at text) text)) (list_all is_plain (drop (equals_at text) text)) e in
    subst IsFilled (take-append-drop (equals_at text) text)
    (filled_line (take (equals_at text) text) (drop (equals_at text) text) (identifier_filled (take (equals_at text) text) both.0) (plain_line (drop (equals_at text) text) both.1))

-- Values of PCDs.

-- the three conditions of a setting
pub record HasParts (text : List ℕ) : Type 0 where
  pub equals : nat_lt (equals_at text) (length text) ≡ true
  pub pcd : is_some (pcd_name_of (take (equals_at text) text)) ≡ true
  pub value : list_all is_plain (drop (equals_at text) text) ≡ true

pub setting_parts : (text : List ℕ) → is_setting text ≡ true → HasParts text
unfolding is_setting
setting_parts text e =
    let all = and_parts (nat_lt (equals_at text) (length text) && is_some (pcd_name_of (take (equals_at text) text))) (list_all is_plain (drop (equals_at text) text)) e in
    let both = and_parts (nat_lt (equals_at text) (length text)) (is_some (pcd_name_of (take (equals_at text) text))) all.0 in
    record { equals = both.0; pcd = both.1; value = all.1 }

some_if : (t : Bool) (pcd : PcdName) → is_some (if t then Some pcd else None) ≡ true → t ≡ true
some_if true pcd e = refl
some_if false pcd e = absurd cc

pcd_filled : (text : List ℕ) → is_some (pcd_name_of text) ≡ true → IsFilled text
unfolding pcd_name_of
pcd_filled text e = by (nat_lt n (length text)) refl e
  where
    p : ℕ → Bool
    p byte = byte == 46

    n : ℕ
    n = position_or_len p text

    by : (b : Bool) → nat_lt n (length text) ≡ b → is_some (parted_at text (cond b (Some n) None)) ≡ true → IsFilled text
    by true t f =
        let low : n < length text = grind (arith, nat_tests, t) in
        let both = and_parts (is_identifier (take n text)) (is_identifier (drop (n + 1) text)) (some_if (is_identifier (take n text) && is_identifier (drop (n + 1) text)) (record { space = take n text; name = drop (n + 1) text }) f) in
        let dot : is_no_feed (get_or text n 0) ≡ true = dot_feed (get_or text n 0) (passes_at_first p text 0 low) in
        subst IsFilled (sym (split_at_first p text 0 low))
        (filled_line (take n text) (get_or text n 0 ∷ drop (n + 1) text) (identifier_filled (take n text) both.0)
        (and_from (is_no_feed (get_or text n 0)) (list_all is_no_feed (drop (n + 1) text)) dot (identifier_filled (drop (n + 1) text) both.1).1))
    by false t f = absurd cc

pub setting_filled : (text : List ℕ) → is_setting text ≡ true → IsFilled text
setting_filled text e =
    let h = setting_parts text e in
    subst IsFilled (take-append-drop (equals_at text) text)
    (filled_line (take (equals_at text) text) (drop (equals_at text) text) (pcd_filled (take (equals_at text) text) h.pcd) (plain_line (drop (equals_at text) text) h.value))
