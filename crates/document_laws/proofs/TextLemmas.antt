-- Parts of texts are found again.
use Rattle.std.proofs.Common.{◌≡◌, ℕ, suc, ◌+◌, ◌-◌, ◌==◌, nat_lt, ◌<◌, ◌&&◌, cond, Bool, true, false, not, if◌then◌else◌, List, [], ◌∷◌, ◌++◌, length, take, drop, get_or, slice_index, reverse, Option, Some, None, append_assoc, append-nil, length-append, take_at, drop_at, get_or-append-add, refl, sym, ap, ap₂, ◌∙◌, lt-ltb, arith}
use Rattle.std.specs.List.{list_all, prefix_len, suffix_len, position_or_len}
use Rattle.std.proofs.lemmas.Bool.{and_parts, and_from}
use Rattle.std.proofs.lemmas.Bool.Decides.{nat_tests}
use mathlib.Core.List.{reverse_aux, reverse_aux-append}
use Rattle.meta_lexer.specs.Lines.{is_blank, without_blanks}
use Rattle.meta_lexer.specs.Tokens.{is_word_byte}
use Rattle.meta_lexer.specs.Words.{split_once}
use Rattle.fdf_words.specs.Keys.{is_key, key_and_value, key_pair}
use Rattle.fdf_words.specs.Words.{ends_word, word_of, after_word, after_equals, before_brace, last_byte}
use Rattle.document_laws.proofs.ListLemmas.{prefix_passed, all_weaker, all_both}
use Rattle.document_laws.specs.LineTexts.{AreBlanks, IsTrim, IsSplit, IsPair, EndsWord, IsWorded, IsStated, IsBraced}

drop_blank : (bs xs : List ℕ) → AreBlanks bs → drop (prefix_len is_blank (bs ++ xs)) (bs ++ xs) ≡ drop (prefix_len is_blank xs) xs
drop_blank [] xs e = refl
drop_blank (b ∷ bs) xs e =
    let parts = and_parts (is_blank b) (list_all is_blank bs) e in
    let one : 1 + prefix_len is_blank (bs ++ xs) ≡ suc (prefix_len is_blank (bs ++ xs)) = omega arith in
    ap (λ t. drop (cond t (1 + prefix_len is_blank (bs ++ xs)) 0) (b ∷ (bs ++ xs))) parts.0
    ∙ ap (λ n. drop n (b ∷ (bs ++ xs))) one ∙ drop_blank bs xs parts.1

-- blanks at the front
pub blank_front : (bs xs : List ℕ) → AreBlanks bs → without_blanks (bs ++ xs) ≡ without_blanks xs
blank_front bs xs e = ap (λ ys. take (length ys - suffix_len is_blank ys) ys) (drop_blank bs xs e)

suffix_passed : (bs zs : List ℕ) → AreBlanks bs → prefix_len is_blank (reverse_aux bs zs) ≡ length bs + prefix_len is_blank zs
suffix_passed [] zs e = omega arith
suffix_passed (b ∷ bs) zs e =
    let parts = and_parts (is_blank b) (list_all is_blank bs) e in
    let here : prefix_len is_blank (b ∷ zs) ≡ 1 + prefix_len is_blank zs = ap (λ t. cond t (1 + prefix_len is_blank zs) 0) parts.0 in
    let rest = suffix_passed bs (b ∷ zs) parts.1 in
    omega (arith, here, rest)

end_long : (xs bs : List ℕ) → AreBlanks bs → suffix_len is_blank (xs ++ bs) ≡ length bs + suffix_len is_blank xs
end_long xs bs e = ap (prefix_len is_blank) (reverse_aux-append xs bs []) ∙ suffix_passed bs (reverse xs) e

no_blank : (t : Bool) (n : ℕ) → cond t (1 + n) 0 ≡ 0 → t ≡ false
no_blank true n h = absurd (omega (arith, h))
no_blank false n h = refl

-- blanks at the end
pub trim_end : (xs bs : List ℕ) → IsTrim xs → AreBlanks bs → without_blanks (xs ++ bs) ≡ xs
trim_end [] bs t e = ap without_blanks (sym (append-nil bs)) ∙ blank_front bs [] e
trim_end (x ∷ xs) bs t e =
    let first = no_blank (is_blank x) (prefix_len is_blank xs) t.front in
    let whole = x ∷ (xs ++ bs) in
    let long : length (x ∷ (xs ++ bs)) - suffix_len is_blank (x ∷ (xs ++ bs)) ≡ length (x ∷ xs) = omega (arith, end_long (x ∷ xs) bs e, t.back, length-append (x ∷ xs) bs) in
    ap (λ c. take (length (drop (cond c (1 + prefix_len is_blank (xs ++ bs)) 0) whole) - suffix_len is_blank (drop (cond c (1 + prefix_len is_blank (xs ++ bs)) 0) whole)) (drop (cond c (1 + prefix_len is_blank (xs ++ bs)) 0) whole)) first
    ∙ ap (λ n. take n whole) long ∙ take_at (x ∷ xs) bs (length (x ∷ xs)) refl

pub trim_stays : (xs : List ℕ) → IsTrim xs → without_blanks xs ≡ xs
trim_stays xs t = ap without_blanks (sym (append-nil xs)) ∙ trim_end xs [] t refl

pub trim_front : (bs xs : List ℕ) → AreBlanks bs → IsTrim xs → without_blanks (bs ++ xs) ≡ xs
trim_front bs xs e t = blank_front bs xs e ∙ trim_stays xs t

-- bytes of words
word_not_blank : (b : ℕ) → is_word_byte b ≡ true → is_blank b ≡ false
word_not_blank b e = grind (arith, nat_tests)

word_not_equals : (b : ℕ) → is_word_byte b ≡ true → not (b == 61) ≡ true
word_not_equals b e = grind (arith, nat_tests)

blank_not_equals : (b : ℕ) → is_blank b ≡ true → not (b == 61) ≡ true
blank_not_equals b e = grind (arith, nat_tests)

words_begin : (xs : List ℕ) → list_all is_word_byte xs ≡ true → prefix_len is_blank xs ≡ 0
words_begin [] e = refl
words_begin (x ∷ xs) e = ap (λ t. cond t (1 + prefix_len is_blank xs) 0) (word_not_blank x (and_parts (is_word_byte x) (list_all is_word_byte xs) e).0)

all_turned : (p : ℕ → Bool) (xs zs : List ℕ) → list_all p xs ≡ true → list_all p zs ≡ true → list_all p (reverse_aux xs zs) ≡ true
all_turned p [] zs e f = f
all_turned p (x ∷ xs) zs e f = let parts = and_parts (p x) (list_all p xs) e in all_turned p xs (x ∷ zs) parts.1 (and_from (p x) (list_all p zs) parts.0 f)

pub word_trim : (xs : List ℕ) → list_all is_word_byte xs ≡ true → IsTrim xs
word_trim xs e = record { front = words_begin xs e; back = words_begin (reverse xs) (all_turned is_word_byte xs [] e refl) }

-- the place of the first `=`
equals_at : (zs rest : List ℕ) → list_all (λ b. not (b == 61)) zs ≡ true → position_or_len (λ b. b == 61) (zs ++ (61 ∷ rest)) ≡ length zs
equals_at zs rest e = prefix_passed (λ b. not (b == 61)) zs (61 ∷ rest) e ∙ omega arith

below : (zs rest : List ℕ) (b : ℕ) → nat_lt (length zs) (length (zs ++ (b ∷ rest))) ≡ true
below zs rest b = let l : length zs < length (zs ++ (b ∷ rest)) = omega (arith, length-append zs (b ∷ rest)) in lt-ltb (length zs) (length (zs ++ (b ∷ rest))) l

dropped : (zs rest : List ℕ) (b : ℕ) → drop (length zs + 1) (zs ++ (b ∷ rest)) ≡ rest
dropped zs rest b = ap (drop (length zs + 1)) (sym (append_assoc zs (b ∷ []) rest)) ∙ drop_at (zs ++ (b ∷ [])) rest (length zs + 1) (length-append zs (b ∷ []))

pair_at : ℕ → List ℕ → Option (List ℕ × List ℕ)
pair_at i text = if nat_lt i (length text) then key_and_value (without_blanks (take i text)) (drop (i + 1) text) else None

pair_split : (zs rest : List ℕ) → list_all (λ b. not (b == 61)) zs ≡ true → key_pair (zs ++ (61 ∷ rest)) ≡ key_and_value (without_blanks zs) rest
unfolding key_pair pair_at
pair_split zs rest e =
    ap (λ i. pair_at i (zs ++ (61 ∷ rest))) (equals_at zs rest e)
    ∙ ap (λ t. if t then key_and_value (without_blanks (take (length zs) (zs ++ (61 ∷ rest)))) (drop (length zs + 1) (zs ++ (61 ∷ rest))) else None) (below zs rest 61)
    ∙ ap₂ (λ a b. key_and_value (without_blanks a) b) (take_at zs (61 ∷ rest) (length zs) refl) (dropped zs rest 61)

key_bytes : (key : List ℕ) → is_key key ≡ true → list_all is_word_byte key ≡ true
unfolding is_key
key_bytes key e = (and_parts (nat_lt 0 (length key)) (list_all is_word_byte key) e).1

pub pair_found : (text key value : List ℕ) → IsPair text key value → key_pair text ≡ Some (key, value)
pair_found text key value h =
    let bytes = key_bytes key h.key_is in
    let front = all_both (λ b. not (b == 61)) key h.before (all_weaker is_word_byte (λ b. not (b == 61)) word_not_equals key bytes) (all_weaker is_blank (λ b. not (b == 61)) blank_not_equals h.before h.blank_before) in
    ap key_pair (h.spelled ∙ sym (append_assoc key h.before (61 ∷ (h.behind ++ value))))
    ∙ pair_split (key ++ h.before) (h.behind ++ value) front
    ∙ ap (λ k. key_and_value k (h.behind ++ value)) (trim_end key h.before (word_trim key bytes) h.blank_before)
    ∙ ap₂ (λ s t. if s && not t then Some (key, without_blanks (h.behind ++ value)) else None) h.key_is h.single
    ∙ ap (λ v. Some (key, v)) (trim_front h.behind value h.blank_behind h.trim_value)

-- a text without `=`
pub no_pair : (text : List ℕ) → list_all (λ b. not (b == 61)) text ≡ true → key_pair text ≡ None
unfolding key_pair pair_at
no_pair text e =
    let long : position_or_len (λ b. b == 61) text ≡ length text = ap (position_or_len (λ b. b == 61)) (sym (append-nil text)) ∙ prefix_passed (λ b. not (b == 61)) text [] e ∙ omega arith in
    let past : nat_lt (length text) (length text) ≡ false = grind (arith, nat_tests) in
    ap (λ i. pair_at i text) long ∙ ap (λ t. if t then key_and_value (without_blanks (take (length text) text)) (drop (length text + 1) text) else None) past

halves_at : ℕ → List ℕ → Option (List ℕ × List ℕ)
halves_at i text = if nat_lt i (length text) then Some (without_blanks (take i text), without_blanks (drop (i + 1) text)) else None

halves_split : (zs rest : List ℕ) → list_all (λ b. not (b == 61)) zs ≡ true → split_once 61 (zs ++ (61 ∷ rest)) ≡ Some (without_blanks zs, without_blanks rest)
unfolding split_once halves_at
halves_split zs rest e =
    ap (λ i. halves_at i (zs ++ (61 ∷ rest))) (equals_at zs rest e)
    ∙ ap (λ t. if t then Some (without_blanks (take (length zs) (zs ++ (61 ∷ rest))), without_blanks (drop (length zs + 1) (zs ++ (61 ∷ rest)))) else None) (below zs rest 61)
    ∙ ap₂ (λ a b. Some (without_blanks a, without_blanks b)) (take_at zs (61 ∷ rest) (length zs) refl) (dropped zs rest 61)

pub split_found : (text name value : List ℕ) → IsSplit text name value → split_once 61 text ≡ Some (name, value)
split_found text name value h =
    let front = all_both (λ b. not (b == 61)) name h.before h.unequal (all_weaker is_blank (λ b. not (b == 61)) blank_not_equals h.before h.blank_before) in
    ap (split_once 61) (h.spelled ∙ sym (append_assoc name h.before (61 ∷ (h.behind ++ value))))
    ∙ halves_split (name ++ h.before) (h.behind ++ value) front
    ∙ ap₂ (λ a b. Some (a, b)) (trim_end name h.before h.trim_name h.blank_before) (trim_front h.behind value h.blank_behind h.trim_value)

-- the first word
stops : (tail : List ℕ) → EndsWord tail → prefix_len (λ b. not (ends_word b)) tail ≡ 0
stops [] e = refl
stops (b ∷ bs) e = ap (λ t. cond (not t) (1 + prefix_len (λ b. not (ends_word b)) bs) 0) e

word_long : (word tail : List ℕ) → list_all (λ b. not (ends_word b)) word ≡ true → EndsWord tail → position_or_len ends_word (word ++ tail) ≡ length word
word_long word tail e f = prefix_passed (λ b. not (ends_word b)) word tail e ∙ omega (arith, stops tail f)

pub word_found : (text word rest : List ℕ) → IsWorded text word rest → word_of text ≡ word
unfolding word_of
word_found text word rest h =
    ap (λ t. take (position_or_len ends_word t) t) h.spelled
    ∙ ap (λ n. take n (word ++ (h.between ++ rest))) (word_long word (h.between ++ rest) h.one_word h.ended)
    ∙ take_at word (h.between ++ rest) (length word) refl

pub rest_found : (text word rest : List ℕ) → IsWorded text word rest → after_word text ≡ rest
unfolding after_word
rest_found text word rest h =
    ap (λ t. without_blanks (drop (position_or_len ends_word t) t)) h.spelled
    ∙ ap (λ n. without_blanks (drop n (word ++ (h.between ++ rest)))) (word_long word (h.between ++ rest) h.one_word h.ended)
    ∙ ap without_blanks (drop_at word (h.between ++ rest) (length word) refl)
    ∙ trim_front h.between rest h.blank h.trim

pub stated_found : (text value : List ℕ) → IsStated text value → after_equals text ≡ Some value
unfolding after_equals
stated_found text value h =
    ap (λ t. if nat_lt 0 (length t) && (slice_index t 0 == 61) then Some (without_blanks (drop 1 t)) else None) h.spelled
    ∙ ap (λ s. if s && true then Some (without_blanks (h.between ++ value)) else None) (lt-ltb 0 (suc (length (h.between ++ value))) (omega arith))
    ∙ ap (λ v. Some v) (trim_front h.between value h.blank h.trim)

-- a brace at the end
brace_last : (zs : List ℕ) → last_byte (zs ++ (123 ∷ [])) ≡ 123
brace_last zs =
    let n : length (zs ++ (123 ∷ [])) - 1 ≡ length zs + 0 = omega (arith, length-append zs (123 ∷ [])) in
    ap (λ i. get_or (zs ++ (123 ∷ [])) i 0) n ∙ get_or-append-add zs (123 ∷ []) 0 0

brace_some : (zs : List ℕ) → nat_lt 0 (length (zs ++ (123 ∷ []))) ≡ true
brace_some zs = let l : 0 < length (zs ++ (123 ∷ [])) = omega (arith, length-append zs (123 ∷ [])) in lt-ltb 0 (length (zs ++ (123 ∷ []))) l

brace_cut : (zs : List ℕ) → before_brace (zs ++ (123 ∷ [])) ≡ Some (without_blanks zs)
unfolding before_brace
brace_cut zs =
    let n : length (zs ++ (123 ∷ [])) - 1 ≡ length zs = omega (arith, length-append zs (123 ∷ [])) in
    ap₂ (λ s b. if s && (b == 123) then Some (without_blanks (take (length (zs ++ (123 ∷ [])) - 1) (zs ++ (123 ∷ [])))) else None) (brace_some zs) (brace_last zs)
    ∙ ap (λ i. Some (without_blanks (take i (zs ++ (123 ∷ []))))) n
    ∙ ap (λ f. Some (without_blanks f)) (take_at zs (123 ∷ []) (length zs) refl)

pub brace_found : (text front : List ℕ) → IsBraced text front → before_brace text ≡ Some front
brace_found text front h =
    ap before_brace (h.spelled ∙ sym (append_assoc front h.between (123 ∷ [])))
    ∙ brace_cut (front ++ h.between) ∙ ap (λ f. Some f) (trim_end front h.between h.trim h.blank)
