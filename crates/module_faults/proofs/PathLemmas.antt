-- Which texts are paths: bytes of one segment, and a path without the extension of its last segment.
use Rattle.std.specs.Prelude.{not, reverse, map, ◌&&◌, ◌||◌}
use Rattle.std.specs.Char.{to_ascii_uppercase}
use Rattle.std.specs.List.{All, list_all, prefix_len}
use Rattle.std.proofs.Common.{◌≡◌, ◌∙◌, ℕ, zero, suc, ◌+◌, ◌-◌, ◌<◌, ◌≤◌, ◌==◌, nat_lt, nat_le, IsTrue, Bool, true, false, cond, if◌then◌else◌, List, [], ◌∷◌, ◌++◌, length, take, drop, get_or, Some, None, refl, sym, ap, subst, arith, append_assoc, length-take, take-append-drop, take-add, get_or-drop, length-drop}
use Rattle.std.specs.Option.{is_some}
use Rattle.std.proofs.Math.Bool.{and-true}
use Rattle.std.proofs.lemmas.Bool.{and_from, and_parts}
use Rattle.std.proofs.lemmas.Bool.Decides.{nat_tests}
use Rattle.std.proofs.lemmas.List.{take_more, get_or-reverse, length-reverse}
use Rattle.std.proofs.lemmas.List.Folds.{list_all-append}
use Rattle.std.proofs.lemmas.List.Splits.{slice_split_none}
use Rattle.std.proofs.lemmas.List.Sums.{AllPass-from_list_all, prefix_len_passes, prefix_len_stops, suffix_len-le-length}
use Rattle.build_base.specs.Path.{IsPath, IsPathField, is_path, is_segment, is_dots, is_path_byte, path_field, is_between}
use Rattle.build_base.proofs.PathLemmas.{IsPath-join, is_path_front, slice_split-join}
use Rattle.job_fields.specs.Values.{is_name_byte}
use Rattle.meta_lexer.specs.Tokens.{is_word_byte}
use Rattle.step_answers.specs.Stems.{size_to, last_name, before_dot, stem_of}

-- Bytes.

all_of_front : (p : ℕ → Bool) (n : ℕ) (xs : List ℕ) → list_all p xs ≡ true → list_all p (take n xs) ≡ true
all_of_front p zero xs e = refl
all_of_front p (suc n) [] e = refl
all_of_front p (suc n) (x ∷ xs) e = let both = and_parts (p x) (list_all p xs) e in and_from (p x) (list_all p (take n xs)) both.0 (all_of_front p n xs both.1)

slash_is_none : is_path_byte 47 ≡ true → ⊥
unfolding is_path_byte
slash_is_none e = absurd cc

no_slash : (x : ℕ) → is_path_byte x ≡ true → (x == 47) ≡ false
no_slash x e = by (x == 47) refl
  where
    by : (b : Bool) → (x == 47) ≡ b → b ≡ false
    by true t = let s : x ≡ 47 = grind (arith, nat_tests, t) in absurd (slash_is_none (subst (λ y. is_path_byte y ≡ true) s e))
    by false t = refl

-- Segments.

-- a text without a slash is one segment
one_segment : (xs : List ℕ) → All (λ x. (x == 47) ≡ false) xs → is_path xs ≡ is_segment xs
unfolding is_path
one_segment xs all = ap (list_all is_segment) (slice_split_none (λ byte. byte == 47) xs all) ∙ and-true (is_segment xs)

segment_path : (xs : List ℕ) → is_segment xs ≡ true → IsPath xs
unfolding is_segment
segment_path xs e =
    let bytes : list_all is_path_byte xs ≡ true = (and_parts (list_all is_path_byte xs) (not (is_dots xs)) e).0 in
    one_segment xs (λ k d l. no_slash (get_or xs k d) (AllPass-from_list_all is_path_byte xs bytes k d l)) ∙ e

undotted : (xs : List ℕ) → nat_le (length xs) 2 ≡ false → not (is_dots xs) ≡ true
unfolding is_dots
undotted xs e = ap (λ b. not (b && list_all (λ byte. byte == 46) xs)) e

-- three bytes or more of those that a path may have
pub long_path : (xs : List ℕ) → list_all is_path_byte xs ≡ true → 2 < length xs → IsPath xs
unfolding is_segment
long_path xs e l =
    let long : nat_le (length xs) 2 ≡ false = grind (arith, nat_tests) in
    segment_path xs (and_from (list_all is_path_byte xs) (not (is_dots xs)) e (undotted xs long))

not_dots : (t : Bool) (xs : List ℕ) → list_all (λ byte. byte == 46) xs ≡ false → not (t && list_all (λ byte. byte == 46) xs) ≡ true
not_dots true xs e = ap not e
not_dots false xs e = refl

-- the front of a segment that isn't dots alone
front_segment : (n : ℕ) (xs : List ℕ) → is_segment xs ≡ true → list_all (λ byte. byte == 46) (take n xs) ≡ false → is_segment (take n xs) ≡ true
unfolding is_segment is_dots
front_segment n xs e d =
    and_from (list_all is_path_byte (take n xs)) _ (all_of_front is_path_byte n xs (and_parts (list_all is_path_byte xs) _ e).0) (not_dots (nat_le (length (take n xs)) 2) (take n xs) d)

-- The last segment of a path.

not_47 : (x : ℕ) → not (x == 47) ≡ true → (x == 47) ≡ false
not_47 x e = by (x == 47) refl e
  where
    by : (b : Bool) → (x == 47) ≡ b → not b ≡ true → b ≡ false
    by true t f = absurd cc
    by false t f = refl

is_47 : (x : ℕ) → not (x == 47) ≡ false → x ≡ 47
is_47 x e = by (x == 47) refl e
  where
    by : (b : Bool) → (x == 47) ≡ b → not b ≡ false → x ≡ 47
    by true t f = grind (arith, nat_tests, t)
    by false t f = absurd cc

last_bare : (path : List ℕ) → All (λ x. (x == 47) ≡ false) (drop (size_to 47 path) path)
last_bare path k d l =
    let p : ℕ → Bool = λ b. not (b == 47) in
    let n : ℕ = prefix_len p (reverse path) in
    let most = suffix_len-le-length p path in
    let long = length-reverse path in
    let rest = length-drop (size_to 47 path) path in
    let j : ℕ = length path - 1 - (size_to 47 path + k) in
    let low : j < n = omega arith in
    let at : length path - 1 - j ≡ size_to 47 path + k = omega arith in
    let here : get_or (reverse path) j d ≡ get_or path (size_to 47 path + k) d = get_or-reverse path j d (omega arith) ∙ ap (λ i. get_or path i d) at in
    not_47 (get_or (drop (size_to 47 path) path) k d)
    (ap p (get_or-drop (size_to 47 path) path k d ∙ sym here) ∙ prefix_len_passes p (reverse path) j d low)

slash_before : (path : List ℕ) → 0 < size_to 47 path → get_or path (size_to 47 path - 1) 0 ≡ 47
slash_before path h =
    let p : ℕ → Bool = λ b. not (b == 47) in
    let n : ℕ = prefix_len p (reverse path) in
    let long = length-reverse path in
    let low : n < length (reverse path) = omega arith in
    let at : length path - 1 - n ≡ size_to 47 path - 1 = omega arith in
    is_47 (get_or path (size_to 47 path - 1) 0)
    (ap p (sym (get_or-reverse path n 0 (omega arith) ∙ ap (λ i. get_or path i 0) at)) ∙ prefix_len_stops p (reverse path) 0 low)

right_true : (a b : Bool) → IsTrue (a && b) → IsTrue b
right_true true b h = h
right_true false b h = absurd cc

behind_slash : (xs ys : List ℕ) → IsPath (xs ++ 47 ∷ ys) → IsPath ys
unfolding is_path
behind_slash xs ys h =
    right_true (is_path xs) (is_path ys) (rw (slice_split-join, list_all-append) at h)

-- what stands before the last slash, with it
front_of : (path : List ℕ) → 0 < size_to 47 path → take (size_to 47 path) path ≡ take (size_to 47 path - 1) path ++ 47 ∷ []
front_of path h =
    let s : ℕ = size_to 47 path in
    let most = suffix_len-le-length (λ b. not (b == 47)) path in
    let on : s - 1 + 1 ≡ s = omega arith in
    ap (λ i. take i path) (sym on) ∙ take_more path (s - 1) 0 (omega arith) ∙ ap (λ b. take (s - 1) path ++ b ∷ []) (slash_before path h)

-- with more behind it
behind_front : (path more : List ℕ) → 0 < size_to 47 path → take (size_to 47 path) path ++ more ≡ take (size_to 47 path - 1) path ++ 47 ∷ more
behind_front path more h = ap (λ xs. xs ++ more) (front_of path h) ∙ append_assoc (take (size_to 47 path - 1) path) (47 ∷ []) more

front_path : (path : List ℕ) → IsPath path → 0 < size_to 47 path → IsPath (take (size_to 47 path - 1) path)
front_path path h some =
    let most = suffix_len-le-length (λ b. not (b == 47)) path in
    is_path_front path (size_to 47 path - 1) (omega arith) (slash_before path some) h

last_path : (path : List ℕ) (n : ℕ) → size_to 47 path ≡ n → IsPath path → IsPath (drop (size_to 47 path) path)
last_path path zero e h = subst IsPath (ap (λ i. drop i path) (sym e)) h
last_path path (suc n) e h =
    let some : 0 < size_to 47 path = omega arith in
    let split : path ≡ take (size_to 47 path - 1) path ++ 47 ∷ drop (size_to 47 path) path =
    sym (take-append-drop (size_to 47 path) path) ∙ behind_front path (drop (size_to 47 path) path) some in
    behind_slash (take (size_to 47 path - 1) path) (drop (size_to 47 path) path) (subst IsPath split h)

last_segment : (path : List ℕ) → IsPath path → is_segment (last_name path) ≡ true
last_segment path h = sym (one_segment (last_name path) (last_bare path)) ∙ last_path path (size_to 47 path) refl h

-- Stems.

-- the path up to a place of its last segment
cut_path : (path : List ℕ) (k n : ℕ) → size_to 47 path ≡ n → IsPath path → IsPath (take k (last_name path)) → IsPath (take (size_to 47 path + k) path)
cut_path path k zero e h last =
    let same : take (size_to 47 path + k) path ≡ take k (last_name path) =
    take-add (size_to 47 path) k path ∙ ap (λ i. take i path ++ take k (last_name path)) e in
    subst IsPath (sym same) last
cut_path path k (suc n) e h last =
    let some : 0 < size_to 47 path = omega arith in
    let same : take (size_to 47 path + k) path ≡ take (size_to 47 path - 1) path ++ 47 ∷ take k (last_name path) =
    take-add (size_to 47 path) k path ∙ behind_front path (take k (last_name path)) some in
    subst IsPath (sym same) (IsPath-join (take (size_to 47 path - 1) path) (take k (last_name path)) (front_path path h some) last)

stem_path : (path : List ℕ) → IsPath path → IsPath (stem_of path)
unfolding stem_of
stem_path path h = by (list_all (λ b. b == 46) (before_dot (last_name path))) refl
  where
    k : ℕ
    k = size_to 46 (last_name path) - 1

    by : (t : Bool) → list_all (λ b. b == 46) (take k (last_name path)) ≡ t → IsPath (if t then path else take (size_to 47 path + k) path)
    by true t = h
    by false t = cut_path path k (size_to 47 path) refl h (segment_path (take k (last_name path)) (front_segment k (last_name path) (last_segment path h) t))

stem_short : (path : List ℕ) → length (stem_of path) ≤ length path
unfolding stem_of
stem_short path = by (list_all (λ b. b == 46) (before_dot (last_name path)))
  where
    k : ℕ
    k = size_to 46 (last_name path) - 1

    by : (t : Bool) → length (if t then path else take (size_to 47 path + k) path) ≤ length path
    by true = omega arith
    by false = omega (arith, length-take (size_to 47 path + k) path)

-- a path without the extension of its last segment is one
pub stem_field : (path : List ℕ) → IsPathField path → IsPathField (stem_of path)
stem_field path h =
    let short = h.short in
    record { segments = stem_path path h.segments; short = omega (arith, stem_short path) }

-- Names.

-- the bytes of identifiers
pub word_byte : (x : ℕ) → is_word_byte x ≡ true → is_path_byte x ≡ true
unfolding is_path_byte
word_byte x e = by (is_between 97 122 x) (is_between 65 90 x) (is_between 48 57 x) (x == 95) e
  where
    by : (l u n w : Bool) → ((u || l) || n || w) ≡ true → (l || u || n || w || x == 45 || x == 43 || x == 46) ≡ true
    by true u n w e = refl
    by false true n w e = refl
    by false false true w e = refl
    by false false false true e = refl
    by false false false false e = absurd cc

-- those of names
pub name_byte : (x : ℕ) → is_name_byte x ≡ true → is_path_byte x ≡ true
unfolding is_path_byte is_name_byte
name_byte x e = by (is_between 97 122 x) (is_between 65 90 x) (is_between 48 57 x) (x == 95) (x == 45) e
  where
    by : (l u n w d : Bool) → (l || u || n || w || d) ≡ true → (l || u || n || w || d || x == 43 || x == 46) ≡ true
    by true u n w d e = refl
    by false true n w d e = refl
    by false false true w d e = refl
    by false false false true d e = refl
    by false false false false true e = refl
    by false false false false false e = absurd cc

upper_letter : (x : ℕ) → nat_lt x 97 ≡ false → nat_lt x 123 ≡ true → is_path_byte (x - 32) ≡ true
unfolding is_path_byte
upper_letter x l m =
    by (is_between 97 122 (x - 32)) (is_between 65 90 (x - 32)) (and_from (nat_le 65 (x - 32)) (nat_le (x - 32) 90) (grind (arith, nat_tests, l, m)) (grind (arith, nat_tests, l, m)))
  where
    by : (l u : Bool) → u ≡ true → (l || u || is_between 48 57 (x - 32) || x - 32 == 95 || x - 32 == 45 || x - 32 == 43 || x - 32 == 46) ≡ true
    by true u e = refl
    by false true e = refl
    by false false e = absurd cc

-- a byte in upper case
upper_byte : (x : ℕ) → is_path_byte x ≡ true → is_path_byte (to_ascii_uppercase x) ≡ true
upper_byte x e = by (nat_lt x 97) refl
  where
    low : (b : Bool) → nat_lt x 97 ≡ false → nat_lt x 123 ≡ b → is_path_byte (cond b (x - 32) x) ≡ true
    low true f t = upper_letter x f t
    low false f t = e

    by : (b : Bool) → nat_lt x 97 ≡ b → is_path_byte (cond b x (cond (nat_lt x 123) (x - 32) x)) ≡ true
    by true t = e
    by false t = low (nat_lt x 123) t refl

pub upper_bytes : (xs : List ℕ) → list_all is_path_byte xs ≡ true → list_all is_path_byte (map to_ascii_uppercase xs) ≡ true
upper_bytes [] e = refl
upper_bytes (x ∷ xs) e =
    let both = and_parts (is_path_byte x) (list_all is_path_byte xs) e in
    and_from (is_path_byte (to_ascii_uppercase x)) (list_all is_path_byte (map to_ascii_uppercase xs)) (upper_byte x both.0) (upper_bytes xs both.1)

pub both_bytes : (xs ys : List ℕ) → list_all is_path_byte xs ≡ true → list_all is_path_byte ys ≡ true → list_all is_path_byte (xs ++ ys) ≡ true
both_bytes xs ys a b = list_all-append is_path_byte xs ys ∙ and_from (list_all is_path_byte xs) (list_all is_path_byte ys) a b

-- what a field's path has
pub field_there : (xs : List ℕ) → IsPathField xs → is_some (path_field xs) ≡ true
field_there xs h =
    let short = h.short in
    let both : (is_path xs && nat_le (length xs) 512) ≡ true = and_from (is_path xs) (nat_le (length xs) 512) h.segments (grind (arith, nat_tests, short)) in
    ap (λ b. is_some (if b then Some xs else None)) both

-- and the path that it gives
pub field_given : (xs path : List ℕ) → path_field xs ≡ Some path → IsPathField path
field_given xs path e = by (is_path xs && nat_le (length xs) 512) refl e
  where
    by : (b : Bool) → (is_path xs && nat_le (length xs) 512) ≡ b → (if b then Some xs else None) ≡ Some path → IsPathField path
    by true t f =
        let same : xs ≡ path = cc in
        let both = and_parts (is_path xs) (nat_le (length xs) 512) t in
        let low = both.1 in
        subst IsPathField same (record { segments = both.0; short = grind (arith, nat_tests, low) })
    by false t f = absurd cc
