-- Uses of macros in a text.
use Rattle.std.proofs.Common.{◌≡◌, ◌<◌, ◌≤◌, ℕ, zero, suc, ◌+◌, ◌==◌, ◌&&◌, not, nat_lt, nat_le, Bool, true, false, true≢false, if◌then◌else◌, List, [], ◌∷◌, ◌++◌, length, length-append, length-take-le, take, drop, get_or, slice_index, take-append-drop, take_at, drop_at, get_or-append-add, append_assoc, Option, Some, None, unwrap_or, refl, sym, ap, ap₂, ◌∙◌, lt-ltb, ltb-true, eqb-true, arith}
use Rattle.std.specs.List.{list_all}
use Rattle.std.proofs.lemmas.Bool.{and_parts}
use Rattle.std.proofs.lemmas.List.{drop_more}
use Rattle.build_base.specs.declared.lines.Macro.{Macro}
use Rattle.meta_lexer.specs.Tokens.{is_word_byte, word_size}
use Rattle.meta_lexer.specs.Words.{is_identifier, begins_with_digit}
use Rattle.macro_expressions.specs.declared.macros.Undefined.{Undefined}
use Rattle.macro_expressions.specs.declared.macros.Undefined.TheVariants.{Kept, Zero}
use Rattle.macro_expressions.specs.Macros.{use_at, value_of, undefined, used, meaning, replaced_after, replaced}
use Rattle.macro_expressions.proofs.MacroFronts.{front_by, front_use}
use Rattle.document_laws.specs.MacroUses.{Part, byte, named, before_rest, spelled, unknown, meant, AreParts, IsReplaced}
use Rattle.document_laws.proofs.ListLemmas.{prefix_passed}

name_bytes : (name : List ℕ) → is_identifier name ≡ true → list_all is_word_byte name ≡ true
unfolding is_identifier
name_bytes name e =
    let some = nat_lt 0 (length name) in
    let few = nat_le (length name) 64 in
    let words = list_all is_word_byte name in
    let front = (and_parts (some && few && words) (not (begins_with_digit name)) e).0 in
    (and_parts (some && few) words front).1

name_long : (name rest : List ℕ) → is_identifier name ≡ true → word_size (name ++ (41 ∷ rest)) ≡ length name
name_long name rest e = prefix_passed is_word_byte name (41 ∷ rest) (name_bytes name e) ∙ omega arith

use_of : ℕ → List ℕ → Option ℕ
use_of n xs = if (slice_index xs 0 == 36) && (slice_index xs 1 == 40) && nat_lt (n + 2) (length xs) && (slice_index xs (n + 2) == 41) && is_identifier (take n (drop 2 xs)) then Some n else None

-- a use is found
pub use_found : (name rest : List ℕ) → is_identifier name ≡ true → use_at (before_rest name rest) ≡ Some (length name)
unfolding use_at use_of
use_found name rest e =
    let ys = name ++ (41 ∷ rest) in
    let xs = before_rest name rest in
    let n = length name in
    let two : n + 2 ≡ suc (suc (n + 0)) = omega arith in
    let inside : nat_lt (n + 2) (length xs) ≡ true = (let l : n + 2 < suc (suc (length ys)) = omega (arith, length-append name (41 ∷ rest)) in lt-ltb (n + 2) (length xs) l) in
    let last : (slice_index xs (n + 2) == 41) ≡ true = ap (λ i. slice_index xs i == 41) two ∙ ap (λ b. b == 41) (get_or-append-add name (41 ∷ rest) 0 0) in
    ap (λ k. use_of k xs) (name_long name rest e)
    ∙ ap (λ t. if true && true && t && (slice_index xs (n + 2) == 41) && is_identifier (take n ys) then Some n else None) inside
    ∙ ap (λ t. if true && true && true && t && is_identifier (take n ys) then Some n else None) last
    ∙ ap (λ w. if is_identifier w then Some n else None) (take_at name (41 ∷ rest) n refl)
    ∙ ap (λ t. if t then Some n else None) e

some_number : (t : Bool) (m n : ℕ) → (if t then Some m else None) ≡ Some n → (t ≡ true) × (m ≡ n)
some_number true m n e = (refl, same e)
  where
    same : Some m ≡ Some n → m ≡ n
    same f = cc
some_number false m n e = absurd cc

-- what is found is a use
pub record IsUse (xs : List ℕ) (n : ℕ) : Type 0 where
  pub name : List ℕ
  pub rest : List ℕ
  pub spelled_as : xs ≡ before_rest name rest
  pub identifier : is_identifier name ≡ true
  pub long : length name ≡ n

use_parts : (x y : ℕ) (ys : List ℕ) (n : ℕ) → use_of (word_size ys) (x ∷ y ∷ ys) ≡ Some n → IsUse (x ∷ y ∷ ys) n
unfolding use_of
use_parts x y ys n e =
    let m = word_size ys in
    let xs = x ∷ y ∷ ys in
    let a = (x == 36) in
    let b = (y == 40) in
    let c = nat_lt (m + 2) (length xs) in
    let d = (slice_index xs (m + 2) == 41) in
    let i = is_identifier (take m ys) in
    let s = some_number (a && b && c && d && i) m n e in
    let pi = and_parts (a && b && c && d) i s.0 in
    let pd = and_parts (a && b && c) d pi.0 in
    let pc = and_parts (a && b) c pd.0 in
    let pb = and_parts a b pc.0 in
    let two : m + 2 ≡ suc (suc m) = omega arith in
    let l : m + 2 < length xs = ltb-true (m + 2) (length xs) pc.1 in
    let below : m < length ys = omega (arith, l) in
    let mark : get_or ys m 0 ≡ 41 = ap (λ k. get_or xs k 0) (sym two) ∙ eqb-true (slice_index xs (m + 2)) 41 pd.1 in
    let cut : ys ≡ take m ys ++ (41 ∷ drop (m + 1) ys) = sym (take-append-drop m ys) ∙ ap (λ zs. take m ys ++ zs) (drop_more ys m 0 below ∙ ap (λ z. z ∷ drop (m + 1) ys) mark) in
    let long : length (take m ys) ≡ m = length-take-le m ys (omega (arith, below)) in
    record {
      name = take m ys;
      rest = drop (m + 1) ys;
      spelled_as = ap₂ (λ p q. p ∷ q ∷ ys) (eqb-true x 36 pb.0) (eqb-true y 40 pb.1) ∙ ap (λ zs. 36 ∷ 40 ∷ zs) cut;
      identifier = pi.1;
      long = long ∙ s.1;
    }

pub use_is : (xs : List ℕ) (n : ℕ) → use_at xs ≡ Some n → IsUse xs n
unfolding use_at use_of
use_is [] n e = absurd (true≢false (sym (and_none e)))
  where
    and_none : use_at [] ≡ Some n → false ≡ true
    and_none f = cc
use_is (x ∷ []) n e = absurd (none (x == 36) e)
  where
    none : (t : Bool) → (if t && false && nat_lt (0 + 2) 1 && (0 == 41) && is_identifier [] then Some 0 else None) ≡ Some n → ⊥
    none true f = cc
    none false f = cc
use_is (x ∷ y ∷ ys) n e = use_parts x y ys n e

-- what stands for a use
stands : (u : Undefined) (name rest : List ℕ) → undefined u (length name) (before_rest name rest) ≡ unknown u name
stands Kept name rest =
    let three : length name + 3 ≡ suc (suc (length name + 1)) = omega arith in
    ap (λ k. take k (before_rest name rest)) three
    ∙ ap (λ zs. 36 ∷ 40 ∷ zs) (ap (take (length name + 1)) (sym (append_assoc name (41 ∷ []) rest)) ∙ take_at (name ++ (41 ∷ [])) rest (length name + 1) (length-append name (41 ∷ [])))
stands Zero name rest = refl

meaning_of : (u : Undefined) (ms : List Macro) (name rest : List ℕ) → meaning u ms (length name) (before_rest name rest) ≡ unwrap_or (value_of name ms) (unknown u name)
meaning_of u ms name rest = ap₂ (λ w o. unwrap_or (value_of w ms) o) (take_at name (41 ∷ rest) (length name) refl) (stands u name rest)

behind : (name rest : List ℕ) → drop (length name + 3) (before_rest name rest) ≡ rest
behind name rest =
    let three : length name + 3 ≡ suc (suc (length name + 1)) = omega arith in
    ap (λ k. drop k (before_rest name rest)) three
    ∙ ap (drop (length name + 1)) (sym (append_assoc name (41 ∷ []) rest)) ∙ drop_at (name ++ (41 ∷ [])) rest (length name + 1) (length-append name (41 ∷ []))

with_use : (u : Undefined) (ms : List Macro) (name rest : List ℕ) → is_identifier name ≡ true → replaced u ms (before_rest name rest) ≡ unwrap_or (value_of name ms) (unknown u name) ++ replaced u ms rest
with_use u ms name rest e =
    sym (front_use u ms (before_rest name rest) (length name) (omega arith) (use_found name rest e))
    ∙ ap₂ (λ m r. m ++ replaced u ms r) (meaning_of u ms name rest) (behind name rest)

-- the walk is what the parts stand for
parts_only : (u : Undefined) (ms : List Macro) (parts : List Part) → AreParts parts → replaced u ms (spelled parts) ≡ meant u ms parts
unfolding replaced_after
parts_only u ms [] h = refl
parts_only u ms (byte b ∷ parts) h =
    front_by u ms b (spelled parts) None (plain (use_at (b ∷ spelled parts)) refl)
    ∙ ap (λ r. b ∷ r) (parts_only u ms parts h.1)
  where
    plain : (o : Option ℕ) → use_at (b ∷ spelled parts) ≡ o → use_at (b ∷ spelled parts) ≡ None
    plain None e = e
    plain (Some n) e = let is = use_is (b ∷ spelled parts) n e in absurd (h.0 is.name is.rest is.identifier is.spelled_as)
parts_only u ms (named name ∷ parts) h =
    with_use u ms name (spelled parts) h.0 ∙ ap (λ r. unwrap_or (value_of name ms) (unknown u name) ++ r) (parts_only u ms parts h.1)

-- each text has parts
pub record HasParts (text : List ℕ) : Type 0 where
  pub parts : List Part
  pub whole : text ≡ spelled parts
  pub stand : AreParts parts

parts_found : (n : ℕ) (text : List ℕ) → length text ≤ n → HasParts text
parts_found n [] l = record { parts = []; whole = refl; stand = tt }
parts_found zero (b ∷ bs) l = absurd (omega (arith, l))
parts_found (suc n) (b ∷ bs) l = by (parts_found n) (use_at (b ∷ bs)) refl
  where
    by : ((text : List ℕ) → length text ≤ n → HasParts text) → (o : Option ℕ) → use_at (b ∷ bs) ≡ o → HasParts (b ∷ bs)
    by again None e =
        let more = again bs (omega (arith, l)) in
        let whole : b ∷ bs ≡ b ∷ spelled more.parts = ap (λ zs. b ∷ zs) more.whole in
        record {
          parts = byte b ∷ more.parts;
          whole = whole;
          stand = (λ name rest i s. none (sym e ∙ ap use_at (whole ∙ s) ∙ use_found name rest i), more.stand);
        }
      where
        none : {m : ℕ} → None ≡ Some m → ⊥
        none f = cc
    by again (Some m) e =
        let is = use_is (b ∷ bs) m e in
        let long : length (b ∷ bs) ≡ suc (suc (length is.name + suc (length is.rest))) = ap length is.spelled_as ∙ ap (λ k. suc (suc k)) (length-append is.name (41 ∷ is.rest)) in
        let more = again is.rest (omega (arith, l, long)) in
        record {
          parts = named is.name ∷ more.parts;
          whole = is.spelled_as ∙ ap (before_rest is.name) more.whole;
          stand = (is.identifier, more.stand);
        }

pub replaced_found : (u : Undefined) (ms : List Macro) (text : List ℕ) → IsReplaced u ms text (replaced u ms text)
replaced_found u ms text =
    let has = parts_found (length text) text (omega arith) in
    record { parts = has.parts; whole = has.whole; stand = has.stand; meaning = ap (replaced u ms) has.whole ∙ parts_only u ms has.parts has.stand }

pub replaced_only : (u : Undefined) (ms : List Macro) (text out : List ℕ) → IsReplaced u ms text out → out ≡ replaced u ms text
replaced_only u ms text out h = h.meaning ∙ sym (parts_only u ms h.parts h.stand) ∙ ap (replaced u ms) (sym h.whole)
