-- One place more of the lines of a text.
use Rattle.std.proofs.Common.{◌≡◌, ℕ, zero, suc, ◌+◌, ◌-◌, ◌<◌, ◌≤◌, arith, true, false, cond, nat_lt, nat_le, not, slice_index, ◌==◌, if◌then◌else◌, List, [], ◌∷◌, ◌++◌, map, length, take, drop, length-take, length-take-le, length-drop, take_all, take-take, drop-drop, Option, Some, None, Result, Ok, Err, refl, sym, ap, ◌∙◌, subst}
use Rattle.std.specs.List.{prefix_len, suffix_len, position_or_len}
use Rattle.std.proofs.lemmas.Bool.Decides.{nat_tests}
use Rattle.std.proofs.lemmas.List.{map-append, drop_all, drop-take, take_rest}
use Rattle.std.proofs.lemmas.List.Sums.{prefix_len-le-length}
use Rattle.build_base.specs.First.{or_else, unless, with_front}
use Rattle.build_base.proofs.FirstLemmas.{front_front}
use Rattle.meta_lexer.specs.Faults.{Spot, Fails, first_fault, each_or_first}
use Rattle.meta_lexer.specs.declared.refusal.LexRefusal.{LexRefusal}
use Rattle.meta_lexer.specs.declared.refusal.LexRefusal.TheVariants.{Bad, WantOfMemory}
use Rattle.meta_lexer.specs.Lines.{Piece, TextLine, is_blank, is_feed, comment_from, before_comment, without_blanks, without_return, pieces_from, piece_of, piece_fault, piece_line}
use Rattle.meta_lexer.proofs.PieceLemmas.{pieces_cut_at, pieces_last}
use Rattle.macro_conditions.specs.declared.work.LinePlace.{LinePlace}

-- a piece without a fault makes its line, and what is left makes the rest
first_line : (p : Piece) (y : TextLine) (ps : List Piece) (o : Option Spot) (r : Option Spot) → unless o (piece_line p) ≡ Ok y → unless (or_else o r) (map piece_line (p ∷ ps)) ≡ with_front (y ∷ []) (unless r (map piece_line ps))
first_line p y ps (Some f) r h = absurd (cc)
first_line p y ps None None h = let is : piece_line p ≡ y = cc in ap (λ (x : TextLine). Ok (x ∷ map piece_line ps)) is
first_line p y ps None (Some f) h = refl

pub one_more : (f : LinePlace → TextLine) (old new : List LinePlace) (x : LinePlace) (p : Piece) (n at next : ℕ) (rest after : List ℕ) → at ≡ next → new ≡ old ++ x ∷ [] → pieces_from n p.start rest ≡ p ∷ pieces_from (n + 1) at after → unless (piece_fault p) (piece_line p) ≡ Ok (f x)
    → with_front (map f new) (each_or_first piece_fault piece_line (pieces_from (n + 1) next after)) ≡ with_front (map f old) (each_or_first piece_fault piece_line (pieces_from n p.start rest))
one_more f old new x p n at next rest after a is ps one =
    ap (λ (v : List LinePlace). with_front (map f v) (each_or_first piece_fault piece_line (pieces_from (n + 1) next after))) is
    ∙ ap (λ (v : List TextLine). with_front v (each_or_first piece_fault piece_line (pieces_from (n + 1) next after))) (map-append f old (x ∷ []))
    ∙ sym (front_front (map f old) (f x ∷ []) (each_or_first piece_fault piece_line (pieces_from (n + 1) next after)))
    ∙ ap (λ (k : ℕ). with_front (map f old) (with_front (f x ∷ []) (each_or_first piece_fault piece_line (pieces_from (n + 1) k after)))) (sym a)
    ∙ ap (with_front (map f old)) (sym (first_line p (f x) (pieces_from (n + 1) at after) (piece_fault p) (first_fault piece_fault (pieces_from (n + 1) at after)) one))
    ∙ ap (λ (v : List Piece). with_front (map f old) (each_or_first piece_fault piece_line v)) (sym ps)

first_bad : (e : LexRefusal) (o r : Option Spot) (x : TextLine) (front xs : List TextLine) → Fails e (unless o x) → Fails e (with_front front (unless (or_else o r) xs))
first_bad WantOfMemory o r x front xs h = tt
first_bad (Bad code line start end) None r x front xs h = absurd (cc)
first_bad (Bad code line start end) (Some f) r x front xs h = let is : f ≡ record { code = code; line = line; start = start; end = end } = cc in ap (λ (s : Spot). Err s) is

-- a piece with a fault gives it, where no piece before has one
pub one_bad : (e : LexRefusal) (front : List TextLine) (p : Piece) (n at : ℕ) (rest after : List ℕ) (read : Result (List TextLine) Spot) → with_front front (each_or_first piece_fault piece_line (pieces_from n p.start rest)) ≡ read → pieces_from n p.start rest ≡ p ∷ pieces_from (n + 1) at after
    → Fails e (unless (piece_fault p) (piece_line p)) → Fails e read
one_bad e front p n at rest after read whole ps h =
    let more = pieces_from (n + 1) at after in
    let is : with_front front (each_or_first piece_fault piece_line (p ∷ more)) ≡ read = ap (λ (v : List Piece). with_front front (each_or_first piece_fault piece_line v)) (sym ps) ∙ whole in
    subst (Fails e) is (first_bad e (piece_fault p) (first_fault piece_fault more) (piece_line p) front (map piece_line (p ∷ more)) h)

-- what stands behind the blanks of a front stands behind those of the whole
same_start : (p : List ℕ) (m c : ℕ) → c ≤ length (drop (prefix_len is_blank (take m p)) (take m p)) → take c (drop (prefix_len is_blank (take m p)) (take m p)) ≡ take c (drop (prefix_len is_blank p) p)
same_start [] zero c le = refl
same_start [] (suc m) c le = refl
same_start (x ∷ p) zero c le = let none : 0 ≡ c = omega (arith, le) in subst (λ k. take k [] ≡ take k (drop (prefix_len is_blank (x ∷ p)) (x ∷ p))) none refl
same_start (x ∷ p) (suc m) c le =
    let one : (n : ℕ) → 1 + n ≡ suc n = λ n. omega arith in
    let k : ℕ = prefix_len is_blank (take m p) in
    (elim (is_blank x) as (λ b. c ≤ length (drop (cond b (1 + k) 0) (x ∷ take m p)) → take c (drop (cond b (1 + k) 0) (x ∷ take m p)) ≡ take c (drop (cond b (1 + prefix_len is_blank p) 0) (x ∷ p))) [
      | true ↦ λ le.
          let here : c ≤ length (drop k (take m p)) = subst (λ j. c ≤ length (drop j (x ∷ take m p))) (one k) le in
          ap (λ j. take c (drop j (x ∷ take m p))) (one k) ∙ same_start p m c here ∙ ap (λ j. take c (drop j (x ∷ p))) (sym (one (prefix_len is_blank p)))
      | false ↦ λ le. take-take c (suc m) (x ∷ p) (omega (arith, le, length-take (suc m) (x ∷ p)))
    ]) le

part_of : (p : List ℕ) (m : ℕ) → without_blanks (take m p) ≡ take (length (without_blanks (take m p))) (drop (prefix_len is_blank p) p)
part_of p m =
    let ys = drop (prefix_len is_blank (take m p)) (take m p) in
    let n : ℕ = length ys - suffix_len is_blank ys in
    let le : n ≤ length ys = omega arith in
    same_start p m n le ∙ ap (λ k. take k (drop (prefix_len is_blank p) p)) (sym (length-take-le n ys le))

front_twice : (j n : ℕ) (p : List ℕ) → (m : ℕ) × (take j (take n p) ≡ take m p)
front_twice j n p =
    (elim (nat_le j n) as (λ b. nat_le j n ≡ b → (m : ℕ) × (take j (take n p) ≡ take m p)) [
      | true ↦ λ e. (j, take-take j n p (grind (arith, nat_tests)))
      | false ↦ λ e. let less : n < j = grind (arith, nat_tests) in (n, take_all j (take n p) (omega (arith, length-take n p, less)))
    ]) refl

front_of : (p : List ℕ) → (m : ℕ) × (before_comment (without_return p) ≡ take m p)
front_of p =
    elim (slice_index p (length p - 1) == 13) as (λ b. (m : ℕ) × (before_comment (if b then take (length p - 1) p else p) ≡ take m p)) [
      | true ↦ front_twice (comment_from false (take (length p - 1) p)) (length p - 1) p
      | false ↦ (comment_from false p, refl)
    ]

-- what there is without a fault
made : (o : Option Spot) (x y : TextLine) → unless o x ≡ Ok y → x ≡ y
made (Some f) x y e = absurd (cc)
made None x y e = cc

-- the line of a piece stands in the text, behind the blanks that the piece begins with
placed : (bytes p text : List ℕ) (start : ℕ) → p ≡ take (length p) (drop start bytes) → text ≡ without_blanks (before_comment (without_return p)) → take (length text) (drop (start + prefix_len is_blank p) bytes) ≡ text
placed bytes p text start at is =
    let f = front_of p in
    let k : ℕ = prefix_len is_blank p in
    let part : text ≡ take (length text) (drop k p) = subst (λ t. t ≡ take (length t) (drop k p)) (sym (is ∙ ap without_blanks f.1)) (part_of p f.0) in
    let within : k ≤ length p = prefix_len-le-length is_blank p in
    let few : length text ≤ length p - k = omega (arith, ap length part, length-take (length text) (drop k p), length-drop k p) in
    let all : length p ≡ k + (length p - k) = omega (arith, within) in
    sym (part
    ∙ ap (λ q. take (length text) (drop k q)) (at ∙ ap (λ n. take n (drop start bytes)) all)
    ∙ ap (take (length text)) (drop-take k (length p - k) (drop start bytes))
    ∙ take-take (length text) (length p - k) (drop k (drop start bytes)) few
    ∙ ap (take (length text)) (drop-drop k start bytes))

first_bytes : List Piece → List ℕ
first_bytes [] = []
first_bytes (p ∷ ps) = p.bytes

same_bytes : (n at : ℕ) (p q : List ℕ) (ps qs : List Piece) → piece_of n at p ∷ ps ≡ piece_of n at q ∷ qs → p ≡ q
unfolding first_bytes
same_bytes n at p q ps qs e = ap first_bytes e

-- the first piece, and the others by its length
pub cut_behind : (rest p : List ℕ) (n at : ℕ) (ps : List Piece) → 0 < length (without_return rest) → pieces_from n at rest ≡ piece_of n at p ∷ ps
    → (p ≡ take (length p) rest) × (pieces_from n at rest ≡ piece_of n at p ∷ pieces_from (n + 1) (at + (length rest - length (drop (length p + 1) rest))) (drop (length p + 1) rest))
cut_behind rest p n at ps some e =
    let i : ℕ = position_or_len is_feed rest in
    let Q : List ℕ → Type 0 = λ q. (p ≡ take (length p) rest) × (pieces_from n at rest ≡ piece_of n at p ∷ pieces_from (n + 1) (at + (length rest - length q)) q) in
    let within : i ≤ length rest = prefix_len-le-length (λ b. not (is_feed b)) rest in
    (elim (nat_lt i (length rest)) as (λ b. nat_lt i (length rest) ≡ b → Q (drop (length p + 1) rest)) [
      | true ↦ λ h.
          let less : i < length rest = grind (arith, nat_tests) in
          let cut = pieces_cut_at rest n at i refl less in
          let is : p ≡ take i rest = same_bytes n at p (take i rest) ps _ (sym e ∙ cut) in
          let len : length p ≡ i = ap length is ∙ length-take-le i rest within in
          let front : p ≡ take (length p) rest = is ∙ ap (λ k. take k rest) (sym len) in
          let T : List ℕ → ℕ → Type 0 = λ q k. pieces_from n at rest ≡ piece_of n at q ∷ pieces_from (n + 1) (at + (length rest - length (drop (k + 1) rest))) (drop (k + 1) rest) in
          let others : T (take i rest) i = rw (take_rest rest (i + 1)) at cut in
          (front, subst (T p) (sym len) (subst (λ q. T q i) (sym is) others))
      | false ↦ λ h.
          let le : length rest ≤ i = grind (arith, nat_tests) in
          let is : p ≡ rest = same_bytes n at p rest ps _ (sym e ∙ pieces_last rest n at 0 0 le some) in
          let front : p ≡ take (length p) rest = is ∙ sym (take_all (length p) rest (omega (arith, ap length is))) in
          let none : drop (length p + 1) rest ≡ [] = drop_all (length p + 1) rest (omega (arith, ap length is)) in
          subst Q (sym none) (front, pieces_last rest n at (n + 1) (at + (length rest - 0)) le some ∙ ap (λ q. piece_of n at q ∷ pieces_from (n + 1) (at + (length rest - 0)) []) (sym is))
    ]) refl

-- what is left stands at the end of the text
pub rest_at : (bytes rest : List ℕ) (k : ℕ) → rest ≡ drop (length bytes - length rest) bytes → length rest ≤ length bytes → drop k rest ≡ drop (length bytes - length (drop k rest)) bytes
rest_at bytes rest k at le =
    let on : drop k rest ≡ drop (length bytes - length rest + k) bytes = ap (drop k) at ∙ drop-drop k (length bytes - length rest) bytes in
    (elim (nat_le k (length rest)) as (λ b. nat_le k (length rest) ≡ b → drop k rest ≡ drop (length bytes - length (drop k rest)) bytes) [
      | true ↦ λ h.
          let few : k ≤ length rest = grind (arith, nat_tests) in
          let same : length bytes - length rest + k ≡ length bytes - length (drop k rest) = omega (arith, few, le, length-drop k rest) in
          on ∙ ap (λ j. drop j bytes) same
      | false ↦ λ h.
          let many : length rest < k = grind (arith, nat_tests) in
          let none : drop k rest ≡ [] = drop_all k rest (omega (arith, many)) in
          none ∙ sym (drop_all (length bytes - length (drop k rest)) bytes (omega (arith, ap length none)))
    ]) refl

-- the line of a piece, by its place
pub line_placed : (bytes p : List ℕ) (number start n k : ℕ) (text : List ℕ) → p ≡ take (length p) (drop start bytes) → k ≡ prefix_len is_blank p
    → unless (piece_fault (piece_of number start p)) (piece_line (piece_of number start p)) ≡ Ok (record { number = n; text = text })
    → unless (piece_fault (piece_of number start p)) (piece_line (piece_of number start p)) ≡ Ok (record { number = n; text = take (length text) (drop (start + k) bytes) })
line_placed bytes p number start n k text at blanks e =
    let is : text ≡ without_blanks (before_comment (without_return p)) = sym (ap (λ (l : TextLine). l.text) (made (piece_fault (piece_of number start p)) (piece_line (piece_of number start p)) (record { number = n; text = text }) e)) in
    e ∙ ap (λ (t : List ℕ). Ok (record { number = n; text = t })) (sym (placed bytes p text start at is) ∙ ap (λ j. take (length text) (drop (start + j) bytes)) (sym blanks))
