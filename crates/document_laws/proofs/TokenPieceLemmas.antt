-- Tokens, one behind the other.
use Rattle.std.proofs.Common.{◌≡◌, ◌<◌, ◌≤◌, ℕ, zero, suc, ◌+◌, min, ◌==◌, ◌&&◌, ◌||◌, not, Bool, true, false, true≢false, cond, if◌then◌else◌, List, [], ◌∷◌, ◌++◌, length, length-append, fold, take, get_or, slice_index, take_at, drop_at, append_assoc, append-nil, Result, Ok, Err, refl, sym, ap, ap₂, subst, ◌∙◌, le-leb, eqb-true, arith}
use Rattle.std.specs.List.{list_all, prefix_len, position_or_len}
use Rattle.std.proofs.lemmas.Bool.{and_parts, and_from}
use Rattle.std.proofs.lemmas.Bool.Decides.{nat_tests}
use Rattle.meta_lexer.specs.Faults.{Spot}
use Rattle.meta_lexer.specs.Fields.{ends_quoted, open_quote}
use Rattle.meta_lexer.specs.Lines.{is_blank}
use Rattle.meta_lexer.specs.Tokens.{is_word_byte, is_numeral, is_pair, word_size, quoted_size, mark_size, word_kind, Front, front_of, tokens_after, tokens_of}
use Rattle.meta_lexer.specs.declared.token.Token.{Token}
use Rattle.meta_lexer.specs.declared.token.TokenKind.{TokenKind}
use Rattle.meta_lexer.specs.declared.token.TokenKind.TheVariants.{Word, Number, Quoted, Mark}
use Rattle.meta_lexer.proofs.TokenLemmas.{front_blank, front_token}
use Rattle.document_laws.specs.TokenPieces.{EndsAtWord, IsLongest, IsQuotedPiece, BeginsMark, IsMarkPiece, IsToken, AreTokens}
use Rattle.document_laws.proofs.ListLemmas.{prefix_passed, all_weaker}

-- quotes
abbrev quoted_after : Bool → ℕ → Bool
quoted_after quoted b = if b == 34 then not quoted else quoted

abbrev ends : Bool → List ℕ → Bool
ends quoted text = fold quoted_after quoted text

ends_is : (text : List ℕ) → ends_quoted text ≡ ends false text
unfolding ends_quoted
ends_is text = refl

unquoted_skip : (q : Bool) (xs ys : List ℕ) → list_all (λ b. not (b == 34)) xs ≡ true → ends q (xs ++ ys) ≡ ends q ys
unquoted_skip q [] ys e = refl
unquoted_skip q (x ∷ xs) ys e =
    let parts = and_parts (not (x == 34)) (list_all (λ b. not (b == 34)) xs) e in
    ap (λ t. ends (if t then not q else q) (xs ++ ys)) (turned (x == 34) parts.0) ∙ unquoted_skip q xs ys parts.1
  where
    turned : (t : Bool) → not t ≡ true → t ≡ false
    turned true h = absurd (true≢false (sym h))
    turned false h = refl

-- the rest of a quoted text, where no quote stays open
pub record Closed (bs : List ℕ) : Type 0 where
  pub within : List ℕ
  pub rest : List ℕ
  pub spelled : bs ≡ within ++ (34 ∷ rest)
  pub unquoted : list_all (λ b. not (b == 34)) within ≡ true
  pub shut : ends false rest ≡ false

closes : (bs : List ℕ) → ends true bs ≡ false → Closed bs
closes [] e = absurd (true≢false e)
closes (b ∷ bs) e = by (closes bs) (b == 34) refl e
  where
    by : (ends true bs ≡ false → Closed bs) → (t : Bool) → (b == 34) ≡ t → ends (if t then false else true) bs ≡ false → Closed (b ∷ bs)
    by again true s f = record { within = []; rest = bs; spelled = ap (λ x. x ∷ bs) (eqb-true b 34 s); unquoted = refl; shut = f }
    by again false s f =
        let c = again f in
        record { within = b ∷ c.within; rest = c.rest; spelled = ap (λ xs. b ∷ xs) c.spelled; unquoted = and_from (not (b == 34)) (list_all (λ b. not (b == 34)) c.within) (ap not s) c.unquoted; shut = c.shut }

-- bytes of words and blanks are no quotes
word_no_quote : (b : ℕ) → is_word_byte b ≡ true → not (b == 34) ≡ true
word_no_quote b e = grind (arith, nat_tests)

blank_no_quote : (b : ℕ) → is_blank b ≡ true → not (b == 34) ≡ true
blank_no_quote b e = grind (arith, nat_tests)

word_no_blank : (b : ℕ) → is_word_byte b ≡ true → is_blank b ≡ false
word_no_blank b e = grind (arith, nat_tests)

quote_first : (b : ℕ) → is_word_byte b ≡ true → (b == 34) ≡ false
quote_first b e = grind (arith, nat_tests)

pair_no_quote : (a b : ℕ) → (a == 34) ≡ false → is_pair a b ≡ true → (b == 34) ≡ false
unfolding is_pair
pair_no_quote a b e p = by (b == 61) refl p
  where
    by : (t : Bool) → (b == 61) ≡ t → (if t then (a == 33) || (a == 60) || (a == 61) || (a == 62) else (a == b) && ((a == 38) || (a == 60) || (a == 62) || (a == 124))) ≡ true → (b == 34) ≡ false
    by true s f = grind (arith, nat_tests)
    by false s f = let same = (and_parts (a == b) ((a == 38) || (a == 60) || (a == 62) || (a == 124)) f).0 in grind (arith, nat_tests)

-- a text at its longest word
pub record WordCut (xs : List ℕ) : Type 0 where
  pub piece : List ℕ
  pub rest : List ℕ
  pub spelled : xs ≡ piece ++ rest
  pub bytes : list_all is_word_byte piece ≡ true
  pub longest : EndsAtWord rest

word_cut : (xs : List ℕ) → WordCut xs
word_cut [] = record { piece = []; rest = []; spelled = refl; bytes = refl; longest = tt }
word_cut (x ∷ xs) = by (word_cut xs) (is_word_byte x) refl
  where
    by : WordCut xs → (t : Bool) → is_word_byte x ≡ t → WordCut (x ∷ xs)
    by cut true e = record { piece = x ∷ cut.piece; rest = cut.rest; spelled = ap (λ zs. x ∷ zs) cut.spelled; bytes = and_from (is_word_byte x) (list_all is_word_byte cut.piece) e cut.bytes; longest = cut.longest }
    by cut false e = record { piece = []; rest = x ∷ xs; spelled = refl; bytes = refl; longest = e }

stops : (rest : List ℕ) → EndsAtWord rest → prefix_len is_word_byte rest ≡ 0
stops [] h = refl
stops (b ∷ bs) h = ap (λ t. cond t (1 + prefix_len is_word_byte bs) 0) h

word_long : (piece rest : List ℕ) → list_all is_word_byte piece ≡ true → EndsAtWord rest → word_size (piece ++ rest) ≡ length piece
word_long piece rest e h = prefix_passed is_word_byte piece rest e ∙ omega (arith, stops rest h)

-- the front of each kind
front_by : List ℕ → Bool → Bool → Front
front_by xs quote word =
    if quote then record { kind = Quoted; size = quoted_size xs }
    else if word then record { kind = word_kind (take (word_size xs) xs); size = word_size xs }
    else record { kind = Mark; size = mark_size xs }

front_is : (xs : List ℕ) (quote word : Bool) → (slice_index xs 0 == 34) ≡ quote → is_word_byte (slice_index xs 0) ≡ word → front_of xs ≡ front_by xs quote word
unfolding front_of front_by
front_is xs quote word q w = ap₂ (front_by xs) q w

made : TokenKind → ℕ → Front
made kind size = record { kind = kind; size = size }

-- what begins a text is the token at its front
pub record IsFront (kind : TokenKind) (piece rest : List ℕ) : Type 0 where
  pub some : 0 < length piece
  pub no_blank : is_blank (get_or (piece ++ rest) 0 0) ≡ false
  pub front : record { kind = kind; size = length piece } ≡ front_of (piece ++ rest)
  pub same_quotes : ends false (piece ++ rest) ≡ ends false rest

kind_of : (t : Bool) → TokenKind
kind_of t = if t then Number else Word

word_front : (piece rest : List ℕ) (number : Bool) → IsLongest piece rest → is_numeral piece ≡ number → IsFront (kind_of number) piece rest
unfolding front_by kind_of made
word_front [] rest number h n = absurd (omega (arith, h.some))
word_front (b ∷ bs) rest number h n =
    let piece = b ∷ bs in
    let xs = b ∷ (bs ++ rest) in
    let first = (and_parts (is_word_byte b) (list_all is_word_byte bs) h.bytes).0 in
    let long = word_long (b ∷ bs) rest h.bytes h.longest in
    record {
      some = h.some;
      no_blank = word_no_blank b first;
      front = sym (front_is xs false true (quote_first b first) first
          ∙ ap (λ k. made (word_kind (take k xs)) k) long
          ∙ ap (λ w. made (word_kind w) (length piece)) (take_at (b ∷ bs) rest (length piece) refl)
          ∙ ap (λ t. made (kind_of t) (length piece)) n);
      same_quotes = unquoted_skip false (b ∷ bs) rest (all_weaker is_word_byte (λ b. not (b == 34)) word_no_quote (b ∷ bs) h.bytes);
    }

quoted_front : (piece rest : List ℕ) → IsQuotedPiece piece → IsFront Quoted piece rest
unfolding front_by made
quoted_front piece rest h =
    let more = h.within ++ (34 ∷ rest) in
    let behind : (h.within ++ (34 ∷ [])) ++ rest ≡ more = append_assoc h.within (34 ∷ []) rest in
    let whole : piece ++ rest ≡ 34 ∷ more = ap (λ p. p ++ rest) h.spelled ∙ ap (λ zs. 34 ∷ zs) behind in
    let long : length piece ≡ length h.within + 2 = ap length h.spelled ∙ omega (arith, length-append h.within (34 ∷ [])) in
    let at : position_or_len (λ b. b == 34) more ≡ length h.within = prefix_passed (λ b. not (b == 34)) h.within (34 ∷ rest) h.unquoted ∙ omega arith in
    let size : quoted_size (34 ∷ more) ≡ length piece = ap (λ k. min (k + 2) (length (34 ∷ more))) at ∙ least (length h.within) (length rest) (length more) (length-append h.within (34 ∷ rest)) ∙ sym long in
    record {
      some = omega (arith, long);
      no_blank = ap (λ xs. is_blank (get_or xs 0 0)) whole;
      front = sym (ap front_of whole ∙ front_is (34 ∷ more) true false refl refl ∙ ap (made Quoted) size);
      same_quotes = ap (ends false) whole ∙ unquoted_skip true h.within (34 ∷ rest) h.unquoted;
    }
  where
    least : (a c m : ℕ) → m ≡ a + suc c → min (a + 2) (suc m) ≡ a + 2
    least a c m e = grind (arith, nat_tests)

mark_by : Bool → Bool → ℕ
mark_by long pair = if long && pair then 2 else 1

mark_front : (piece rest : List ℕ) → IsMarkPiece piece rest → IsFront Mark piece rest
unfolding front_by mark_by made
mark_front [] rest h = absurd h
mark_front (a ∷ []) [] h =
    record {
      some = omega arith;
      no_blank = h.0.no_blank;
      front = sym (front_is (a ∷ []) false false h.0.no_quote h.0.no_word);
      same_quotes = ap (λ t. if t then true else false) h.0.no_quote;
    }
mark_front (a ∷ []) (b ∷ bs) h =
    record {
      some = omega arith;
      no_blank = h.0.no_blank;
      front = sym (front_is (a ∷ b ∷ bs) false false h.0.no_quote h.0.no_word
          ∙ ap₂ (λ l t. made Mark (mark_by l t)) (le-leb 2 (length (a ∷ b ∷ bs)) (omega arith)) h.1);
      same_quotes = ap (λ t. ends (if t then true else false) (b ∷ bs)) h.0.no_quote;
    }
mark_front (a ∷ b ∷ []) rest h =
    record {
      some = omega arith;
      no_blank = h.0.no_blank;
      front = sym (front_is (a ∷ b ∷ rest) false false h.0.no_quote h.0.no_word
          ∙ ap₂ (λ l t. made Mark (mark_by l t)) (le-leb 2 (length (a ∷ b ∷ rest)) (omega arith)) h.1);
      same_quotes = ap (λ t. ends (if t then true else false) (b ∷ rest)) h.0.no_quote
          ∙ ap (λ t. ends (if t then true else false) rest) (pair_no_quote a b h.0.no_quote h.1);
    }
mark_front (a ∷ b ∷ c ∷ more) rest h = absurd h

front_found : (kind : TokenKind) (piece rest : List ℕ) → IsToken kind piece rest → IsFront kind piece rest
unfolding kind_of
front_found Word piece rest h = word_front piece rest false h.0 h.1
front_found Number piece rest h = word_front piece rest true h.0 h.1
front_found Quoted piece rest h = quoted_front piece rest h
front_found Mark piece rest h = mark_front piece rest h

-- blanks are passed over
blanks_passed : (at : ℕ) (blanks xs : List ℕ) → list_all is_blank blanks ≡ true → tokens_after at 0 (blanks ++ xs) ≡ tokens_after (at + length blanks) 0 xs
blanks_passed at [] xs e = let z : at ≡ at + 0 = omega arith in ap (λ n. tokens_after n 0 xs) z
blanks_passed at (b ∷ bs) xs e =
    let parts = and_parts (is_blank b) (list_all is_blank bs) e in
    let z : at + 1 + length bs ≡ at + suc (length bs) = omega arith in
    sym (front_blank at (b ∷ (bs ++ xs)) (omega arith) parts.0) ∙ blanks_passed (at + 1) bs xs parts.1 ∙ ap (λ n. tokens_after n 0 xs) z

only : (at : ℕ) (text : List ℕ) (tokens : List Token) → AreTokens at text tokens → (tokens_after at 0 text ≡ tokens) × (ends false text ≡ false)
unfolding tokens_after
only at text [] h = (
  ap (tokens_after at 0) (sym (append-nil text)) ∙ blanks_passed at text [] h,
  ap (ends false) (sym (append-nil text)) ∙ unquoted_skip false text [] (all_weaker is_blank (λ b. not (b == 34)) blank_no_quote text h),
)
only at text (token ∷ tokens) h =
    let blanks = h.0 in
    let piece = h.1 in
    let rest = h.2 in
    let f = front_found token.kind piece rest h.5 in
    let start = at + length blanks in
    let more = only token.end rest tokens h.8 in
    let end : start + length piece ≡ token.end = ap (λ s. s + length piece) (sym h.6) ∙ sym h.7 in
    let first : get_or (piece ++ rest) 0 0 ≡ get_or (piece ++ rest) 0 0 = refl in (
      ap (tokens_after at 0) h.3 ∙ blanks_passed at blanks (piece ++ rest) h.4
          ∙ sym (front_token start (piece ++ rest) (record { kind = token.kind; size = length piece }) (omega (arith, length-append piece rest, f.some)) f.no_blank f.front f.some)
          ∙ (λ i. record { kind = token.kind; start = sym h.6 i; end = end i } ∷ tokens_after (end i) 0 (drop_at piece rest (length piece) refl i))
          ∙ ap (λ ts. token ∷ ts) more.0,
      ap (ends false) h.3 ∙ unquoted_skip false blanks (piece ++ rest) (all_weaker is_blank (λ b. not (b == 34)) blank_no_quote blanks h.4) ∙ f.same_quotes ∙ more.1,
    )

-- a token at the front of each text that begins with no blank
pub record Begins (xs : List ℕ) : Type 0 where
  pub kind : TokenKind
  pub piece : List ℕ
  pub rest : List ℕ
  pub spelled : xs ≡ piece ++ rest
  pub token : IsToken kind piece rest

pair_begins : (a : ℕ) (more : List ℕ) → BeginsMark a → Begins (a ∷ more)
pair_begins a [] m = record { kind = Mark; piece = a ∷ []; rest = []; spelled = refl; token = (m, tt) }
pair_begins a (b ∷ bs) m = by (is_pair a b) refl
  where
    by : (t : Bool) → is_pair a b ≡ t → Begins (a ∷ b ∷ bs)
    by true e = record { kind = Mark; piece = a ∷ b ∷ []; rest = bs; spelled = refl; token = (m, e) }
    by false e = record { kind = Mark; piece = a ∷ []; rest = b ∷ bs; spelled = refl; token = (m, e) }

word_begins : (b : ℕ) (bs : List ℕ) → is_word_byte b ≡ true → Begins (b ∷ bs)
word_begins b bs w = by (is_numeral (b ∷ cut.piece)) refl
  where
    cut : WordCut bs
    cut = word_cut bs

    longest : IsLongest (b ∷ cut.piece) cut.rest
    longest = record { some = omega arith; bytes = and_from (is_word_byte b) (list_all is_word_byte cut.piece) w cut.bytes; longest = cut.longest }

    by : (t : Bool) → is_numeral (b ∷ cut.piece) ≡ t → Begins (b ∷ bs)
    by true e = record { kind = Number; piece = b ∷ cut.piece; rest = cut.rest; spelled = ap (λ zs. b ∷ zs) cut.spelled; token = (longest, e) }
    by false e = record { kind = Word; piece = b ∷ cut.piece; rest = cut.rest; spelled = ap (λ zs. b ∷ zs) cut.spelled; token = (longest, e) }

quote_begins : (b : ℕ) (bs : List ℕ) → (b == 34) ≡ true → ends false (b ∷ bs) ≡ false → Begins (b ∷ bs)
quote_begins b bs q e =
    let c = closes bs (sym (ap (λ t. ends (if t then true else false) bs) q) ∙ e) in
    record {
      kind = Quoted;
      piece = 34 ∷ (c.within ++ (34 ∷ []));
      rest = c.rest;
      spelled = ap₂ (λ x zs. x ∷ zs) (eqb-true b 34 q) (c.spelled ∙ sym (append_assoc c.within (34 ∷ []) c.rest));
      token = record { within = c.within; spelled = refl; unquoted = c.unquoted };
    }

begins : (b : ℕ) (bs : List ℕ) → is_blank b ≡ false → ends false (b ∷ bs) ≡ false → Begins (b ∷ bs)
begins b bs n e = by (b == 34) (is_word_byte b) refl refl
  where
    by : (q w : Bool) → (b == 34) ≡ q → is_word_byte b ≡ w → Begins (b ∷ bs)
    by true w s t = quote_begins b bs s e
    by false true s t = word_begins b bs t
    by false false s t = pair_begins b bs (record { no_blank = n; no_quote = s; no_word = t })

blank_more : (at b : ℕ) (bs : List ℕ) (tokens : List Token) → is_blank b ≡ true → AreTokens (at + 1) bs tokens → AreTokens at (b ∷ bs) tokens
blank_more at b bs [] e h = and_from (is_blank b) (list_all is_blank bs) e h
blank_more at b bs (token ∷ tokens) e h =
    let z : at + 1 + length h.0 ≡ at + suc (length h.0) = omega arith in
    (b ∷ h.0, h.1, h.2, ap (λ zs. b ∷ zs) h.3, and_from (is_blank b) (list_all is_blank h.0) e h.4, h.5, h.6 ∙ z, h.7, h.8)

-- each text in which no quote stays open has tokens
pub record HasTokens (at : ℕ) (text : List ℕ) : Type 0 where
  pub tokens : List Token
  pub are : AreTokens at text tokens

has_tokens : (n at : ℕ) (text : List ℕ) → length text ≤ n → ends false text ≡ false → HasTokens at text
has_tokens n at [] l e = record { tokens = []; are = refl }
has_tokens zero at (b ∷ bs) l e = absurd (omega (arith, l))
has_tokens (suc n) at (b ∷ bs) l e = by (has_tokens n) (is_blank b) refl
  where
    by : ((at : ℕ) (text : List ℕ) → length text ≤ n → ends false text ≡ false → HasTokens at text) → (t : Bool) → is_blank b ≡ t → HasTokens at (b ∷ bs)
    by again true s =
        let not_quote = blank_no_quote b s in
        let h = again (at + 1) bs (omega (arith, l)) (sym (unquoted_skip false (b ∷ []) bs (and_from (not (b == 34)) true not_quote refl)) ∙ e) in
        record { tokens = h.tokens; are = blank_more at b bs h.tokens s h.are }
    by again false s =
        let p = begins b bs s e in
        let f = front_found p.kind p.piece p.rest p.token in
        let long : length (b ∷ bs) ≡ length p.piece + length p.rest = ap length p.spelled ∙ length-append p.piece p.rest in
        let h = again (at + 0 + length p.piece) p.rest (omega (arith, l, long, f.some)) (sym f.same_quotes ∙ ap (ends false) (sym p.spelled) ∙ e) in
        record {
          tokens = record { kind = p.kind; start = at + 0; end = at + 0 + length p.piece } ∷ h.tokens;
          are = ([], p.piece, p.rest, p.spelled, refl, p.token, refl, refl, h.are);
        }

abbrev tokens_by : Bool → List ℕ → Result (List Token) Spot
tokens_by quoted text = if quoted then Err (open_quote text) else Ok (tokens_after 0 0 text)

abbrev ok_of : List Token → Result (List Token) Spot
ok_of tokens = Ok tokens

same_ok : (xs ys : List Token) → ok_of xs ≡ ok_of ys → xs ≡ ys
same_ok xs ys e = cc

pub tokens_only : (text : List ℕ) (tokens : List Token) → AreTokens 0 text tokens → tokens_of text ≡ Ok tokens
unfolding tokens_of
tokens_only text tokens h =
    let o = only 0 text tokens h in
    ap (λ t. tokens_by t text) (ends_is text ∙ o.1) ∙ ap ok_of o.0

pub tokens_found : (text : List ℕ) (tokens : List Token) → tokens_of text ≡ Ok tokens → AreTokens 0 text tokens
unfolding tokens_of
tokens_found text tokens e = by (ends_quoted text) refl e
  where
    by : (t : Bool) → ends_quoted text ≡ t → tokens_by t text ≡ ok_of tokens → AreTokens 0 text tokens
    by true s f = absurd (bad f)
      where
        bad : tokens_by true text ≡ ok_of tokens → ⊥
        bad g = cc
    by false s f =
        let h = has_tokens (length text) 0 text (omega arith) (sym (ends_is text) ∙ s) in
        subst (AreTokens 0 text) (sym (only 0 text h.tokens h.are).0 ∙ same_ok (tokens_after 0 0 text) tokens f) h.are
