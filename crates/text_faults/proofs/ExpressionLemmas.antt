-- The fault of an expression has a name.
use Rattle.std.proofs.Common.{ℕ, ◌+◌, ◌-◌, ◌*◌, ◌/◌, ◌%◌, ◌^◌, nat_lt, nat_le, Bool, true, false, ◌&&◌, ◌||◌, not, ◌==◌, if◌then◌else◌, List, [], ◌∷◌, map, slice_index, length, Option, Some, None, Result, Ok, Err}
use Rattle.std.specs.Cmp.Lexicographic.{pointwise}
use Rattle.build_base.specs.declared.fault.Place.{Place}
use Rattle.build_base.specs.declared.lines.Macro.{Macro}
use Rattle.meta_lexer.specs.Fields.{ends_quoted, open_quote, bytes_at}
use Rattle.meta_lexer.specs.Numbers.{number_of}
use Rattle.meta_lexer.specs.Tokens.{tokens_after, tokens_of, token_span}
use Rattle.meta_lexer.specs.declared.token.Token.{Token}
use Rattle.meta_lexer.specs.declared.token.TokenKind.{TokenKind}
use Rattle.meta_lexer.specs.declared.token.TokenKind.TheVariants as kinds
use Rattle.macro_expressions.specs.declared.operator.BinaryOperator.{BinaryOperator}
use Rattle.macro_expressions.specs.declared.operator.BinaryOperator.TheVariants as binary
use Rattle.macro_expressions.specs.declared.operator.PrefixOperator.{PrefixOperator}
use Rattle.macro_expressions.specs.declared.operator.PrefixOperator.TheVariants as prefix
use Rattle.macro_expressions.specs.declared.macros.Undefined.TheVariants.{Zero}
use Rattle.macro_expressions.specs.declared.expression.Value.{Value}
use Rattle.macro_expressions.specs.Macros.{replaced}
use Rattle.macro_expressions.specs.Values.{Outcome, word, number, faulty, ill, truth, fitting, on_numbers, on_texts, level, kinds_fit, joined, apply, apply_prefix}
use Rattle.macro_expressions.specs.ExpressionTree.{Symbol, value, binary, prefix, open_mark, close_mark, unknown}
use Rattle.macro_expressions.specs.ExpressionMachine.{Wait, group, front, left, Held, State, depth_of, settle, reduce, wanting, deeper, closed, step_wanting, step_holding, step_by, whole, ended_by, next, result_of, run}
use Rattle.macro_expressions.specs.Expressions.{numeral, keywords, keyword_named, meant, word_symbol, one_mark, mark_before_equals, mark_twice, mark_symbol, symbol_of, symbol_at, answered, value_of_tokens, value_of_text, faulted, evaluation}
use Rattle.named_faults.specs.Named.{IsNameCode, FailsByName}
use Rattle.named_faults.proofs.CodeLemmas.{bad_expression_named, open_quote_named, value_range_named, zero_divisor_named}
use Rattle.named_faults.proofs.NamedLemmas.{if_holds}
use Rattle.text_faults.proofs.PartLemmas.{lookup_holds}

-- What operators make.

-- a fault in the value has a name
abbrev IsFair : Outcome → Type 0
IsFair (word w) = Unit {0}
IsFair (number n) = Unit {0}
IsFair (faulty code) = IsNameCode code
IsFair ill = Unit {0}

fair_truth : (t : Bool) → IsFair (truth t)
fair_truth true = tt
fair_truth false = tt

fair_fitting : (n : ℕ) → IsFair (fitting n)
fair_fitting n = if_holds IsFair (nat_lt n (2 ^ 64)) (number n) (faulty _) tt value_range_named

fair_numbers : (op : BinaryOperator) (a b : ℕ) → IsFair (on_numbers op a b)
fair_numbers binary.Or a b = fair_truth (not (a == 0) || not (b == 0))
fair_numbers binary.And a b = fair_truth (not (a == 0) && not (b == 0))
fair_numbers binary.BitOr a b = tt
fair_numbers binary.BitXor a b = tt
fair_numbers binary.BitAnd a b = tt
fair_numbers binary.Eq a b = fair_truth (a == b)
fair_numbers binary.Ne a b = fair_truth (not (a == b))
fair_numbers binary.Lt a b = fair_truth (nat_lt a b)
fair_numbers binary.Le a b = fair_truth (nat_le a b)
fair_numbers binary.Gt a b = fair_truth (nat_lt b a)
fair_numbers binary.Ge a b = fair_truth (nat_le b a)
fair_numbers binary.Shl a b = fair_fitting (a * 2 ^ b)
fair_numbers binary.Shr a b = tt
fair_numbers binary.Add a b = fair_fitting (a + b)
fair_numbers binary.Sub a b = if_holds IsFair (nat_lt a b) (faulty _) (number (a - b)) value_range_named tt
fair_numbers binary.Mul a b = fair_fitting (a * b)
fair_numbers binary.Div a b = if_holds IsFair (b == 0) (faulty _) (number (a / b)) zero_divisor_named tt
fair_numbers binary.Rem a b = if_holds IsFair (b == 0) (faulty _) (number (a % b)) zero_divisor_named tt

fair_texts : (op : BinaryOperator) (same : Bool) → IsFair (on_texts op same)
fair_texts binary.Eq same = fair_truth same
fair_texts binary.Ne same = fair_truth (not same)
fair_texts binary.Or same = tt
fair_texts binary.And same = tt
fair_texts binary.BitOr same = tt
fair_texts binary.BitXor same = tt
fair_texts binary.BitAnd same = tt
fair_texts binary.Lt same = tt
fair_texts binary.Le same = tt
fair_texts binary.Gt same = tt
fair_texts binary.Ge same = tt
fair_texts binary.Shl same = tt
fair_texts binary.Shr same = tt
fair_texts binary.Add same = tt
fair_texts binary.Sub same = tt
fair_texts binary.Mul same = tt
fair_texts binary.Div same = tt
fair_texts binary.Rem same = tt

fair_joined : (op : BinaryOperator) (l r : Outcome) → IsFair l → IsFair r → IsFair (joined op l r)
fair_joined op (faulty c) r x y = x
fair_joined op (number a) (faulty c) x y = y
fair_joined op (number a) (number b) x y = fair_numbers op a b
fair_joined op (number a) (word w) x y = fair_texts op false
fair_joined op (number a) ill x y = tt
fair_joined op (word v) (faulty c) x y = y
fair_joined op (word v) (number b) x y = fair_texts op false
fair_joined op (word v) (word w) x y = fair_texts op (pointwise ◌==◌ v w)
fair_joined op (word v) ill x y = tt
fair_joined op ill r x y = tt

fair_applied : (op : BinaryOperator) (l r : Outcome) → IsFair l → IsFair r → IsFair (apply op l r)
unfolding apply
fair_applied op l r x y = if_holds IsFair (kinds_fit op l r) (joined op l r) ill (fair_joined op l r x y) tt

fair_prefixed : (op : PrefixOperator) (v : Outcome) → IsFair v → IsFair (apply_prefix op v)
unfolding apply_prefix
fair_prefixed op (word w) x = tt
fair_prefixed op ill x = tt
fair_prefixed op (faulty c) x = x
fair_prefixed prefix.Not (number n) x = fair_truth (n == 0)
fair_prefixed prefix.Flip (number n) x = tt

-- What the machine holds.

abbrev AreFairWaits : List Wait → Type 0
AreFairWaits [] = Unit {0}
AreFairWaits (group ∷ ws) = AreFairWaits ws
AreFairWaits (front op ∷ ws) = AreFairWaits ws
AreFairWaits (left v op ∷ ws) = IsFair v × AreFairWaits ws

abbrev IsFairHeld : Held → Type 0
IsFairHeld h = AreFairWaits h.waits × IsFair h.operand

abbrev IsFairFound : Option Outcome → Type 0
IsFairFound None = Unit {0}
IsFairFound (Some v) = IsFair v

abbrev IsFairState : State → Type 0
IsFairState s = AreFairWaits s.waits × IsFairFound s.operand

abbrev IsFairNext : Option State → Type 0
IsFairNext None = Unit {0}
IsFairNext (Some s) = IsFairState s

abbrev IsFairSymbol : Symbol → Type 0
IsFairSymbol (value v) = IsFair v
IsFairSymbol (binary op) = Unit {0}
IsFairSymbol (prefix op) = Unit {0}
IsFairSymbol open_mark = Unit {0}
IsFairSymbol close_mark = Unit {0}
IsFairSymbol unknown = Unit {0}

fair_settled : (ws : List Wait) (v : Outcome) → AreFairWaits ws → IsFair v → IsFairHeld (settle ws v)
fair_settled [] v w x = (tt, x)
fair_settled (group ∷ ws) v w x = (w, x)
fair_settled (front op ∷ ws) v w x = fair_settled ws (apply_prefix op v) w (fair_prefixed op v x)
fair_settled (left u op ∷ ws) v w x = (w, x)

fair_reduced : (n : ℕ) (ws : List Wait) (v : Outcome) → AreFairWaits ws → IsFair v → IsFairHeld (reduce n ws v)
fair_reduced n [] v w x = (tt, x)
fair_reduced n (group ∷ ws) v w x = (w, x)
fair_reduced n (front op ∷ ws) v w x = (w, x)
fair_reduced n (left u op ∷ ws) v w x =
    if_holds IsFairHeld (nat_le n (level op)) (reduce n ws (apply op u v)) (record { waits = left u op ∷ ws; operand = v }) (fair_reduced n ws (apply op u v) w.1 (fair_applied op u v w.0 x)) (w, x)

fair_deeper : (w : Wait) (ws : List Wait) → AreFairWaits (w ∷ ws) → IsFairNext (deeper w ws)
fair_deeper w ws f = if_holds IsFairNext (nat_lt (depth_of ws) 64) (Some (wanting (w ∷ ws))) None (f, tt) tt

fair_closed : (ws : List Wait) (v : Outcome) → AreFairWaits ws → IsFair v → IsFairNext (closed ws v)
fair_closed [] v w x = tt
fair_closed (group ∷ ws) v w x = fair_settled ws v w x
fair_closed (front op ∷ ws) v w x = tt
fair_closed (left u op ∷ ws) v w x = tt

fair_wanting : (ws : List Wait) (t : Symbol) → AreFairWaits ws → IsFairSymbol t → IsFairNext (step_wanting ws t)
fair_wanting ws (value v) w s = fair_settled ws v w s
fair_wanting ws (binary op) w s = tt
fair_wanting ws (prefix op) w s = fair_deeper (front op) ws w
fair_wanting ws open_mark w s = fair_deeper group ws w
fair_wanting ws close_mark w s = tt
fair_wanting ws unknown w s = tt

fair_holding : (ws : List Wait) (v : Outcome) (t : Symbol) → AreFairWaits ws → IsFair v → IsFairNext (step_holding ws v t)
fair_holding ws v (value u) w x = tt
fair_holding ws v (binary op) w x = let h = fair_reduced (level op) ws v w x in ((h.1, h.0), tt)
fair_holding ws v (prefix op) w x = tt
fair_holding ws v open_mark w x = tt
fair_holding ws v unknown w x = tt
fair_holding ws v close_mark w x =
    let h = fair_reduced 0 ws v w x in
    fair_closed (reduce 0 ws v).waits (reduce 0 ws v).operand h.0 h.1

fair_step : (ws : List Wait) (o : Option Outcome) (t : Symbol) → AreFairWaits ws → IsFairFound o → IsFairSymbol t → IsFairNext (step_by ws o t)
fair_step ws None t w f s = fair_wanting ws t w s
fair_step ws (Some v) t w f s = fair_holding ws v t w f

fair_whole : (ws : List Wait) (v : Outcome) → IsFair v → IsFairFound (whole ws v)
fair_whole [] v x = x
fair_whole (w ∷ ws) v x = tt

fair_ended : (ws : List Wait) (o : Option Outcome) → AreFairWaits ws → IsFairFound o → IsFairFound (ended_by ws o)
fair_ended ws None w f = tt
fair_ended ws (Some v) w f = fair_whole (reduce 0 ws v).waits (reduce 0 ws v).operand (fair_reduced 0 ws v w f).1

fair_next : (s : Option State) (t : Symbol) → IsFairNext s → IsFairSymbol t → IsFairNext (next s t)
fair_next None t f s = tt
fair_next (Some state) t f s = fair_step state.waits state.operand t f.0 f.1 s

fair_result : (s : Option State) → IsFairNext s → IsFairFound (result_of s)
fair_result None f = tt
fair_result (Some state) f = fair_ended state.waits state.operand f.0 f.1

abbrev AreFairSymbols : List Symbol → Type 0
AreFairSymbols [] = Unit {0}
AreFairSymbols (t ∷ ts) = IsFairSymbol t × AreFairSymbols ts

fair_run : (s : Option State) (ts : List Symbol) → IsFairNext s → AreFairSymbols ts → IsFairFound (run s ts)
unfolding run
fair_run s [] f g = fair_result s f
fair_run s (t ∷ ts) f g = fair_run (next s t) ts (fair_next s t f g.0) g.1

-- Symbols of a text.

fair_numeral : (n : Option ℕ) → IsFair (numeral n)
fair_numeral None = value_range_named
fair_numeral (Some n) = tt

fair_meant : (w : List ℕ) → IsFairSymbol (meant w (keyword_named w))
unfolding keyword_named
fair_meant w = lookup_holds (λ k. IsFairSymbol (meant w k)) keywords w (tt, (tt, (tt, (tt, (tt, (tt, (tt, (tt, (tt, (tt, (tt, tt))))))))))) tt

-- the first of some symbols whose test holds
abbrev first_symbol : List (Bool × Symbol) → Symbol → Symbol
first_symbol [] last = last
first_symbol (row ∷ rows) last = if row.0 then row.1 else first_symbol rows last

abbrev AreFairRows : List (Bool × Symbol) → Type 0
AreFairRows [] = Unit {0}
AreFairRows (row ∷ rows) = IsFairSymbol row.1 × AreFairRows rows

fair_first : (rows : List (Bool × Symbol)) (last : Symbol) → AreFairRows rows → IsFairSymbol last → IsFairSymbol (first_symbol rows last)
fair_first [] last f s = s
fair_first (row ∷ rows) last f s = if_holds IsFairSymbol row.0 row.1 (first_symbol rows last) f.0 (fair_first rows last f.1 s)

fair_one : (b : ℕ) → IsFairSymbol (one_mark b)
unfolding one_mark
fair_one b =
    fair_first
    ((b == 124, binary binary.BitOr) ∷ (b == 94, binary binary.BitXor) ∷ (b == 38, binary binary.BitAnd) ∷ (b == 60, binary binary.Lt) ∷ (b == 62, binary binary.Gt)
    ∷ (b == 43, binary binary.Add) ∷ (b == 45, binary binary.Sub) ∷ (b == 42, binary binary.Mul) ∷ (b == 47, binary binary.Div) ∷ (b == 37, binary binary.Rem)
    ∷ (b == 33, prefix prefix.Not) ∷ (b == 126, prefix prefix.Flip) ∷ (b == 40, open_mark) ∷ (b == 41, close_mark) ∷ [])
    unknown
    (tt, (tt, (tt, (tt, (tt, (tt, (tt, (tt, (tt, (tt, (tt, (tt, (tt, (tt, tt))))))))))))))
    tt

fair_before : (a : ℕ) → IsFairSymbol (mark_before_equals a)
unfolding mark_before_equals
fair_before a = fair_first ((a == 33, binary binary.Ne) ∷ (a == 60, binary binary.Le) ∷ (a == 62, binary binary.Ge) ∷ []) (binary binary.Eq) (tt, (tt, (tt, tt))) tt

fair_twice : (a : ℕ) → IsFairSymbol (mark_twice a)
unfolding mark_twice
fair_twice a = fair_first ((a == 124, binary binary.Or) ∷ (a == 38, binary binary.And) ∷ (a == 60, binary binary.Shl) ∷ []) (binary binary.Shr) (tt, (tt, (tt, tt))) tt

fair_mark : (m : List ℕ) → IsFairSymbol (mark_symbol m)
unfolding mark_symbol
fair_mark m =
    if_holds IsFairSymbol (length m == 2) (if slice_index m 1 == 61 then mark_before_equals (slice_index m 0) else mark_twice (slice_index m 0)) (one_mark (slice_index m 0))
    (if_holds IsFairSymbol (slice_index m 1 == 61) (mark_before_equals (slice_index m 0)) (mark_twice (slice_index m 0)) (fair_before (slice_index m 0)) (fair_twice (slice_index m 0)))
    (fair_one (slice_index m 0))

fair_symbol : (kind : TokenKind) (bytes : List ℕ) → IsFairSymbol (symbol_of kind bytes)
unfolding symbol_of word_symbol
fair_symbol kinds.Word bytes = fair_meant bytes
fair_symbol kinds.Number bytes = fair_numeral (number_of bytes)
fair_symbol kinds.Quoted bytes = tt
fair_symbol kinds.Mark bytes = fair_mark bytes

fair_symbols : (text : List ℕ) (tokens : List Token) → AreFairSymbols (map (symbol_at text) tokens)
fair_symbols text [] = tt
fair_symbols text (token ∷ tokens) = (fair_symbol token.kind (bytes_at text (token_span token)), fair_symbols text tokens)

-- Values of texts.

-- the code of an outcome has a name
abbrev pub HasNameCode : {T : Type 0} → Result T ℕ → Type 0
HasNameCode (Ok x) = Unit {0}
HasNameCode (Err code) = IsNameCode code

answered_named : (found : Option Outcome) → IsFairFound found → HasNameCode (answered found)
answered_named None f = bad_expression_named
answered_named (Some ill) f = bad_expression_named
answered_named (Some (faulty code)) f = f
answered_named (Some (number n)) f = tt
answered_named (Some (word w)) f = tt

tokens_named : (text : List ℕ) (t : Bool) → HasNameCode (value_of_tokens text (if t then Err (open_quote text) else Ok (tokens_after 0 0 text)))
tokens_named text true = open_quote_named
tokens_named text false = let symbols = map (symbol_at text) (tokens_after 0 0 text) in
    answered_named (run (Some (wanting [])) symbols) (fair_run (Some (wanting [])) symbols (tt, tt) (fair_symbols text (tokens_after 0 0 text)))

pub text_value_named : (text : List ℕ) → HasNameCode (value_of_text text)
unfolding value_of_text tokens_of
text_value_named text = tokens_named text (ends_quoted text)

faulted_fails : (at : Place) (text : List ℕ) (r : Result Value ℕ) → HasNameCode r → FailsByName (faulted at text r)
faulted_fails at text (Ok x) n = tt
faulted_fails at text (Err code) n = n

pub evaluation_fails : (at : Place) (text : List ℕ) (macros : List Macro) → FailsByName (evaluation at text macros)
unfolding evaluation
evaluation_fails at text macros = faulted_fails at text (value_of_text (replaced Zero macros text)) (text_value_named (replaced Zero macros text))
