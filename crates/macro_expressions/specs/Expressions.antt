-- What an expression comes to, from its text.
use Rattle.std.specs.Prelude.{◌≡◌, ◌⊎◌, ℕ, true, false, ◌==◌, if◌then◌else◌, List, [], ◌∷◌, length, slice_index, map, codes, Option, Some, None, Result, Ok, Err}
use Rattle.build_base.specs.declared.fault.Fault.{Fault}
use Rattle.build_base.specs.declared.fault.Place.{Place}
use Rattle.build_base.specs.declared.lines.Macro.{Macro}
use Rattle.build_base.specs.declared.refusal.Refusal.{Refusal}
use Rattle.build_base.specs.declared.refusal.Refusal.TheVariants.{Bad, WantOfMemory}
use Rattle.build_base.specs.FaultText.{fault_of}
use Rattle.meta_lexer.specs.declared.token.Token.{Token}
use Rattle.meta_lexer.specs.declared.token.TokenKind.{TokenKind}
use Rattle.meta_lexer.specs.declared.token.TokenKind.TheVariants as kinds
use Rattle.meta_lexer.specs.Faults.{Spot}
use Rattle.meta_lexer.specs.Numbers.{number_of}
use Rattle.meta_lexer.specs.Lookup.{lookup}
use Rattle.meta_lexer.specs.Heads.{without_quotes}
use Rattle.meta_lexer.specs.Fields.{ends_quoted, bytes_at}
use Rattle.meta_lexer.specs.Tokens.{tokens_after, tokens_of, token_span}
use Rattle.macro_expressions.specs.declared.operator.BinaryOperator.TheVariants as operators
use Rattle.macro_expressions.specs.declared.operator.PrefixOperator.TheVariants as prefixes
use Rattle.macro_expressions.specs.declared.operator.Keyword.{Keyword}
use Rattle.macro_expressions.specs.declared.operator.Keyword.TheVariants as keyword
use Rattle.macro_expressions.specs.declared.macros.Undefined.TheVariants.{Zero}
use Rattle.macro_expressions.specs.declared.expression.Value.{Value}
use Rattle.macro_expressions.specs.declared.expression.Value.TheVariants.{Number, Word}
use Rattle.macro_expressions.specs.Macros.{replaced}
use Rattle.macro_expressions.specs.Values.{Outcome, word, number, faulty, ill}
use Rattle.macro_expressions.specs.ExpressionTree.{Symbol, value, binary, prefix, open_mark, close_mark, unknown, HasValue, IsNoExpression}
use Rattle.macro_expressions.specs.ExpressionMachine.{wanting, run}
use Rattle.build_base.specs.FaultCodes.{BAD_EXPRESSION, OPEN_QUOTE, VALUE_RANGE}

-- a numeral past 64 bits is out of range
abbrev pub numeral : Option ℕ → Outcome
numeral None = faulty VALUE_RANGE
numeral (Some n) = number n

-- the words with a meaning of their own
abbrev pub keywords : List (List ℕ × Keyword)
keywords =
    (codes "TRUE", keyword.Number 1) ∷ (codes "FALSE", keyword.Number 0) ∷
    (codes "OR", keyword.Binary operators.Or) ∷ (codes "AND", keyword.Binary operators.And) ∷
    (codes "EQ", keyword.Binary operators.Eq) ∷ (codes "NE", keyword.Binary operators.Ne) ∷
    (codes "LT", keyword.Binary operators.Lt) ∷ (codes "LE", keyword.Binary operators.Le) ∷
    (codes "GT", keyword.Binary operators.Gt) ∷ (codes "GE", keyword.Binary operators.Ge) ∷
    (codes "NOT", keyword.Prefix prefixes.Not) ∷ []

unfoldable pub keyword_named : List ℕ → Option Keyword
keyword_named w = lookup keywords w

abbrev pub meant : List ℕ → Option Keyword → Symbol
meant w (Some (keyword.Number n)) = value (number n)
meant w (Some (keyword.Binary op)) = binary op
meant w (Some (keyword.Prefix op)) = prefix op
meant w None = value (word w)

-- a bare word: one of these, without regard to case, or a text
unfoldable pub word_symbol : List ℕ → Symbol
word_symbol w = meant w (keyword_named w)

-- `|`, `^`, `&`, `<`, `>`, `+`, `-`, `*`, `/`, `%`, `!`, `~`, `(` and `)`
unfoldable pub one_mark : ℕ → Symbol
one_mark b =
    if b == 124 then binary operators.BitOr
    else if b == 94 then binary operators.BitXor
    else if b == 38 then binary operators.BitAnd
    else if b == 60 then binary operators.Lt
    else if b == 62 then binary operators.Gt
    else if b == 43 then binary operators.Add
    else if b == 45 then binary operators.Sub
    else if b == 42 then binary operators.Mul
    else if b == 47 then binary operators.Div
    else if b == 37 then binary operators.Rem
    else if b == 33 then prefix prefixes.Not
    else if b == 126 then prefix prefixes.Flip
    else if b == 40 then open_mark
    else if b == 41 then close_mark
    else unknown

-- `!=`, `<=`, `>=` and `==`
unfoldable pub mark_before_equals : ℕ → Symbol
mark_before_equals a =
    if a == 33 then binary operators.Ne
    else if a == 60 then binary operators.Le
    else if a == 62 then binary operators.Ge
    else binary operators.Eq

-- `||`, `&&`, `<<` and `>>`
unfoldable pub mark_twice : ℕ → Symbol
mark_twice a =
    if a == 124 then binary operators.Or
    else if a == 38 then binary operators.And
    else if a == 60 then binary operators.Shl
    else binary operators.Shr

unfoldable pub mark_symbol : List ℕ → Symbol
mark_symbol m =
    if length m == 2
    then (if slice_index m 1 == 61 then mark_before_equals (slice_index m 0)
    else mark_twice (slice_index m 0))
    else one_mark (slice_index m 0)

unfoldable pub symbol_of : TokenKind → List ℕ → Symbol
symbol_of kinds.Word bytes = word_symbol bytes
symbol_of kinds.Number bytes = value (numeral (number_of bytes))
symbol_of kinds.Quoted bytes = value (word (without_quotes bytes))
symbol_of kinds.Mark bytes = mark_symbol bytes

abbrev pub symbol_at : List ℕ → Token → Symbol
symbol_at text token = symbol_of token.kind (bytes_at text (token_span token))

-- the symbols of a text
abbrev pub symbols_of : List ℕ → List Symbol
symbols_of text = map (symbol_at text) (tokens_after 0 0 text)

-- a value, or the code of a fault
abbrev pub answered : Option Outcome → Result Value ℕ
answered None = Err BAD_EXPRESSION
answered (Some ill) = Err BAD_EXPRESSION
answered (Some (faulty code)) = Err code
answered (Some (number n)) = Ok (Number n)
answered (Some (word w)) = Ok (Word w)

-- what a text without macros comes to
abbrev pub value_of_tokens : List ℕ → Result (List Token) Spot → Result Value ℕ
value_of_tokens text (Ok tokens) = answered (run (Some (wanting [])) (map (symbol_at text) tokens))
value_of_tokens text (Err spot) = Err spot.code

unfoldable pub value_of_text : List ℕ → Result Value ℕ
value_of_text text = value_of_tokens text (tokens_of text)

-- the detail of a fault: the open quote, or the expression as written
abbrev pub detail_of : ℕ → List ℕ → List ℕ
detail_of code text = if code == OPEN_QUOTE then codes "\"" else text

abbrev pub faulted : Place → List ℕ → Result Value ℕ → Result Value Fault
faulted at text (Ok v) = Ok v
faulted at text (Err code) = Err (fault_of code at (detail_of code text))

-- what an expression comes to: macros are replaced first, and one that isn't defined is 0
unfoldable pub evaluation : Place → List ℕ → List Macro → Result Value Fault
evaluation at text ms = faulted at text (value_of_text (replaced Zero ms text))

-- The value is that of a tree of the expression. 111 stands for an open quote, 124 where no tree
-- has a value, and any other code where a tree comes to that fault first.
abbrev pub IsValueOf : List ℕ → Result Value ℕ → Type 0
IsValueOf text (Ok (Number n)) = (ends_quoted text ≡ false) × HasValue (symbols_of text) (number n)
IsValueOf text (Ok (Word w)) = (ends_quoted text ≡ false) × HasValue (symbols_of text) (word w)
IsValueOf text (Err code) =
    ((code ≡ OPEN_QUOTE) × (ends_quoted text ≡ true))
    ⊎ ((code ≡ BAD_EXPRESSION) × (ends_quoted text ≡ false) × IsNoExpression (symbols_of text))
    ⊎ ((ends_quoted text ≡ false) × HasValue (symbols_of text) (faulty code))

abbrev pub IsMeaningOf : List ℕ → Result Value Refusal → Type 0
IsMeaningOf text (Ok v) = IsValueOf text (Ok v)
IsMeaningOf text (Err (Bad fault)) = IsValueOf text (Err fault.code)
IsMeaningOf text (Err WantOfMemory) = Unit {0}
