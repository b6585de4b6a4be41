-- Values of expressions, and what the operators make of them.
use Rattle.std.specs.Prelude.{ℕ, ◌+◌, ◌-◌, ◌*◌, ◌/◌, ◌%◌, ◌^◌, Bool, true, false, ◌&&◌, ◌||◌, not, nat_lt, nat_le, ◌==◌, if◌then◌else◌, List, bit_and, bit_or, bit_xor}
use Rattle.std.specs.Cmp.Lexicographic.{pointwise}
use Rattle.macro_expressions.specs.declared.operator.BinaryOperator.{BinaryOperator}
use Rattle.macro_expressions.specs.declared.operator.BinaryOperator.TheVariants as binary
use Rattle.macro_expressions.specs.declared.operator.PrefixOperator.{PrefixOperator}
use Rattle.macro_expressions.specs.declared.operator.PrefixOperator.TheVariants as prefix
use Rattle.macro_expressions.specs.declared.operand.Operand.{Operand}
use Rattle.macro_expressions.specs.declared.operand.Operand.TheVariants as operand
use Rattle.build_base.specs.FaultCodes.{VALUE_RANGE, ZERO_DIVISOR}

-- A text, a number, the fault 125 or 126 that comes first in the expression, or nothing, where a
-- text stands in the place of a number.
pub data Outcome : Type 0 where
  word : List ℕ → Outcome
  number : ℕ → Outcome
  faulty : ℕ → Outcome
  ill : Outcome

abbrev pub truth : Bool → Outcome
truth true = number 1
truth false = number 0

abbrev pub fitting : ℕ → Outcome
fitting n = if nat_lt n (2 ^ 64) then number n else faulty VALUE_RANGE

-- the operators on two numbers
abbrev pub on_numbers : BinaryOperator → ℕ → ℕ → Outcome
on_numbers binary.Or a b = truth (not (a == 0) || not (b == 0))
on_numbers binary.And a b = truth (not (a == 0) && not (b == 0))
on_numbers binary.BitOr a b = number (bit_or a b)
on_numbers binary.BitXor a b = number (bit_xor a b)
on_numbers binary.BitAnd a b = number (bit_and a b)
on_numbers binary.Eq a b = truth (a == b)
on_numbers binary.Ne a b = truth (not (a == b))
on_numbers binary.Lt a b = truth (nat_lt a b)
on_numbers binary.Le a b = truth (nat_le a b)
on_numbers binary.Gt a b = truth (nat_lt b a)
on_numbers binary.Ge a b = truth (nat_le b a)
on_numbers binary.Shl a b = fitting (a * 2 ^ b)
on_numbers binary.Shr a b = number (a / 2 ^ b)
on_numbers binary.Add a b = fitting (a + b)
on_numbers binary.Sub a b = if nat_lt a b then faulty VALUE_RANGE else number (a - b)
on_numbers binary.Mul a b = fitting (a * b)
on_numbers binary.Div a b = if b == 0 then faulty ZERO_DIVISOR else number (a / b)
on_numbers binary.Rem a b = if b == 0 then faulty ZERO_DIVISOR else number (a % b)

-- ten levels, the weakest first
abbrev pub level : BinaryOperator → ℕ
level binary.Or = 0
level binary.And = 1
level binary.BitOr = 2
level binary.BitXor = 3
level binary.BitAnd = 4
level binary.Eq = 5
level binary.Ne = 5
level binary.Lt = 6
level binary.Le = 6
level binary.Gt = 6
level binary.Ge = 6
level binary.Shl = 7
level binary.Shr = 7
level binary.Add = 8
level binary.Sub = 8
level binary.Mul = 9
level binary.Div = 9
level binary.Rem = 9

-- the operators that compare texts
abbrev pub on_texts : BinaryOperator → Bool → Outcome
on_texts binary.Eq same = truth same
on_texts binary.Ne same = truth (not same)
on_texts _ same = ill

abbrev pub takes_texts : BinaryOperator → Bool
takes_texts op = level op == 5

abbrev pub is_number : Outcome → Bool
is_number (word w) = false
is_number (number n) = true
is_number (faulty c) = true
is_number ill = false

abbrev pub is_ill : Outcome → Bool
is_ill ill = true
is_ill _ = false

-- no text stands in the place of a number
abbrev pub kinds_fit : BinaryOperator → Outcome → Outcome → Bool
kinds_fit op l r = if takes_texts op then not (is_ill l) && not (is_ill r)
    else is_number l && is_number r

-- the fault of the left operand comes first, then that of the right one, then the operator's own
abbrev pub joined : BinaryOperator → Outcome → Outcome → Outcome
joined op (faulty c) r = faulty c
joined op (number a) (faulty c) = faulty c
joined op (number a) (number b) = on_numbers op a b
joined op (number a) (word w) = on_texts op false
joined op (number a) ill = ill
joined op (word v) (faulty c) = faulty c
joined op (word v) (number b) = on_texts op false
joined op (word v) (word w) = on_texts op (pointwise ◌==◌ v w)
joined op (word v) ill = ill
joined op ill r = ill

unfoldable pub apply : BinaryOperator → Outcome → Outcome → Outcome
apply op l r = if kinds_fit op l r then joined op l r else ill

unfoldable pub apply_prefix : PrefixOperator → Outcome → Outcome
apply_prefix op (word w) = ill
apply_prefix op ill = ill
apply_prefix op (faulty c) = faulty c
apply_prefix prefix.Not (number n) = truth (n == 0)
apply_prefix prefix.Flip (number n) = number (2 ^ 64 - 1 - n)

-- an operand without where its text lies
abbrev pub view : Operand → Outcome
view (operand.Word w) = word w.now
view (operand.Number n) = number n
view (operand.Error c) = faulty c
view operand.TypeError = ill
