-- The grammar of expressions, by trees.
use Rattle.std.specs.Prelude.{◌≡◌, ℕ, ◌+◌, ◌≤◌, max, List, [], ◌∷◌, ◌++◌}
use Rattle.macro_expressions.specs.declared.operator.BinaryOperator.{BinaryOperator}
use Rattle.macro_expressions.specs.declared.operator.PrefixOperator.{PrefixOperator}
use Rattle.macro_expressions.specs.declared.operand.Term.{Term}
use Rattle.macro_expressions.specs.declared.operand.Term.TheVariants as terms
use Rattle.macro_expressions.specs.Values.{Outcome, ill, level, apply, apply_prefix, view}

pub data Symbol : Type 0 where
  value : Outcome → Symbol
  binary : BinaryOperator → Symbol
  prefix : PrefixOperator → Symbol
  open_mark : Symbol
  close_mark : Symbol
  -- a mark that belongs to no expression
  unknown : Symbol

pub data Tree : Type 0 where
  leaf : Outcome → Tree
  prefixed : PrefixOperator → Tree → Tree
  joined : Tree → BinaryOperator → Tree → Tree
  grouped : Tree → Tree

-- the terms of a tree
abbrev pub spelling : Tree → List Symbol
spelling (leaf v) = value v ∷ []
spelling (prefixed op t) = prefix op ∷ spelling t
spelling (joined l op r) = spelling l ++ binary op ∷ spelling r
spelling (grouped t) = open_mark ∷ spelling t ++ close_mark ∷ []

-- The tree may stand where an operator of the level n or above it is wanted. The left operand may
-- have its operator's own level, the right one is above it: so operators group from the left.
abbrev pub Binds : ℕ → Tree → Type 0
Binds n (leaf v) = Unit {0}
Binds n (prefixed op t) = Binds 10 t
Binds n (joined l op r) = (n ≤ level op) × Binds (level op) l × Binds (level op + 1) r
Binds n (grouped t) = Binds 0 t

-- how many parentheses and prefix operators are open at one place
abbrev pub nesting : Tree → ℕ
nesting (leaf v) = 0
nesting (prefixed op t) = nesting t + 1
nesting (joined l op r) = max (nesting l) (nesting r)
nesting (grouped t) = nesting t + 1

abbrev pub value_of : Tree → Outcome
value_of (leaf v) = v
value_of (prefixed op t) = apply_prefix op (value_of t)
value_of (joined l op r) = apply op (value_of l) (value_of r)
value_of (grouped t) = value_of t

-- the terms are those of the tree, which is in the grammar
pub record IsTree (terms : List Symbol) (t : Tree) : Type 0 where
  pub spelled : terms ≡ spelling t
  pub binds : Binds 0 t
  pub shallow : nesting t ≤ 64

abbrev pub term_view : Term → Symbol
term_view (terms.Value o) = value (view o)
term_view (terms.Binary op) = binary op
term_view (terms.Prefix op) = prefix op
term_view terms.Open = open_mark
term_view terms.Close = close_mark
term_view terms.Unknown = unknown

-- the terms of an expression have no tree in which each operator has operands of its kind
abbrev pub IsNoExpression : List Symbol → Type 0
IsNoExpression ts = (t : Tree) → IsTree ts t → value_of t ≡ ill

abbrev pub HasValue : List Symbol → Outcome → Type 0
HasValue ts v = (t : Tree) × IsTree ts t × (value_of t ≡ v)
