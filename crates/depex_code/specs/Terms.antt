-- A machine that reads terms one by one, with values of any kind. With trees as values it decides
-- the grammar: `expression` gives the tree that the terms stand for, and `is_begun` whether an
-- expression begins with them. What they mean is said by `IsGrammar` of Grammar.antt.
use Rattle.std.specs.Prelude.{Bool, true, false, List, [], ◌∷◌, Option, Some, None, if◌then◌else◌}
use Rattle.build_base.specs.declared.guid.Guid.{Guid}
use Rattle.depex_code.specs.declared.token.Token.{Token}
use Rattle.depex_code.specs.declared.token.Token.TheVariants as token
use Rattle.depex_code.specs.declared.token.Joiner.{Joiner}
use Rattle.depex_code.specs.declared.token.Prefix.{Prefix}
use Rattle.depex_code.specs.declared.token.Edge.{Edge}
use Rattle.depex_code.specs.Tree.{Tree, truth, falsity}
use Rattle.depex_code.specs.Grammar.{name_tree, edge_tree, prefix_tree, join_tree}

-- how values are made
pub record Makes (V : Type 0) : Type 0 where
  pub name : Option Guid → V
  pub constant : Bool → V
  pub edge : Edge → Option Guid → V
  pub prefix : Prefix → V → V
  pub join : Joiner → V → V → V

abbrev pub trees : Makes Tree
trees = record {
  name = name_tree;
  constant = λ b. if b then truth else falsity;
  edge = edge_tree;
  prefix = prefix_tree;
  join = join_tree;
}

-- what waits for an operand
pub data Wait (V : Type 0) : Type 0 where
  group : Wait V
  front : Prefix → Wait V
  left : V → Joiner → Wait V

-- the innermost wait first
pub data State (V : Type 0) : Type 0 where
  wanting : List (Wait V) → State V
  pointing : Edge → List (Wait V) → State V
  holding : List (Wait V) → V → State V
  wrong : State V

-- a factor is whole: the prefixes and the joiner before it take it
abbrev pub settle : {V : Type 0} → Makes V → List (Wait V) → V → State V
settle m [] v = holding [] v
settle m (group ∷ ws) v = holding (group ∷ ws) v
settle m (front p ∷ ws) v = settle m ws (m.prefix p v)
settle m (left a op ∷ ws) v = holding ws (m.join op a v)

abbrev pub closed : {V : Type 0} → Makes V → List (Wait V) → V → State V
closed m [] v = wrong
closed m (group ∷ ws) v = settle m ws v
closed m (front p ∷ ws) v = wrong
closed m (left a op ∷ ws) v = wrong

abbrev pub step : {V : Type 0} → Makes V → State V → Token → State V
step m (wanting ws) (token.Name g) = settle m ws (m.name g)
step m (wanting ws) (token.Constant b) = settle m ws (m.constant b)
step m (wanting ws) (token.Edge e) = pointing e ws
step m (wanting ws) (token.Joiner op) = wrong
step m (wanting ws) (token.Prefix p) = wanting (front p ∷ ws)
step m (wanting ws) token.Open = wanting (group ∷ ws)
step m (wanting ws) token.Close = wrong
step m (pointing e ws) (token.Name g) = settle m ws (m.edge e g)
step m (pointing e ws) (token.Constant b) = wrong
step m (pointing e ws) (token.Edge f) = wrong
step m (pointing e ws) (token.Joiner op) = wrong
step m (pointing e ws) (token.Prefix p) = wrong
step m (pointing e ws) token.Open = wrong
step m (pointing e ws) token.Close = wrong
step m (holding ws v) (token.Name g) = wrong
step m (holding ws v) (token.Constant b) = wrong
step m (holding ws v) (token.Edge e) = wrong
step m (holding ws v) (token.Joiner op) = wanting (left v op ∷ ws)
step m (holding ws v) (token.Prefix p) = wrong
step m (holding ws v) token.Open = wrong
step m (holding ws v) token.Close = closed m ws v
step m wrong k = wrong

unfoldable pub read : {V : Type 0} → Makes V → State V → List Token → State V
read m s [] = s
read m s (k ∷ ks) = read m (step m s k) ks

abbrev pub ended : {V : Type 0} → State V → Option V
ended (holding [] v) = Some v
ended (holding (w ∷ ws) v) = None
ended (wanting ws) = None
ended (pointing e ws) = None
ended wrong = None

abbrev pub is_right : {V : Type 0} → State V → Bool
is_right wrong = false
is_right (wanting ws) = true
is_right (pointing e ws) = true
is_right (holding ws v) = true

unfoldable pub expression : List Token → Option Tree
expression tokens = ended (read trees (wanting []) tokens)

unfoldable pub is_begun : List Token → Bool
is_begun tokens = is_right (read trees (wanting []) tokens)
