-- Terms of an expression: AND and OR of one precedence from the left, NOT tighter, parentheses.
use Rattle.std.specs.Prelude.{◌≡◌, ◌↔◌, Bool, IsTrue, ℕ, List, [], ◌∷◌, ◌++◌, Option, Some, None, if◌then◌else◌}
use Rattle.build_base.specs.declared.guid.Guid.{Guid}
use Rattle.depex_code.specs.declared.token.Token.{Token}
use Rattle.depex_code.specs.declared.token.Token.TheVariants as token
use Rattle.depex_code.specs.declared.token.Joiner.{Joiner}
use Rattle.depex_code.specs.declared.token.Joiner.TheVariants.{And, Or}
use Rattle.depex_code.specs.declared.token.Prefix.{Prefix}
use Rattle.depex_code.specs.declared.token.Prefix.TheVariants.{Not, Sor}
use Rattle.depex_code.specs.declared.token.Edge.{Edge}
use Rattle.depex_code.specs.declared.token.Edge.TheVariants.{Before, After}
use Rattle.depex_code.specs.Tree.{Tree, push, both, either, neg, truth, falsity, before, after, sor}

-- an expression as it is written
pub data Term : Type 0 where
  named : Option Guid → Term
  constant : Bool → Term
  edged : Edge → Option Guid → Term
  prefixed : Prefix → Term → Term
  joined : Term → Joiner → Term → Term
  grouped : Term → Term

abbrev pub spelling : Term → List Token
spelling (named g) = token.Name g ∷ []
spelling (constant b) = token.Constant b ∷ []
spelling (edged e g) = token.Edge e ∷ token.Name g ∷ []
spelling (prefixed p t) = token.Prefix p ∷ spelling t
spelling (joined l op r) = spelling l ++ token.Joiner op ∷ spelling r
spelling (grouped t) = token.Open ∷ spelling t ++ token.Close ∷ []

-- what no joiner is the outermost part of
abbrev pub IsFactor : Term → Type 0
IsFactor (named g) = Unit {0}
IsFactor (constant b) = Unit {0}
IsFactor (edged e g) = Unit {0}
IsFactor (prefixed p t) = IsFactor t
IsFactor (joined l op r) = ⊥
IsFactor (grouped t) = Unit {0}

-- joiners group from the left, and a prefix takes the factor after it
abbrev pub Binds : Term → Type 0
Binds (named g) = Unit {0}
Binds (constant b) = Unit {0}
Binds (edged e g) = Unit {0}
Binds (prefixed p t) = IsFactor t × Binds t
Binds (joined l op r) = Binds l × IsFactor r × Binds r
Binds (grouped t) = Binds t

-- a name without a GUID has no tree in the end
abbrev pub name_tree : Option Guid → Tree
name_tree None = falsity
name_tree (Some guid) = push guid.0

abbrev pub guid_bytes : Option Guid → List ℕ
guid_bytes None = []
guid_bytes (Some guid) = guid.0

abbrev pub edge_tree : Edge → Option Guid → Tree
edge_tree Before g = before (guid_bytes g)
edge_tree After g = after (guid_bytes g)

abbrev pub prefix_tree : Prefix → Tree → Tree
prefix_tree Not t = neg t
prefix_tree Sor t = sor t

abbrev pub join_tree : Joiner → Tree → Tree → Tree
join_tree And a b = both a b
join_tree Or a b = either a b

abbrev pub meaning : Term → Tree
meaning (named g) = name_tree g
meaning (constant b) = if b then truth else falsity
meaning (edged e g) = edge_tree e g
meaning (prefixed p t) = prefix_tree p (meaning t)
meaning (joined l op r) = join_tree op (meaning l) (meaning r)
meaning (grouped t) = meaning t

pub record IsTerm (tokens : List Token) (t : Term) : Type 0 where
  pub spelled : tokens ≡ spelling t
  pub binds : Binds t

-- The tree that the terms stand for, or none. However the terms are read, they mean that tree.
abbrev pub StandsFor : List Token → Option Tree → Type 0
StandsFor tokens (Some v) =
    (t : Term) × IsTerm tokens t × (meaning t ≡ v) × ((u : Term) → IsTerm tokens u → meaning u ≡ v)
StandsFor tokens None = (t : Term) → IsTerm tokens t → ⊥

-- an expression begins with these terms
abbrev pub IsBegun : List Token → Type 0
IsBegun tokens = (more : List Token) × (t : Term) × IsTerm (tokens ++ more) t

-- two functions that decide the grammar
pub record IsGrammar (expression : List Token → Option Tree) (is_begun : List Token → Bool)
    : Type 0 where
  pub stands : (tokens : List Token) → StandsFor tokens (expression tokens)
  pub begins : (tokens : List Token) → IsTrue (is_begun tokens) ↔ IsBegun tokens
