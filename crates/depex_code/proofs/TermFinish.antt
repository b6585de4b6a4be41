-- A state that is not wrong has an end: the first wrong term is the first that no expression goes on with.
use Rattle.std.proofs.Common.{◌≡◌, true, IsTrue, List, [], ◌∷◌, ◌++◌, None, refl, sym, ap, ◌∙◌}
use Rattle.depex_code.specs.declared.token.Token.{Token}
use Rattle.depex_code.specs.declared.token.Token.TheVariants as token
use Rattle.depex_code.specs.Tree.{Tree, truth}
use Rattle.depex_code.specs.Grammar.{meaning, IsBegun, prefix_tree, join_tree, IsGrammar}
use Rattle.depex_code.specs.Terms.{trees, Wait, group, front, left, State, wanting, pointing, holding, wrong, settle, closed, step, read, is_right, expression, is_begun}
use Rattle.depex_code.proofs.TermReads.{Base, settle-base, read-none, read-more, read-append, read-wrong, complete, sound, read-stands}

-- a joiner waits on a parenthesis or on nothing
abbrev Neat : List (Wait Tree) → Type 0
Neat [] = Unit {0}
Neat (group ∷ ws) = Neat ws
Neat (front p ∷ ws) = Neat ws
Neat (left a op ∷ ws) = Base ws × Neat ws

-- a step that is not wrong leads to such a state
abbrev Neatly : State Tree → Type 0
Neatly wrong = Unit {0}
Neatly (wanting ws) = Neat ws
Neatly (pointing e ws) = Neat ws
Neatly (holding ws v) = Base ws × Neat ws

record Finish (s : State Tree) : Type 0 where
  more : List Token
  tree : Tree
  ends : read trees s more ≡ holding [] tree

finish-settle : (ws : List (Wait Tree)) (v : Tree) → Neat ws → Finish (settle trees ws v)
finish-settle [] v n = record { more = []; tree = v; ends = read-none trees (holding [] v) }
finish-settle (group ∷ ws) v n =
    let r = finish-settle ws v n in
    record { more = token.Close ∷ r.more; tree = r.tree; ends = read-more trees (holding (group ∷ ws) v) token.Close r.more ∙ r.ends }
finish-settle (front p ∷ ws) v n = finish-settle ws (prefix_tree p v) n
finish-settle (left a op ∷ ws) v n =
    let r = finish-settle ws (join_tree op a v) n.1 in
    record { more = r.more; tree = r.tree; ends = ap (λ s. read trees s r.more) (sym (settle-base ws (join_tree op a v) n.0)) ∙ r.ends }

finish-wanting : (ws : List (Wait Tree)) → Neat ws → Finish (wanting ws)
finish-wanting ws n =
    let r = finish-settle ws truth n in
    record { more = token.Constant true ∷ r.more; tree = r.tree; ends = read-more trees (wanting ws) (token.Constant true) r.more ∙ r.ends }

finishes : (s : State Tree) → Neatly s → IsTrue (is_right s) → Finish s
finishes wrong n i = absurd (cc)
finishes (wanting ws) n i = finish-wanting ws n
finishes (pointing e ws) n i =
    let r = finish-settle ws (trees.edge e None) n in
    record { more = token.Name None ∷ r.more; tree = r.tree; ends = read-more trees (pointing e ws) (token.Name None) r.more ∙ r.ends }
finishes (holding ws v) n i =
    let r = finish-settle ws v n.1 in
    record { more = r.more; tree = r.tree; ends = ap (λ s. read trees s r.more) (sym (settle-base ws v n.0)) ∙ r.ends }

neat-settle : (ws : List (Wait Tree)) (v : Tree) → Neat ws → Neatly (settle trees ws v)
neat-settle [] v n = (tt, tt)
neat-settle (group ∷ ws) v n = (tt, n)
neat-settle (front p ∷ ws) v n = neat-settle ws (prefix_tree p v) n
neat-settle (left a op ∷ ws) v n = (n.0, n.1)

neat-closed : (ws : List (Wait Tree)) (v : Tree) → Neat ws → Neatly (closed trees ws v)
neat-closed [] v n = tt
neat-closed (group ∷ ws) v n = neat-settle ws v n
neat-closed (front p ∷ ws) v n = tt
neat-closed (left a op ∷ ws) v n = tt

neat-step : (s : State Tree) (k : Token) → Neatly s → Neatly (step trees s k)
neat-step wrong k n = tt
neat-step (wanting ws) (token.Name g) n = neat-settle ws (trees.name g) n
neat-step (wanting ws) (token.Constant b) n = neat-settle ws (trees.constant b) n
neat-step (wanting ws) (token.Edge e) n = n
neat-step (wanting ws) (token.Joiner op) n = tt
neat-step (wanting ws) (token.Prefix p) n = n
neat-step (wanting ws) token.Open n = n
neat-step (wanting ws) token.Close n = tt
neat-step (pointing e ws) (token.Name g) n = neat-settle ws (trees.edge e g) n
neat-step (pointing e ws) (token.Constant b) n = tt
neat-step (pointing e ws) (token.Edge f) n = tt
neat-step (pointing e ws) (token.Joiner op) n = tt
neat-step (pointing e ws) (token.Prefix p) n = tt
neat-step (pointing e ws) token.Open n = tt
neat-step (pointing e ws) token.Close n = tt
neat-step (holding ws v) (token.Joiner op) n = n
neat-step (holding ws v) token.Close n = neat-closed ws v n.1
neat-step (holding ws v) (token.Name g) n = tt
neat-step (holding ws v) (token.Constant b) n = tt
neat-step (holding ws v) (token.Edge e) n = tt
neat-step (holding ws v) (token.Prefix p) n = tt
neat-step (holding ws v) token.Open n = tt

neat-read : (tokens : List Token) (s : State Tree) → Neatly s → Neatly (read trees s tokens)
unfolding read
neat-read [] s n = n
neat-read (k ∷ ks) s n = neat-read ks (step trees s k) (neat-step s k n)

begun : (tokens : List Token) → IsTrue (is_right (read trees (wanting []) tokens)) → IsBegun tokens
begun tokens i =
    let f = finishes (read trees (wanting []) tokens) (neat-read tokens (wanting []) tt) i in
    let t = sound (tokens ++ f.more) f.tree (read-append trees (wanting []) tokens f.more ∙ f.ends) in
    (f.more, t.0, t.1)

right : (s : State Tree) (more : List Token) (v : Tree) → read trees s more ≡ holding [] v → IsTrue (is_right s)
right wrong more v e = let f : wrong ≡ holding [] v = sym (read-wrong trees more) ∙ e in absurd (cc)
right (wanting ws) more v e = refl
right (pointing d ws) more v e = refl
right (holding ws w) more v e = refl

goes_on : (tokens : List Token) → IsBegun tokens → IsTrue (is_right (read trees (wanting []) tokens))
goes_on tokens b =
    right (read trees (wanting []) tokens) b.0 (meaning b.1) (sym (read-append trees (wanting []) tokens b.0) ∙ complete (tokens ++ b.0) b.1 b.2)

-- the machine decides the grammar
pub grammar : IsGrammar expression is_begun
unfolding expression is_begun
grammar = record { stands = read-stands; begins = λ tokens. (begun tokens, goes_on tokens) }
