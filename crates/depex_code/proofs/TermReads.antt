-- The machine reads exactly the terms of the grammar.
use Rattle.std.proofs.Common.{◌≡◌, ◌⊎◌, inl, inr, List, [], ◌∷◌, ◌++◌, Some, append_assoc, append-nil, refl, sym, ap, ◌∙◌, subst}
use Rattle.depex_code.specs.declared.token.Token.{Token}
use Rattle.depex_code.specs.declared.token.Token.TheVariants as token
use Rattle.depex_code.specs.Tree.{Tree}
use Rattle.depex_code.specs.Grammar.{Term, named, constant, edged, prefixed, joined, grouped, spelling, IsFactor, Binds, prefix_tree, join_tree, meaning, IsTerm, StandsFor}
use Rattle.depex_code.specs.Terms.{Makes, trees, Wait, group, front, left, State, wanting, pointing, holding, wrong, settle, closed, step, read, ended}

-- a joiner may follow here
abbrev pub Base : List (Wait Tree) → Type 0
Base [] = Unit {0}
Base (group ∷ ws) = Unit {0}
Base (front p ∷ ws) = ⊥
Base (left a op ∷ ws) = ⊥

pub settle-base : (ws : List (Wait Tree)) (v : Tree) → Base ws → settle trees ws v ≡ holding ws v
settle-base [] v b = refl
settle-base (group ∷ ws) v b = refl
settle-base (front p ∷ ws) v b = absurd b
settle-base (left a op ∷ ws) v b = absurd b

pub read-more : {V : Type 0} (m : Makes V) (s : State V) (k : Token) (ks : List Token) → read m s (k ∷ ks) ≡ read m (step m s k) ks
unfolding read
read-more m s k ks = refl

pub read-none : {V : Type 0} (m : Makes V) (s : State V) → read m s [] ≡ s
unfolding read
read-none m s = refl

pub read-append : {V : Type 0} (m : Makes V) (s : State V) (xs ys : List Token) → read m s (xs ++ ys) ≡ read m (read m s xs) ys
unfolding read
read-append m s [] ys = refl
read-append m s (x ∷ xs) ys = read-append m (step m s x) xs ys

pub read-wrong : {V : Type 0} (m : Makes V) (ks : List Token) → read m wrong ks ≡ wrong
unfolding read
read-wrong m [] = refl
read-wrong m (k ∷ ks) = read-wrong m ks

-- a factor anywhere, a term where a joiner may follow it
pub reads : (t : Term) (ws : List (Wait Tree)) (rest : List Token) → Binds t → IsFactor t ⊎ Base ws → read trees (wanting ws) (spelling t ++ rest) ≡ read trees (settle trees ws (meaning t)) rest
reads (named g) ws rest b o = read-more trees (wanting ws) (token.Name g) rest
reads (constant v) ws rest b o = read-more trees (wanting ws) (token.Constant v) rest
reads (edged e g) ws rest b o = read-more trees (wanting ws) (token.Edge e) (token.Name g ∷ rest) ∙ read-more trees (pointing e ws) (token.Name g) rest
reads (prefixed p t) ws rest b o = read-more trees (wanting ws) (token.Prefix p) (spelling t ++ rest) ∙ reads t (front p ∷ ws) rest b.1 (inl b.0)
reads (joined l op r) ws rest b (inl f) = absurd f
reads (joined l op r) ws rest b (inr o) =
    ap (read trees (wanting ws)) (append_assoc (spelling l) (token.Joiner op ∷ spelling r) rest)
    ∙ reads l ws (token.Joiner op ∷ spelling r ++ rest) b.0 (inr o)
    ∙ ap (λ s. read trees s (token.Joiner op ∷ spelling r ++ rest)) (settle-base ws (meaning l) o)
    ∙ read-more trees (holding ws (meaning l)) (token.Joiner op) (spelling r ++ rest)
    ∙ reads r (left (meaning l) op ∷ ws) rest b.2 (inl b.1)
    ∙ ap (λ s. read trees s rest) (sym (settle-base ws (join_tree op (meaning l) (meaning r)) o))
reads (grouped t) ws rest b o =
    read-more trees (wanting ws) token.Open ((spelling t ++ token.Close ∷ []) ++ rest)
    ∙ ap (read trees (wanting (group ∷ ws))) (append_assoc (spelling t) (token.Close ∷ []) rest)
    ∙ reads t (group ∷ ws) (token.Close ∷ rest) b (inr tt)
    ∙ read-more trees (holding (group ∷ ws) (meaning t)) token.Close rest

pub complete : (tokens : List Token) (t : Term) → IsTerm tokens t → read trees (wanting []) tokens ≡ holding [] (meaning t)
complete tokens t i =
    ap (read trees (wanting [])) (i.spelled ∙ sym (append-nil (spelling t))) ∙ reads t [] [] i.binds (inr tt) ∙ read-none trees (holding [] (meaning t))

-- the waits stand for the tokens
abbrev Waits : List (Wait Tree) → List Token → Type 0
Waits [] ts = ts ≡ []
Waits (group ∷ ws) ts = (us : List Token) × Waits ws us × (ts ≡ us ++ token.Open ∷ [])
Waits (front p ∷ ws) ts = (us : List Token) × Waits ws us × (ts ≡ us ++ token.Prefix p ∷ [])
Waits (left v op ∷ ws) ts = (us : List Token) × (t : Term) × Waits ws us × (ts ≡ us ++ (spelling t ++ token.Joiner op ∷ [])) × Binds t × (meaning t ≡ v) × Base ws

abbrev Good : List Token → State Tree → Type 0
Good ts (wanting ws) = Waits ws ts
Good ts (pointing e ws) = (us : List Token) × Waits ws us × (ts ≡ us ++ token.Edge e ∷ [])
Good ts (holding ws v) = (us : List Token) × (t : Term) × Waits ws us × (ts ≡ us ++ spelling t) × Binds t × (meaning t ≡ v) × Base ws
Good ts wrong = Unit {0}

-- a factor after what waits
good-settle : (ws : List (Wait Tree)) (v : Tree) (us ts : List Token) (t : Term) → Waits ws us → ts ≡ us ++ spelling t → IsFactor t → Binds t → meaning t ≡ v → Good ts (settle trees ws v)
good-settle [] v us ts t w e f b m = (us, t, w, e, b, m, tt)
good-settle (group ∷ ws) v us ts t w e f b m = (us, t, w, e, b, m, tt)
good-settle (front p ∷ ws) v us ts t w e f b m =
    good-settle ws (prefix_tree p v) w.0 ts (prefixed p t) w.1 (e ∙ ap (λ l. l ++ spelling t) w.2 ∙ append_assoc w.0 (token.Prefix p ∷ []) (spelling t)) f (f, b) (ap (prefix_tree p) m)
good-settle (left a op ∷ ws) v us ts t w e f b m = (
  w.0,
  joined w.1 op t,
  w.2,
  e ∙ ap (λ l. l ++ spelling t) w.3 ∙ append_assoc w.0 (spelling w.1 ++ token.Joiner op ∷ []) (spelling t) ∙ ap (λ l. w.0 ++ l) (append_assoc (spelling w.1) (token.Joiner op ∷ []) (spelling t)),
  (w.4, f, b),
  ap (λ x. join_tree op x (meaning t)) w.5 ∙ ap (join_tree op a) m,
  w.6,
)

good-closed : (ws : List (Wait Tree)) (v : Tree) (ts : List Token) → Good ts (holding ws v) → Good (ts ++ token.Close ∷ []) (closed trees ws v)
good-closed [] v ts g = tt
good-closed (front p ∷ ws) v ts g = tt
good-closed (left a op ∷ ws) v ts g = tt
good-closed (group ∷ ws) v ts g =
    let w = g.2 in
    good-settle ws v w.0 (ts ++ token.Close ∷ []) (grouped g.1) w.1
    (ap (λ l. l ++ token.Close ∷ []) (g.3 ∙ ap (λ l. l ++ spelling g.1) w.2 ∙ append_assoc w.0 (token.Open ∷ []) (spelling g.1)) ∙ append_assoc w.0 (token.Open ∷ spelling g.1) (token.Close ∷ []))
    tt g.4 g.5

good-step : (ts : List Token) (s : State Tree) (k : Token) → Good ts s → Good (ts ++ k ∷ []) (step trees s k)
good-step ts (wanting ws) (token.Name x) g = good-settle ws (trees.name x) ts (ts ++ token.Name x ∷ []) (named x) g refl tt tt refl
good-step ts (wanting ws) (token.Constant x) g = good-settle ws (trees.constant x) ts (ts ++ token.Constant x ∷ []) (constant x) g refl tt tt refl
good-step ts (wanting ws) (token.Edge e) g = (ts, g, refl)
good-step ts (wanting ws) (token.Joiner op) g = tt
good-step ts (wanting ws) (token.Prefix p) g = (ts, g, refl)
good-step ts (wanting ws) token.Open g = (ts, g, refl)
good-step ts (wanting ws) token.Close g = tt
good-step ts (pointing e ws) (token.Name x) g =
    good-settle ws (trees.edge e x) g.0 (ts ++ token.Name x ∷ []) (edged e x) g.1 (ap (λ l. l ++ token.Name x ∷ []) g.2 ∙ append_assoc g.0 (token.Edge e ∷ []) (token.Name x ∷ [])) tt tt refl
good-step ts (pointing e ws) (token.Constant x) g = tt
good-step ts (pointing e ws) (token.Edge f) g = tt
good-step ts (pointing e ws) (token.Joiner op) g = tt
good-step ts (pointing e ws) (token.Prefix p) g = tt
good-step ts (pointing e ws) token.Open g = tt
good-step ts (pointing e ws) token.Close g = tt
good-step ts (holding ws v) (token.Joiner op) g = (g.0, g.1, g.2, ap (λ l. l ++ token.Joiner op ∷ []) g.3 ∙ append_assoc g.0 (spelling g.1) (token.Joiner op ∷ []), g.4, g.5, g.6)
good-step ts (holding ws v) token.Close g = good-closed ws v ts g
good-step ts (holding ws v) (token.Name x) g = tt
good-step ts (holding ws v) (token.Constant x) g = tt
good-step ts (holding ws v) (token.Edge e) g = tt
good-step ts (holding ws v) (token.Prefix p) g = tt
good-step ts (holding ws v) token.Open g = tt
good-step ts wrong k g = tt

good-read : (ts more : List Token) (s : State Tree) → Good ts s → Good (ts ++ more) (read trees s more)
unfolding read
good-read ts [] s g = subst (λ l. Good l s) (sym (append-nil ts)) g
good-read ts (k ∷ more) s g = subst (λ l. Good l (read trees (step trees s k) more)) (append_assoc ts (k ∷ []) more) (good-read (ts ++ k ∷ []) more (step trees s k) (good-step ts s k g))

held-is : (a b : Tree) → holding [] a ≡ holding [] b → a ≡ b
held-is a b e = cc

pub sound : (tokens : List Token) (v : Tree) → read trees (wanting []) tokens ≡ holding [] v → StandsFor tokens (Some v)
sound tokens v e =
    let g : Good tokens (holding [] v) = subst (λ s. Good tokens s) e (good-read [] tokens (wanting []) refl) in
    (g.1, record { spelled = g.3 ∙ ap (λ l. l ++ spelling g.1) g.2; binds = g.4 }, g.5, λ u i. held-is (meaning u) v (sym (complete tokens u i) ∙ e))

ended-stands : (tokens : List Token) (s : State Tree) → read trees (wanting []) tokens ≡ s → StandsFor tokens (ended s)
ended-stands tokens (holding [] v) e = sound tokens v e
ended-stands tokens (holding (w ∷ ws) v) e = λ t i. let f : holding [] (meaning t) ≡ holding (w ∷ ws) v = sym (complete tokens t i) ∙ e in absurd (cc)
ended-stands tokens (wanting ws) e = λ t i. let f : holding [] (meaning t) ≡ wanting ws = sym (complete tokens t i) ∙ e in absurd (cc)
ended-stands tokens (pointing d ws) e = λ t i. let f : holding [] (meaning t) ≡ pointing d ws = sym (complete tokens t i) ∙ e in absurd (cc)
ended-stands tokens wrong e = λ t i. let f : holding [] (meaning t) ≡ wrong = sym (complete tokens t i) ∙ e in absurd (cc)

pub read-stands : (tokens : List Token) → StandsFor tokens (ended (read trees (wanting []) tokens))
read-stands tokens = ended-stands tokens (read trees (wanting []) tokens) refl
