-- Trees of terms have no Sor within, and GUIDs of sixteen bytes.
use Rattle.std.proofs.Common.{◌≡◌, ℕ, Bool, true, false, List, [], ◌∷◌, ◌++◌, Option, Some, None, Result, Ok, Err, length, map, option_map, refl, subst, codes}
use Rattle.std.specs.Str.{str_eq_ignore_ascii_case, bytes_eq}
use Rattle.build_base.specs.declared.fault.Fault.{Fault}
use Rattle.build_base.specs.declared.fault.Place.{Place}
use Rattle.build_base.specs.First.{or_else, and_then}
use Rattle.doc_types.specs.declared.depex.NamedGuid.{NamedGuid}
use Rattle.doc_types.specs.declared.depex.DepexPart.{DepexPart}
use Rattle.doc_types.specs.declared.depex.DepexGroup.{DepexGroup}
use Rattle.depex_code.specs.declared.leave.Leave.{Leave}
use Rattle.depex_code.specs.declared.token.Token.{Token}
use Rattle.depex_code.specs.declared.token.Token.TheVariants as token
use Rattle.depex_code.specs.declared.token.Joiner.TheVariants.{And, Or}
use Rattle.depex_code.specs.declared.token.Prefix.TheVariants.{Not, Sor}
use Rattle.depex_code.specs.declared.token.Edge.TheVariants.{Before, After}
use Rattle.depex_code.specs.Tree.{Tree, both, is_alone, Plain}
use Rattle.depex_code.specs.Words.{guid_named, token_of}
use Rattle.depex_code.specs.Grammar.{Term, named, constant, edged, prefixed, joined, grouped, spelling, meaning, StandsFor}
use Rattle.depex_code.specs.Terms.{expression, is_begun}
use Rattle.build_base.specs.FaultText.{fault_of}
use Rattle.build_base.specs.First.{or_fault}
use Rattle.depex_code.specs.Compiled.{value_or, own_code, term_code, terms_fault, terms_tree, part_tree, no_leave, joined_to, with_group, next_tree, parts_tree, groups_tree}
use Rattle.depex_code.specs.Law.{AreGuids, HaveGuids}
use Rattle.build_base.proofs.ChoiceLemmas.{pick}
use Rattle.depex_code.proofs.TermFinish.{grammar}
use Rattle.depex_code.proofs.LimitLemmas.{next-is}
use Rattle.build_base.proofs.ResultLemmas.{ok_is, err_is_not}
use Rattle.build_base.specs.FaultCodes.{BAD_TERM}

-- a name's GUID has sixteen bytes
abbrev Sixteen : Token → Type 0
Sixteen (token.Name (Some g)) = length g.0 ≡ 16
Sixteen k = Unit {0}

name-sixteen : (guids : List NamedGuid) (name : List ℕ) → AreGuids guids → Sixteen (token.Name (guid_named guids name))
unfolding guid_named
name-sixteen [] name a = tt
name-sixteen (declared ∷ guids) name a =
    pick (λ g. Sixteen (token.Name g)) (bytes_eq declared.name name) (Some declared.guid) (guid_named guids name) (λ _. a.0) (λ _. name-sixteen guids name a.1)

token-sixteen : (guids : List NamedGuid) (term : List ℕ) → AreGuids guids → Sixteen (token_of guids term)
unfolding token_of
token-sixteen guids term a =
    pick Sixteen (str_eq_ignore_ascii_case term (codes "AND")) (token.Joiner And) _ (λ _. tt)
    (λ _. pick Sixteen (str_eq_ignore_ascii_case term (codes "OR")) (token.Joiner Or) _ (λ _. tt)
    (λ _. pick Sixteen (str_eq_ignore_ascii_case term (codes "NOT")) (token.Prefix Not) _ (λ _. tt)
    (λ _. pick Sixteen (str_eq_ignore_ascii_case term (codes "SOR")) (token.Prefix Sor) _ (λ _. tt)
    (λ _. pick Sixteen (str_eq_ignore_ascii_case term (codes "BEFORE")) (token.Edge Before) _ (λ _. tt)
    (λ _. pick Sixteen (str_eq_ignore_ascii_case term (codes "AFTER")) (token.Edge After) _ (λ _. tt)
    (λ _. pick Sixteen (str_eq_ignore_ascii_case term (codes "TRUE")) (token.Constant true) _ (λ _. tt)
    (λ _. pick Sixteen (str_eq_ignore_ascii_case term (codes "FALSE")) (token.Constant false) _ (λ _. tt)
    (λ _. pick Sixteen (bytes_eq term (codes "(")) token.Open _ (λ _. tt)
    (λ _. pick Sixteen (bytes_eq term (codes ")")) token.Close _ (λ _. tt)
    (λ _. name-sixteen guids term a))))))))))

-- a term without a fault of its own
abbrev Clean : Token → Type 0
Clean (token.Name None) = ⊥
Clean (token.Name (Some g)) = length g.0 ≡ 16
Clean (token.Prefix Sor) = ⊥
Clean k = Unit {0}

abbrev AllClean : List Token → Type 0
AllClean [] = Unit {0}
AllClean (k ∷ ks) = Clean k × AllClean ks

clean-own : (edge : Bool) (term : List ℕ) (k : Token) → own_code edge term k ≡ None → Sixteen k → Clean k
clean-own edge term (token.Name None) e s = absurd (cc)
clean-own edge term (token.Name (Some g)) e s = s
clean-own edge term (token.Constant b) e s = tt
clean-own edge term (token.Edge d) e s = tt
clean-own edge term (token.Joiner op) e s = tt
clean-own edge term (token.Prefix Not) e s = tt
clean-own edge term (token.Prefix Sor) e s = absurd (cc)
clean-own edge term token.Open e s = tt
clean-own edge term token.Close e s = tt

code-own : (begun edge : Bool) (term : List ℕ) (k : Token) → term_code begun edge term k ≡ None → own_code edge term k ≡ None
code-own true edge term k e = e
code-own false edge term k e = absurd (cc)

or-none : {T : Type 0} (a b : Option T) → or_else a b ≡ None → (a ≡ None) × (b ≡ None)
or-none None b e = (refl, e)
or-none (Some x) b e = absurd (cc)

map-none : {X Y : Type 0} (f : X → Y) (o : Option X) → option_map f o ≡ None → o ≡ None
map-none f None e = refl
map-none f (Some x) e = absurd (cc)

terms-clean : (at : Place) (guids : List NamedGuid) (edge : Bool) (before : List Token) (terms : List (List ℕ))
    → AreGuids guids → terms_fault at guids edge before terms ≡ None → AllClean (map (token_of guids) terms)
unfolding terms_fault
terms-clean at guids edge before [] a e = tt
terms-clean at guids edge before (term ∷ terms) a e =
    let k = token_of guids term in
    let now = before ++ token_of guids term ∷ [] in
    let n =
    or-none (option_map (λ code. fault_of code at term) (term_code (is_begun (before ++ token_of guids term ∷ [])) edge term (token_of guids term)))
    (terms_fault at guids edge (before ++ token_of guids term ∷ []) terms) e in (
      clean-own edge term k (code-own (is_begun now) edge term k (map-none (λ code. fault_of code at term) (term_code (is_begun now) edge term k) n.0)) (token-sixteen guids term a),
      terms-clean at guids edge now terms a n.1,
    )

clean-left : (xs ys : List Token) → AllClean (xs ++ ys) → AllClean xs
clean-left [] ys c = tt
clean-left (x ∷ xs) ys c = (c.0, clean-left xs ys c.1)

clean-right : (xs ys : List Token) → AllClean (xs ++ ys) → AllClean ys
clean-right [] ys c = c
clean-right (x ∷ xs) ys c = clean-right xs ys c.1

meaning-plain : (t : Term) → AllClean (spelling t) → Plain (meaning t)
meaning-plain (named None) c = absurd c.0
meaning-plain (named (Some g)) c = c.0
meaning-plain (constant true) c = tt
meaning-plain (constant false) c = tt
meaning-plain (edged Before None) c = absurd c.1.0
meaning-plain (edged After None) c = absurd c.1.0
meaning-plain (edged Before (Some g)) c = c.1.0
meaning-plain (edged After (Some g)) c = c.1.0
meaning-plain (prefixed Not t) c = meaning-plain t c.1
meaning-plain (prefixed Sor t) c = absurd c.0
meaning-plain (joined l And r) c =
    (meaning-plain l (clean-left (spelling l) (token.Joiner And ∷ spelling r) c), meaning-plain r (clean-right (spelling l) (token.Joiner And ∷ spelling r) c).1)
meaning-plain (joined l Or r) c =
    (meaning-plain l (clean-left (spelling l) (token.Joiner Or ∷ spelling r) c), meaning-plain r (clean-right (spelling l) (token.Joiner Or ∷ spelling r) c).1)
meaning-plain (grouped t) c = meaning-plain t (clean-left (spelling t) (token.Close ∷ []) c.1)

stands-plain : (tokens : List Token) (v : Tree) → AllClean tokens → StandsFor tokens (Some v) → Plain v
stands-plain tokens v c s = subst (λ (x : Tree). Plain x) s.2 (meaning-plain s.0 (subst (λ (l : List Token). AllClean l) s.1.spelled c))

value-plain : (f : Fault) (tokens : List Token) (t : Tree) (o : Option Tree) → AllClean tokens → StandsFor tokens o → value_or f o ≡ Ok t → Plain t
value-plain f tokens t None c s e = absurd (err_is_not f t e)
value-plain f tokens t (Some v) c s e = subst (λ (x : Tree). Plain x) (ok_is v t e) (stands-plain tokens v c s)

terms-plain : (at : Place) (guids : List NamedGuid) (edge : Bool) (terms : List (List ℕ)) (t : Tree) → AreGuids guids → terms_tree at guids edge terms ≡ Ok t → Plain t
unfolding terms_tree
terms-plain at guids edge terms t a e = by_fault (terms_fault at guids edge [] terms) refl e where
  by_fault : (l : Option Fault) → terms_fault at guids edge [] terms ≡ l
      → or_fault l (value_or (fault_of BAD_TERM at (codes "end")) (expression (map (token_of guids) terms))) ≡ Ok t → Plain t
  by_fault (Some f) h x = absurd (err_is_not f t x)
  by_fault None h x =
      value-plain (fault_of BAD_TERM at (codes "end")) (map (token_of guids) terms) t (expression (map (token_of guids) terms)) (terms-clean at guids edge [] terms a h)
      (grammar.stands (map (token_of guids) terms)) x

part-plain : (leave : Leave) (guids : List NamedGuid) (part : DepexPart) (t : Tree) → AreGuids guids → part_tree leave guids part ≡ Ok t → Plain t
unfolding part_tree
part-plain leave guids part t a e = terms-plain part.at guids _ _ t a e

-- the tree that is joined so far
abbrev pub IsPlain : Option Tree → Type 0
IsPlain None = Unit {0}
IsPlain (Some t) = Plain t

joined-plain : (o : Option Tree) (t : Tree) → IsPlain o → Plain t → Plain (joined_to o t)
joined-plain None t p q = q
joined-plain (Some a) t p q = pick Plain (is_alone a) a (both a t) (λ _. p) (λ _. (p, q))

next-plain : (front : Bool) (guids : List NamedGuid) (w : Option Tree) (leave : Leave) (o : Option Tree) (part : DepexPart) (t : Tree)
    → AreGuids guids → IsPlain o → next_tree front guids w leave o part ≡ Ok t → Plain t
next-plain front guids w leave o part t a p e =
    let n = next-is front guids w leave o part t e in
    subst (λ (x : Tree). Plain x) n.is (joined-plain o n.tree p (part-plain leave guids part n.tree a n.read))

parts-more : (front : Bool) (guids : List NamedGuid) (w : Option Tree) (leave : Leave) (o : Option Tree) (part : DepexPart) (parts : List DepexPart) (r : Option Tree) (n : Result Tree Fault)
    → AreGuids guids → IsPlain o → next_tree front guids w leave o part ≡ n
    → and_then n (λ t. parts_tree front guids w no_leave (Some t) parts) ≡ Ok r
    → ((t : Tree) → Plain t → parts_tree front guids w no_leave (Some t) parts ≡ Ok r → IsPlain r) → IsPlain r
parts-more front guids w leave o part parts r (Err f) a p n e h = absurd (err_is_not f r e)
parts-more front guids w leave o part parts r (Ok t) a p n e h = h t (next-plain front guids w leave o part t a p n) e

parts-plain : (front : Bool) (guids : List NamedGuid) (w : Option Tree) (leave : Leave) (o : Option Tree) (parts : List DepexPart) (r : Option Tree)
    → AreGuids guids → IsPlain o → parts_tree front guids w leave o parts ≡ Ok r → IsPlain r
unfolding parts_tree
parts-plain front guids w leave o [] r a p e = subst (λ (v : Option Tree). IsPlain v) (ok_is o r e) p
parts-plain front guids w leave o (part ∷ parts) r a p e =
    parts-more front guids w leave o part parts r (next_tree front guids w leave o part) a p refl e (λ t q. parts-plain front guids w no_leave (Some t) parts r a q)

group-plain : (w o : Option Tree) → IsPlain w → IsPlain o → IsPlain (with_group w o)
group-plain w None p q = p
group-plain w (Some t) p q = joined-plain w t p q

groups-more : (front : Bool) (leave : Leave) (w : Option Tree) (group : DepexGroup) (groups : List DepexGroup) (r : Option Tree) (p : Result (Option Tree) Fault)
    → AreGuids group.guids → IsPlain w → parts_tree front group.guids w leave None group.parts ≡ p
    → and_then p (λ o. groups_tree front no_leave (with_group w o) groups) ≡ Ok r
    → ((v : Option Tree) → IsPlain v → groups_tree front no_leave v groups ≡ Ok r → IsPlain r) → IsPlain r
groups-more front leave w group groups r (Err f) a q p e h = absurd (err_is_not f r e)
groups-more front leave w group groups r (Ok o) a q p e h = h (with_group w o) (group-plain w o q (parts-plain front group.guids w leave None group.parts o a tt p)) e

pub groups-plain : (front : Bool) (leave : Leave) (w : Option Tree) (groups : List DepexGroup) (r : Option Tree)
    → HaveGuids groups → IsPlain w → groups_tree front leave w groups ≡ Ok r → IsPlain r
unfolding groups_tree
groups-plain front leave w [] r a p e = subst (λ (v : Option Tree). IsPlain v) (ok_is w r e) p
groups-plain front leave w (group ∷ groups) r a p e =
    groups-more front leave w group groups r (parts_tree front group.guids w leave None group.parts) a.0 p refl e (λ v q. groups-plain front no_leave v groups r a.1 q)
