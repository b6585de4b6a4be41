-- The machine does the same with sizes as with trees.
use Rattle.std.proofs.Common.{◌≡◌, ℕ, ◌+◌, ◌≤◌, ◌&&◌, min, max, Bool, true, false, cond, nat_le, List, [], ◌∷◌, Option, None, Some, map, option_map, refl, sym, ap, ◌∙◌, arith}
use Rattle.std.proofs.lemmas.Bool.{le-leb, leb-true}
use Rattle.build_base.specs.declared.guid.Guid.{Guid}
use Rattle.depex_code.specs.declared.token.Token.{Token}
use Rattle.depex_code.specs.declared.token.Token.TheVariants as token
use Rattle.depex_code.specs.declared.token.Joiner.{Joiner}
use Rattle.depex_code.specs.declared.token.Joiner.TheVariants.{And, Or}
use Rattle.depex_code.specs.declared.token.Prefix.{Prefix}
use Rattle.depex_code.specs.declared.token.Prefix.TheVariants.{Not, Sor}
use Rattle.depex_code.specs.declared.token.Edge.{Edge}
use Rattle.depex_code.specs.declared.token.Edge.TheVariants.{Before, After}
use Rattle.depex_code.specs.Tree.{Tree, neg, sor, post, nest, opcodes}
use Rattle.depex_code.specs.Grammar.{prefix_tree, join_tree}
use Rattle.depex_code.specs.Terms.{trees, Wait, group, front, left, State, wanting, pointing, holding, wrong, settle, closed, step, ended, is_right}
use Rattle.depex_code.specs.Sizes.{Size, Reach, Form, no_form, form_of, join_form, prefix_form, reach_of, join_reach, prefix_reach, fits, sized_piece, size_of, sizes, join_size, prefix_size}

record_of : ℕ → ℕ → Reach
record_of deep count = record { deep = deep; count = count }

fits-low : (r : Reach) → r.deep ≤ 64 → r.count ≤ 4096 → fits r ≡ true
fits-low r h k = ap (λ b. b && nat_le r.count 4096) (le-leb r.deep 64 h) ∙ le-leb r.count 4096 k

pub fits-form : (d c : ℕ) (x : Form) → d ≤ 64 → c ≤ 4096 → cond (fits (reach_of d c)) x no_form ≡ x
fits-form d c x h k = ap (λ b. cond b x no_form) (fits-low (reach_of d c) (omega (arith, h)) (omega (arith, k)))

low-fits : (r : Reach) → fits r ≡ true → (r.deep ≤ 64) × (r.count ≤ 4096)
low-fits r t = low (nat_le r.deep 64) refl where
  low : (b : Bool) → nat_le r.deep 64 ≡ b → (r.deep ≤ 64) × (r.count ≤ 4096)
  low true e = (leb-true r.deep 64 e, leb-true r.count 4096 (ap (λ b. b && nat_le r.count 4096) (sym e) ∙ t))
  low false e = let f : false ≡ true = ap (λ b. b && nat_le r.count 4096) (sym e) ∙ t in absurd (cc)

form-same : (x y : Form) (r : Reach) (b : Bool) → fits r ≡ b → (r.deep ≤ 64 → r.count ≤ 4096 → x ≡ y) → cond b x no_form ≡ cond b y no_form
form-same x y r true t same = let l = low-fits r t in same l.0 l.1
form-same x y r false n same = refl

made : Bool → Form → Reach → Size
made alone form reach = record { form = form; reach = reach; alone = alone }

sized-made : (alone : Bool) (x : Form) (r : Reach) → sized_piece alone x r ≡ made alone (cond (fits r) x no_form) r
unfolding made
sized-made alone x r = refl

sized-same : (alone : Bool) (x y : Form) (r s : Reach) → r ≡ s → (r.deep ≤ 64 → r.count ≤ 4096 → x ≡ y) → sized_piece alone x r ≡ sized_piece alone y s
sized-same alone x y r s e same =
    sized-made alone x r
    ∙ ap (λ z. made alone z r) (form-same x y r (fits r) refl same)
    ∙ sym (sized-made alone y r)
    ∙ ap (sized_piece alone y) e

reach-same : (d e c f : ℕ) → min d 65 ≡ min e 65 → min c 4097 ≡ min f 4097 → reach_of d c ≡ reach_of e f
unfolding record_of
reach-same d e c f h k = ap (λ z. record_of z (min c 4097)) h ∙ ap (λ z. record_of (min e 65) z) k

pub prefix-reached : (d c : ℕ) → reach_of (d + 1) (c + 1) ≡ prefix_reach (reach_of d c)
prefix-reached d c = reach-same (d + 1) (min d 65 + 1) (c + 1) (min c 4097 + 1) (omega arith) (omega arith)

pub join-reached : (d e c f : ℕ) → reach_of (max d (e + 1)) (c + f + 1) ≡ join_reach (reach_of d c) (reach_of e f)
join-reached d e c f = reach-same (max d (e + 1)) (max (min d 65) (min e 65 + 1)) (c + f + 1) (min c 4097 + min f 4097 + 1) (omega arith) (omega arith)

pub prefix-sized : (p : Prefix) (a : Tree) → size_of (prefix_tree p a) ≡ prefix_size p (size_of a)
unfolding size_of post
prefix-sized Not a =
    sized-same false (form_of (neg a)) (prefix_form Not (cond (fits (reach_of (nest a) (opcodes a))) (form_of a) no_form)) (reach_of (nest a + 1) (opcodes a + 1)) (prefix_reach (reach_of (nest a) (opcodes a)))
    (prefix-reached (nest a) (opcodes a)) (λ h k. ap (prefix_form Not) (sym (fits-form (nest a) (opcodes a) (form_of a) (omega (arith, h)) (omega (arith, k)))))
prefix-sized Sor a =
    sized-same false (form_of (sor a)) (prefix_form Sor (cond (fits (reach_of (nest a) (opcodes a))) (form_of a) no_form)) (reach_of (nest a + 1) (opcodes a + 1)) (prefix_reach (reach_of (nest a) (opcodes a)))
    (prefix-reached (nest a) (opcodes a)) (λ h k. ap (prefix_form Sor) (sym (fits-form (nest a) (opcodes a) (form_of a) (omega (arith, h)) (omega (arith, k)))))

joined-sized : (op : Joiner) (x y : Form) (d e c f : ℕ)
    → sized_piece false (join_form op x y) (reach_of (max d (e + 1)) (c + f + 1))
    ≡ sized_piece false (join_form op (cond (fits (reach_of d c)) x no_form) (cond (fits (reach_of e f)) y no_form)) (join_reach (reach_of d c) (reach_of e f))
joined-sized op x y d e c f =
    sized-same false (join_form op x y) (join_form op (cond (fits (reach_of d c)) x no_form) (cond (fits (reach_of e f)) y no_form)) (reach_of (max d (e + 1)) (c + f + 1)) (join_reach (reach_of d c) (reach_of e f))
    (join-reached d e c f)
    (λ h k. ap (λ l. join_form op l y) (sym (fits-form d c x (omega (arith, h)) (omega (arith, k))))
    ∙ ap (join_form op (cond (fits (reach_of d c)) x no_form)) (sym (fits-form e f y (omega (arith, h)) (omega (arith, k)))))

pub join-sized : (op : Joiner) (a b : Tree) → size_of (join_tree op a b) ≡ join_size op (size_of a) (size_of b)
unfolding size_of post
join-sized And a b = joined-sized And (form_of a) (form_of b) (nest a) (nest b) (opcodes a) (opcodes b)
join-sized Or a b = joined-sized Or (form_of a) (form_of b) (nest a) (nest b) (opcodes a) (opcodes b)

name-sized : (g : Option Guid) → sizes.name g ≡ size_of (trees.name g)
unfolding size_of post
name-sized None = refl
name-sized (Some guid) = refl

constant-sized : (b : Bool) → sizes.constant b ≡ size_of (trees.constant b)
unfolding size_of post
constant-sized true = refl
constant-sized false = refl

edge-sized : (e : Edge) (g : Option Guid) → sizes.edge e g ≡ size_of (trees.edge e g)
unfolding size_of post
edge-sized Before g = refl
edge-sized After g = refl

abbrev pub wait_size : Wait Tree → Wait Size
wait_size group = group
wait_size (front p) = front p
wait_size (left a op) = left (size_of a) op

abbrev pub state_size : State Tree → State Size
state_size (wanting ws) = wanting (map wait_size ws)
state_size (pointing e ws) = pointing e (map wait_size ws)
state_size (holding ws v) = holding (map wait_size ws) (size_of v)
state_size wrong = wrong

settle-sized : (ws : List (Wait Tree)) (v : Tree) → settle sizes (map wait_size ws) (size_of v) ≡ state_size (settle trees ws v)
settle-sized [] v = refl
settle-sized (group ∷ ws) v = refl
settle-sized (front p ∷ ws) v = ap (settle sizes (map wait_size ws)) (sym (prefix-sized p v)) ∙ settle-sized ws (prefix_tree p v)
settle-sized (left a op ∷ ws) v = ap (holding (map wait_size ws)) (sym (join-sized op a v))

leaf-settled : (ws : List (Wait Tree)) (x : Size) (v : Tree) → x ≡ size_of v → settle sizes (map wait_size ws) x ≡ state_size (settle trees ws v)
leaf-settled ws x v e = ap (settle sizes (map wait_size ws)) e ∙ settle-sized ws v

closed-sized : (ws : List (Wait Tree)) (v : Tree) → closed sizes (map wait_size ws) (size_of v) ≡ state_size (closed trees ws v)
closed-sized [] v = refl
closed-sized (group ∷ ws) v = settle-sized ws v
closed-sized (front p ∷ ws) v = refl
closed-sized (left a op ∷ ws) v = refl

pub step-sized : (s : State Tree) (k : Token) → step sizes (state_size s) k ≡ state_size (step trees s k)
step-sized wrong k = refl
step-sized (wanting ws) (token.Name g) = leaf-settled ws (sizes.name g) (trees.name g) (name-sized g)
step-sized (wanting ws) (token.Constant b) = leaf-settled ws (sizes.constant b) (trees.constant b) (constant-sized b)
step-sized (wanting ws) (token.Edge e) = refl
step-sized (wanting ws) (token.Joiner op) = refl
step-sized (wanting ws) (token.Prefix p) = refl
step-sized (wanting ws) token.Open = refl
step-sized (wanting ws) token.Close = refl
step-sized (pointing e ws) (token.Name g) = leaf-settled ws (sizes.edge e g) (trees.edge e g) (edge-sized e g)
step-sized (pointing e ws) (token.Constant b) = refl
step-sized (pointing e ws) (token.Edge f) = refl
step-sized (pointing e ws) (token.Joiner op) = refl
step-sized (pointing e ws) (token.Prefix p) = refl
step-sized (pointing e ws) token.Open = refl
step-sized (pointing e ws) token.Close = refl
step-sized (holding ws v) (token.Joiner op) = refl
step-sized (holding ws v) token.Close = closed-sized ws v
step-sized (holding ws v) (token.Name g) = refl
step-sized (holding ws v) (token.Constant b) = refl
step-sized (holding ws v) (token.Edge e) = refl
step-sized (holding ws v) (token.Prefix p) = refl
step-sized (holding ws v) token.Open = refl

pub right-sized : (s : State Tree) → is_right (state_size s) ≡ is_right s
right-sized wrong = refl
right-sized (wanting ws) = refl
right-sized (pointing e ws) = refl
right-sized (holding ws v) = refl

pub ended-sized : (s : State Tree) → ended (state_size s) ≡ option_map size_of (ended s)
ended-sized wrong = refl
ended-sized (wanting ws) = refl
ended-sized (pointing e ws) = refl
ended-sized (holding [] v) = refl
ended-sized (holding (w ∷ ws) v) = refl
