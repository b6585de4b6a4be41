-- Reading back what is compiled gives the tree that was compiled.
use Rattle.std.proofs.Common.{◌≡◌, ⊎_elim, ℕ, ◌≤◌, max, cond, Bool, true, false, List, [], ◌∷◌, Option, Some, None, Result, Ok, Err, length, drop, option_map, refl, sym, ap, ◌∙◌, subst, arith}
use Rattle.std.proofs.lemmas.List.{same_from_push}
use Rattle.build_base.specs.declared.fault.Fault.{Fault}
use Rattle.doc_types.specs.declared.depex.DepexGroup.{DepexGroup}
use Rattle.doc_types.specs.declared.module_type.ModuleType.{ModuleType}
use Rattle.depex_code.specs.Tree.{Tree, sor, simplified, post, nest, opcodes, Plain, IsPlaced, bytes_of, IsForm, ReadBack}
use Rattle.depex_code.specs.Postfix.{ready}
use Rattle.depex_code.specs.Compiled.{around, groups_tree, has_depex, module_leave, has_front, map_ok, module_tree, compiled_tree, bytes_of_all, compiled}
use Rattle.depex_code.specs.Law.{HaveGuids, ReadsBack}
use Rattle.depex_code.proofs.PostfixBodies.{body_runs, plain-placed, root, not-nine, post-sor, form_ends}
use Rattle.depex_code.proofs.LimitLemmas.{AllWithin, groups-within}
use Rattle.build_base.proofs.ResultLemmas.{ok_is, err_is_not}
use Rattle.depex_code.proofs.PlainLemmas.{IsPlain, groups-plain}
use Rattle.depex_code.proofs.SimpleLemmas.{simple-plain, simple-nest, simple-opcodes}

-- One tree has these bytes.

same-plain : (t u : Tree) → Plain t → Plain u → nest t ≤ 64 → nest u ≤ 64 → opcodes t ≤ 4096 → opcodes u ≤ 4096 → post t ≡ post u → t ≡ u
same-plain t u p q d e c f s =
    let x = body_runs (post t) 0 t (record { spelled = refl; plain = p; shallow = omega (arith, d); short = omega (arith, c) }) in
    let y = body_runs (post t) 0 u (record { spelled = s; plain = q; shallow = omega (arith, e); short = omega (arith, f) }) in
    let z : ready (t ∷ []) ≡ ready (u ∷ []) = sym x ∙ y in
    cc

same-sor : (t u a b : Tree) → t ≡ sor a → u ≡ sor b → Plain a → Plain b → nest t ≤ 64 → nest u ≤ 64 → opcodes t ≤ 4096 → opcodes u ≤ 4096 → post t ≡ post u → t ≡ u
same-sor t u a b i j p q d e c f s =
    let nine : 9 ∷ post a ≡ 9 ∷ post b = sym (post-sor a) ∙ ap post (sym i) ∙ s ∙ ap post j ∙ post-sor b in
    let tail : post a ≡ post b = ap (drop 1) nine in
    let da = ap nest i in
    let db = ap nest j in
    let ca = ap opcodes i in
    let cb = ap opcodes j in
    i ∙ ap sor (same-plain a b p q (omega (arith, d, da)) (omega (arith, e, db)) (omega (arith, c, ca)) (omega (arith, f, cb)) tail) ∙ sym j

mixed : (t u b : Tree) → Plain t → u ≡ sor b → post t ≡ post u → ⊥
mixed t u b p j s = not-nine t (post b) p (s ∙ ap post j ∙ post-sor b)

form-only : (bytes : List ℕ) (t u : Tree) → IsForm bytes t → IsForm bytes u → t ≡ u
form-only bytes t u f g =
    let s : post t ≡ post u = (same_from_push (post t) (post u) 8 8 (sym f.spelled ∙ g.spelled)).0 in
    ⊎_elim
    (λ (p : Plain t). ⊎_elim
    (λ (q : Plain u). same-plain t u p q f.shallow g.shallow f.short g.short s)
    (λ (y : (v : Tree) × (u ≡ sor v) × Plain v). absurd (mixed t u y.0 p y.1 s))
    (root u g.placed))
    (λ (x : (v : Tree) × (t ≡ sor v) × Plain v). ⊎_elim
    (λ (q : Plain u). absurd (mixed u t x.0 q x.1 (sym s)))
    (λ (y : (v : Tree) × (u ≡ sor v) × Plain v). same-sor t u x.0 y.0 x.1 y.1 x.2 y.2 f.shallow g.shallow f.short g.short s)
    (root u g.placed))
    (root t f.placed)

-- What is compiled has this form.

around-placed : (front : Bool) (t : Tree) → Plain t → IsPlaced (around front t)
around-placed true t p = p
around-placed false t p = plain-placed t p

some-is : (x y : Tree) → Some x ≡ Some y → x ≡ y
some-is x y e = cc

-- a conjunction that is simplified stays within the limits
around-shallow : (front : Bool) (t s : Tree) → nest s ≤ max (nest t) 2 → nest (around front t) ≤ 64 → nest (around front s) ≤ 64
around-shallow true t s h k = omega (arith, h, k)
around-shallow false t s h k = omega (arith, h, k)

around-short : (front : Bool) (t s : Tree) → opcodes s ≤ opcodes t → opcodes (around front t) ≤ 4096 → opcodes (around front s) ≤ 4096
around-short true t s h k = omega (arith, h, k)
around-short false t s h k = omega (arith, h, k)

around-form : (front : Bool) (w : Option Tree) (u : Tree) → AllWithin front w → IsPlain w → option_map (λ t. around front (simplified t)) w ≡ Some u → IsForm (bytes_of u) u
around-form front None u a p e = absurd (cc)
around-form front (Some t) u a p e =
    let i : around front (simplified t) ≡ u = some-is (around front (simplified t)) u e in
    subst (λ (v : Tree). IsForm (bytes_of v) v) i (record {
      spelled = refl;
      placed = around-placed front (simplified t) (simple-plain t p);
      shallow = around-shallow front t (simplified t) (simple-nest t) a.shallow;
      short = around-short front t (simplified t) (simple-opcodes t) a.short;
    })

front-form : (front : Bool) (r : Result (Option Tree) Fault) (u : Tree)
    → ((w : Option Tree) → r ≡ Ok w → AllWithin front w × IsPlain w) → map_ok (option_map (λ t. around front (simplified t))) r ≡ Ok (Some u) → IsForm (bytes_of u) u
front-form front (Err f) u h e = absurd (err_is_not f (Some u) e)
front-form front (Ok w) u h e = let k = h w refl in around-form front w u k.0 k.1 (ok_is (option_map (λ t. around front (simplified t)) w) (Some u) e)

module-form : (t : ModuleType) (groups : List DepexGroup) (u : Tree) → HaveGuids groups → module_tree simplified t groups ≡ Ok (Some u) → IsForm (bytes_of u) u
unfolding module_tree
module-form t groups u a e =
    front-form (has_front (module_leave t groups) groups) (groups_tree (has_front (module_leave t groups) groups) (module_leave t groups) None groups) u
    (λ w x. (groups-within (has_front (module_leave t groups) groups) (module_leave t groups) None groups w tt x, groups-plain (has_front (module_leave t groups) groups) (module_leave t groups) None groups w a tt x)) e

compiled-form : (t : ModuleType) (groups : List DepexGroup) (u : Tree) → HaveGuids groups → compiled_tree t groups ≡ Ok (Some u) → IsForm (bytes_of u) u
unfolding compiled_tree
compiled-form t groups u a e = by_type (has_depex t) e where
  by_type : (b : Bool) → cond b (module_tree simplified t groups) (Ok None) ≡ Ok (Some u) → IsForm (bytes_of u) u
  by_type true x = module-form t groups u a x
  by_type false x = let n : None ≡ Some u = ok_is None (Some u) x in absurd (cc)

read-is : (t : ModuleType) (groups : List DepexGroup) (bytes : List ℕ) (read : Option Tree) (r : Result (Option Tree) Fault)
    → HaveGuids groups → compiled_tree t groups ≡ r → map_ok bytes_of_all r ≡ Ok bytes → ReadBack bytes read → r ≡ Ok read
read-is t groups bytes read (Err f) a h e b = absurd (err_is_not f bytes e)
read-is t groups bytes None (Ok None) a h e b = refl
read-is t groups bytes (Some v) (Ok None) a h e b =
    let none : [] ≡ bytes = ok_is [] bytes e in
    let n : 0 ≡ length bytes = ap length none in
    absurd (omega (arith, n, (form_ends bytes v b).0))
read-is t groups bytes None (Ok (Some u)) a h e b =
    absurd (b u (subst (λ (l : List ℕ). IsForm l u) (ok_is (bytes_of u) bytes e) (compiled-form t groups u a h)))
read-is t groups bytes (Some v) (Ok (Some u)) a h e b =
    ap (λ x. Ok (Some x)) (form-only bytes u v (subst (λ (l : List ℕ). IsForm l u) (ok_is (bytes_of u) bytes e) (compiled-form t groups u a h)) b)

pub reads_back : (t : ModuleType) (groups : List DepexGroup) → ReadsBack t groups
unfolding compiled
reads_back t groups = λ bytes read a e b. read-is t groups bytes read (compiled_tree t groups) a refl e b
