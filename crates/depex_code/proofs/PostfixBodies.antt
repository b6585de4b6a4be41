-- From the machine to expressions.
use Rattle.std.proofs.Common.{◌≡◌, ◌⊎◌, eqb, true, false, ℕ, ◌+◌, ◌-◌, ◌<◌, ◌≤◌, List, [], ◌∷◌, ◌++◌, Option, Some, None, length, take, drop, get_or, append-nil, length-append, refl, sym, ap, ◌∙◌, arith, inl, inr, ⊎_elim}
use Rattle.std.proofs.lemmas.List.{same_from_push, get_or_at, take_more, take_all, take_rest}
use Rattle.std.proofs.lemmas.Bool.{eqb-true, eqb-false}
use Rattle.depex_code.specs.Tree.{Tree, push, both, either, neg, truth, falsity, before, after, sor, post, nest, opcodes, Plain, IsPlaced, IsForm, ReadBack}
use Rattle.depex_code.specs.Postfix.{ready, run, total, IsBody, BodyRead, SorRead}
use Rattle.depex_code.proofs.PostfixReads.{complete}
use Rattle.depex_code.proofs.PostfixSound.{sound}

pub run-none : (ts : List Tree) → run (ready ts) [] ≡ ready ts
unfolding run
run-none ts = refl

-- a tree within the limits is what the machine holds
pub body_runs : (bytes : List ℕ) (extra : ℕ) (t : Tree) → IsBody bytes extra t → run (ready []) bytes ≡ ready (t ∷ [])
body_runs bytes extra t b =
    ap (run (ready [])) (b.spelled ∙ sym (append-nil (post t))) ∙ complete t [] [] b.plain (omega (arith, b.shallow)) ∙ run-none (t ∷ [])

pub body_only : (bytes : List ℕ) (extra : ℕ) (t : Tree) (ts : List Tree) → run (ready []) bytes ≡ ready ts → IsBody bytes extra t → ts ≡ t ∷ []
body_only bytes extra t ts e b = let f : run (ready []) bytes ≡ ready (t ∷ []) = body_runs bytes extra t b in cc

pub body_is : (bytes : List ℕ) (extra : ℕ) (t u : Tree) (ts : List Tree) → run (ready []) bytes ≡ ready ts → ts ≡ u ∷ [] → IsBody bytes extra t → t ≡ u
body_is bytes extra t u ts e o b = let f : ts ≡ t ∷ [] = body_only bytes extra t ts e b in cc

pub body_some : (bytes : List ℕ) (extra : ℕ) (t : Tree) (ts : List Tree) → run (ready []) bytes ≡ ready ts → ts ≡ t ∷ [] → nest t + extra ≤ 64 → total ts + extra ≤ 4096 → IsBody bytes extra t
body_some bytes extra t ts e o d n =
    let g = sound bytes (t ∷ []) (e ∙ ap (λ l. ready l) o) in
    record { spelled = sym g.0; plain = g.1.0; shallow = d; short = omega (arith, n, ap total o) }

pub plain-placed : (t : Tree) → Plain t → IsPlaced t
plain-placed (push guid) p = p
plain-placed (both a b) p = p
plain-placed (either a b) p = p
plain-placed (neg a) p = p
plain-placed truth p = tt
plain-placed falsity p = tt
plain-placed (before guid) p = p
plain-placed (after guid) p = p
plain-placed (sor a) p = absurd p

-- a Sor at the root, or none
pub root : (t : Tree) → IsPlaced t → Plain t ⊎ ((u : Tree) × (t ≡ sor u) × Plain u)
root (push guid) p = inl p
root (both a b) p = inl p
root (either a b) p = inl p
root (neg a) p = inl p
root truth p = inl tt
root falsity p = inl tt
root (before guid) p = inl p
root (after guid) p = inl p
root (sor a) p = inr (a, refl, p)

-- a tree without Sor does not begin with its opcode
record Begins (t : Tree) : Type 0 where
  first : ℕ
  more : List ℕ
  is : post t ≡ first ∷ more
  low : first < 9

begins : (t : Tree) → Plain t → Begins t
unfolding post
begins (push guid) p = record { first = 2; more = guid; is = refl; low = omega arith }
begins (both a b) p = let i = begins a p.0 in record { first = i.first; more = i.more ++ post b ++ 3 ∷ []; is = ap (λ l. l ++ post b ++ 3 ∷ []) i.is; low = i.low }
begins (either a b) p = let i = begins a p.0 in record { first = i.first; more = i.more ++ post b ++ 4 ∷ []; is = ap (λ l. l ++ post b ++ 4 ∷ []) i.is; low = i.low }
begins (neg a) p = let i = begins a p in record { first = i.first; more = i.more ++ 5 ∷ []; is = ap (λ l. l ++ 5 ∷ []) i.is; low = i.low }
begins truth p = record { first = 6; more = []; is = refl; low = omega arith }
begins falsity p = record { first = 7; more = []; is = refl; low = omega arith }
begins (before guid) p = record { first = 0; more = guid; is = refl; low = omega arith }
begins (after guid) p = record { first = 1; more = guid; is = refl; low = omega arith }
begins (sor a) p = absurd p

pub not-nine : (t : Tree) (rest : List ℕ) → Plain t → post t ≡ 9 ∷ rest → ⊥
not-nine t rest p e = let i = begins t p in let same : 9 ≡ i.first = ap (λ l. get_or l 0 0) (sym e ∙ i.is) in absurd (omega (arith, same, i.low))

pub post-sor : (t : Tree) → post (sor t) ≡ 9 ∷ post t
unfolding post
post-sor t = refl

front-is : (front : List ℕ) (t : Tree) → IsForm (front ++ 8 ∷ []) t → front ≡ post t
front-is front t f = (same_from_push front (post t) 8 8 f.spelled).0

-- no form is empty, and each ends with END
pub form_ends : (bytes : List ℕ) (t : Tree) → IsForm bytes t → (0 < length bytes) × (get_or bytes (length bytes - 1) 0 ≡ 8)
form_ends bytes t f =
    let n = length-append (post t) (8 ∷ []) in
    let long : length bytes ≡ length (post t) + 1 = omega (arith, n, ap length f.spelled) in
    (omega (arith, long), ap (λ l. get_or l (length bytes - 1) 0) f.spelled ∙ get_or_at (post t) 8 [] 0 (length bytes - 1) (omega (arith, long)))

-- without a Sor in front
pub plain_form : (front : List ℕ) (r : Option Tree) → ((rest : List ℕ) → front ≡ 9 ∷ rest → ⊥) → BodyRead front 0 r → ReadBack (front ++ 8 ∷ []) r
plain_form front None clean b = λ t f.
    ⊎_elim (λ (p : Plain t). b t (record { spelled = front-is front t f; plain = p; shallow = omega (arith, f.shallow); short = omega (arith, f.short) }))
    (λ (s : (u : Tree) × (t ≡ sor u) × Plain u). clean (post s.0) (front-is front t f ∙ ap post s.1 ∙ post-sor s.0))
    (root t f.placed)
plain_form front (Some t) clean b = record { spelled = ap (λ l. l ++ 8 ∷ []) b.spelled; placed = plain-placed t b.plain; shallow = omega (arith, b.shallow); short = omega (arith, b.short) }

-- with one
pub sor_form : (front rest : List ℕ) (r : Option Tree) → front ≡ 9 ∷ rest → SorRead rest r → ReadBack (front ++ 8 ∷ []) r
sor_form front rest None e b = λ t f.
    ⊎_elim (λ (p : Plain t). not-nine t rest p (sym (front-is front t f) ∙ e))
    (λ (s : (u : Tree) × (t ≡ sor u) × Plain u).
    let same : 9 ∷ rest ≡ 9 ∷ post s.0 = sym e ∙ front-is front t f ∙ ap post s.1 ∙ post-sor s.0 in
    let tail : rest ≡ post s.0 = ap (drop 1) same in
    let deep : nest t ≡ nest (sor s.0) = ap nest s.1 in
    let many : opcodes t ≡ opcodes (sor s.0) = ap opcodes s.1 in
    b s.0 (record { spelled = tail; plain = s.2; shallow = omega (arith, f.shallow, deep); short = omega (arith, f.short, many) }))
    (root t f.placed)
sor_form front rest (Some (sor t)) e b = record { spelled = ap (λ l. l ++ 8 ∷ []) (e ∙ ap (λ l. 9 ∷ l) b.spelled ∙ sym (post-sor t)); placed = b.plain; shallow = b.shallow; short = b.short }
sor_form front rest (Some (push g)) e b = absurd b
sor_form front rest (Some (both x y)) e b = absurd b
sor_form front rest (Some (either x y)) e b = absurd b
sor_form front rest (Some (neg x)) e b = absurd b
sor_form front rest (Some truth) e b = absurd b
sor_form front rest (Some falsity) e b = absurd b
sor_form front rest (Some (before g)) e b = absurd b
sor_form front rest (Some (after g)) e b = absurd b

pub split_end : (bytes : List ℕ) → (length bytes ≡ 0 → ⊥) → get_or bytes (length bytes - 1) 0 ≡ 8 → take (length bytes - 1) bytes ++ 8 ∷ [] ≡ bytes
split_end bytes some e =
    let up : length bytes - 1 + 1 ≡ length bytes = omega arith in
    ap (λ b. take (length bytes - 1) bytes ++ b ∷ []) (sym e) ∙ sym (take_more bytes (length bytes - 1) 0 (omega arith)) ∙ ap (λ n. take n bytes) up ∙ take_all (length bytes) bytes (omega arith)

pub not_nine : (front : List ℕ) → eqb (get_or front 0 0) 9 ≡ false → (rest : List ℕ) → front ≡ 9 ∷ rest → ⊥
not_nine front e rest f = eqb-false (get_or front 0 0) 9 e (ap (λ l. get_or l 0 0) f)

pub nine : (front : List ℕ) → eqb (get_or front 0 0) 9 ≡ true → (0 < length front) × (front ≡ 9 ∷ take (length front - 1) (drop 1 front))
nine [] e = absurd (cc)
nine (x ∷ xs) e = (omega arith, ap (λ h. h ∷ xs) (eqb-true x 9 e) ∙ ap (λ l. 9 ∷ l) (sym (take_rest (x ∷ xs) 1)))
