-- What is read is the postfix form of the trees that are held.
use Rattle.std.proofs.Common.{◌≡◌, ℕ, ◌+◌, ◌<◌, ◌≤◌, cond, nat_le, eqb, List, [], ◌∷◌, ◌++◌, length, append_assoc, append-nil, length-append, refl, sym, ap, ◌∙◌, subst, arith}
use Rattle.std.proofs.lemmas.Bool.{leb-true, leb-false, eqb-true, eqb-false}
use Rattle.build_base.proofs.ChoiceLemmas.{pick}
use Rattle.depex_code.specs.Tree.{Tree, push, both, either, neg, truth, falsity, before, after, post, nest, opcodes, Plain}
use Rattle.depex_code.specs.Postfix.{State, ready, taking, stuck, leaf, held, join, negate, apply, step, run, total}

abbrev pub posts : List Tree → List ℕ
posts [] = []
posts (t ∷ ts) = posts ts ++ post t

abbrev pub AllPlain : List Tree → Type 0
AllPlain [] = Unit {0}
AllPlain (t ∷ ts) = Plain t × AllPlain ts

-- the state stands for the bytes read so far
abbrev pub Good : List ℕ → State → Type 0
Good xs stuck = Unit {0}
Good xs (ready ts) = (posts ts ≡ xs) × AllPlain ts
Good xs (taking kind guid ts) = (posts ts ++ kind ∷ guid ≡ xs) × AllPlain ts × (length guid ≤ 15) × (kind ≤ 2)

post-leaf : (kind : ℕ) (guid : List ℕ) → kind ≤ 2 → post (leaf kind guid) ≡ kind ∷ guid
unfolding post
post-leaf kind guid h =
    pick (λ t. post t ≡ kind ∷ guid) (eqb kind 0) (before guid) (cond (eqb kind 1) (after guid) (push guid))
    (λ e. ap (λ k. k ∷ guid) (sym (eqb-true kind 0 e)))
    (λ n. pick (λ t. post t ≡ kind ∷ guid) (eqb kind 1) (after guid) (push guid)
    (λ e. ap (λ k. k ∷ guid) (sym (eqb-true kind 1 e)))
    (λ m. let two : 2 ≡ kind = omega (arith, h, eqb-false kind 0 n, eqb-false kind 1 m) in ap (λ k. k ∷ guid) two))

plain-leaf : (kind : ℕ) (guid : List ℕ) → length guid ≡ 16 → Plain (leaf kind guid)
plain-leaf kind guid h =
    pick (λ t. Plain t) (eqb kind 0) (before guid) (cond (eqb kind 1) (after guid) (push guid)) (λ e. h)
    (λ n. pick (λ t. Plain t) (eqb kind 1) (after guid) (push guid) (λ e. h) (λ m. h))

good-taking : (xs guid : List ℕ) (kind b : ℕ) (ts : List Tree) → Good xs (taking kind guid ts) → Good (xs ++ b ∷ []) (step (taking kind guid ts) b)
good-taking xs guid kind b ts g =
    let longer = length-append guid (b ∷ []) in
    let is : posts ts ++ (kind ∷ (guid ++ b ∷ [])) ≡ xs ++ b ∷ [] = sym (append_assoc (posts ts) (kind ∷ guid) (b ∷ [])) ∙ ap (λ l. l ++ b ∷ []) g.0 in
    pick (Good (xs ++ b ∷ [])) (eqb (length guid) 15) (ready (leaf kind (guid ++ b ∷ []) ∷ ts)) (taking kind (guid ++ b ∷ []) ts)
    (λ e. (ap (λ l. posts ts ++ l) (post-leaf kind (guid ++ b ∷ []) g.3) ∙ is, (plain-leaf kind (guid ++ b ∷ []) (omega (arith, longer, eqb-true (length guid) 15 e)), g.1)))
    (λ n. (is, g.1, omega (arith, longer, eqb-false (length guid) 15 n, g.2), g.3))

good-held : (xs : List ℕ) (b : ℕ) (t : Tree) (ts : List Tree) → posts ts ++ post t ≡ xs ++ b ∷ [] → Plain t → AllPlain ts → Good (xs ++ b ∷ []) (held t ts)
good-held xs b t ts e p q = pick (Good (xs ++ b ∷ [])) (nat_le (nest t) 64) (ready (t ∷ ts)) stuck (λ _. (e, (p, q))) (λ _. tt)

good-join : (xs : List ℕ) (op : ℕ) (ts : List Tree) → 2 < op → op ≤ 4 → Good xs (ready ts) → Good (xs ++ op ∷ []) (join op ts)
unfolding post
good-join xs op [] l h g = tt
good-join xs op (b ∷ []) l h g = tt
good-join xs op (b ∷ a ∷ ts) l h g =
    let is : posts ts ++ (post a ++ post b ++ op ∷ []) ≡ xs ++ op ∷ [] =
    sym (append_assoc (posts ts) (post a ++ post b) (op ∷ [])) ∙ ap (λ l. l ++ op ∷ []) (sym (append_assoc (posts ts) (post a) (post b)) ∙ g.0) in
    pick (λ t. Good (xs ++ op ∷ []) (held t ts)) (eqb op 3) (both a b) (either a b)
    (λ e. good-held xs op (both a b) ts (ap (λ k. posts ts ++ (post a ++ post b ++ k ∷ [])) (sym (eqb-true op 3 e)) ∙ is) (g.1.1.0, g.1.0) g.1.1.1)
    (λ n. let four : 4 ≡ op = omega (arith, l, h, eqb-false op 3 n) in good-held xs op (either a b) ts (ap (λ k. posts ts ++ (post a ++ post b ++ k ∷ [])) four ∙ is) (g.1.1.0, g.1.0) g.1.1.1)

good-negate : (xs : List ℕ) (op : ℕ) (ts : List Tree) → op ≡ 5 → Good xs (ready ts) → Good (xs ++ op ∷ []) (negate ts)
unfolding post
good-negate xs op [] e g = tt
good-negate xs op (a ∷ ts) e g =
    good-held xs op (neg a) ts (ap (λ k. posts ts ++ (post a ++ k ∷ [])) (sym e) ∙ sym (append_assoc (posts ts) (post a) (op ∷ [])) ∙ ap (λ l. l ++ op ∷ []) g.0) g.1.0 g.1.1

good-truth : (xs : List ℕ) (op : ℕ) (ts : List Tree) → op ≡ 6 → Good xs (ready ts) → Good (xs ++ op ∷ []) (ready (truth ∷ ts))
unfolding post
good-truth xs op ts e g = (ap (λ k. posts ts ++ k ∷ []) (sym e) ∙ ap (λ l. l ++ op ∷ []) g.0, (tt, g.1))

good-falsity : (xs : List ℕ) (op : ℕ) (ts : List Tree) → op ≡ 7 → Good xs (ready ts) → Good (xs ++ op ∷ []) (ready (falsity ∷ ts))
unfolding post
good-falsity xs op ts e g = (ap (λ k. posts ts ++ k ∷ []) (sym e) ∙ ap (λ l. l ++ op ∷ []) g.0, (tt, g.1))

good-apply : (xs : List ℕ) (op : ℕ) (ts : List Tree) → 2 < op → Good xs (ready ts) → Good (xs ++ op ∷ []) (apply op ts)
good-apply xs op ts l g =
    let G : State → Type 0 = Good (xs ++ op ∷ []) in
    pick (Good (xs ++ op ∷ [])) (nat_le op 4) (join op ts) (cond (eqb op 5) (negate ts) (cond (eqb op 6) (ready (truth ∷ ts)) (cond (eqb op 7) (ready (falsity ∷ ts)) stuck)))
    (λ e. good-join xs op ts l (leb-true op 4 e) g)
    (λ _. pick (Good (xs ++ op ∷ [])) (eqb op 5) (negate ts) (cond (eqb op 6) (ready (truth ∷ ts)) (cond (eqb op 7) (ready (falsity ∷ ts)) stuck))
    (λ e. good-negate xs op ts (eqb-true op 5 e) g)
    (λ _. pick (Good (xs ++ op ∷ [])) (eqb op 6) (ready (truth ∷ ts)) (cond (eqb op 7) (ready (falsity ∷ ts)) stuck)
    (λ e. good-truth xs op ts (eqb-true op 6 e) g)
    (λ _. pick (Good (xs ++ op ∷ [])) (eqb op 7) (ready (falsity ∷ ts)) stuck
    (λ e. good-falsity xs op ts (eqb-true op 7 e) g)
    (λ _. tt))))

good-step : (xs : List ℕ) (s : State) (b : ℕ) → Good xs s → Good (xs ++ b ∷ []) (step s b)
good-step xs stuck b g = tt
good-step xs (taking kind guid ts) b g = good-taking xs guid kind b ts g
good-step xs (ready ts) b g =
    pick (Good (xs ++ b ∷ [])) (nat_le b 2) (taking b [] ts) (apply b ts)
    (λ e. (ap (λ l. l ++ b ∷ []) g.0, g.1, omega arith, leb-true b 2 e))
    (λ n. good-apply xs b ts (leb-false b 2 n) g)

pub good-run : (xs bytes : List ℕ) (s : State) → Good xs s → Good (xs ++ bytes) (run s bytes)
unfolding run
good-run xs [] s g = subst (λ l. Good l s) (sym (append-nil xs)) g
good-run xs (b ∷ bs) s g = subst (λ l. Good l (run (step s b) bs)) (append_assoc xs (b ∷ []) bs) (good-run (xs ++ b ∷ []) bs (step s b) (good-step xs s b g))

pub sound : (bytes : List ℕ) (ts : List Tree) → run (ready []) bytes ≡ ready ts → Good bytes (ready ts)
sound bytes ts e = subst (λ s. Good bytes s) e (good-run [] bytes (ready []) (refl, tt))

-- each opcode counts
abbrev pub Costs : ℕ → State → Type 0
Costs n stuck = Unit {0}
Costs n (ready ts) = total ts ≡ n
Costs n (taking kind guid ts) = ⊥

costs-held : (n : ℕ) (t : Tree) (ts : List Tree) → opcodes t + total ts ≡ n → Costs n (held t ts)
costs-held n t ts e = pick (Costs n) (nat_le (nest t) 64) (ready (t ∷ ts)) stuck (λ _. e) (λ _. tt)

costs-join : (op : ℕ) (ts : List Tree) → Costs (total ts + 1) (join op ts)
costs-join op [] = tt
costs-join op (b ∷ []) = tt
costs-join op (b ∷ a ∷ ts) = pick (λ t. Costs (total (b ∷ a ∷ ts) + 1) (held t ts)) (eqb op 3) (both a b) (either a b)
    (λ _. costs-held (total (b ∷ a ∷ ts) + 1) (both a b) ts (omega arith))
    (λ _. costs-held (total (b ∷ a ∷ ts) + 1) (either a b) ts (omega arith))

costs-negate : (ts : List Tree) → Costs (total ts + 1) (negate ts)
costs-negate [] = tt
costs-negate (a ∷ ts) = costs-held (total (a ∷ ts) + 1) (neg a) ts (omega arith)

costs-apply : (op : ℕ) (ts : List Tree) → Costs (total ts + 1) (apply op ts)
costs-apply op ts =
    pick (Costs (total ts + 1)) (nat_le op 4) (join op ts) (cond (eqb op 5) (negate ts) (cond (eqb op 6) (ready (truth ∷ ts)) (cond (eqb op 7) (ready (falsity ∷ ts)) stuck)))
    (λ _. costs-join op ts)
    (λ _. pick (Costs (total ts + 1)) (eqb op 5) (negate ts) (cond (eqb op 6) (ready (truth ∷ ts)) (cond (eqb op 7) (ready (falsity ∷ ts)) stuck))
    (λ _. costs-negate ts)
    (λ _. pick (Costs (total ts + 1)) (eqb op 6) (ready (truth ∷ ts)) (cond (eqb op 7) (ready (falsity ∷ ts)) stuck)
    (λ _. omega arith)
    (λ _. pick (Costs (total ts + 1)) (eqb op 7) (ready (falsity ∷ ts)) stuck (λ _. omega arith) (λ _. tt))))

pub apply-costs : (op : ℕ) (ts us : List Tree) → apply op ts ≡ ready us → total us ≡ total ts + 1
apply-costs op ts us e = subst (λ s. Costs (total ts + 1) s) e (costs-apply op ts)

pub leaf-costs : (kind : ℕ) (guid : List ℕ) → opcodes (leaf kind guid) ≡ 1
leaf-costs kind guid = pick (λ t. opcodes t ≡ 1) (eqb kind 0) (before guid) (cond (eqb kind 1) (after guid) (push guid)) (λ _. refl) (λ _. pick (λ t. opcodes t ≡ 1) (eqb kind 1) (after guid) (push guid) (λ _. refl) (λ _. refl))

-- a machine that goes on never counts less
abbrev Least : ℕ → State → Type 0
Least n stuck = Unit {0}
Least n (ready ts) = n ≤ total ts
Least n (taking kind guid ts) = n ≤ total ts + 1

least-costs : (n m : ℕ) (s : State) → n ≤ m → Costs m s → Least n s
least-costs n m stuck h c = tt
least-costs n m (ready ts) h c = omega (arith, h, c)
least-costs n m (taking kind guid ts) h c = absurd c

-- each byte but those of a GUID
least-more : (ts : List Tree) (b : ℕ) → Least (total ts + 1) (step (ready ts) b)
least-more ts b = pick (Least (total ts + 1)) (nat_le b 2) (taking b [] ts) (apply b ts) (λ _. omega arith) (λ _. least-costs (total ts + 1) (total ts + 1) (apply b ts) (omega arith) (costs-apply b ts))

least-less : (n m : ℕ) (s : State) → n ≤ m → Least m s → Least n s
least-less n m stuck h l = tt
least-less n m (ready ts) h l = omega (arith, h, l)
least-less n m (taking kind guid ts) h l = omega (arith, h, l)

least-step : (n : ℕ) (s : State) (b : ℕ) → Least n s → Least n (step s b)
least-step n stuck b l = tt
least-step n (ready ts) b l = least-less n (total ts + 1) (step (ready ts) b) (omega (arith, l)) (least-more ts b)
least-step n (taking kind guid ts) b l =
    pick (Least n) (eqb (length guid) 15) (ready (leaf kind (guid ++ b ∷ []) ∷ ts)) (taking kind (guid ++ b ∷ []) ts)
    (λ _. omega (arith, l, leaf-costs kind (guid ++ b ∷ []))) (λ _. l)

least-run : (n : ℕ) (bytes : List ℕ) (s : State) → Least n s → Least n (run s bytes)
unfolding run
least-run n [] s l = l
least-run n (b ∷ bs) s l = least-run n bs (step s b) (least-step n s b l)

run-first : (b : ℕ) (bytes : List ℕ) (s : State) → run s (b ∷ bytes) ≡ run (step s b) bytes
unfolding run
run-first b bytes s = refl

pub run-grows : (b : ℕ) (bytes : List ℕ) (ts us : List Tree) → run (ready ts) (b ∷ bytes) ≡ ready us → total ts + 1 ≤ total us
run-grows b bytes ts us e = subst (λ s. Least (total ts + 1) s) (sym (run-first b bytes (ready ts)) ∙ e) (least-run (total ts + 1) bytes (step (ready ts) b) (least-more ts b))
