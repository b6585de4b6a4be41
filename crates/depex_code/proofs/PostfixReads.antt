-- The machine reads exactly the postfix forms.
use Rattle.std.proofs.Common.{◌≡◌, ℕ, ◌+◌, ◌<◌, ◌≤◌, cond, List, [], ◌∷◌, ◌++◌, length, append_assoc, append-nil, length-append, refl, sym, ap, ◌∙◌, arith, eq-eqb}
use Rattle.std.proofs.lemmas.Bool.{le-leb, lt-leb, ne_eqb}
use Rattle.depex_code.specs.Tree.{Tree, push, both, either, neg, truth, falsity, before, after, sor, post, nest, Plain}
use Rattle.depex_code.specs.Postfix.{State, ready, taking, stuck, leaf, held, apply, step, run}

pub run-append : (s : State) (xs ys : List ℕ) → run s (xs ++ ys) ≡ run (run s xs) ys
unfolding run
run-append s [] ys = refl
run-append s (x ∷ xs) ys = run-append (step s x) xs ys

pub run-stuck : (xs : List ℕ) → run stuck xs ≡ stuck
unfolding run
run-stuck [] = refl
run-stuck (x ∷ xs) = run-stuck xs

-- the last byte of a GUID, and one before it
taking-last : (kind b : ℕ) (guid rest : List ℕ) (ts : List Tree) → length guid ≡ 15 → run (taking kind guid ts) (b ∷ rest) ≡ run (ready (leaf kind (guid ++ b ∷ []) ∷ ts)) rest
unfolding run
taking-last kind b guid rest ts h = ap (λ v. run (cond v (ready (leaf kind (guid ++ b ∷ []) ∷ ts)) (taking kind (guid ++ b ∷ []) ts)) rest) (eq-eqb (length guid) 15 h)

taking-more : (kind b : ℕ) (guid rest : List ℕ) (ts : List Tree) → length guid < 15 → run (taking kind guid ts) (b ∷ rest) ≡ run (taking kind (guid ++ b ∷ []) ts) rest
unfolding run
taking-more kind b guid rest ts h = ap (λ v. run (cond v (ready (leaf kind (guid ++ b ∷ []) ∷ ts)) (taking kind (guid ++ b ∷ []) ts)) rest) (ne_eqb (length guid) 15 (λ e. absurd (omega arith)))

pub taking-guid : (kind : ℕ) (front guid rest : List ℕ) (ts : List Tree) → length front ≤ 15 → length front + length guid ≡ 16 → run (taking kind front ts) (guid ++ rest) ≡ run (ready (leaf kind (front ++ guid) ∷ ts)) rest
taking-guid kind front [] rest ts few whole = absurd (omega arith)
taking-guid kind front (b ∷ []) rest ts few whole = taking-last kind b front rest ts (omega arith)
taking-guid kind front (b ∷ c ∷ guid) rest ts few whole =
    let n = length-append front (b ∷ []) in
    taking-more kind b front ((c ∷ guid) ++ rest) ts (omega arith)
    ∙ taking-guid kind (front ++ b ∷ []) (c ∷ guid) rest ts (omega (arith, n, whole)) (omega (arith, n, whole))
    ∙ ap (λ g. run (ready (leaf kind g ∷ ts)) rest) (append_assoc front (b ∷ []) (c ∷ guid))

taking-none : (kind : ℕ) (front : List ℕ) (ts : List Tree) → run (taking kind front ts) [] ≡ taking kind (front ++ []) ts
unfolding run
taking-none kind front ts = ap (λ g. taking kind g ts) (sym (append-nil front))

pub taking-short : (kind : ℕ) (front guid : List ℕ) (ts : List Tree) → length front + length guid ≤ 15 → run (taking kind front ts) guid ≡ taking kind (front ++ guid) ts
taking-short kind front [] ts few = taking-none kind front ts
taking-short kind front (b ∷ guid) ts few =
    taking-more kind b front guid ts (omega arith)
    ∙ taking-short kind (front ++ b ∷ []) guid ts (omega (arith, length-append front (b ∷ [])))
    ∙ ap (λ g. taking kind g ts) (append_assoc front (b ∷ []) guid)

-- one opcode
pub run-taking : (op : ℕ) (rest : List ℕ) (ts : List Tree) → op ≤ 2 → run (ready ts) (op ∷ rest) ≡ run (taking op [] ts) rest
unfolding run
run-taking op rest ts h = ap (λ v. run (cond v (taking op [] ts) (apply op ts)) rest) (le-leb op 2 h)

pub run-apply : (op : ℕ) (rest : List ℕ) (ts : List Tree) → 2 < op → run (ready ts) (op ∷ rest) ≡ run (apply op ts) rest
unfolding run
run-apply op rest ts h = ap (λ v. run (cond v (taking op [] ts) (apply op ts)) rest) (lt-leb op 2 h)

pub run-leaf : (op : ℕ) (guid rest : List ℕ) (ts : List Tree) → op ≤ 2 → length guid ≡ 16 → run (ready ts) (op ∷ guid ++ rest) ≡ run (ready (leaf op guid ∷ ts)) rest
run-leaf op guid rest ts h n = run-taking op (guid ++ rest) ts h ∙ taking-guid op [] guid rest ts (omega arith) (omega (arith, n))

held-small : (t : Tree) (ts : List Tree) → nest t ≤ 64 → held t ts ≡ ready (t ∷ ts)
held-small t ts h = ap (λ v. cond v (ready (t ∷ ts)) stuck) (le-leb (nest t) 64 h)

-- each tree within the limit is read
pub complete : (t : Tree) (ts : List Tree) (rest : List ℕ) → Plain t → nest t ≤ 64 → run (ready ts) (post t ++ rest) ≡ run (ready (t ∷ ts)) rest
unfolding post
complete (push guid) ts rest p d = run-leaf 2 guid rest ts (omega arith) p
complete (both a b) ts rest p d =
    ap (run (ready ts)) (append_assoc (post a ++ post b) (3 ∷ []) rest ∙ append_assoc (post a) (post b) (3 ∷ rest))
    ∙ complete a ts (post b ++ 3 ∷ rest) p.0 (omega arith)
    ∙ complete b (a ∷ ts) (3 ∷ rest) p.1 (omega arith)
    ∙ run-apply 3 rest (b ∷ a ∷ ts) (omega arith)
    ∙ ap (λ s. run s rest) (held-small (both a b) ts d)
complete (either a b) ts rest p d =
    ap (run (ready ts)) (append_assoc (post a ++ post b) (4 ∷ []) rest ∙ append_assoc (post a) (post b) (4 ∷ rest))
    ∙ complete a ts (post b ++ 4 ∷ rest) p.0 (omega arith)
    ∙ complete b (a ∷ ts) (4 ∷ rest) p.1 (omega arith)
    ∙ run-apply 4 rest (b ∷ a ∷ ts) (omega arith)
    ∙ ap (λ s. run s rest) (held-small (either a b) ts d)
complete (neg a) ts rest p d =
    ap (run (ready ts)) (append_assoc (post a) (5 ∷ []) rest)
    ∙ complete a ts (5 ∷ rest) p (omega arith)
    ∙ run-apply 5 rest (a ∷ ts) (omega arith)
    ∙ ap (λ s. run s rest) (held-small (neg a) ts d)
complete truth ts rest p d = run-apply 6 rest ts (omega arith)
complete falsity ts rest p d = run-apply 7 rest ts (omega arith)
complete (before guid) ts rest p d = run-leaf 0 guid rest ts (omega arith) p
complete (after guid) ts rest p d = run-leaf 1 guid rest ts (omega arith) p
complete (sor a) ts rest p d = absurd p
