-- Each tree of the grammar is read, and gives its value.
use Rattle.std.proofs.Common.{◌≡◌, ℕ, ◌+◌, ◌<◌, ◌≤◌, false, nat_le, cond, List, [], ◌∷◌, ◌++◌, Some, None, append_assoc, append-nil, refl, sym, ap, ◌∙◌, lit≤, arith}
use Rattle.std.proofs.lemmas.Bool.{lt-ltb, le-leb, lt-leb}
use Rattle.macro_expressions.specs.declared.operator.BinaryOperator.{BinaryOperator}
use Rattle.macro_expressions.specs.declared.operator.BinaryOperator.TheVariants as binary
use Rattle.macro_expressions.specs.declared.operator.PrefixOperator.{PrefixOperator}
use Rattle.macro_expressions.specs.Values.{Outcome, level, apply}
use Rattle.macro_expressions.specs.ExpressionTree.{Symbol, value, binary, prefix, open_mark, close_mark, Tree, leaf, prefixed, joined, grouped, spelling, Binds, nesting, value_of, IsTree}
use Rattle.macro_expressions.specs.ExpressionMachine.{Wait, group, front, left, Held, depth_of, settle, reduce, holding, wanting, closed, whole, run}

pub level-le : (op : BinaryOperator) → level op ≤ 9
level-le op = elim op as (λ o. level o ≤ 9) [ binary.Or ↦ lit≤ tt | binary.And ↦ lit≤ tt | binary.BitOr ↦ lit≤ tt | binary.BitXor ↦ lit≤ tt | binary.BitAnd ↦ lit≤ tt | binary.Eq ↦ lit≤ tt | binary.Ne ↦ lit≤ tt | binary.Lt ↦ lit≤ tt | binary.Le ↦ lit≤ tt | binary.Gt ↦ lit≤ tt | binary.Ge ↦ lit≤ tt | binary.Shl ↦ lit≤ tt | binary.Shr ↦ lit≤ tt | binary.Add ↦ lit≤ tt | binary.Sub ↦ lit≤ tt | binary.Mul ↦ lit≤ tt | binary.Div ↦ lit≤ tt | binary.Rem ↦ lit≤ tt ]

-- an operand that binds from the level n on may stand above these waits
abbrev Room : ℕ → List Wait → Type 0
Room n [] = Unit {0}
Room n (group ∷ ws) = Unit {0}
Room n (front op ∷ ws) = 10 ≤ n
Room n (left v op ∷ ws) = level op + 1 ≤ n

Room-more : (m n : ℕ) (ws : List Wait) → m ≤ n → Room m ws → Room n ws
Room-more m n [] l r = tt
Room-more m n (group ∷ ws) l r = tt
Room-more m n (front op ∷ ws) l r = omega arith
Room-more m n (left v op ∷ ws) l r = omega arith

-- no prefix operator waits where an operand of a weaker level may stand
settle-room : (n : ℕ) (ws : List Wait) (v : Outcome) → n ≤ 9 → Room n ws → settle ws v ≡ record { waits = ws; operand = v }
settle-room n [] v l r = refl
settle-room n (group ∷ ws) v l r = refl
settle-room n (front op ∷ ws) v l r = absurd (omega arith)
settle-room n (left u op ∷ ws) v l r = refl

-- what waits below the level stays
reduce-room : (n : ℕ) (ws : List Wait) (v : Outcome) → n ≤ 9 → Room n ws → reduce n ws v ≡ record { waits = ws; operand = v }
reduce-room n [] v l r = refl
reduce-room n (group ∷ ws) v l r = refl
reduce-room n (front op ∷ ws) v l r = refl
reduce-room n (left u op ∷ ws) v l r = let e : nat_le n (level op) ≡ false = lt-leb n (level op) (omega (arith, r)) in rw e refl

-- After the terms of a tree an operand is held, which is the tree's value once what waits above the
-- level n has been reduced.
record Read (n : ℕ) (ws : List Wait) (t : Tree) (rest : List Symbol) : Type 0 where
  held : Held
  reads : run (Some (wanting ws)) (spelling t ++ rest) ≡ run (Some (holding held)) rest
  reduces : (m : ℕ) → m ≤ n → reduce m held.waits held.operand ≡ (let h = settle ws (value_of t) in reduce m h.waits h.operand)

run-value : (ws : List Wait) (v : Outcome) (ts : List Symbol) → run (Some (wanting ws)) (value v ∷ ts) ≡ run (Some (holding (settle ws v))) ts
unfolding run
run-value ws v ts = refl

run-front : (ws : List Wait) (op : PrefixOperator) (ts : List Symbol) → depth_of ws < 64 → run (Some (wanting ws)) (prefix op ∷ ts) ≡ run (Some (wanting (front op ∷ ws))) ts
unfolding run
run-front ws op ts h = ap (λ b. run (cond b (Some (wanting (front op ∷ ws))) None) ts) (lt-ltb (depth_of ws) 64 h)

run-open : (ws : List Wait) (ts : List Symbol) → depth_of ws < 64 → run (Some (wanting ws)) (open_mark ∷ ts) ≡ run (Some (wanting (group ∷ ws))) ts
unfolding run
run-open ws ts h = ap (λ b. run (cond b (Some (wanting (group ∷ ws))) None) ts) (lt-ltb (depth_of ws) 64 h)

run-binary : (ws us : List Wait) (v w : Outcome) (op : BinaryOperator) (ts : List Symbol) → reduce (level op) ws v ≡ record { waits = us; operand = w } → run (Some (holding (record { waits = ws; operand = v }))) (binary op ∷ ts) ≡ run (Some (wanting (left w op ∷ us))) ts
unfolding run
run-binary ws us v w op ts e = ap (λ (h : Held). run (Some (wanting (left h.operand op ∷ h.waits))) ts) e

run-close : (ws us : List Wait) (v w : Outcome) (ts : List Symbol) → reduce 0 ws v ≡ record { waits = group ∷ us; operand = w } → run (Some (holding (record { waits = ws; operand = v }))) (close_mark ∷ ts) ≡ run (Some (holding (settle us w))) ts
unfolding run
run-close ws us v w ts e = ap (λ (h : Held). run (closed h.waits h.operand) ts) e

reads : (t : Tree) (n : ℕ) (ws : List Wait) (rest : List Symbol) → n ≤ 10 → Binds n t → Room n ws → nesting t + depth_of ws ≤ 64 → Read n ws t rest
reads (leaf v) n ws rest l b r d = record { held = settle ws v; reads = run-value ws v rest; reduces = λ m k. refl }
reads (prefixed op t) n ws rest l b r d =
    let ih = reads t 10 (front op ∷ ws) rest (omega arith) b (omega arith) (omega (arith, d)) in
    record {
      held = ih.held;
      reads = run-front ws op (spelling t ++ rest) (omega (arith, d)) ∙ ih.reads;
      reduces = λ m k. ih.reduces m (omega (arith, k, l));
    }
reads (joined x op y) n ws rest l b r d =
    let top = level-le op in
    let more = Room-more n (level op) ws b.0 r in
    let after = spelling y ++ rest in
    let one = reads x (level op) ws (binary op ∷ after) (omega (arith, top)) b.1 more (omega (arith, d)) in
    let free = settle-room n ws (value_of x) (omega (arith, b.0, top)) r in
    let kept = reduce-room (level op) ws (value_of x) top more in
    let reduced = one.reduces (level op) (omega arith) ∙ ap (λ (h : Held). reduce (level op) h.waits h.operand) free ∙ kept in
    let two = reads y (level op + 1) (left (value_of x) op ∷ ws) rest (omega (arith, top)) b.2 (omega arith) (omega (arith, d)) in
    let free_too = settle-room n ws (apply op (value_of x) (value_of y)) (omega (arith, b.0, top)) r in
    record {
      held = two.held;
      reads = ap (λ ts. run (Some (wanting ws)) ts) (append_assoc (spelling x) (binary op ∷ spelling y) rest) ∙ one.reads ∙ run-binary one.held.waits ws one.held.operand (value_of x) op after reduced ∙ two.reads;
      reduces = λ m k. two.reduces m (omega (arith, k, b.0)) ∙ ap (λ c. cond c (reduce m ws (apply op (value_of x) (value_of y))) (record { waits = left (value_of x) op ∷ ws; operand = value_of y })) (le-leb m (level op) (omega (arith, k, b.0))) ∙ ap (λ (h : Held). reduce m h.waits h.operand) (sym free_too);
    }
reads (grouped t) n ws rest l b r d =
    let ih = reads t 0 (group ∷ ws) (close_mark ∷ rest) (omega arith) b tt (omega (arith, d)) in
    record {
      held = settle ws (value_of t);
      reads = run-open ws ((spelling t ++ close_mark ∷ []) ++ rest) (omega (arith, d)) ∙ ap (λ ts. run (Some (wanting (group ∷ ws))) ts) (append_assoc (spelling t) (close_mark ∷ []) rest) ∙ ih.reads ∙ run-close ih.held.waits ws ih.held.operand (value_of t) rest (ih.reduces 0 (omega arith));
      reduces = λ m k. refl;
    }

-- each tree of the grammar is read, and gives its value
pub complete : (ts : List Symbol) (t : Tree) → IsTree ts t → run (Some (wanting [])) ts ≡ Some (value_of t)
unfolding run
complete ts t is =
    let ih = reads t 0 [] [] (omega arith) is.binds tt (omega (arith, is.shallow)) in
    ap (run (Some (wanting []))) (is.spelled ∙ sym (append-nil (spelling t))) ∙ ih.reads ∙ ap (λ (h : Held). whole h.waits h.operand) (ih.reduces 0 (omega arith))
