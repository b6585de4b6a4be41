-- What is read has a tree.
use Rattle.std.proofs.Common.{◌≡◌, ℕ, ◌+◌, ◌<◌, ◌≤◌, Bool, true, false, nat_lt, nat_le, cond, List, [], ◌∷◌, ◌++◌, Option, Some, None, append_assoc, append-nil, refl, sym, ap, ◌∙◌, subst, arith}
use Rattle.std.proofs.lemmas.Bool.{ltb-true, leb-true, leb-false}
use Rattle.macro_expressions.specs.Values.{Outcome, level, apply, apply_prefix}
use Rattle.macro_expressions.specs.ExpressionTree.{Symbol, value, binary, prefix, open_mark, close_mark, unknown, Tree, leaf, prefixed, joined, grouped, spelling, Binds, nesting, value_of, IsTree}
use Rattle.macro_expressions.specs.ExpressionMachine.{Wait, group, front, left, Held, State, depth_of, settle, reduce, wanting, deeper, closed, next, step, whole, ended, run}
use Rattle.macro_expressions.proofs.ExpressionComplete.{level-le}

-- the level from which an operand above these waits binds
abbrev bound : List Wait → ℕ
bound [] = 0
bound (group ∷ ws) = 0
bound (front op ∷ ws) = 10
bound (left v op ∷ ws) = level op + 1

-- prefix operators have taken their operand
abbrev Settled : List Wait → Type 0
Settled [] = Unit {0}
Settled (group ∷ ws) = Unit {0}
Settled (front op ∷ ws) = ⊥
Settled (left v op ∷ ws) = Unit {0}

-- the tree has the value, and may stand above waits of the level and depth_of
record Stands (n deep : ℕ) (v : Outcome) (t : Tree) : Type 0 where
  value : value_of t ≡ v
  binds : Binds n t
  shallow : nesting t + deep ≤ 64

-- the waits stand for the terms
abbrev Waits : List Wait → List Symbol → Type 0
Waits [] ts = ts ≡ []
Waits (group ∷ ws) ts = (us : List Symbol) × Waits ws us × (ts ≡ us ++ open_mark ∷ []) × (depth_of ws < 64)
Waits (front op ∷ ws) ts = (us : List Symbol) × Waits ws us × (ts ≡ us ++ prefix op ∷ []) × (depth_of ws < 64)
Waits (left v op ∷ ws) ts = (us : List Symbol) × (t : Tree) × Waits ws us × (ts ≡ us ++ (spelling t ++ binary op ∷ [])) × Stands (level op) (depth_of ws) v t × (bound ws ≤ level op) × Settled ws

-- the waits and the operand stand for the terms
record Holds (n : ℕ) (ws : List Wait) (v : Outcome) (ts : List Symbol) : Type 0 where
  front_part : List Symbol
  tree : Tree
  waits : Waits ws front_part
  is : ts ≡ front_part ++ spelling tree
  stands : Stands (bound ws) (depth_of ws) v tree
  tight : Binds n tree
  settled : Settled ws

-- an operand has been read above the waits
record Reaches (ws : List Wait) (v : Outcome) (ts : List Symbol) : Type 0 where
  front_part : List Symbol
  tree : Tree
  waits : Waits ws front_part
  is : ts ≡ front_part ++ spelling tree
  stands : Stands (bound ws) (depth_of ws) v tree
  tight : Binds 10 tree

settles : (ws : List Wait) (v : Outcome) (ts : List Symbol) → Reaches ws v ts → Holds 10 (settle ws v).waits (settle ws v).operand ts
settles [] v ts h = record { front_part = h.front_part; tree = h.tree; waits = h.waits; is = h.is; stands = h.stands; tight = h.tight; settled = tt }
settles (group ∷ ws) v ts h = record { front_part = h.front_part; tree = h.tree; waits = h.waits; is = h.is; stands = h.stands; tight = h.tight; settled = tt }
settles (left u op ∷ ws) v ts h = record { front_part = h.front_part; tree = h.tree; waits = h.waits; is = h.is; stands = h.stands; tight = h.tight; settled = tt }
settles (front op ∷ ws) v ts h =
    let w = h.waits in
    let us : List Symbol = w.0 in
    settles ws (apply_prefix op v) ts (record {
      front_part = us;
      tree = prefixed op h.tree;
      waits = w.1;
      is = h.is ∙ ap (λ xs. xs ++ spelling h.tree) w.2 ∙ append_assoc us (prefix op ∷ []) (spelling h.tree);
      stands = record { value = ap (apply_prefix op) h.stands.value; binds = h.stands.binds; shallow = omega (arith, h.stands.shallow) };
      tight = h.stands.binds;
    })

-- what a choice gives, by the test
pick : {A : Type 0} (P : A → Type 0) (b : Bool) (x y : A) → (b ≡ true → P x) → (b ≡ false → P y) → P (cond b x y)
pick P true x y f g = f refl
pick P false x y f g = g refl

abbrev Ready : ℕ → List Symbol → Held → Type 0
Ready n ts h = Holds n h.waits h.operand ts × (bound h.waits ≤ n)

reduces : (n : ℕ) (ws : List Wait) (v : Outcome) (ts : List Symbol) → Holds n ws v ts → Ready n ts (reduce n ws v)
reduces n [] v ts h = (h, omega arith)
reduces n (group ∷ ws) v ts h = (h, omega arith)
reduces n (front op ∷ ws) v ts h = absurd h.settled
reduces n (left u op ∷ ws) v ts h =
    let w = h.waits in
    let us : List Symbol = w.0 in
    let x : Tree = w.1 in
    let sx : Stands (level op) (depth_of ws) u x = w.4 in
    let longer : n ≤ level op → Holds n ws (apply op u v) ts = λ l. record {
      front_part = us;
      tree = joined x op h.tree;
      waits = w.2;
      is = h.is ∙ ap (λ xs. xs ++ spelling h.tree) w.3 ∙ append_assoc us (spelling x ++ binary op ∷ []) (spelling h.tree) ∙ ap (λ xs. us ++ xs) (append_assoc (spelling x) (binary op ∷ []) (spelling h.tree));
      stands = record { value = ap (λ a. apply op a (value_of h.tree)) sx.value ∙ ap (apply op u) h.stands.value; binds = (w.5, sx.binds, h.stands.binds); shallow = omega (arith, sx.shallow, h.stands.shallow) };
      tight = (l, sx.binds, h.stands.binds);
      settled = w.6;
    } in
    pick (Ready n ts) (nat_le n (level op)) (reduce n ws (apply op u v)) (record { waits = left u op ∷ ws; operand = v })
    (λ e. reduces n ws (apply op u v) ts (longer (leb-true n (level op) e)))
    (λ e. (h, omega (arith, leb-false n (level op) e)))

-- what a state has read
abbrev MeansBy : List Wait → Option Outcome → List Symbol → Type 0
MeansBy ws None ts = Waits ws ts
MeansBy ws (Some v) ts = Holds 10 ws v ts

abbrev Means : Option State → List Symbol → Type 0
Means None ts = Unit {0}
Means (Some s) ts = MeansBy s.waits s.operand ts

means_deeper : (w : Wait) (ws : List Wait) (ts : List Symbol) → (depth_of ws < 64 → Waits (w ∷ ws) ts) → Means (deeper w ws) ts
means_deeper w ws ts f = pick (λ o. Means o ts) (nat_lt (depth_of ws) 64) (Some (wanting (w ∷ ws))) None (λ e. f (ltb-true (depth_of ws) 64 e)) (λ e. tt)

means_closed : (ws : List Wait) (v : Outcome) (ts : List Symbol) → Holds 0 ws v ts → Means (closed ws v) (ts ++ close_mark ∷ [])
means_closed [] v ts h = tt
means_closed (front op ∷ ws) v ts h = tt
means_closed (left u op ∷ ws) v ts h = tt
means_closed (group ∷ ws) v ts h =
    let w = h.waits in
    let us : List Symbol = w.0 in
    settles ws v (ts ++ close_mark ∷ []) (record {
      front_part = us;
      tree = grouped h.tree;
      waits = w.1;
      is = ap (λ xs. xs ++ close_mark ∷ []) (h.is ∙ ap (λ xs. xs ++ spelling h.tree) w.2 ∙ append_assoc us (open_mark ∷ []) (spelling h.tree)) ∙ append_assoc us (open_mark ∷ spelling h.tree) (close_mark ∷ []);
      stands = record { value = h.stands.value; binds = h.stands.binds; shallow = omega (arith, h.stands.shallow) };
      tight = h.stands.binds;
    })

weaker : (m n : ℕ) (t : Tree) → m ≤ n → Binds n t → Binds m t
weaker m n (leaf v) l b = tt
weaker m n (prefixed op t) l b = b
weaker m n (joined x op y) l b = (omega (arith, b.0), b.1, b.2)
weaker m n (grouped t) l b = b

loosen : (n : ℕ) (ws : List Wait) (v : Outcome) (ts : List Symbol) → n ≤ 10 → Holds 10 ws v ts → Holds n ws v ts
loosen n ws v ts l h = record { front_part = h.front_part; tree = h.tree; waits = h.waits; is = h.is; stands = h.stands; tight = weaker n 10 h.tree l h.tight; settled = h.settled }

waits_depth : (ws : List Wait) (ts : List Symbol) → Waits ws ts → depth_of ws ≤ 64
waits_depth [] ts w = omega arith
waits_depth (group ∷ ws) ts w = omega (arith, w.3)
waits_depth (front op ∷ ws) ts w = omega (arith, w.3)
waits_depth (left u op ∷ ws) ts w = let s : Stands (level op) (depth_of ws) u w.1 = w.4 in omega (arith, s.shallow)

means_next : (ws : List Wait) (o : Option Outcome) (t : Symbol) (ts : List Symbol) → MeansBy ws o ts → Means (step (record { waits = ws; operand = o }) t) (ts ++ t ∷ [])
means_next ws None (value v) ts m =
    settles ws v (ts ++ value v ∷ []) (record { front_part = ts; tree = leaf v; waits = m; is = refl; stands = record { value = refl; binds = tt; shallow = omega (arith, waits_depth ws ts m) }; tight = tt })
means_next ws None (binary op) ts m = tt
means_next ws None (prefix op) ts m = means_deeper (front op) ws (ts ++ prefix op ∷ []) (λ l. (ts, m, refl, l))
means_next ws None open_mark ts m = means_deeper group ws (ts ++ open_mark ∷ []) (λ l. (ts, m, refl, l))
means_next ws None close_mark ts m = tt
means_next ws None unknown ts m = tt
means_next ws (Some v) (value u) ts m = tt
means_next ws (Some v) (prefix op) ts m = tt
means_next ws (Some v) open_mark ts m = tt
means_next ws (Some v) unknown ts m = tt
means_next ws (Some v) (binary op) ts m =
    let r = reduces (level op) ws v ts (loosen (level op) ws v ts (omega (arith, level-le op)) m) in
    let h = r.0 in
    (h.front_part, h.tree, h.waits, ap (λ xs. xs ++ binary op ∷ []) h.is ∙ append_assoc h.front_part (spelling h.tree) (binary op ∷ []), record { value = h.stands.value; binds = h.tight; shallow = h.stands.shallow }, r.1, h.settled)
means_next ws (Some v) close_mark ts m = means_closed (reduce 0 ws v).waits (reduce 0 ws v).operand ts (reduces 0 ws v ts (loosen 0 ws v ts (omega arith) m)).0

means_step : (o : Option State) (t : Symbol) (ts : List Symbol) → Means o ts → Means (next o t) (ts ++ t ∷ [])
means_step None t ts m = tt
means_step (Some s) t ts m = means_next s.waits s.operand t ts m

-- what a whole run has read
abbrev Tells : Option Outcome → List Symbol → Type 0
Tells None ts = Unit {0}
Tells (Some v) ts = (t : Tree) × IsTree ts t × (value_of t ≡ v)

tells_whole : (ws : List Wait) (v : Outcome) (ts : List Symbol) → Holds 0 ws v ts → Tells (whole ws v) ts
tells_whole (w ∷ ws) v ts h = tt
tells_whole [] v ts h = (h.tree, record { spelled = h.is ∙ ap (λ xs. xs ++ spelling h.tree) h.waits; binds = h.tight; shallow = omega (arith, h.stands.shallow) }, h.stands.value)

tells_ended : (ws : List Wait) (o : Option Outcome) (ts : List Symbol) → MeansBy ws o ts → Tells (ended (record { waits = ws; operand = o })) ts
tells_ended ws None ts m = tt
tells_ended ws (Some v) ts m = tells_whole (reduce 0 ws v).waits (reduce 0 ws v).operand ts (reduces 0 ws v ts (loosen 0 ws v ts (omega arith) m)).0

tells_run : (o : Option State) (ts done : List Symbol) → Means o done → Tells (run o ts) (done ++ ts)
unfolding run
tells_run None [] done m = tt
tells_run (Some s) [] done m = subst (Tells (ended s)) (sym (append-nil done)) (tells_ended s.waits s.operand done m)
tells_run o (t ∷ ts) done m = subst (Tells (run (next o t) ts)) (append_assoc done (t ∷ []) ts) (tells_run (next o t) ts (done ++ t ∷ []) (means_step o t done m))

-- what is read has a tree
pub sound : (ts : List Symbol) (v : Outcome) → run (Some (wanting [])) ts ≡ Some v → (t : Tree) × IsTree ts t × (value_of t ≡ v)
sound ts v e = subst (λ o. Tells o ts) e (tells_run (Some (wanting [])) ts [] refl)
