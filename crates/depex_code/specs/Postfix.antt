-- A machine that reads opcodes byte by byte, and what the reader's functions answer of it.
use Rattle.std.specs.Prelude.{◌≡◌, ◌==◌, ℕ, ◌+◌, ◌≤◌, Bool, nat_le, if◌then◌else◌, List, [], ◌∷◌, ◌++◌, Option, Some, None, length, map, reverse, drop, ◌<◌}
use Rattle.depex_code.specs.declared.held.Held.{Held}
use Rattle.depex_code.specs.Tree.{Tree, push, both, either, neg, truth, falsity, before, after, sor, tree_of, post, nest, opcodes, Plain}

-- trees, the last one first; while a GUID is read its opcode and its bytes so far
pub data State : Type 0 where
  ready : List Tree → State
  taking : ℕ → List ℕ → List Tree → State
  stuck : State

abbrev pub leaf : ℕ → List ℕ → Tree
leaf kind guid = if kind == 0 then before guid else if kind == 1 then after guid else push guid

abbrev pub join_trees : ℕ → Tree → Tree → Tree
join_trees op a b = if op == 3 then both a b else either a b

-- a tree that nests too deep is never held
abbrev pub held : Tree → List Tree → State
held t ts = if nat_le (nest t) 64 then ready (t ∷ ts) else stuck

abbrev pub join : ℕ → List Tree → State
join op [] = stuck
join op (b ∷ []) = stuck
join op (b ∷ a ∷ ts) = held (join_trees op a b) ts

abbrev pub negate : List Tree → State
negate [] = stuck
negate (a ∷ ts) = held (neg a) ts

-- an opcode of three or more
abbrev pub apply : ℕ → List Tree → State
apply op ts =
    if nat_le op 4 then join op ts
    else if op == 5 then negate ts
    else if op == 6 then ready (truth ∷ ts)
    else if op == 7 then ready (falsity ∷ ts)
    else stuck

abbrev pub opcode : ℕ → List Tree → State
opcode op ts = if nat_le op 2 then taking op [] ts else apply op ts

abbrev pub step : State → ℕ → State
step (ready ts) b = opcode b ts
step (taking kind guid ts) b =
    if length guid == 15 then ready (leaf kind (guid ++ b ∷ []) ∷ ts)
    else taking kind (guid ++ b ∷ []) ts
step stuck b = stuck

unfoldable pub run : State → List ℕ → State
run s [] = s
run s (b ∷ bs) = run (step s b) bs

-- the code keeps the last one last
abbrev pub trees : List Held → List Tree
trees hs = reverse (map (λ h. tree_of h.tree) hs)

abbrev pub total : List Tree → ℕ
total [] = 0
total (t ∷ ts) = opcodes t + total ts

abbrev pub Applied : ℕ → List Held → List Held → Bool → Type 0
Applied op old new goes = apply op (trees old) ≡ (if goes then ready (trees new) else stuck)

-- one opcode is read, at one place and on to another, or the bytes have no tree
abbrev pub Turned : List ℕ → ℕ → List Held → List Held → Option ℕ → Type 0
Turned bytes at old new None = (ts : List Tree) → run (ready (trees old)) (drop at bytes) ≡ ready ts
    → ⊥
Turned bytes at old new (Some next) =
    (run (ready (trees old)) (drop at bytes) ≡ run (ready (trees new)) (drop next bytes))
    × (at < next) × (next ≤ length bytes) × (total (trees new) ≡ total (trees old) + 1)

-- the trees of the bytes, at most so many opcodes
abbrev pub Ran : List ℕ → ℕ → Option (List Held) → Type 0
Ran bytes most None = (ts : List Tree) → run (ready []) bytes ≡ ready ts → total ts ≤ most → ⊥
Ran bytes most (Some stack) = (run (ready []) bytes ≡ ready (trees stack))
    × (total (trees stack) ≤ most)

-- what is taken is the first of the trees
abbrev pub trees_are : List Tree → Option Tree → List Tree → Type 0
trees_are old None new = (old ≡ []) × (new ≡ [])
trees_are old (Some t) new = old ≡ t ∷ new

abbrev pub OnlyIs : List Tree → Option Tree → Type 0
OnlyIs ts None = (t : Tree) → ts ≡ t ∷ [] → ⊥
OnlyIs ts (Some t) = ts ≡ t ∷ []

-- an expression without END and Sor; extra is what a Sor around it adds
pub record IsBody (bytes : List ℕ) (extra : ℕ) (t : Tree) : Type 0 where
  pub spelled : bytes ≡ post t
  pub plain : Plain t
  pub shallow : nest t + extra ≤ 64
  pub short : opcodes t + extra ≤ 4096

abbrev pub BodyRead : List ℕ → ℕ → Option Tree → Type 0
BodyRead bytes extra (Some t) = IsBody bytes extra t
BodyRead bytes extra None = (t : Tree) → IsBody bytes extra t → ⊥

-- a Sor around what is read
abbrev pub SorRead : List ℕ → Option Tree → Type 0
SorRead bytes (Some (sor t)) = IsBody bytes 1 t
SorRead bytes (Some t) = ⊥
SorRead bytes None = (t : Tree) → IsBody bytes 1 t → ⊥
