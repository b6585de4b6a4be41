-- Expressions as trees, their postfix form and their limits (UEFI PI specification, volumes 1 and
-- 2).
use Rattle.std.specs.Prelude.{◌≡◌, ℕ, ◌+◌, ◌≤◌, max, Bool, true, false, if◌then◌else◌, List, [], ◌∷◌, ◌++◌, Option, Some, None, length, fold}
use Rattle.std.specs.List.{list_any}
use Rattle.std.specs.Str.{bytes_eq}
use Rattle.doc_types.specs.declared.depex.Depex.{Depex, Push, And', Or', Not', True, False, Before, After, Sor'}

-- a GUID is its sixteen bytes
pub data Tree : Type 0 where
  push : List ℕ → Tree
  both : Tree → Tree → Tree
  either : Tree → Tree → Tree
  neg : Tree → Tree
  truth : Tree
  falsity : Tree
  before : List ℕ → Tree
  after : List ℕ → Tree
  sor : Tree → Tree

abbrev pub tree_of : Depex → Tree
tree_of (Push guid) = push guid.0
tree_of (And' p a q b) = both (tree_of a) (tree_of b)
tree_of (Or' p a q b) = either (tree_of a) (tree_of b)
tree_of (Not' p a) = neg (tree_of a)
tree_of True = truth
tree_of False = falsity
tree_of (Before guid) = before guid.0
tree_of (After guid) = after guid.0
tree_of (Sor' p a) = sor (tree_of a)

-- The postfix form. The opcodes are BEFORE 0, AFTER 1, PUSH 2, AND 3, OR 4, NOT 5, TRUE 6, FALSE 7
-- and SOR 9, which stands in front.
unfoldable pub post : Tree → List ℕ
post (push guid) = 2 ∷ guid
post (both a b) = post a ++ post b ++ 3 ∷ []
post (either a b) = post a ++ post b ++ 4 ∷ []
post (neg a) = post a ++ 5 ∷ []
post truth = 6 ∷ []
post falsity = 7 ∷ []
post (before guid) = 0 ∷ guid
post (after guid) = 1 ∷ guid
post (sor a) = 9 ∷ post a

-- how deep it nests; a long row of AND doesn't nest
abbrev pub nest : Tree → ℕ
nest (push guid) = 1
nest (both a b) = max (nest a) (nest b + 1)
nest (either a b) = max (nest a) (nest b + 1)
nest (neg a) = nest a + 1
nest truth = 1
nest falsity = 1
nest (before guid) = 1
nest (after guid) = 1
nest (sor a) = nest a + 1

abbrev pub opcodes : Tree → ℕ
opcodes (push guid) = 1
opcodes (both a b) = opcodes a + opcodes b + 1
opcodes (either a b) = opcodes a + opcodes b + 1
opcodes (neg a) = opcodes a + 1
opcodes truth = 1
opcodes falsity = 1
opcodes (before guid) = 1
opcodes (after guid) = 1
opcodes (sor a) = opcodes a + 1

-- a BEFORE or an AFTER
abbrev pub is_alone : Tree → Bool
is_alone (push guid) = false
is_alone (both a b) = false
is_alone (either a b) = false
is_alone (neg a) = false
is_alone truth = false
is_alone falsity = false
is_alone (before guid) = true
is_alone (after guid) = true
is_alone (sor a) = false

-- Conjunctions.

abbrev pub both_lists : Option (List (List ℕ)) → Option (List (List ℕ)) → Option (List (List ℕ))
both_lists None y = None
both_lists (Some xs) None = None
both_lists (Some xs) (Some ys) = Some (xs ++ ys)

-- the GUIDs from left to right of a tree that has nothing but And, Push and True; none of another
-- tree
abbrev pub conjuncts : Tree → Option (List (List ℕ))
conjuncts (push guid) = Some (guid ∷ [])
conjuncts (both a b) = both_lists (conjuncts a) (conjuncts b)
conjuncts (either a b) = None
conjuncts (neg a) = None
conjuncts truth = Some []
conjuncts falsity = None
conjuncts (before guid) = None
conjuncts (after guid) = None
conjuncts (sor a) = None

-- a GUID behind others, where it isn't among them
abbrev pub with_guid : List (List ℕ) → List ℕ → List (List ℕ)
with_guid guids guid = if list_any (bytes_eq guid) guids then guids else guids ++ guid ∷ []

-- each GUID at its first place alone
abbrev pub each_once : List (List ℕ) → List (List ℕ)
each_once guids = fold with_guid [] guids

abbrev pub and_push : Tree → List ℕ → Tree
and_push t guid = both t (push guid)

-- the GUIDs joined from the left by And, or True where there is none
abbrev pub conjunction : List (List ℕ) → Tree
conjunction [] = truth
conjunction (guid ∷ guids) = fold and_push (push guid) guids

abbrev pub conjunction_or : Tree → Option (List (List ℕ)) → Tree
conjunction_or t None = t
conjunction_or t (Some guids) = conjunction (each_once guids)

-- a tree that has nothing but And, Push and True loses its repeats and its True
unfoldable pub simplified : Tree → Tree
simplified t = conjunction_or t (conjuncts t)

-- no Sor within, and GUIDs of sixteen bytes
abbrev pub Plain : Tree → Type 0
Plain (push guid) = length guid ≡ 16
Plain (both a b) = Plain a × Plain b
Plain (either a b) = Plain a × Plain b
Plain (neg a) = Plain a
Plain truth = Unit {0}
Plain falsity = Unit {0}
Plain (before guid) = length guid ≡ 16
Plain (after guid) = length guid ≡ 16
Plain (sor a) = ⊥

-- Sor stands at the root or nowhere
abbrev pub IsPlaced : Tree → Type 0
IsPlaced (push guid) = Plain (push guid)
IsPlaced (both a b) = Plain (both a b)
IsPlaced (either a b) = Plain (either a b)
IsPlaced (neg a) = Plain (neg a)
IsPlaced truth = Unit {0}
IsPlaced falsity = Unit {0}
IsPlaced (before guid) = Plain (before guid)
IsPlaced (after guid) = Plain (after guid)
IsPlaced (sor a) = Plain a

-- the bytes of an expression: the postfix form and END
abbrev pub bytes_of : Tree → List ℕ
bytes_of t = post t ++ 8 ∷ []

-- the bytes are those of the tree, which keeps the limits
pub record IsForm (bytes : List ℕ) (t : Tree) : Type 0 where
  pub spelled : bytes ≡ bytes_of t
  pub placed : IsPlaced t
  pub shallow : nest t ≤ 64
  pub short : opcodes t ≤ 4096

-- what reading the bytes back gives: their tree, or nothing where no tree has them
abbrev pub ReadBack : List ℕ → Option Tree → Type 0
ReadBack bytes (Some t) = IsForm bytes t
ReadBack bytes None = (t : Tree) → IsForm bytes t → ⊥
