-- A conjunction without repeats: its postfix form, and that it stays within the limits.
use Rattle.std.proofs.Common.{◌≡◌, ℕ, ◌+◌, ◌*◌, ◌≤◌, max, Bool, true, false, cond, List, [], ◌∷◌, ◌++◌, Option, Some, None, length, fold, refl, ap, length-append, arith}
use Rattle.std.specs.List.{list_any}
use Rattle.std.specs.Str.{bytes_eq}
use Rattle.depex_code.specs.Tree.{Tree, push, both, either, neg, truth, falsity, before, after, sor, both_lists, conjuncts, with_guid, each_once, and_push, conjunction, conjunction_or, simplified, post, nest, opcodes, Plain}
use Rattle.depex_code.specs.Sizes.{form_of}
use Rattle.depex_code.specs.SizedJoins.{and_guid, or_true, and_bytes_or, simple_bytes}

-- The postfix form.

push-post : (bs : List ℕ) (t : Tree) (guid : List ℕ) → bs ≡ post t → bs ++ 2 ∷ guid ++ 3 ∷ [] ≡ post (both t (push guid))
unfolding post
push-post bs t guid e = ap (λ l. l ++ 2 ∷ guid ++ 3 ∷ []) e

pushed-post : (b : ℕ) (bs : List ℕ) (t : Tree) (guids : List (List ℕ)) → b ∷ bs ≡ post t → or_true (fold and_guid (b ∷ bs) guids) ≡ post (fold and_push t guids)
pushed-post b bs t [] e = e
pushed-post b bs t (guid ∷ guids) e = pushed-post b (bs ++ 2 ∷ guid ++ 3 ∷ []) (both t (push guid)) guids (push-post (b ∷ bs) t guid e)

conjunction-post : (guids : List (List ℕ)) → or_true (fold and_guid [] guids) ≡ post (conjunction guids)
unfolding post
conjunction-post [] = refl
conjunction-post (guid ∷ guids) = pushed-post 2 guid (push guid) guids refl

or-post : (t : Tree) (guids : Option (List (List ℕ))) → and_bytes_or (post t) guids ≡ post (conjunction_or t guids)
or-post t None = refl
or-post t (Some guids) = conjunction-post (each_once guids)

pub simple-post : (t : Tree) → simple_bytes (form_of t) ≡ post (simplified t)
unfolding simplified
simple-post t = or-post t (conjuncts t)

-- How deep it nests.

pushed-nest : (t : Tree) (guids : List (List ℕ)) → nest t ≤ 2 → nest (fold and_push t guids) ≤ 2
pushed-nest t [] h = h
pushed-nest t (guid ∷ guids) h = pushed-nest (both t (push guid)) guids (omega (arith, h))

conjunction-nest : (guids : List (List ℕ)) → nest (conjunction guids) ≤ 2
conjunction-nest [] = omega arith
conjunction-nest (guid ∷ guids) = pushed-nest (push guid) guids (omega arith)

or-nest : (t : Tree) (guids : Option (List (List ℕ))) → nest (conjunction_or t guids) ≤ max (nest t) 2
or-nest t None = omega arith
or-nest t (Some guids) = omega (arith, conjunction-nest (each_once guids))

pub simple-nest : (t : Tree) → nest (simplified t) ≤ max (nest t) 2
unfolding simplified
simple-nest t = or-nest t (conjuncts t)

-- Its opcodes.

pushed-opcodes : (t : Tree) (guids : List (List ℕ)) → opcodes (fold and_push t guids) ≡ opcodes t + 2 * length guids
pushed-opcodes t [] = omega arith
pushed-opcodes t (guid ∷ guids) = omega (arith, pushed-opcodes (both t (push guid)) guids)

conjunction-opcodes : (guids : List (List ℕ)) → opcodes (conjunction guids) + 1 ≤ 2 * max (length guids) 1
conjunction-opcodes [] = omega arith
conjunction-opcodes (guid ∷ guids) = omega (arith, pushed-opcodes (push guid) guids)

with-fewer : (seen : List (List ℕ)) (guid : List ℕ) → length (with_guid seen guid) ≤ length seen + 1
with-fewer seen guid = by_test (list_any (bytes_eq guid) seen) where
  by_test : (b : Bool) → length (cond b seen (seen ++ guid ∷ [])) ≤ length seen + 1
  by_test true = omega arith
  by_test false = omega (arith, length-append seen (guid ∷ []))

once-fewer : (seen guids : List (List ℕ)) → length (fold with_guid seen guids) ≤ length seen + length guids
once-fewer seen [] = omega arith
once-fewer seen (guid ∷ guids) = omega (arith, once-fewer (with_guid seen guid) guids, with-fewer seen guid)

-- a tree with so many GUIDs has opcodes for them and for what joins them
abbrev Costs : Tree → Option (List (List ℕ)) → Type 0
Costs t None = Unit {0}
Costs t (Some guids) = 2 * max (length guids) 1 ≤ opcodes t + 1

both-costs : (a b : Tree) (x y : Option (List (List ℕ))) → Costs a x → Costs b y → Costs (both a b) (both_lists x y)
both-costs a b None y c d = tt
both-costs a b (Some xs) None c d = tt
both-costs a b (Some xs) (Some ys) c d = omega (arith, c, d, length-append xs ys)

conjuncts-cost : (t : Tree) → Costs t (conjuncts t)
conjuncts-cost (push guid) = omega arith
conjuncts-cost (both a b) = both-costs a b (conjuncts a) (conjuncts b) (conjuncts-cost a) (conjuncts-cost b)
conjuncts-cost (either a b) = tt
conjuncts-cost (neg a) = tt
conjuncts-cost truth = omega arith
conjuncts-cost falsity = tt
conjuncts-cost (before guid) = tt
conjuncts-cost (after guid) = tt
conjuncts-cost (sor a) = tt

or-opcodes : (t : Tree) (guids : Option (List (List ℕ))) → Costs t guids → opcodes (conjunction_or t guids) ≤ opcodes t
or-opcodes t None c = omega arith
or-opcodes t (Some guids) c = omega (arith, c, conjunction-opcodes (each_once guids), once-fewer [] guids)

pub simple-opcodes : (t : Tree) → opcodes (simplified t) ≤ opcodes t
unfolding simplified
simple-opcodes t = or-opcodes t (conjuncts t) (conjuncts-cost t)

-- Its GUIDs have sixteen bytes.

abbrev Sixteens : List (List ℕ) → Type 0
Sixteens [] = Unit {0}
Sixteens (guid ∷ guids) = (length guid ≡ 16) × Sixteens guids

abbrev AllSixteen : Option (List (List ℕ)) → Type 0
AllSixteen None = Unit {0}
AllSixteen (Some guids) = Sixteens guids

sixteens-append : (xs ys : List (List ℕ)) → Sixteens xs → Sixteens ys → Sixteens (xs ++ ys)
sixteens-append [] ys p q = q
sixteens-append (x ∷ xs) ys p q = (p.0, sixteens-append xs ys p.1 q)

both-sixteen : (x y : Option (List (List ℕ))) → AllSixteen x → AllSixteen y → AllSixteen (both_lists x y)
both-sixteen None y p q = tt
both-sixteen (Some xs) None p q = tt
both-sixteen (Some xs) (Some ys) p q = sixteens-append xs ys p q

conjuncts-sixteen : (t : Tree) → Plain t → AllSixteen (conjuncts t)
conjuncts-sixteen (push guid) p = (p, tt)
conjuncts-sixteen (both a b) p = both-sixteen (conjuncts a) (conjuncts b) (conjuncts-sixteen a p.0) (conjuncts-sixteen b p.1)
conjuncts-sixteen (either a b) p = tt
conjuncts-sixteen (neg a) p = tt
conjuncts-sixteen truth p = tt
conjuncts-sixteen falsity p = tt
conjuncts-sixteen (before guid) p = tt
conjuncts-sixteen (after guid) p = tt
conjuncts-sixteen (sor a) p = tt

with-sixteen : (seen : List (List ℕ)) (guid : List ℕ) → Sixteens seen → length guid ≡ 16 → Sixteens (with_guid seen guid)
with-sixteen seen guid p q = by_test (list_any (bytes_eq guid) seen) where
  by_test : (b : Bool) → Sixteens (cond b seen (seen ++ guid ∷ []))
  by_test true = p
  by_test false = sixteens-append seen (guid ∷ []) p (q, tt)

once-sixteen : (seen guids : List (List ℕ)) → Sixteens seen → Sixteens guids → Sixteens (fold with_guid seen guids)
once-sixteen seen [] p q = p
once-sixteen seen (guid ∷ guids) p q = once-sixteen (with_guid seen guid) guids (with-sixteen seen guid p q.0) q.1

pushed-plain : (t : Tree) (guids : List (List ℕ)) → Plain t → Sixteens guids → Plain (fold and_push t guids)
pushed-plain t [] p q = p
pushed-plain t (guid ∷ guids) p q = pushed-plain (both t (push guid)) guids (p, q.0) q.1

conjunction-plain : (guids : List (List ℕ)) → Sixteens guids → Plain (conjunction guids)
conjunction-plain [] q = tt
conjunction-plain (guid ∷ guids) q = pushed-plain (push guid) guids q.0 q.1

or-plain : (t : Tree) (guids : Option (List (List ℕ))) → Plain t → AllSixteen guids → Plain (conjunction_or t guids)
or-plain t None p q = p
or-plain t (Some guids) p q = conjunction-plain (each_once guids) (once-sixteen [] guids tt q)

pub simple-plain : (t : Tree) → Plain t → Plain (simplified t)
unfolding simplified
simple-plain t p = or-plain t (conjuncts t) p (conjuncts-sixteen t p)
