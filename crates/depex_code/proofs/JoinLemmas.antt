-- Joins of sizes are sizes of joined trees.
use Rattle.std.proofs.Common.{◌≡◌, ℕ, ◌+◌, min, Bool, true, false, cond, nat_lt, List, [], ◌∷◌, Option, Some, None, Result, Ok, Err, option_map, refl, sym, ap, ◌∙◌, arith, codes}
use Rattle.std.proofs.lemmas.Bool.{ltb-true, ltb-false, lt-ltb, le-ltb}
use Rattle.build_base.specs.declared.fault.Fault.{Fault}
use Rattle.build_base.specs.declared.fault.Place.{Place}
use Rattle.build_base.specs.First.{and_then}
use Rattle.doc_types.specs.declared.depex.NamedGuid.{NamedGuid}
use Rattle.doc_types.specs.declared.depex.DepexPart.{DepexPart}
use Rattle.doc_types.specs.declared.depex.DepexGroup.{DepexGroup}
use Rattle.depex_code.specs.declared.leave.Leave.{Leave}
use Rattle.depex_code.specs.declared.token.Joiner.TheVariants.{And}
use Rattle.depex_code.specs.Tree.{Tree, both, nest, opcodes, is_alone}
use Rattle.build_base.specs.FaultText.{fault_of}
use Rattle.build_base.specs.First.{or_fault}
use Rattle.depex_code.specs.Compiled.{limit_detail, limit_fault, part_tree, no_leave, joined_to, with_group, around, next_tree, parts_tree, groups_tree, map_ok}
use Rattle.depex_code.specs.Sizes.{Reach, reach_of, join_reach, join_size, size_of}
use Rattle.depex_code.specs.SizedJoins.{join_to_size, join_to_reach, around_reach, with_group_size, reach_fault, next_piece, next_size, parts_size, groups_size}
use Rattle.depex_code.proofs.SizeLemmas.{join-sized, join-reached, prefix-reached}
use Rattle.build_base.specs.FaultCodes.{TOO_DEEP}

abbrev reached : Tree → Reach
reached t = reach_of (nest t) (opcodes t)

alone-sized : (t : Tree) → (size_of t).alone ≡ is_alone t
unfolding size_of
alone-sized t = refl

pub reach-sized : (t : Tree) → (size_of t).reach ≡ reach_of (nest t) (opcodes t)
unfolding size_of
reach-sized t = refl

pub join-to-sized : (w : Option Tree) (t : Tree) → join_to_size (option_map size_of w) (size_of t) ≡ size_of (joined_to w t)
join-to-sized None t = refl
join-to-sized (Some a) t = ap (λ b. cond b (size_of a) (join_size And (size_of a) (size_of t))) (alone-sized a) ∙ chosen (is_alone a) where
  chosen : (b : Bool) → cond b (size_of a) (join_size And (size_of a) (size_of t)) ≡ size_of (cond b a (both a t))
  chosen true = refl
  chosen false = sym (join-sized And a t)

join-to-reached : (w : Option Tree) (t : Tree) → join_to_reach (option_map size_of w) (size_of t) ≡ reached (joined_to w t)
join-to-reached None t = reach-sized t
join-to-reached (Some a) t =
    ap (λ b. cond b (size_of a).reach (join_reach (size_of a).reach (size_of t).reach)) (alone-sized a)
    ∙ ap (λ r. cond (is_alone a) r (join_reach r (size_of t).reach)) (reach-sized a)
    ∙ ap (λ r. cond (is_alone a) (reached a) (join_reach (reached a) r)) (reach-sized t)
    ∙ chosen (is_alone a) where
      chosen : (b : Bool) → cond b (reached a) (join_reach (reached a) (reached t)) ≡ reached (cond b a (both a t))
      chosen true = refl
      chosen false = sym (join-reached (nest a) (nest t) (opcodes a) (opcodes t))

around-reached : (front : Bool) (t : Tree) → around_reach front (reached t) ≡ reached (around front t)
around-reached false t = refl
around-reached true t = sym (prefix-reached (nest t) (opcodes t))

-- past the limit is past the limit
low-lt : (d n : ℕ) → nat_lt n (min d (n + 1)) ≡ nat_lt n d
low-lt d n = low (nat_lt n d) refl where
  low : (b : Bool) → nat_lt n d ≡ b → nat_lt n (min d (n + 1)) ≡ nat_lt n d
  low true t = lt-ltb n (min d (n + 1)) (omega (arith, ltb-true n d t)) ∙ sym t
  low false f = le-ltb n (min d (n + 1)) (omega (arith, ltb-false n d f)) ∙ sym f

limit_detail-low : (d c : ℕ) → limit_detail (min d 65) (min c 4097) ≡ limit_detail d c
limit_detail-low d c =
    ap (λ b. cond b (Some (codes "65")) (cond (nat_lt 4096 (min c 4097)) (Some (codes "4097")) None)) (low-lt d 64)
    ∙ ap (λ b. cond (nat_lt 64 d) (Some (codes "65")) (cond b (Some (codes "4097")) None)) (low-lt c 4096)

reach-fault : (at : Place) (t : Tree) → reach_fault at (reached t) ≡ limit_fault at t
unfolding limit_fault
reach-fault at t = ap (option_map (fault_of TOO_DEEP at)) (limit_detail-low (nest t) (opcodes t))

next-fault : (front : Bool) (at : Place) (w o : Option Tree) (t : Tree)
    → reach_fault at (around_reach front (join_to_reach (option_map size_of w) (join_to_size (option_map size_of o) (size_of t))))
    ≡ limit_fault at (around front (joined_to w (joined_to o t)))
next-fault front at w o t =
    ap (λ x. reach_fault at (around_reach front (join_to_reach (option_map size_of w) x))) (join-to-sized o t)
    ∙ ap (λ r. reach_fault at (around_reach front r)) (join-to-reached w (joined_to o t))
    ∙ ap (reach_fault at) (around-reached front (joined_to w (joined_to o t)))
    ∙ reach-fault at (around front (joined_to w (joined_to o t)))

fault-or-sized : (o : Option Fault) (t : Tree) → or_fault o (Ok (size_of t)) ≡ map_ok size_of (or_fault o (Ok t))
fault-or-sized None t = refl
fault-or-sized (Some f) t = refl

next-piece-sized : (front : Bool) (at : Place) (w o : Option Tree) (t : Tree)
    → next_piece front (option_map size_of w) (option_map size_of o) at (size_of t)
    ≡ map_ok size_of (or_fault (limit_fault at (around front (joined_to w (joined_to o t)))) (Ok (joined_to o t)))
next-piece-sized front at w o t =
    ap (λ f. or_fault f (Ok (join_to_size (option_map size_of o) (size_of t)))) (next-fault front at w o t)
    ∙ ap (λ x. or_fault (limit_fault at (around front (joined_to w (joined_to o t)))) (Ok x)) (join-to-sized o t)
    ∙ fault-or-sized (limit_fault at (around front (joined_to w (joined_to o t)))) (joined_to o t)

next-sized : (front : Bool) (guids : List NamedGuid) (w : Option Tree) (leave : Leave) (o : Option Tree) (part : DepexPart)
    → next_size front guids (option_map size_of w) leave (option_map size_of o) part ≡ map_ok size_of (next_tree front guids w leave o part)
unfolding next_tree
next-sized front guids w leave o part = read (part_tree leave guids part) where
  read : (r : Result Tree Fault)
      → and_then (map_ok size_of r) (next_piece front (option_map size_of w) (option_map size_of o) part.at)
      ≡ map_ok size_of (and_then r (λ t. or_fault (limit_fault part.at (around front (joined_to w (joined_to o t)))) (Ok (joined_to o t))))
  read (Ok t) = next-piece-sized front part.at w o t
  read (Err f) = refl

parts-after : (front : Bool) (guids : List NamedGuid) (w : Option Tree) (parts : List DepexPart) (r : Result Tree Fault)
    → ((t : Tree) → parts_size front guids (option_map size_of w) no_leave (Some (size_of t)) parts ≡ map_ok (option_map size_of) (parts_tree front guids w no_leave (Some t) parts))
    → and_then (map_ok size_of r) (λ x. parts_size front guids (option_map size_of w) no_leave (Some x) parts)
    ≡ map_ok (option_map size_of) (and_then r (λ t. parts_tree front guids w no_leave (Some t) parts))
parts-after front guids w parts (Ok t) h = h t
parts-after front guids w parts (Err f) h = refl

pub parts-sized : (front : Bool) (guids : List NamedGuid) (w : Option Tree) (leave : Leave) (o : Option Tree) (parts : List DepexPart)
    → parts_size front guids (option_map size_of w) leave (option_map size_of o) parts ≡ map_ok (option_map size_of) (parts_tree front guids w leave o parts)
unfolding parts_size parts_tree
parts-sized front guids w leave o [] = refl
parts-sized front guids w leave o (part ∷ parts) =
    ap (λ r. and_then r (λ x. parts_size front guids (option_map size_of w) no_leave (Some x) parts)) (next-sized front guids w leave o part)
    ∙ parts-after front guids w parts (next_tree front guids w leave o part) (λ t. parts-sized front guids w no_leave (Some t) parts)

with-group-sized : (w o : Option Tree) → with_group_size (option_map size_of w) (option_map size_of o) ≡ option_map size_of (with_group w o)
with-group-sized w None = refl
with-group-sized w (Some t) = ap Some (join-to-sized w t)

groups-after : (front : Bool) (w : Option Tree) (groups : List DepexGroup) (r : Result (Option Tree) Fault)
    → ((v : Option Tree) → groups_size front no_leave (option_map size_of v) groups ≡ map_ok (option_map size_of) (groups_tree front no_leave v groups))
    → and_then (map_ok (option_map size_of) r) (λ o. groups_size front no_leave (with_group_size (option_map size_of w) o) groups)
    ≡ map_ok (option_map size_of) (and_then r (λ o. groups_tree front no_leave (with_group w o) groups))
groups-after front w groups (Ok o) h = ap (λ v. groups_size front no_leave v groups) (with-group-sized w o) ∙ h (with_group w o)
groups-after front w groups (Err f) h = refl

pub groups-sized : (front : Bool) (leave : Leave) (w : Option Tree) (groups : List DepexGroup)
    → groups_size front leave (option_map size_of w) groups ≡ map_ok (option_map size_of) (groups_tree front leave w groups)
unfolding groups_size groups_tree
groups-sized front leave w [] = refl
groups-sized front leave w (group ∷ groups) =
    ap (λ r. and_then r (λ o. groups_size front no_leave (with_group_size (option_map size_of w) o) groups)) (parts-sized front group.guids w leave None group.parts)
    ∙ groups-after front w groups (parts_tree front group.guids w leave None group.parts) (λ v. groups-sized front no_leave v groups)
