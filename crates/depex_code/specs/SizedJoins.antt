-- The joins of parts and groups, with sizes in place of trees.
use Rattle.std.specs.Prelude.{Bool, ℕ, List, [], ◌∷◌, ◌++◌, Option, Some, None, Result, Ok, if◌then◌else◌, fold}
use Rattle.std.specs.Option.{option_map}
use Rattle.build_base.specs.declared.fault.Fault.{Fault}
use Rattle.build_base.specs.declared.fault.Place.{Place}
use Rattle.build_base.specs.First.{and_then}
use Rattle.doc_types.specs.declared.depex.NamedGuid.{NamedGuid}
use Rattle.doc_types.specs.declared.depex.DepexPart.{DepexPart}
use Rattle.doc_types.specs.declared.depex.DepexGroup.{DepexGroup}
use Rattle.depex_code.specs.declared.leave.Leave.{Leave}
use Rattle.depex_code.specs.declared.token.Joiner.TheVariants.{And}
use Rattle.build_base.specs.FaultText.{fault_of}
use Rattle.build_base.specs.First.{or_fault}
use Rattle.depex_code.specs.Compiled.{limit_detail, part_tree, no_leave, map_ok}
use Rattle.depex_code.specs.Tree.{each_once}
use Rattle.depex_code.specs.Sizes.{Reach, Form, Size, join_reach, prefix_reach, join_size, size_of}
use Rattle.build_base.specs.FaultCodes.{TOO_DEEP}

abbrev pub join_to_size : Option Size → Size → Size
join_to_size None x = x
join_to_size (Some a) x = if a.alone then a else join_size And a x

abbrev pub join_to_reach : Option Size → Size → Reach
join_to_reach None x = x.reach
join_to_reach (Some a) x = if a.alone then a.reach else join_reach a.reach x.reach

abbrev pub around_reach : Bool → Reach → Reach
around_reach front r = if front then prefix_reach r else r

abbrev pub with_group_size : Option Size → Option Size → Option Size
with_group_size whole None = whole
with_group_size whole (Some x) = Some (join_to_size whole x)

abbrev pub reach_fault : Place → Reach → Option Fault
reach_fault at r = option_map (fault_of TOO_DEEP at) (limit_detail r.deep r.count)

-- one more piece of a group
abbrev pub next_piece : Bool → Option Size → Option Size → Place → Size → Result Size Fault
next_piece front whole own at x =
    or_fault (reach_fault at (around_reach front (join_to_reach whole (join_to_size own x))))
    (Ok (join_to_size own x))

abbrev pub next_size : Bool → List NamedGuid → Option Size → Leave → Option Size → DepexPart
    → Result Size Fault
next_size front guids whole leave own part =
    and_then (map_ok size_of (part_tree leave guids part)) (next_piece front whole own part.at)

unfoldable pub parts_size : Bool → List NamedGuid → Option Size → Leave → Option Size
    → List DepexPart → Result (Option Size) Fault
parts_size front guids whole leave own [] = Ok own
parts_size front guids whole leave own (part ∷ parts) =
    and_then (next_size front guids whole leave own part)
    (λ x. parts_size front guids whole no_leave (Some x) parts)

unfoldable pub groups_size : Bool → Leave → Option Size → List DepexGroup
    → Result (Option Size) Fault
groups_size front leave whole [] = Ok whole
groups_size front leave whole (group ∷ groups) =
    and_then (parts_size front group.guids whole leave None group.parts)
    (λ own. groups_size front no_leave (with_group_size whole own) groups)

abbrev pub front_bytes : Bool → List ℕ → List ℕ
front_bytes front bytes = if front then 9 ∷ bytes else bytes

-- the postfix form of a conjunction with one more GUID
abbrev pub and_guid : List ℕ → List ℕ → List ℕ
and_guid [] guid = 2 ∷ guid
and_guid (b ∷ bs) guid = (b ∷ bs) ++ 2 ∷ guid ++ 3 ∷ []

abbrev pub or_true : List ℕ → List ℕ
or_true [] = 6 ∷ []
or_true (b ∷ bs) = b ∷ bs

abbrev pub and_bytes : List (List ℕ) → List ℕ
and_bytes guids = or_true (fold and_guid [] (each_once guids))

abbrev pub and_bytes_or : List ℕ → Option (List (List ℕ)) → List ℕ
and_bytes_or bytes None = bytes
and_bytes_or bytes (Some guids) = and_bytes guids

abbrev pub simple_bytes : Form → List ℕ
simple_bytes form = and_bytes_or form.bytes form.guids

abbrev pub final_bytes : Bool → Option Size → List ℕ
final_bytes front None = []
final_bytes front (Some x) = front_bytes front (simple_bytes x.form) ++ 8 ∷ []
