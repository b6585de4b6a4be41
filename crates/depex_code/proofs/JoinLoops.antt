-- The loops over parts and groups.
use Rattle.std.proofs.Common.{◌≡◌, ℕ, ◌+◌, ◌<◌, ◌≤◌, Bool, List, [], ◌∷◌, Option, Some, None, Ok, Err, length, drop, get_or, refl, ap, ◌∙◌}
use Rattle.std.proofs.lemmas.List.{drop_all}
use Rattle.build_base.proofs.Steps.{head_drop}
use Rattle.build_base.specs.declared.fault.Fault.{Fault}
use Rattle.doc_types.specs.declared.depex.NamedGuid.{NamedGuid}
use Rattle.doc_types.specs.declared.depex.DepexPart.{DepexPart}
use Rattle.doc_types.specs.declared.depex.DepexGroup.{DepexGroup}
use Rattle.depex_code.specs.declared.leave.Leave.{Leave}
use Rattle.depex_code.specs.Compiled.{no_leave}
use Rattle.depex_code.specs.Sizes.{Size}
use Rattle.depex_code.specs.SizedJoins.{next_size, parts_size, groups_size, with_group_size}

parts-cons : (front : Bool) (guids : List NamedGuid) (whole : Option Size) (leave : Leave) (own : Option Size) (part : DepexPart) (parts : List DepexPart) (x : Size)
    → next_size front guids whole leave own part ≡ Ok x → parts_size front guids whole leave own (part ∷ parts) ≡ parts_size front guids whole no_leave (Some x) parts
unfolding parts_size
parts-cons front guids whole leave own part parts x e = rw e refl

parts-bad : (front : Bool) (guids : List NamedGuid) (whole : Option Size) (leave : Leave) (own : Option Size) (part : DepexPart) (parts : List DepexPart) (f : Fault)
    → next_size front guids whole leave own part ≡ Err f → parts_size front guids whole leave own (part ∷ parts) ≡ Err f
unfolding parts_size
parts-bad front guids whole leave own part parts f e = rw e refl

parts-none : (front : Bool) (guids : List NamedGuid) (whole : Option Size) (leave : Leave) (own : Option Size) → parts_size front guids whole leave own [] ≡ Ok own
unfolding parts_size
parts-none front guids whole leave own = refl

pub parts-step : (front : Bool) (guids : List NamedGuid) (whole : Option Size) (leave : Leave) (own : Option Size) (parts : List DepexPart) (i : ℕ) (part : DepexPart) (x : Size)
    → i < length parts → part ≡ get_or parts i part → next_size front guids whole leave own part ≡ Ok x
    → parts_size front guids whole leave own (drop i parts) ≡ parts_size front guids whole no_leave (Some x) (drop (i + 1) parts)
parts-step front guids whole leave own parts i part x h is e =
    ap (parts_size front guids whole leave own) (head_drop parts i part h is) ∙ parts-cons front guids whole leave own part (drop (i + 1) parts) x e

pub parts-stop : (front : Bool) (guids : List NamedGuid) (whole : Option Size) (leave : Leave) (own : Option Size) (parts : List DepexPart) (i : ℕ) (part : DepexPart) (f : Fault)
    → i < length parts → part ≡ get_or parts i part → next_size front guids whole leave own part ≡ Err f
    → parts_size front guids whole leave own (drop i parts) ≡ Err f
parts-stop front guids whole leave own parts i part f h is e =
    ap (parts_size front guids whole leave own) (head_drop parts i part h is) ∙ parts-bad front guids whole leave own part (drop (i + 1) parts) f e

pub parts-end : (front : Bool) (guids : List NamedGuid) (whole : Option Size) (leave : Leave) (own : Option Size) (parts : List DepexPart) (i : ℕ)
    → length parts ≤ i → parts_size front guids whole leave own (drop i parts) ≡ Ok own
parts-end front guids whole leave own parts i h = ap (parts_size front guids whole leave own) (drop_all i parts h) ∙ parts-none front guids whole leave own

groups-cons : (front : Bool) (leave : Leave) (whole : Option Size) (group : DepexGroup) (groups : List DepexGroup) (own : Option Size)
    → parts_size front group.guids whole leave None group.parts ≡ Ok own
    → groups_size front leave whole (group ∷ groups) ≡ groups_size front no_leave (with_group_size whole own) groups
unfolding groups_size
groups-cons front leave whole group groups own e = rw e refl

groups-bad : (front : Bool) (leave : Leave) (whole : Option Size) (group : DepexGroup) (groups : List DepexGroup) (f : Fault)
    → parts_size front group.guids whole leave None group.parts ≡ Err f → groups_size front leave whole (group ∷ groups) ≡ Err f
unfolding groups_size
groups-bad front leave whole group groups f e = rw e refl

groups-none : (front : Bool) (leave : Leave) (whole : Option Size) → groups_size front leave whole [] ≡ Ok whole
unfolding groups_size
groups-none front leave whole = refl

pub groups-step : (front : Bool) (leave : Leave) (whole : Option Size) (groups : List DepexGroup) (i : ℕ) (group : DepexGroup) (own : Option Size)
    → i < length groups → group ≡ get_or groups i group → parts_size front group.guids whole leave None group.parts ≡ Ok own
    → groups_size front leave whole (drop i groups) ≡ groups_size front no_leave (with_group_size whole own) (drop (i + 1) groups)
groups-step front leave whole groups i group own h is e =
    ap (groups_size front leave whole) (head_drop groups i group h is) ∙ groups-cons front leave whole group (drop (i + 1) groups) own e

pub groups-stop : (front : Bool) (leave : Leave) (whole : Option Size) (groups : List DepexGroup) (i : ℕ) (group : DepexGroup) (f : Fault)
    → i < length groups → group ≡ get_or groups i group → parts_size front group.guids whole leave None group.parts ≡ Err f
    → groups_size front leave whole (drop i groups) ≡ Err f
groups-stop front leave whole groups i group f h is e =
    ap (groups_size front leave whole) (head_drop groups i group h is) ∙ groups-bad front leave whole group (drop (i + 1) groups) f e

pub groups-end : (front : Bool) (leave : Leave) (whole : Option Size) (groups : List DepexGroup) (i : ℕ) → length groups ≤ i → groups_size front leave whole (drop i groups) ≡ Ok whole
groups-end front leave whole groups i h = ap (groups_size front leave whole) (drop_all i groups h) ∙ groups-none front leave whole
