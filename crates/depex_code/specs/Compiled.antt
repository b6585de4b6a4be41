-- The expression of a module: the tree that its INF's sections and its libraries' stand for, or the
-- first fault.
use Rattle.std.specs.Prelude.{◌&&◌, ◌++◌, ℕ, Bool, true, false, nat_lt, if◌then◌else◌, List, [], ◌∷◌, map, drop, Option, Some, None, Result, Ok, Err, codes}
use Rattle.std.specs.List.{filter}
use Rattle.std.specs.Str.{str_eq_ignore_ascii_case}
use Rattle.std.specs.Option.{option_map}
use Rattle.build_base.specs.declared.fault.Fault.{Fault}
use Rattle.build_base.specs.declared.fault.Place.{Place}
use Rattle.build_base.specs.First.{or_else, or_fault, and_then}
use Rattle.build_base.specs.FaultText.{fault_of}
use Rattle.doc_types.specs.declared.depex.NamedGuid.{NamedGuid}
use Rattle.doc_types.specs.declared.depex.DepexPart.{DepexPart}
use Rattle.doc_types.specs.declared.depex.DepexGroup.{DepexGroup}
use Rattle.doc_types.specs.declared.module_type.ModuleType.{ModuleType}
use Rattle.doc_types.specs.declared.module_type.ModuleType.TheVariants as module_type
use Rattle.depex_code.specs.declared.leave.Leave.{Leave}
use Rattle.depex_code.specs.declared.token.Token.{Token}
use Rattle.depex_code.specs.declared.token.Token.TheVariants as token
use Rattle.depex_code.specs.declared.token.Prefix.TheVariants.{Sor}
use Rattle.depex_code.specs.Tree.{Tree, both, sor, nest, opcodes, is_alone, simplified, bytes_of}
use Rattle.depex_code.specs.Terms.{expression, is_begun}
use Rattle.meta_lexer.specs.Words.{is_identifier}
use Rattle.depex_code.specs.Words.{token_of}
use Rattle.build_base.specs.FaultCodes.{BAD_PLACE, BAD_TERM, DEPEX_GUID_UNKNOWN, TOO_DEEP}

-- a value, or the fault where there is none
abbrev pub value_or : {T F : Type 0} → F → Option T → Result T F
value_or fault None = Err fault
value_or fault (Some x) = Ok x

-- a value that is there, turned into another
abbrev pub map_ok : {A B F : Type 0} → (A → B) → Result A F → Result B F
map_ok f (Ok x) = Ok (f x)
map_ok f (Err e) = Err e

-- Terms.

-- a term that no line declares: 502 for an identifier; any other is no name, 501
abbrev pub unknown_code : List ℕ → ℕ
unknown_code term = if is_identifier term then DEPEX_GUID_UNKNOWN else BAD_TERM

-- that, and 503: SOR is not at the front, or a BEFORE or AFTER may not stand here
abbrev pub own_code : Bool → List ℕ → Token → Option ℕ
own_code edge term (token.Name None) = Some (unknown_code term)
own_code edge term (token.Edge e) = if edge then None else Some BAD_PLACE
own_code edge term (token.Prefix Sor) = Some BAD_PLACE
own_code edge term k = None

-- 501: no expression begins with the terms up to this one
abbrev pub term_code : Bool → Bool → List ℕ → Token → Option ℕ
term_code begun edge term k = if begun then own_code edge term k else Some BAD_TERM

-- the first fault of the terms, each with those before it
unfoldable pub terms_fault : Place → List NamedGuid → Bool → List Token → List (List ℕ)
    → Option Fault
terms_fault at guids edge before [] = None
terms_fault at guids edge before (term ∷ terms) =
    or_else
    (option_map (λ code. fault_of code at term)
    (term_code (is_begun (before ++ token_of guids term ∷ [])) edge term (token_of guids term)))
    (terms_fault at guids edge (before ++ token_of guids term ∷ []) terms)

-- the tree of the terms; 501 at the end where they are no expression yet
unfoldable pub terms_tree : Place → List NamedGuid → Bool → List (List ℕ) → Result Tree Fault
terms_tree at guids edge terms =
    or_fault (terms_fault at guids edge [] terms)
    (value_or (fault_of BAD_TERM at (codes "end")) (expression (map (token_of guids) terms)))

-- Parts.

abbrev pub begins_with_sor : List (List ℕ) → Bool
begins_with_sor [] = false
begins_with_sor (term ∷ terms) = str_eq_ignore_ascii_case term (codes "SOR")

abbrev pub is_no_mark : Token → Bool
is_no_mark token.Open = false
is_no_mark token.Close = false
is_no_mark k = true

abbrev pub is_edge : Token → Bool
is_edge (token.Edge e) = true
is_edge k = false

abbrev pub is_name : Token → Bool
is_name (token.Name g) = true
is_name k = false

abbrev pub is_edge_pair : List Token → Bool
is_edge_pair (a ∷ b ∷ []) = is_edge a && is_name b
is_edge_pair ks = false

-- a BEFORE or AFTER and its name are all the terms, parentheses apart
unfoldable pub is_edge_part : List NamedGuid → List (List ℕ) → Bool
is_edge_part guids terms = is_edge_pair (filter is_no_mark (map (token_of guids) terms))

-- the terms after a SOR at the front
unfoldable pub after_sor : Leave → List (List ℕ) → List (List ℕ)
after_sor leave terms = if leave.sor && begins_with_sor terms then drop 1 terms else terms

unfoldable pub part_tree : Leave → List NamedGuid → DepexPart → Result Tree Fault
part_tree leave guids part =
    terms_tree part.at guids (leave.edge && is_edge_part guids part.terms)
    (after_sor leave part.terms)

-- Joins.

-- a BEFORE or AFTER is joined with nothing
abbrev pub joined_to : Option Tree → Tree → Tree
joined_to None t = t
joined_to (Some a) t = if is_alone a then a else both a t

abbrev pub with_group : Option Tree → Option Tree → Option Tree
with_group whole None = whole
with_group whole (Some t) = Some (joined_to whole t)

-- a SOR stands around the joined tree
abbrev pub around : Bool → Tree → Tree
around front t = if front then sor t else t

-- 504: the tree nests over 64, or has more than 4,096 opcodes
abbrev pub limit_detail : ℕ → ℕ → Option (List ℕ)
limit_detail deep count = if nat_lt 64 deep then Some (codes "65") else if nat_lt 4096 count
    then Some (codes "4097") else None

unfoldable pub limit_fault : Place → Tree → Option Fault
limit_fault at t = option_map (fault_of TOO_DEEP at) (limit_detail (nest t) (opcodes t))

abbrev pub no_leave : Leave
no_leave = record { sor = false; edge = false }

-- The tree of one more part, joined to `own`, the group's parts before it; `whole` is the tree of
-- the groups before. All that is joined so far, with the SOR around it, keeps the limits.
unfoldable pub next_tree : Bool → List NamedGuid → Option Tree → Leave → Option Tree → DepexPart
    → Result Tree Fault
next_tree front guids whole leave own part =
    and_then (part_tree leave guids part)
    (λ t. or_fault (limit_fault part.at (around front (joined_to whole (joined_to own t))))
    (Ok (joined_to own t)))

-- the parts of one group, joined from the left to `own`; only the first one has the leave
unfoldable pub parts_tree : Bool → List NamedGuid → Option Tree → Leave → Option Tree
    → List DepexPart → Result (Option Tree) Fault
parts_tree front guids whole leave own [] = Ok own
parts_tree front guids whole leave own (part ∷ parts) =
    and_then (next_tree front guids whole leave own part)
    (λ t. parts_tree front guids whole no_leave (Some t) parts)

-- the groups, joined from the left to `whole`; only the first one has the leave
unfoldable pub groups_tree : Bool → Leave → Option Tree → List DepexGroup
    → Result (Option Tree) Fault
groups_tree front leave whole [] = Ok whole
groups_tree front leave whole (group ∷ groups) =
    and_then (parts_tree front group.guids whole leave None group.parts)
    (λ own. groups_tree front no_leave (with_group whole own) groups)

-- Modules.

-- the types whose dispatcher evaluates an expression
unfoldable pub has_depex : ModuleType → Bool
has_depex module_type.Peim = true
has_depex module_type.DxeDriver = true
has_depex module_type.DxeRuntimeDriver = true
has_depex module_type.DxeSalDriver = true
has_depex module_type.DxeSmmDriver = true
has_depex module_type.MmStandalone = true
has_depex t = false

-- a PEIM has no BEFORE, AFTER and SOR
abbrev pub takes_words : ModuleType → Bool
takes_words module_type.Peim = false
takes_words t = true

abbrev pub is_single : List DepexPart → Bool
is_single [] = false
is_single (part ∷ []) = true
is_single (part ∷ more ∷ parts) = false

abbrev pub first_has_sor : List DepexPart → Bool
first_has_sor [] = false
first_has_sor (part ∷ parts) = begins_with_sor part.terms

-- the first group is the module's
abbrev pub module_leave : ModuleType → List DepexGroup → Leave
module_leave t [] = no_leave
module_leave t (group ∷ groups) =
    record { sor = takes_words t; edge = takes_words t && is_single group.parts }

abbrev pub has_front : Leave → List DepexGroup → Bool
has_front leave [] = false
has_front leave (group ∷ groups) = leave.sor && first_has_sor group.parts

-- the tree of a module that has an expression, made by a function of the joined tree
unfoldable pub module_tree : (Tree → Tree) → ModuleType → List DepexGroup
    → Result (Option Tree) Fault
module_tree made t groups =
    map_ok (option_map (λ w. around (has_front (module_leave t groups) groups) (made w)))
    (groups_tree (has_front (module_leave t groups) groups) (module_leave t groups) None groups)

-- The module's group first, then its libraries'. Other types have no expression, and no fault.
unfoldable pub compiled_tree : ModuleType → List DepexGroup → Result (Option Tree) Fault
compiled_tree t groups = if has_depex t then module_tree simplified t groups else Ok None

abbrev pub bytes_of_all : Option Tree → List ℕ
bytes_of_all None = []
bytes_of_all (Some t) = bytes_of t

unfoldable pub compiled : ModuleType → List DepexGroup → Result (List ℕ) Fault
compiled t groups = map_ok bytes_of_all (compiled_tree t groups)

-- Before conjunctions were simplified: the joined tree as it is.

unfoldable pub joined_tree : ModuleType → List DepexGroup → Result (Option Tree) Fault
joined_tree t groups = if has_depex t then module_tree (λ w. w) t groups else Ok None

unfoldable pub joined_code : ModuleType → List DepexGroup → Result (List ℕ) Fault
joined_code t groups = map_ok bytes_of_all (joined_tree t groups)
