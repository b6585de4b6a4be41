-- A dependency expression fails by names.
use Rattle.std.specs.Prelude.{codes}
use Rattle.std.specs.Option.{option_map}
use Rattle.std.proofs.Common.{ℕ, ◌&&◌, ◌++◌, Bool, true, List, [], ◌∷◌, map, Option, Some, None, Result, Ok, Err}
use Rattle.build_base.specs.FaultCodes.{BAD_PLACE, BAD_TERM, DEPEX_GUID_UNKNOWN, TOO_DEEP}
use Rattle.build_base.specs.FaultText.{fault_of}
use Rattle.build_base.specs.declared.fault.Fault.{Fault}
use Rattle.build_base.specs.declared.fault.Place.{Place}
use Rattle.build_base.specs.declared.guid.Guid.{Guid}
use Rattle.doc_types.specs.declared.depex.DepexGroup.{DepexGroup}
use Rattle.doc_types.specs.declared.depex.DepexPart.{DepexPart}
use Rattle.doc_types.specs.declared.depex.NamedGuid.{NamedGuid}
use Rattle.doc_types.specs.declared.module_type.ModuleType.{ModuleType}
use Rattle.meta_lexer.specs.Words.{is_identifier}
use Rattle.depex_code.specs.Compiled.{value_or, map_ok, own_code, term_code, terms_fault, terms_tree, is_edge_part, after_sor, part_tree, joined_to, with_group, around, limit_detail, limit_fault, no_leave, next_tree, parts_tree, groups_tree, has_depex, module_leave, has_front, module_tree, compiled_tree, bytes_of_all, compiled}
use Rattle.depex_code.specs.Terms.{expression, is_begun}
use Rattle.depex_code.specs.Tree.{Tree, nest, opcodes, simplified}
use Rattle.depex_code.specs.Grammar.{named, spelling}
use Rattle.depex_code.specs.Words.{guid_named, token_of}
use Rattle.std.specs.Str.{str_eq_ignore_ascii_case, bytes_eq}
use Rattle.named_faults.specs.Named.{IsNameCode, IsNamed, FailsByName}
use Rattle.named_faults.proofs.NamedLemmas.{if_fails, or_else_named, then_fails, or_fault_fails, if_holds}
use Rattle.named_faults.proofs.CodeLemmas.{bad_place_named, bad_term_named, depex_guid_unknown_named, too_deep_named}
use Rattle.module_faults.proofs.PartLemmas.{Domain}

-- Terms.

-- where there is a code it has a name
abbrev AreCodes : Option ℕ → Type 0
AreCodes None = Unit {0}
AreCodes (Some code) = IsNameCode code

coded_named : (at : Place) (term : List ℕ) (code : Option ℕ) → AreCodes code → IsNamed (option_map (λ code. fault_of code at term) code)
coded_named at term None n = record {}
coded_named at term (Some code) n = n

-- The types of terms and of what may stand at the front.

abbrev Term : Type 0
Term = Domain (own_code true [])

abbrev Leave : Type 0
Leave = Domain after_sor

abbrev OwnCodes : Bool → List ℕ → Term → Type 0
OwnCodes edge term k = AreCodes (own_code edge term k)

abbrev head_or : {T : Type 0} → T → List T → T
head_or x [] = x
head_or x (y ∷ ys) = y

-- the term of a name
abbrev name_term : Option Guid → Term
name_term found = head_or (token_of [] []) (spelling (named found))

name_codes : (edge : Bool) (term : List ℕ) (found : Option Guid) → OwnCodes edge term (name_term found)
name_codes edge term None = if_holds IsNameCode (is_identifier term) DEPEX_GUID_UNKNOWN BAD_TERM depex_guid_unknown_named bad_term_named
name_codes edge term (Some guid) = record {}

own_is_code : (edge : Bool) (guids : List NamedGuid) (term : List ℕ) → OwnCodes edge term (token_of guids term)
unfolding token_of
own_is_code edge guids term =
    if_holds (OwnCodes edge term) (str_eq_ignore_ascii_case term (codes "AND")) _ _ (record {})
    (if_holds (OwnCodes edge term) (str_eq_ignore_ascii_case term (codes "OR")) _ _ (record {})
    (if_holds (OwnCodes edge term) (str_eq_ignore_ascii_case term (codes "NOT")) _ _ (record {})
    (if_holds (OwnCodes edge term) (str_eq_ignore_ascii_case term (codes "SOR")) _ _ bad_place_named
    (if_holds (OwnCodes edge term) (str_eq_ignore_ascii_case term (codes "BEFORE")) _ _ (if_holds AreCodes edge None (Some BAD_PLACE) (record {}) bad_place_named)
    (if_holds (OwnCodes edge term) (str_eq_ignore_ascii_case term (codes "AFTER")) _ _ (if_holds AreCodes edge None (Some BAD_PLACE) (record {}) bad_place_named)
    (if_holds (OwnCodes edge term) (str_eq_ignore_ascii_case term (codes "TRUE")) _ _ (record {})
    (if_holds (OwnCodes edge term) (str_eq_ignore_ascii_case term (codes "FALSE")) _ _ (record {})
    (if_holds (OwnCodes edge term) (bytes_eq term (codes "(")) _ _ (record {})
    (if_holds (OwnCodes edge term) (bytes_eq term (codes ")")) _ _ (record {}) (name_codes edge term (guid_named guids term)))))))))))

term_codes : (begun edge : Bool) (guids : List NamedGuid) (term : List ℕ) → AreCodes (term_code begun edge term (token_of guids term))
term_codes begun edge guids term = if_holds AreCodes begun (own_code edge term (token_of guids term)) (Some BAD_TERM) (own_is_code edge guids term) bad_term_named

terms_named : (at : Place) (guids : List NamedGuid) (edge : Bool) (before : List Term) (terms : List (List ℕ)) → IsNamed (terms_fault at guids edge before terms)
unfolding terms_fault
terms_named at guids edge before [] = record {}
terms_named at guids edge before (term ∷ terms) =
    let code : Option ℕ = term_code (is_begun (before ++ token_of guids term ∷ [])) edge term (token_of guids term) in
    or_else_named (option_map (λ code. fault_of code at term) code) (terms_fault at guids edge (before ++ token_of guids term ∷ []) terms)
    (coded_named at term code (term_codes (is_begun (before ++ token_of guids term ∷ [])) edge guids term))
    (terms_named at guids edge (before ++ token_of guids term ∷ []) terms)

value_fails : {T : Type 0} (fault : Fault) (found : Option T) → IsNamed (Some fault) → FailsByName (value_or fault found)
value_fails fault None n = n
value_fails fault (Some x) n = record {}

tree_fails : (at : Place) (guids : List NamedGuid) (edge : Bool) (terms : List (List ℕ)) → FailsByName (terms_tree at guids edge terms)
unfolding terms_tree
tree_fails at guids edge terms =
    or_fault_fails (terms_fault at guids edge [] terms) _ (terms_named at guids edge [] terms)
    (λ e. value_fails (fault_of BAD_TERM at (codes "end")) (expression (map (token_of guids) terms)) bad_term_named)

-- Parts.

part_fails : (leave : Leave) (guids : List NamedGuid) (part : DepexPart) → FailsByName (part_tree leave guids part)
unfolding part_tree
part_fails leave guids part = tree_fails part.at guids (leave.edge && is_edge_part guids part.terms) (after_sor leave part.terms)

limit_named : (at : Place) (detail : Option (List ℕ)) → IsNamed (option_map (fault_of TOO_DEEP at) detail)
limit_named at None = record {}
limit_named at (Some text) = too_deep_named

limits_named : (at : Place) (t : Tree) → IsNamed (limit_fault at t)
unfolding limit_fault
limits_named at t = limit_named at (limit_detail (nest t) (opcodes t))

next_fails : (front : Bool) (guids : List NamedGuid) (whole : Option Tree) (leave : Leave) (own : Option Tree) (part : DepexPart) → FailsByName (next_tree front guids whole leave own part)
unfolding next_tree
next_fails front guids whole leave own part =
    then_fails (part_tree leave guids part) _ (part_fails leave guids part)
    (λ t e. or_fault_fails (limit_fault part.at (around front (joined_to whole (joined_to own t)))) (Ok (joined_to own t)) (limits_named part.at (around front (joined_to whole (joined_to own t)))) (λ e. record {}))

parts_fail : (front : Bool) (guids : List NamedGuid) (whole : Option Tree) (leave : Leave) (own : Option Tree) (parts : List DepexPart) → FailsByName (parts_tree front guids whole leave own parts)
unfolding parts_tree
parts_fail front guids whole leave own [] = record {}
parts_fail front guids whole leave own (part ∷ parts) =
    then_fails (next_tree front guids whole leave own part) _ (next_fails front guids whole leave own part) (λ t e. parts_fail front guids whole no_leave (Some t) parts)

groups_fail : (front : Bool) (leave : Leave) (whole : Option Tree) (groups : List DepexGroup) → FailsByName (groups_tree front leave whole groups)
unfolding groups_tree
groups_fail front leave whole [] = record {}
groups_fail front leave whole (group ∷ groups) =
    then_fails (parts_tree front group.guids whole leave None group.parts) _ (parts_fail front group.guids whole leave None group.parts)
    (λ own e. groups_fail front no_leave (with_group whole own) groups)

-- Modules.

mapped_fails : {A B : Type 0} (f : A → B) (r : Result A Fault) → FailsByName r → FailsByName (map_ok f r)
mapped_fails f (Ok x) n = record {}
mapped_fails f (Err fault) n = n

module_fails : (made : Tree → Tree) (t : ModuleType) (groups : List DepexGroup) → FailsByName (module_tree made t groups)
unfolding module_tree
module_fails made t groups =
    mapped_fails _ (groups_tree (has_front (module_leave t groups) groups) (module_leave t groups) None groups) (groups_fail (has_front (module_leave t groups) groups) (module_leave t groups) None groups)

compiled_tree_fails : (t : ModuleType) (groups : List DepexGroup) → FailsByName (compiled_tree t groups)
unfolding compiled_tree
compiled_tree_fails t groups = if_fails (has_depex t) _ _ (module_fails simplified t groups) (record {})

pub compiled_fails : (t : ModuleType) (groups : List DepexGroup) → FailsByName (compiled t groups)
unfolding compiled
compiled_fails t groups = mapped_fails bytes_of_all (compiled_tree t groups) (compiled_tree_fails t groups)
