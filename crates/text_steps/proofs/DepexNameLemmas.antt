-- The bytes of a module's expression are the same by the names that its terms may be as by all names
-- that its sections may use.
use Rattle.std.proofs.Common.{◌≡◌, ◌∙◌, ℕ, Bool, true, false, ◌&&◌, ◌==◌, cond, List, [], ◌∷◌, ◌++◌, Option, Some, None, length, drop, map, filter, refl, sym, ap, codes}
use Rattle.std.specs.Prelude.{fold, Result, Ok, Err}
use Rattle.std.specs.Cmp.Lexicographic.{same_text}
use Rattle.std.specs.List.{All, flat_map}
use Rattle.std.specs.Option.{option_map}
use Rattle.std.specs.Str.{bytes_eq}
use Rattle.std.proofs.lemmas.List.Elements.{All-nil, All-cons, All-head, All-tail, All-weaker, filter-append}
use Rattle.build_base.specs.declared.fault.Place.{Place}
use Rattle.build_base.specs.First.{or_else, or_fault, and_then}
use Rattle.build_base.specs.FaultCodes.{BAD_TERM}
use Rattle.build_base.specs.FaultText.{fault_of}
use Rattle.depex_code.specs.Compiled.{term_code, terms_fault, value_or, terms_tree, is_edge_part, is_edge_pair, is_no_mark, after_sor, begins_with_sor, part_tree, next_tree, limit_fault, around, joined_to, parts_tree, no_leave, groups_tree, with_group, module_leave, has_front, has_depex, map_ok, module_tree, compiled_tree, bytes_of_all, compiled}
use Rattle.depex_code.specs.Terms.{expression, is_begun}
use Rattle.depex_code.specs.Tree.{Tree, simplified}
use Rattle.depex_code.specs.Words.{guid_named, token_of}
use Rattle.depex_code.specs.declared.token.Token.{Token}
use Rattle.doc_types.specs.declared.arch.Arch.{Arch}
use Rattle.doc_types.specs.declared.depex.DepexPart.{DepexPart}
use Rattle.doc_types.specs.declared.depex.NamedGuid.{NamedGuid}
use Rattle.doc_types.specs.declared.module.InfDoc.{InfDoc}
use Rattle.doc_types.specs.declared.module.Named.{Named}
use Rattle.doc_types.specs.declared.module_type.ModuleType.{ModuleType}
use Rattle.doc_types.specs.declared.parts.ModuleParts.{ModuleParts}
use Rattle.doc_types.specs.declared.parts.Package.{Package}
use Rattle.pcd_resolve.specs.NameFilter.{no_marks, is_kept}
use Rattle.pcd_resolve.specs.Names.{covers}
use Rattle.pcd_resolve.specs.Tables.{AllKept}
use Rattle.pcd_resolve.proofs.NameFilterLemmas.{stays, each_kept}
use Rattle.text_steps.specs.Depex.{applies, counts, names_at, names_by, names_of, wanted_names, group_of, groups_of}
use Rattle.text_steps.specs.DepexNames.{with_terms, marks_of, is_used, used_at, used_by, used_of, used_names, lean_group, lean_groups}

-- the type of what a section has leave to have
abbrev TypeOf : {A : Type 0} → A → Type 0
TypeOf {A} a = A

abbrev Leave : Type 0
Leave = TypeOf no_leave

-- the names that are marked
abbrev kept : List Bool → List NamedGuid → List NamedGuid
kept marks lines = filter (λ g. is_kept marks g.name) lines

true_false : true ≡ false → ⊥
true_false e = cc

-- a line without a mark isn't that of a marked name
other_name : (marks : List Bool) (name term : List ℕ) (b : Bool) → bytes_eq name term ≡ b → is_kept marks name ≡ false → is_kept marks term ≡ true → bytes_eq name term ≡ false
other_name marks name term true e off on = absurd (true_false (sym on ∙ ap (is_kept marks) (sym (same_text name term (sym e))) ∙ off))
other_name marks name term false e off on = e

named_one : (marks : List Bool) (g : NamedGuid) (lines : List NamedGuid) (term : List ℕ) (b : Bool) → is_kept marks g.name ≡ b → is_kept marks term ≡ true
    → guid_named (kept marks lines) term ≡ guid_named lines term
    → guid_named (kept marks (g ∷ lines)) term ≡ guid_named (g ∷ lines) term
unfolding guid_named
named_one marks g lines term true e on rest =
    ap (λ b. guid_named (cond b (g ∷ kept marks lines) (kept marks lines)) term) e
    ∙ ap (λ r. cond (bytes_eq g.name term) (Some g.guid) r) rest
named_one marks g lines term false e on rest =
    ap (λ b. guid_named (cond b (g ∷ kept marks lines) (kept marks lines)) term) e
    ∙ rest
    ∙ sym (ap (λ b. cond b (Some g.guid) (guid_named lines term)) (other_name marks g.name term (bytes_eq g.name term) refl e on))

named_same : (marks : List Bool) (lines : List NamedGuid) (term : List ℕ) → is_kept marks term ≡ true → guid_named (kept marks lines) term ≡ guid_named lines term
named_same marks [] term on = refl
named_same marks (g ∷ lines) term on = named_one marks g lines term (is_kept marks g.name) refl on (named_same marks lines term on)

token_same : (marks : List Bool) (lines : List NamedGuid) (term : List ℕ) → is_kept marks term ≡ true → token_of (kept marks lines) term ≡ token_of lines term
unfolding token_of
token_same marks lines term on = rw (named_same marks lines term on) refl

tokens_same : (marks : List Bool) (lines : List NamedGuid) (terms : List (List ℕ)) → AllKept marks terms → map (token_of (kept marks lines)) terms ≡ map (token_of lines) terms
tokens_same marks lines [] h = refl
tokens_same marks lines (term ∷ terms) h =
    ap (λ (k : Token). k ∷ map (token_of (kept marks lines)) terms) (token_same marks lines term (All-head (λ n. is_kept marks n ≡ true) term terms h))
    ∙ ap (λ (ks : List Token). token_of lines term ∷ ks) (tokens_same marks lines terms (All-tail (λ n. is_kept marks n ≡ true) term terms h))

faults_same : (marks : List Bool) (at : Place) (lines : List NamedGuid) (edge : Bool) (before : List Token) (terms : List (List ℕ)) → AllKept marks terms
    → terms_fault at (kept marks lines) edge before terms ≡ terms_fault at lines edge before terms
unfolding terms_fault
faults_same marks at lines edge before [] h = refl
faults_same marks at lines edge before (term ∷ terms) h =
    ap (λ (k : Token). or_else (option_map (λ code. fault_of code at term) (term_code (is_begun (before ++ k ∷ [])) edge term k)) (terms_fault at (kept marks lines) edge (before ++ k ∷ []) terms))
    (token_same marks lines term (All-head (λ n. is_kept marks n ≡ true) term terms h))
    ∙ ap (λ f. or_else (option_map (λ code. fault_of code at term) (term_code (is_begun (before ++ token_of lines term ∷ [])) edge term (token_of lines term))) f)
    (faults_same marks at lines edge (before ++ token_of lines term ∷ []) terms (All-tail (λ n. is_kept marks n ≡ true) term terms h))

tree_same : (marks : List Bool) (at : Place) (lines : List NamedGuid) (edge : Bool) (terms : List (List ℕ)) → AllKept marks terms
    → terms_tree at (kept marks lines) edge terms ≡ terms_tree at lines edge terms
unfolding terms_tree
tree_same marks at lines edge terms h =
    ap (λ f. or_fault f (value_or (fault_of BAD_TERM at (codes "end")) (expression (map (token_of (kept marks lines)) terms)))) (faults_same marks at lines edge [] terms h)
    ∙ ap (λ ks. or_fault (terms_fault at lines edge [] terms) (value_or (fault_of BAD_TERM at (codes "end")) (expression ks))) (tokens_same marks lines terms h)

edge_same : (marks : List Bool) (lines : List NamedGuid) (terms : List (List ℕ)) → AllKept marks terms → is_edge_part (kept marks lines) terms ≡ is_edge_part lines terms
unfolding is_edge_part
edge_same marks lines terms h = ap (λ ks. is_edge_pair (filter is_no_mark ks)) (tokens_same marks lines terms h)

kept_behind : (marks : List Bool) (terms : List (List ℕ)) → AllKept marks terms → AllKept marks (drop 1 terms)
kept_behind marks [] h = h
kept_behind marks (term ∷ terms) h = All-tail (λ n. is_kept marks n ≡ true) term terms h

kept_if : (marks : List Bool) (terms : List (List ℕ)) (b : Bool) → AllKept marks terms → AllKept marks (cond b (drop 1 terms) terms)
kept_if marks terms true h = kept_behind marks terms h
kept_if marks terms false h = h

kept_after : (marks : List Bool) (leave : Leave) (terms : List (List ℕ)) → AllKept marks terms → AllKept marks (after_sor leave terms)
unfolding after_sor
kept_after marks leave terms h = kept_if marks terms (leave.sor && begins_with_sor terms) h

part_same : (marks : List Bool) (leave : Leave) (lines : List NamedGuid) (part : DepexPart) → AllKept marks part.terms → part_tree leave (kept marks lines) part ≡ part_tree leave lines part
unfolding part_tree
part_same marks leave lines part h =
    ap (λ e. terms_tree part.at (kept marks lines) (leave.edge && e) (after_sor leave part.terms)) (edge_same marks lines part.terms h)
    ∙ tree_same marks part.at lines (leave.edge && is_edge_part lines part.terms) (after_sor leave part.terms) (kept_after marks leave part.terms h)

then_same : {A B F : Type 0} (r : Result A F) (f g : A → Result B F) → ((a : A) → f a ≡ g a) → and_then r f ≡ and_then r g
then_same (Ok a) f g h = h a
then_same (Err e) f g h = refl

parts_same : (marks : List Bool) (front : Bool) (lines : List NamedGuid) (whole : Option Tree) (leave : Leave) (own : Option Tree) (parts : List DepexPart) → All (λ part. AllKept marks part.terms) parts
    → parts_tree front (kept marks lines) whole leave own parts ≡ parts_tree front lines whole leave own parts
unfolding parts_tree next_tree
parts_same marks front lines whole leave own [] h = refl
parts_same marks front lines whole leave own (part ∷ parts) h =
    let head : AllKept marks part.terms = All-head (λ p. AllKept marks p.terms) part parts h in
    let tail : All (λ p. AllKept marks p.terms) parts = All-tail (λ p. AllKept marks p.terms) part parts h in
    ap (λ r. and_then (and_then r (λ t. or_fault (limit_fault part.at (around front (joined_to whole (joined_to own t)))) (Ok (joined_to own t)))) (λ t. parts_tree front (kept marks lines) whole no_leave (Some t) parts)) (part_same marks leave lines part head)
    ∙ then_same (next_tree front lines whole leave own part) (λ t. parts_tree front (kept marks lines) whole no_leave (Some t) parts) (λ t. parts_tree front lines whole no_leave (Some t) parts)
    (λ t. parts_same marks front lines whole no_leave (Some t) parts tail)

-- the terms of sections are marked
parts_stay : (marks : List Bool) (parts : List DepexPart) (name : List ℕ) → is_kept marks name ≡ true → is_kept (fold with_terms marks parts) name ≡ true
parts_stay marks [] name e = e
parts_stay marks (part ∷ parts) name e = parts_stay (with_terms marks part) parts name (stays marks part.terms name e)

parts_marked : (marks : List Bool) (parts : List DepexPart) → All (λ part. AllKept (fold with_terms marks parts) part.terms) parts
parts_marked marks [] = All-nil (λ part. AllKept (fold with_terms marks []) part.terms)
parts_marked marks (part ∷ parts) =
    All-cons (λ p. AllKept (fold with_terms marks (part ∷ parts)) p.terms) part parts
    (All-weaker (λ n. is_kept (with_terms marks part) n ≡ true) (λ n. is_kept (fold with_terms (with_terms marks part) parts) n ≡ true) (parts_stay (with_terms marks part) parts) part.terms (each_kept marks part.terms))
    (parts_marked (with_terms marks part) parts)

-- of lines that pass two tests
both_kept : (a b : NamedGuid → Bool) (x : NamedGuid) (xs : List NamedGuid) (v : Bool) → a x ≡ v → filter (λ y. a y && b y) xs ≡ filter b (filter a xs)
    → filter (λ y. a y && b y) (x ∷ xs) ≡ filter b (filter a (x ∷ xs))
both_kept a b x xs true e rest =
    ap (λ v. cond (v && b x) (x ∷ filter (λ y. a y && b y) xs) (filter (λ y. a y && b y) xs)) e
    ∙ ap (λ ys. cond (b x) (x ∷ ys) ys) rest
    ∙ sym (ap (λ v. filter b (cond v (x ∷ filter a xs) (filter a xs))) e)
both_kept a b x xs false e rest =
    ap (λ v. cond (v && b x) (x ∷ filter (λ y. a y && b y) xs) (filter (λ y. a y && b y) xs)) e
    ∙ rest
    ∙ sym (ap (λ v. filter b (cond v (x ∷ filter a xs) (filter a xs))) e)

twice : (a b : NamedGuid → Bool) (xs : List NamedGuid) → filter (λ y. a y && b y) xs ≡ filter b (filter a xs)
twice a b [] = refl
twice a b (x ∷ xs) = both_kept a b x xs (a x) refl (twice a b xs)

at_if : (marks : List Bool) (arch : Arch) (held : Package) (b : Bool) → cond b (filter (is_used marks arch) held.doc.guids) [] ≡ kept marks (cond b (filter (counts arch) held.doc.guids) [])
at_if marks arch held true = twice (counts arch) (λ g. is_kept marks g.name) held.doc.guids
at_if marks arch held false = refl

each_at : (marks : List Bool) (arch : Arch) (path : List ℕ) (decs : List Package) → flat_map (used_at marks arch path) decs ≡ kept marks (flat_map (names_at arch path) decs)
each_at marks arch path [] = refl
each_at marks arch path (held ∷ decs) =
    ap (λ l. l ++ flat_map (used_at marks arch path) decs) (at_if marks arch held (bytes_eq held.path path))
    ∙ ap (λ l. kept marks (names_at arch path held) ++ l) (each_at marks arch path decs)
    ∙ sym (filter-append (λ g. is_kept marks g.name) (names_at arch path held) (flat_map (names_at arch path) decs))

by_if : (marks : List Bool) (arch : Arch) (decs : List Package) (named : Named) (b : Bool) → cond b (flat_map (used_at marks arch named.name) decs) [] ≡ kept marks (cond b (flat_map (names_at arch named.name) decs) [])
by_if marks arch decs named true = each_at marks arch named.name decs
by_if marks arch decs named false = refl

each_by : (marks : List Bool) (arch : Arch) (decs : List Package) (packages : List Named) → flat_map (used_by marks arch decs) packages ≡ kept marks (flat_map (names_by arch decs) packages)
each_by marks arch decs [] = refl
each_by marks arch decs (named ∷ packages) =
    ap (λ l. l ++ flat_map (used_by marks arch decs) packages) (by_if marks arch decs named (covers named.arch arch))
    ∙ ap (λ l. kept marks (names_by arch decs named) ++ l) (each_by marks arch decs packages)
    ∙ sym (filter-append (λ g. is_kept marks g.name) (names_by arch decs named) (flat_map (names_by arch decs) packages))

wanted_if : (marks : List Bool) (arch : Arch) (decs : List Package) (packages : List Named) (b : Bool) → cond b [] (used_of marks arch decs packages) ≡ kept marks (cond b [] (names_of arch decs packages))
unfolding used_of names_of
wanted_if marks arch decs packages true = refl
wanted_if marks arch decs packages false = each_by marks arch decs packages

wanted_same : (arch : Arch) (decs : List Package) (inf : InfDoc) (parts : List DepexPart) → used_names arch decs inf parts ≡ kept (marks_of parts) (wanted_names arch decs inf parts)
wanted_same arch decs inf parts = wanted_if (marks_of parts) arch decs inf.packages (length parts == 0)

-- what an INF file adds to the tree
group_same : (arch : Arch) (kind : ModuleType) (decs : List Package) (inf : InfDoc) (front : Bool) (whole : Option Tree) (leave : Leave)
    → parts_tree front (lean_group arch kind decs inf).guids whole leave None (lean_group arch kind decs inf).parts
    ≡ parts_tree front (group_of arch kind decs inf).guids whole leave None (group_of arch kind decs inf).parts
unfolding lean_group group_of
group_same arch kind decs inf front whole leave =
    let parts : List DepexPart = filter (applies arch kind) inf.depex in
    ap (λ lines. parts_tree front lines whole leave None parts) (wanted_same arch decs inf parts)
    ∙ parts_same (marks_of parts) front (wanted_names arch decs inf parts) whole leave None parts (parts_marked no_marks parts)

groups_same : (arch : Arch) (kind : ModuleType) (decs : List Package) (infs : List InfDoc) (front : Bool) (leave : Leave) (whole : Option Tree)
    → groups_tree front leave whole (map (lean_group arch kind decs) infs) ≡ groups_tree front leave whole (map (group_of arch kind decs) infs)
unfolding groups_tree
groups_same arch kind decs [] front leave whole = refl
groups_same arch kind decs (inf ∷ infs) front leave whole =
    ap (λ r. and_then r (λ own. groups_tree front no_leave (with_group whole own) (map (lean_group arch kind decs) infs))) (group_same arch kind decs inf front whole leave)
    ∙ then_same (parts_tree front (group_of arch kind decs inf).guids whole leave None (group_of arch kind decs inf).parts)
    (λ own. groups_tree front no_leave (with_group whole own) (map (lean_group arch kind decs) infs))
    (λ own. groups_tree front no_leave (with_group whole own) (map (group_of arch kind decs) infs))
    (λ own. groups_same arch kind decs infs front no_leave (with_group whole own))

leave_same : (arch : Arch) (kind : ModuleType) (decs : List Package) (infs : List InfDoc) → module_leave kind (map (lean_group arch kind decs) infs) ≡ module_leave kind (map (group_of arch kind decs) infs)
unfolding lean_group group_of
leave_same arch kind decs [] = refl
leave_same arch kind decs (inf ∷ infs) = refl

front_same : (arch : Arch) (kind : ModuleType) (decs : List Package) (infs : List InfDoc) (leave : Leave) → has_front leave (map (lean_group arch kind decs) infs) ≡ has_front leave (map (group_of arch kind decs) infs)
unfolding lean_group group_of
front_same arch kind decs [] leave = refl
front_same arch kind decs (inf ∷ infs) leave = refl

module_same : (arch : Arch) (kind : ModuleType) (decs : List Package) (infs : List InfDoc) → module_tree simplified kind (map (lean_group arch kind decs) infs) ≡ module_tree simplified kind (map (group_of arch kind decs) infs)
unfolding module_tree
module_same arch kind decs infs =
    let lean = map (lean_group arch kind decs) infs in
    let full = map (group_of arch kind decs) infs in
    let leave = module_leave kind full in
    ap (λ l. map_ok (option_map (λ w. around (has_front l lean) (simplified w))) (groups_tree (has_front l lean) l None lean)) (leave_same arch kind decs infs)
    ∙ ap (λ f. map_ok (option_map (λ w. around f (simplified w))) (groups_tree f leave None lean)) (front_same arch kind decs infs leave)
    ∙ ap (λ r. map_ok (option_map (λ w. around (has_front leave full) (simplified w))) r) (groups_same arch kind decs infs (has_front leave full) leave None)

pub same_bytes : (kind : ModuleType) (parts : ModuleParts) → compiled kind (lean_groups kind parts) ≡ compiled kind (groups_of kind parts)
unfolding compiled compiled_tree lean_groups groups_of
same_bytes kind parts =
    ap (λ r. map_ok bytes_of_all (cond (has_depex kind) r (Ok None))) (module_same parts.«module».arch kind parts.decs parts.infs)
