-- Looking for lines module by module.
use Rattle.std.proofs.Common.{◌≡◌, ◌∙◌, ◌||◌, ℕ, Bool, true, false, List, [], ◌∷◌, map, Option, Some, None, option_copied, refl, sym, ap}
use Rattle.std.specs.Prelude.{fold}
use Rattle.std.specs.List.{All, list_any}
use Rattle.std.proofs.lemmas.List.{map-id}
use Rattle.std.proofs.lemmas.List.Elements.{All-nil, All-cons, All-head, All-tail}
use Rattle.build_base.specs.First.{or_else, first_of}
use Rattle.doc_types.specs.declared.asks.PlatformAsk.{PlatformAsk}
use Rattle.doc_types.specs.declared.package.DecPcd.{DecPcd}
use Rattle.doc_types.specs.declared.parts.ModuleParts.{ModuleParts}
use Rattle.doc_types.specs.declared.pcd.Kind.{Kind}
use Rattle.pcd_resolve.specs.declared.sought.DeclarationSearch.{DeclarationSearch}
use Rattle.pcd_resolve.specs.Kinds.{head_of}
use Rattle.pcd_ranks.specs.Listing.{declared_in}
use Rattle.pcd_resolve.specs.NameFilter.{is_kept}
use Rattle.pcd_resolve.specs.Platform.{declaration_among}
use Rattle.pcd_resolve.specs.Sought.{Quest, new_search, found, front_if, is_open, kind_at, look, look_each, misses, of_some, open_names, sought_view}
use Rattle.pcd_resolve.specs.Tables.{AllKept}
use Rattle.pcd_resolve.proofs.NameFilterLemmas.{map_twice}

none_last : (x : Option DecPcd) → or_else x None ≡ x
none_last None = refl
none_last (Some x) = refl

or_else_assoc : (x y z : Option DecPcd) → or_else (or_else x y) z ≡ or_else x (or_else y z)
or_else_assoc None y z = refl
or_else_assoc (Some x) y z = refl

-- what is found stays
line_stays : (l f x : Option DecPcd) → misses l f ≡ false → or_else l x ≡ l
line_stays None f x e = absurd cc
line_stays (Some l) f x e = refl

first_stays : (l f x : Option DecPcd) → misses l f ≡ false → or_else f x ≡ f
first_stays None f x e = absurd cc
first_stays (Some l) None x e = absurd cc
first_stays (Some l) (Some f) x e = refl

abbrev with_lines : Quest → Option DecPcd → Option DecPcd → Quest
with_lines q l f = record { name = q.name; kind = q.kind; line = l; first = f }

pub closed_same : (parts : ModuleParts) (q : Quest) → is_open q ≡ false → look parts q ≡ q
closed_same parts q e =
    ap (λ l. with_lines q l (or_else q.first (head_of (declared_in parts q.name)))) (line_stays q.line q.first (of_some q.kind (declared_in parts q.name)) e)
    ∙ ap (λ f. with_lines q q.line f) (first_stays q.line q.first (head_of (declared_in parts q.name)) e)

neither : (p q : Bool) → (p || q) ≡ false → p ≡ false
neither true q h = h
neither false q h = refl

nor : (p q : Bool) → (p || q) ≡ false → q ≡ false
nor true q h = absurd cc
nor false q h = h

pub all_closed : (parts : ModuleParts) (qs : List Quest) → list_any is_open qs ≡ false → look_each qs parts ≡ qs
all_closed parts [] e = refl
all_closed parts (q ∷ qs) e =
    ap (λ x. x ∷ look_each qs parts) (closed_same parts q (neither (is_open q) (list_any is_open qs) e))
    ∙ ap (λ xs. q ∷ xs) (all_closed parts qs (nor (is_open q) (list_any is_open qs) e))

-- names that are looked for are marked
kept_here : (marks : List Bool) (b : Bool) (name : List ℕ) (names : List (List ℕ)) → AllKept marks (front_if b name names) → b ≡ true → is_kept marks name ≡ true
kept_here marks true name names h e = All-head (λ n. is_kept marks n ≡ true) name names h
kept_here marks false name names h e = absurd cc

kept_there : (marks : List Bool) (b : Bool) (name : List ℕ) (names : List (List ℕ)) → AllKept marks (front_if b name names) → AllKept marks names
kept_there marks true name names h = All-tail (λ n. is_kept marks n ≡ true) name names h
kept_there marks false name names h = h

pub open_kept : (marks : List Bool) (all : List DeclarationSearch) → AllKept marks (open_names (map sought_view all))
    → All (λ s. is_open (sought_view s) ≡ true → is_kept marks s.name.now.items ≡ true) all
open_kept marks [] h = All-nil (λ s. is_open (sought_view s) ≡ true → is_kept marks s.name.now.items ≡ true)
open_kept marks (s ∷ all) h =
    All-cons (λ s. is_open (sought_view s) ≡ true → is_kept marks s.name.now.items ≡ true) s all
    (kept_here marks (is_open (sought_view s)) s.name.now.items (open_names (map sought_view all)) h)
    (open_kept marks all (kept_there marks (is_open (sought_view s)) s.name.now.items (open_names (map sought_view all)) h))

-- all modules one by one, for one PCD
abbrev look_all : List ModuleParts → Quest → Quest
look_all modules q =
    with_lines q (or_else q.line (first_of (map (λ parts. of_some q.kind (declared_in parts q.name)) modules)))
    (or_else q.first (first_of (map (λ parts. head_of (declared_in parts q.name)) modules)))

look_none : (q : Quest) → look_all [] q ≡ q
look_none q = ap (λ l. with_lines q l (or_else q.first None)) (none_last q.line) ∙ ap (λ f. with_lines q q.line f) (none_last q.first)

look_more : (parts : ModuleParts) (modules : List ModuleParts) (q : Quest) → look_all modules (look parts q) ≡ look_all (parts ∷ modules) q
look_more parts modules q =
    ap (λ l. with_lines q l (or_else (or_else q.first (head_of (declared_in parts q.name))) (first_of (map (λ parts. head_of (declared_in parts q.name)) modules))))
    (or_else_assoc q.line (of_some q.kind (declared_in parts q.name)) (first_of (map (λ parts. of_some q.kind (declared_in parts q.name)) modules)))
    ∙ ap (λ f. with_lines q (or_else q.line (or_else (of_some q.kind (declared_in parts q.name)) (first_of (map (λ parts. of_some q.kind (declared_in parts q.name)) modules)))) f)
    (or_else_assoc q.first (head_of (declared_in parts q.name)) (first_of (map (λ parts. head_of (declared_in parts q.name)) modules)))

looked_none : (qs : List Quest) → qs ≡ map (look_all []) qs
looked_none [] = refl
looked_none (q ∷ qs) = ap (λ xs. q ∷ xs) (looked_none qs) ∙ ap (λ x. x ∷ map (look_all []) qs) (sym (look_none q))

looked_more : (parts : ModuleParts) (modules : List ModuleParts) (qs : List Quest) → map (look_all modules) (look_each qs parts) ≡ map (look_all (parts ∷ modules)) qs
looked_more parts modules [] = refl
looked_more parts modules (q ∷ qs) =
    ap (λ xs. look_all modules (look parts q) ∷ xs) (looked_more parts modules qs)
    ∙ ap (λ x. x ∷ map (look_all (parts ∷ modules)) qs) (look_more parts modules q)

looked_all : (modules : List ModuleParts) (qs : List Quest) → fold look_each qs modules ≡ map (look_all modules) qs
looked_all [] qs = looked_none qs
looked_all (parts ∷ modules) qs = looked_all modules (look_each qs parts) ∙ looked_more parts modules qs

found_all : (ask : PlatformAsk) (names : List (List ℕ)) → map (look_all ask.modules) (map (new_search ask) names) ≡ map (found ask) names
found_all ask [] = refl
found_all ask (name ∷ names) = ap (λ xs. found ask name ∷ xs) (found_all ask names)

pub found_each : (ask : PlatformAsk) (names : List (List ℕ)) (start all : List DeclarationSearch)
    → map sought_view start ≡ map (new_search ask) names → map sought_view all ≡ fold look_each (map sought_view start) ask.modules
    → map sought_view all ≡ map (found ask) names
found_each ask names start all s e =
    e ∙ ap (λ qs. fold look_each qs ask.modules) s ∙ looked_all ask.modules (map (new_search ask) names) ∙ found_all ask names

pub names_found : (ask : PlatformAsk) (all : List DeclarationSearch) (names : List (List ℕ)) → map sought_view all ≡ map (found ask) names → map (λ s. s.name.now.items) all ≡ names
names_found ask all names e =
    sym (map_twice (λ (q : Quest). q.name) sought_view all) ∙ ap (map (λ (q : Quest). q.name)) e
    ∙ map_twice (λ (q : Quest). q.name) (found ask) names ∙ map-id names

pub each_found : (ask : PlatformAsk) (all : List DeclarationSearch) (names : List (List ℕ)) → map sought_view all ≡ map (found ask) names → All (λ s. sought_view s ≡ found ask s.name.now.items) all
each_found ask [] names e = All-nil (λ s. sought_view s ≡ found ask s.name.now.items)
each_found ask (s ∷ all) [] e = absurd cc
each_found ask (s ∷ all) (name ∷ names) e =
    let here : sought_view s ≡ found ask name = cc in
    let rest : map sought_view all ≡ map (found ask) names = cc in
    let named : s.name.now.items ≡ name = ap (λ (q : Quest). q.name) here in
    All-cons (λ s. sought_view s ≡ found ask s.name.now.items) s all (here ∙ ap (found ask) (sym named)) (each_found ask all names rest)

-- the line of a PCD of a kind
pub declared_among : (ask : PlatformAsk) (kind : Kind) (s : DeclarationSearch) → s.kind ≡ Some kind → sought_view s ≡ found ask s.name.now.items
    → or_else (option_copied s.line) (option_copied s.first) ≡ declaration_among kind s.name.now.items ask.modules
unfolding declaration_among
declared_among ask kind s k e =
    let pcd : List ℕ = s.name.now.items in
    let same : kind_at ask pcd ≡ Some kind = sym (ap (λ (q : Quest). q.kind) e) ∙ k in
    ap (λ (q : Quest). or_else q.line q.first) e
    ∙ ap (λ o. or_else (first_of (map (λ parts. of_some o (declared_in parts pcd)) ask.modules)) (first_of (map (λ parts. head_of (declared_in parts pcd)) ask.modules))) same
