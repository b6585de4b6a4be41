-- What is compiled keeps the limits.
use Rattle.std.proofs.Common.{◌≡◌, ℕ, ◌≤◌, Bool, true, false, cond, nat_lt, List, [], ◌∷◌, ◌++◌, Option, Some, None, Result, Ok, Err, option_map, refl, sym, ap, ◌∙◌, subst, arith, codes}
use Rattle.std.proofs.lemmas.Bool.{ltb-false}
use Rattle.build_base.specs.declared.fault.Fault.{Fault}
use Rattle.build_base.specs.declared.fault.Place.{Place}
use Rattle.build_base.specs.First.{and_then}
use Rattle.doc_types.specs.declared.depex.NamedGuid.{NamedGuid}
use Rattle.doc_types.specs.declared.depex.DepexPart.{DepexPart}
use Rattle.doc_types.specs.declared.depex.DepexGroup.{DepexGroup}
use Rattle.doc_types.specs.declared.module_type.ModuleType.{ModuleType}
use Rattle.depex_code.specs.declared.leave.Leave.{Leave}
use Rattle.depex_code.specs.Tree.{Tree, simplified, post, nest, opcodes}
use Rattle.depex_code.specs.Sizes.{Size, form_of, size_of}
use Rattle.depex_code.specs.SizedJoins.{groups_size, front_bytes, simple_bytes, final_bytes}
use Rattle.build_base.specs.FaultText.{fault_of}
use Rattle.build_base.specs.First.{or_fault}
use Rattle.depex_code.specs.Compiled.{limit_fault, part_tree, no_leave, joined_to, with_group, around, next_tree, parts_tree, groups_tree, has_depex, module_leave, has_front, module_tree, compiled_tree, bytes_of_all, compiled, map_ok}
use Rattle.build_base.proofs.ResultLemmas.{as_err, ok_is, err_is_not}
use Rattle.depex_code.proofs.SizeLemmas.{fits-form}
use Rattle.depex_code.proofs.SimpleLemmas.{simple-post}
use Rattle.depex_code.proofs.JoinLemmas.{groups-sized}
use Rattle.build_base.specs.FaultCodes.{TOO_DEEP}

pub record Within (t : Tree) : Type 0 where
  pub shallow : nest t ≤ 64
  pub short : opcodes t ≤ 4096

abbrev pub AllWithin : Bool → Option Tree → Type 0
AllWithin front None = Unit {0}
AllWithin front (Some t) = Within (around front t)

limit-none : (at : Place) (t : Tree) → limit_fault at t ≡ None → Within t
unfolding limit_fault
limit-none at t e = deep (nat_lt 64 (nest t)) (nat_lt 4096 (opcodes t)) refl refl where
  deep : (b d : Bool) → nat_lt 64 (nest t) ≡ b → nat_lt 4096 (opcodes t) ≡ d → Within t
  deep true d h k = let f : Some (fault_of TOO_DEEP at (codes "65")) ≡ None = sym (ap (λ z. option_map (fault_of TOO_DEEP at) (cond z (Some (codes "65")) (cond (nat_lt 4096 (opcodes t)) (Some (codes "4097")) None))) h) ∙ e in absurd (cc)
  deep false true h k =
      let f : Some (fault_of TOO_DEEP at (codes "4097")) ≡ None =
      sym (ap (λ z. option_map (fault_of TOO_DEEP at) (cond z (Some (codes "65")) (cond (nat_lt 4096 (opcodes t)) (Some (codes "4097")) None))) h
      ∙ ap (λ z. option_map (fault_of TOO_DEEP at) (cond z (Some (codes "4097")) None)) k) ∙ e in absurd (cc)
  deep false false h k = record { shallow = ltb-false 64 (nest t) h; short = ltb-false 4096 (opcodes t) k }

within-or : (at : Place) (u v t : Tree) (l : Option Fault) → limit_fault at u ≡ l → or_fault l (Ok v) ≡ Ok t → Within u × (v ≡ t)
within-or at u v t None h e = (limit-none at u h, ok_is v t e)
within-or at u v t (Some f) h e = absurd (err_is_not f t e)

-- what a further part gives, and that it keeps the limits
pub record Next (front : Bool) (guids : List NamedGuid) (w : Option Tree) (leave : Leave) (o : Option Tree) (part : DepexPart) (t : Tree) : Type 0 where
  pub tree : Tree
  pub read : part_tree leave guids part ≡ Ok tree
  pub is : joined_to o tree ≡ t
  pub within : Within (around front (joined_to w t))

pub next-is : (front : Bool) (guids : List NamedGuid) (w : Option Tree) (leave : Leave) (o : Option Tree) (part : DepexPart) (t : Tree)
    → next_tree front guids w leave o part ≡ Ok t → Next front guids w leave o part t
unfolding next_tree
next-is front guids w leave o part t e = read (part_tree leave guids part) refl e where
  read : (r : Result Tree Fault) → part_tree leave guids part ≡ r
      → and_then r (λ u. or_fault (limit_fault part.at (around front (joined_to w (joined_to o u)))) (Ok (joined_to o u))) ≡ Ok t
      → Next front guids w leave o part t
  read (Err f) h x = absurd (err_is_not f t x)
  read (Ok u) h x =
      let i = within-or part.at (around front (joined_to w (joined_to o u))) (joined_to o u) t (limit_fault part.at (around front (joined_to w (joined_to o u)))) refl x in
      record { tree = u; read = h; is = i.1; within = subst (λ (v : Tree). Within (around front (joined_to w v))) i.1 i.0 }

next_within : (front : Bool) (guids : List NamedGuid) (w : Option Tree) (leave : Leave) (o : Option Tree) (part : DepexPart) (parts : List DepexPart) (r : Option Tree) (n : Result Tree Fault)
    → next_tree front guids w leave o part ≡ n
    → and_then n (λ t. parts_tree front guids w no_leave (Some t) parts) ≡ Ok r
    → ((t : Tree) → Within (around front (joined_to w t)) → parts_tree front guids w no_leave (Some t) parts ≡ Ok r → AllWithin front (with_group w r))
    → AllWithin front (with_group w r)
next_within front guids w leave o part parts r (Err f) n e h = absurd (err_is_not f r e)
next_within front guids w leave o part parts r (Ok t) n e h = h t (next-is front guids w leave o part t n).within e

pub parts-within : (front : Bool) (guids : List NamedGuid) (w : Option Tree) (leave : Leave) (o : Option Tree) (parts : List DepexPart) (r : Option Tree)
    → AllWithin front (with_group w o) → parts_tree front guids w leave o parts ≡ Ok r → AllWithin front (with_group w r)
unfolding parts_tree
parts-within front guids w leave o [] r h e = subst (λ (v : Option Tree). AllWithin front (with_group w v)) (ok_is o r e) h
parts-within front guids w leave o (part ∷ parts) r h e =
    next_within front guids w leave o part parts r (next_tree front guids w leave o part) refl e (λ t i. parts-within front guids w no_leave (Some t) parts r i)

group_within : (front : Bool) (leave : Leave) (w : Option Tree) (group : DepexGroup) (groups : List DepexGroup) (r : Option Tree) (p : Result (Option Tree) Fault)
    → AllWithin front w → parts_tree front group.guids w leave None group.parts ≡ p
    → and_then p (λ o. groups_tree front no_leave (with_group w o) groups) ≡ Ok r
    → ((v : Option Tree) → AllWithin front v → groups_tree front no_leave v groups ≡ Ok r → AllWithin front r)
    → AllWithin front r
group_within front leave w group groups r (Err f) a p e h = absurd (err_is_not f r e)
group_within front leave w group groups r (Ok o) a p e h = h (with_group w o) (parts-within front group.guids w leave None group.parts o a p) e

pub groups-within : (front : Bool) (leave : Leave) (w : Option Tree) (groups : List DepexGroup) (r : Option Tree)
    → AllWithin front w → groups_tree front leave w groups ≡ Ok r → AllWithin front r
unfolding groups_tree
groups-within front leave w [] r a e = subst (λ (v : Option Tree). AllWithin front v) (ok_is w r e) a
groups-within front leave w (group ∷ groups) r a e =
    group_within front leave w group groups r (parts_tree front group.guids w leave None group.parts) a refl e (λ v b. groups-within front no_leave v groups r b)

size-form : (t : Tree) → nest t ≤ 64 → opcodes t ≤ 4096 → (size_of t).form ≡ form_of t
unfolding size_of
size-form t d c = fits-form (nest t) (opcodes t) (form_of t) d c

simple-form : (front : Bool) (t : Tree) → Within (around front t) → (size_of t).form ≡ form_of t
simple-form true t w = size-form t (omega (arith, w.shallow)) (omega (arith, w.short))
simple-form false t w = size-form t w.shallow w.short

front-post : (front : Bool) (t : Tree) → front_bytes front (post t) ≡ post (around front t)
unfolding post
front-post true t = refl
front-post false t = refl

final-is : (front : Bool) (w : Option Tree) → AllWithin front w → final_bytes front (option_map size_of w) ≡ bytes_of_all (option_map (λ t. around front (simplified t)) w)
final-is front None a = refl
final-is front (Some t) a =
    ap (λ x. front_bytes front (simple_bytes x) ++ 8 ∷ []) (simple-form front t a)
    ∙ ap (λ l. front_bytes front l ++ 8 ∷ []) (simple-post t)
    ∙ ap (λ l. l ++ 8 ∷ []) (front-post front (simplified t))

-- the groups of a module, as the code has joined them
abbrev module_size : ModuleType → List DepexGroup → Result (Option Size) Fault
module_size t groups = groups_size (has_front (module_leave t groups) groups) (module_leave t groups) None groups

compiled-by : (t : ModuleType) (groups : List DepexGroup) (r : Result (Option Tree) Fault)
    → has_depex t ≡ true → groups_tree (has_front (module_leave t groups) groups) (module_leave t groups) None groups ≡ r
    → compiled t groups ≡ map_ok bytes_of_all (map_ok (option_map (λ w. around (has_front (module_leave t groups) groups) (simplified w))) r)
unfolding compiled compiled_tree module_tree
compiled-by t groups r h e = rw h (rw e refl)

pub compiled-ok : (t : ModuleType) (groups : List DepexGroup) (whole : Option Size) → has_depex t ≡ true → module_size t groups ≡ Ok whole
    → compiled t groups ≡ Ok (final_bytes (has_front (module_leave t groups) groups) whole)
compiled-ok t groups whole h e = by_tree (groups_tree (has_front (module_leave t groups) groups) (module_leave t groups) None groups) refl where
  by_tree : (r : Result (Option Tree) Fault) → groups_tree (has_front (module_leave t groups) groups) (module_leave t groups) None groups ≡ r
      → compiled t groups ≡ Ok (final_bytes (has_front (module_leave t groups) groups) whole)
  by_tree (Err f) g =
      absurd (err_is_not f whole (sym (ap (map_ok (option_map size_of)) g) ∙ sym (groups-sized (has_front (module_leave t groups) groups) (module_leave t groups) None groups) ∙ e))
  by_tree (Ok w) g =
      let is : option_map size_of w ≡ whole =
      ok_is (option_map size_of w) whole (sym (ap (map_ok (option_map size_of)) g) ∙ sym (groups-sized (has_front (module_leave t groups) groups) (module_leave t groups) None groups) ∙ e) in
      compiled-by t groups (Ok w) h g
      ∙ ap Ok (sym (final-is (has_front (module_leave t groups) groups) w (groups-within (has_front (module_leave t groups) groups) (module_leave t groups) None groups w tt g))
      ∙ ap (final_bytes (has_front (module_leave t groups) groups)) is)

err-too : (g k : Fault) → as_err {T = Option Size} {F = Fault} g ≡ as_err {T = Option Size} {F = Fault} k → as_err {T = List ℕ} {F = Fault} g ≡ as_err {T = List ℕ} {F = Fault} k
err-too g k e = cc

pub compiled-bad : (t : ModuleType) (groups : List DepexGroup) (f : Fault) → has_depex t ≡ true → module_size t groups ≡ Err f → compiled t groups ≡ Err f
compiled-bad t groups f h e = by_tree (groups_tree (has_front (module_leave t groups) groups) (module_leave t groups) None groups) refl where
  by_tree : (r : Result (Option Tree) Fault) → groups_tree (has_front (module_leave t groups) groups) (module_leave t groups) None groups ≡ r → compiled t groups ≡ Err f
  by_tree (Err g) k =
      let is : Err g ≡ Err f = sym (ap (map_ok (option_map size_of)) k) ∙ sym (groups-sized (has_front (module_leave t groups) groups) (module_leave t groups) None groups) ∙ e in
      compiled-by t groups (Err g) h k ∙ err-too g f is
  by_tree (Ok w) k =
      let is : Ok (option_map size_of w) ≡ Err f = sym (ap (map_ok (option_map size_of)) k) ∙ sym (groups-sized (has_front (module_leave t groups) groups) (module_leave t groups) None groups) ∙ e in
      absurd (cc)

pub compiled-none : (t : ModuleType) (groups : List DepexGroup) → has_depex t ≡ false → compiled t groups ≡ Ok []
unfolding compiled compiled_tree
compiled-none t groups h = rw h refl
