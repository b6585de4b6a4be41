-- Components with one more.
use Rattle.std.proofs.Common.{◌≡◌, ◌∙◌, ℕ, Bool, true, false, ◌||◌, ◌&&◌, cond, if◌then◌else◌, List, [], ◌∷◌, ◌++◌, Option, Some, None, refl, sym, ap, append-nil}
use Rattle.std.specs.Prelude.{unwrap_or}
use Rattle.std.specs.List.{flat_map, list_any}
use Rattle.std.specs.Global.{Vec}
use Rattle.std.specs.HashMap.{HashMap, get}
use Rattle.std.specs.Str.{bytes_eq}
use Rattle.std.specs.Cmp.Lexicographic.{same_text}
use Rattle.std.proofs.lemmas.Grind.{flat_map-append}
use Rattle.doc_types.specs.declared.arch.Arch.{Arch}
use Rattle.doc_types.specs.declared.platform.Component.{Component}
use Rattle.dsc_lines.specs.SkuNames.{same_key}
use Rattle.dsc_platform.specs.Repeats.{archs_overlap, repeats, arch_at, Arched}

bytes_same : (xs ys : List ℕ) → bytes_eq xs ys ≡ true → xs ≡ ys
bytes_same xs ys e = same_text xs ys (sym e)

one_at : (t : Bool) (arch other : Arch) (rest : List Arch) → list_any (λ a. archs_overlap a other) ((if t then arch ∷ [] else []) ++ rest) ≡ ((t && archs_overlap arch other) || list_any (λ a. archs_overlap a other) rest)
one_at true arch other rest = refl
one_at false arch other rest = refl

-- the architectures of a module tell whether it stands above
pub any_at : (component : Component) (above : List Component) → list_any (λ a. archs_overlap a component.arch) (flat_map (arch_at component.inf) above) ≡ list_any (λ old. repeats old component) above
any_at component [] = refl
any_at component (old ∷ above) =
    one_at (bytes_eq old.inf component.inf) old.arch component.arch (flat_map (arch_at component.inf) above)
    ∙ ap (λ b. (bytes_eq old.inf component.inf && archs_overlap old.arch component.arch) || b) (any_at component above)

-- no components
pub arched_none : {S : Type 0} (table : HashMap (Vec ℕ) (List Arch) S) → table.entries ≡ [] → Arched [] table
arched_none table e = λ key. rw e refl

chosen : (t : Bool) (arches new : List Arch) (old : Option (List Arch)) (arch : Arch) → (t ≡ true → arches ≡ unwrap_or old []) → new ≡ arches ++ arch ∷ []
    → unwrap_or (cond t (Some new) (cond t None old)) [] ≡ unwrap_or old [] ++ (if t then arch ∷ [] else [])
chosen true arches new old arch here n = n ∙ ap (λ zs. zs ++ arch ∷ []) (here refl)
chosen false arches new old arch here n = sym (append-nil (unwrap_or old []))

one_more : (key : List ℕ) (above : List Component) (component : Component) → flat_map (arch_at key) (above ++ component ∷ []) ≡ flat_map (arch_at key) above ++ arch_at key component
one_more key above component = flat_map-append (arch_at key) above (component ∷ []) ∙ ap (λ zs. flat_map (arch_at key) above ++ zs) (append-nil (arch_at key component))

-- with a component more
pub arched_added : {S : Type 0} (above : List Component) (component : Component) (k : Vec ℕ) (arches new_arches : List Arch) (old mid new : HashMap (Vec ℕ) (List Arch) S)
    → k.items ≡ component.inf
    → arches ≡ unwrap_or (get same_key old k) []
    → new_arches ≡ arches ++ component.arch ∷ []
    → ((q : Vec ℕ) → get same_key mid q ≡ cond (same_key k q) None (get same_key old q))
    → ((q : Vec ℕ) → get same_key new q ≡ cond (same_key k q) (Some new_arches) (get same_key mid q))
    → Arched above old → Arched (above ++ component ∷ []) new
arched_added above component k arches new_arches old mid new named taken pushed out put h = λ key.
    let same : bytes_eq k.items key.items ≡ true → arches ≡ unwrap_or (get same_key old key) [] =
    λ t. taken ∙ h k ∙ ap (λ inf. flat_map (arch_at inf) above) (bytes_same k.items key.items t) ∙ sym (h key) in
    ap (λ o. unwrap_or o []) (put key ∙ ap (cond (same_key k key) (Some new_arches)) (out key))
    ∙ chosen (bytes_eq k.items key.items) arches new_arches (get same_key old key) component.arch same pushed
    ∙ ap (λ zs. zs ++ (if bytes_eq k.items key.items then component.arch ∷ [] else [])) (h key)
    ∙ ap (λ inf. flat_map (arch_at key.items) above ++ (if bytes_eq inf key.items then component.arch ∷ [] else [])) named
    ∙ sym (one_more key.items above component)
