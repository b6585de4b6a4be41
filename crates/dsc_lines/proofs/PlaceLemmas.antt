-- Names with one more.
use Rattle.std.proofs.Common.{◌≡◌, ◌∙◌, ℕ, suc, Bool, true, false, cond, if◌then◌else◌, List, [], ◌∷◌, ◌++◌, length, Option, Some, None, option_map, refl, sym, ap}
use Rattle.std.specs.Str.{bytes_eq}
use Rattle.std.specs.Global.{Vec}
use Rattle.std.specs.HashMap.{HashMap, get}
use Rattle.std.specs.Cmp.Lexicographic.{same_text}
use Rattle.build_base.specs.First.{or_else}
use Rattle.dsc_lines.specs.SkuLines.{place_of}
use Rattle.dsc_lines.specs.SkuNames.{same_key, Placed}

pub bytes_same : (xs ys : List ℕ) → bytes_eq xs ys ≡ true → xs ≡ ys
bytes_same xs ys e = same_text xs ys (sym e)

pushed : (t b : Bool) (o : Option ℕ) (k : ℕ)
    → (if t then Some 0 else option_map suc (or_else o (if b then Some k else None))) ≡ or_else (if t then Some 0 else option_map suc o) (if b then Some (suc k) else None)
pushed true b o k = refl
pushed false b (Some i) k = refl
pushed false true None k = refl
pushed false false None k = refl

-- where a name stands among more of them
pub place_push : (name : List ℕ) (names : List (List ℕ)) (more : List ℕ)
    → place_of name (names ++ more ∷ []) ≡ or_else (place_of name names) (if bytes_eq more name then Some (length names) else None)
unfolding place_of
place_push name [] more = refl
place_push name (other ∷ names) more =
    ap (λ o. if bytes_eq other name then Some 0 else option_map suc o) (place_push name names more)
    ∙ pushed (bytes_eq other name) (bytes_eq more name) (place_of name names) (length names)

kept : (t : Bool) (o : Option ℕ) (i k : ℕ) → (t ≡ true → o ≡ Some i) → o ≡ or_else o (if t then Some k else None)
kept true o i k e = e refl ∙ sym (ap (λ p. or_else p (Some k)) (e refl))
kept false (Some j) i k e = refl
kept false None i k e = refl

-- a name that is there already
pub placed_kept : {S : Type 0} (names : List (List ℕ)) (name : List ℕ) (i : ℕ) (table : HashMap (Vec ℕ) ℕ S) → place_of name names ≡ Some i → Placed names table → Placed (names ++ name ∷ []) table
placed_kept names name i table there h = λ key.
    h key
    ∙ kept (bytes_eq name key.items) (place_of key.items names) i (length names) (λ t. ap (λ n. place_of n names) (sym (bytes_same name key.items t)) ∙ there)
    ∙ sym (place_push key.items names name)

added : (t : Bool) (o : Option ℕ) (k : ℕ) → (t ≡ true → o ≡ None) → cond t (Some k) o ≡ or_else o (if t then Some k else None)
added true o k e = sym (ap (λ p. or_else p (Some k)) (e refl))
added false (Some j) k e = refl
added false None k e = refl

-- a new one
pub placed_added : {S : Type 0} (names : List (List ℕ)) (k : Vec ℕ) (name : List ℕ) (place : ℕ) (old new : HashMap (Vec ℕ) ℕ S)
    → k.items ≡ name → place ≡ length names → place_of name names ≡ None
    → ((q : Vec ℕ) → get same_key new q ≡ cond (same_key k q) (Some place) (get same_key old q)) → Placed names old → Placed (names ++ name ∷ []) new
placed_added names k name place old new named at absent put h = λ key.
    put key
    ∙ ap (λ o. cond (bytes_eq k.items key.items) (Some place) o) (h key)
    ∙ ap (λ n. cond (bytes_eq n key.items) (Some place) (place_of key.items names)) named
    ∙ ap (λ p. cond (bytes_eq name key.items) (Some p) (place_of key.items names)) at
    ∙ added (bytes_eq name key.items) (place_of key.items names) (length names) (λ t. ap (λ n. place_of n names) (sym (bytes_same name key.items t)) ∙ absent)
    ∙ sym (place_push key.items names name)

-- no names
pub placed_none : {S : Type 0} (table : HashMap (Vec ℕ) ℕ S) → table.entries ≡ [] → Placed [] table
unfolding place_of
placed_none table e = λ key. rw e refl
