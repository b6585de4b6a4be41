-- A table of INF files, made file by file.
use Rattle.std.proofs.Common.{◌≡◌, ◌∙◌, ℕ, Bool, true, false, cond, nat_eq, List, [], ◌∷◌, ◌++◌, Option, Some, None, refl, sym, ap, subst}
use Rattle.std.specs.Prelude.{is_some}
use Rattle.std.specs.Option.{option_or}
use Rattle.std.specs.HashMap.{HashMap, get}
use Rattle.std.specs.Cmp.Lexicographic.{pointwise, same_text}
use Rattle.std.proofs.lemmas.List.Folds.{find-append}
use Rattle.doc_types.specs.declared.module.InfDoc.{InfDoc}
use Rattle.library_choice.specs.Closure.{known}
use Rattle.library_choice.specs.Tables.{Infs}
use Rattle.line_ranks.specs.Places.{same_key}

-- the first INF file of a path, with one more
known_next : (infs : List InfDoc) (inf : InfDoc) (path : List ℕ) → known (infs ++ inf ∷ []) path ≡ option_or (known infs path) (cond (pointwise nat_eq inf.at.path path) (Some inf) None)
unfolding known
known_next infs inf path = find-append (λ (x : InfDoc). pointwise nat_eq x.at.path path) infs (inf ∷ [])

or-none : {X : Type 0} (o : Option X) → option_or o None ≡ o
or-none None = refl
or-none (Some x) = refl

or-some : {X : Type 0} (o b : Option X) → is_some o ≡ true → option_or o b ≡ o
or-some None b e = absurd (cc)
or-some (Some x) b e = refl

none-some : {X : Type 0} (o : Option X) → is_some o ≡ false → o ≡ None
none-some None e = refl
none-some (Some x) e = absurd (cc)

-- what is under equal keys
under_same : {S : Type 0} (table : HashMap (List ℕ) InfDoc S) (k q : List ℕ) → k ≡ q → get same_key table k ≡ get same_key table q
under_same table k q e = ap (λ (t : List ℕ). get {K = List ℕ} (λ a b. pointwise nat_eq t b) table k) e

pub infs_kept : {S : Type 0} (infs : List InfDoc) (inf : InfDoc) (table : HashMap (List ℕ) InfDoc S) (k : List ℕ)
    → k ≡ inf.at.path → is_some (get same_key table k) ≡ true → Infs infs table → Infs (infs ++ inf ∷ []) table
infs_kept infs inf table k is there held = λ key.
    held key ∙ sym (known_next infs inf key ∙ kept key (pointwise nat_eq inf.at.path key) refl)
  where
    kept : (key : List ℕ) (b : Bool) → pointwise nat_eq inf.at.path key ≡ b → option_or (known infs key) (cond b (Some inf) None) ≡ known infs key
    kept key false f = or-none (known infs key)
    kept key true f =
        let same : k ≡ key = is ∙ same_text inf.at.path key (sym f) in
        or-some (known infs key) (Some inf) (ap is_some (sym (held key)) ∙ subst (λ (t : List ℕ). is_some (get same_key table t) ≡ true) same there)

pub infs_added : {S : Type 0} (infs : List InfDoc) (inf : InfDoc) (table new : HashMap (List ℕ) InfDoc S) (k : List ℕ)
    → k ≡ inf.at.path → is_some (get same_key table k) ≡ false → ((q : List ℕ) → get same_key new q ≡ cond (same_key k q) (Some inf) (get same_key table q)) → Infs infs table → Infs (infs ++ inf ∷ []) new
infs_added infs inf table new k is there update held = λ key.
    update key ∙ ap (λ (t : List ℕ). cond (pointwise nat_eq t key) (Some inf) (get same_key table key)) is
    ∙ put key (pointwise nat_eq inf.at.path key) refl ∙ sym (known_next infs inf key)
  where
    put : (key : List ℕ) (b : Bool) → pointwise nat_eq inf.at.path key ≡ b → cond b (Some inf) (get same_key table key) ≡ option_or (known infs key) (cond b (Some inf) None)
    put key false f = held key ∙ sym (or-none (known infs key))
    put key true f =
        let same : k ≡ key = is ∙ same_text inf.at.path key (sym f) in
        let none : known infs key ≡ None = none-some (known infs key) (ap is_some (sym (held key)) ∙ subst (λ (t : List ℕ). is_some (get same_key table t) ≡ false) same there) in
        ap (λ o. option_or o (Some inf)) (sym none)

pub infs_none : {S : Type 0} (table : HashMap (List ℕ) InfDoc S) → table.entries ≡ [] → Infs [] table
unfolding known
infs_none table e = λ key. rw e refl
