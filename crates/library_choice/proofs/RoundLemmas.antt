-- The number falls from round to round.
use Rattle.std.proofs.Common.{◌≡◌, ◌||◌, ℕ, suc, ◌-◌, ◌<◌, ◌≤◌, Bool, true, false, cond, List, [], ◌∷◌, ◌++◌, length, Option, Some, None, refl, sym, ap, subst, arith}
use Rattle.std.specs.Prelude.{filter, is_none, is_some}
use Rattle.std.specs.List.{filter_map}
use Rattle.std.proofs.lemmas.Bool.{leb-true}
use Rattle.doc_types.specs.declared.choice.Module.{Module}
use Rattle.doc_types.specs.declared.module.InfDoc.{InfDoc}
use Rattle.doc_types.specs.declared.platform.PlatformDoc.{PlatformDoc}
use Rattle.library_choice.specs.Closure.{known, is_known, is_unknown, instances, instance_of, classes_of, next, nulls, are_few, is_library, same_path, setting_of, wanted_by, wanted_for, wanted}
use Rattle.library_choice.specs.Found.{is_in, found_in}
use Rattle.library_choice.specs.Lines.{Setting}
use Rattle.library_choice.specs.Rounds.{unknown_left, left_for, rounds_left, Falls}
use Rattle.library_choice.proofs.CountLemmas.{Distinct}
use Rattle.library_choice.proofs.FallLemmas.{More, found-more, distinct-found, kept, one-more}
use Rattle.library_choice.proofs.MoreLemmas.{known-stays, known-more, with_more, same-instances}
use Rattle.library_choice.proofs.PathLemmas.{path_same}

next-by : (s : Setting) (more : List InfDoc) (x y : List ℕ) (o : Option InfDoc) → known s.infs x ≡ o → is_in same_path (next s x) y ≡ true → is_in same_path (next (with_more s more) x) y ≡ true
unfolding next
next-by s more x y None e h =
    let none : is_in same_path (filter_map (instance_of s) (classes_of None)) y ≡ true = subst (λ o. is_in same_path (filter_map (instance_of s) (classes_of o)) y ≡ true) e h in
    absurd (cc)
next-by s more x y (Some inf) e h =
    subst (λ o. is_in same_path (filter_map (instance_of (with_more s more)) (classes_of o)) y ≡ true) (sym (known-stays s.infs more x inf e))
    (subst (λ l. is_in same_path l y ≡ true) (sym (same-instances s more inf.classes))
    (subst (λ o. is_in same_path (filter_map (instance_of s) (classes_of o)) y ≡ true) e h))

next-more : (s : Setting) (more : List InfDoc) → More same_path (next s) (next (with_more s more))
next-more s more x y h = next-by s more x y (known s.infs x) refl h

same-found : (s : Setting) (more : List InfDoc) (inf : InfDoc) → found_in same_path (next (with_more s more)) (filter_map (instance_of s) inf.classes) (nulls s) 1025 ≡ instances (with_more s more) inf
unfolding instances
same-found s more inf = ap (λ l. found_in same_path (next (with_more s more)) l (nulls s) 1025) (sym (same-instances s more inf.classes))

instances-more : (s : Setting) (more : List InfDoc) (inf : InfDoc) (x : List ℕ) → is_in same_path (instances s inf) x ≡ true → is_in same_path (instances (with_more s more) inf) x ≡ true
unfolding instances
instances-more s more inf x h =
    subst (λ l. is_in same_path l x ≡ true) (same-found s more inf)
    (found-more same_path path_same (next s) (next (with_more s more)) (next-more s more) (filter_map (instance_of s) inf.classes) (nulls s) 1025 x h)

distinct-instances : (s : Setting) (inf : InfDoc) → Distinct same_path (instances s inf)
unfolding instances
distinct-instances s inf = distinct-found same_path path_same (next s) (filter_map (instance_of s) inf.classes) (nulls s) 1025

some-known : (o : Option InfDoc) → is_none o ≡ true → is_some o ≡ false
some-known None e = refl
some-known (Some x) e = absurd (cc)

unknown-is : (infs : List InfDoc) (path : List ℕ) → is_unknown infs path ≡ true → is_known infs path ≡ false
unfolding is_unknown is_known
unknown-is infs path e = some-known (known infs path) e

first-in : (xs : List (List ℕ)) → 0 < length xs → (x : List ℕ) × (is_in same_path xs x ≡ true)
first-in [] h = absurd (omega (arith, h))
first-in (x ∷ xs) h = (x, ap (λ v. v || is_in same_path xs x) (path_same.itself x))

filter-few-by : {X : Type 0} (y : X) (rest : List X) (n : ℕ) (v : Bool) → length rest ≤ n → length (cond v (y ∷ rest) rest) ≤ suc n
filter-few-by y rest n true h = omega (arith, h)
filter-few-by y rest n false h = omega (arith, h)

filter-few : {X : Type 0} (p : X → Bool) (xs : List X) → length (filter p xs) ≤ length xs
filter-few p [] = omega arith
filter-few p (x ∷ xs) = filter-few-by x (filter p xs) (length xs) (p x) (filter-few p xs)

falls-by : (b : Bool) (new old : ℕ) → suc old ≤ new → old ≤ 1024 → cond b (1025 - new) 0 < 1025 - old
falls-by true new old h l = omega (arith, h, l)
falls-by false new old h l = omega (arith, l)

-- a setting with more files, where one that was wanted is known
left-falls : (s : Setting) (more : List InfDoc) (inf : InfDoc) (b : Bool) → are_few s inf ≡ true → are_few (with_more s more) inf ≡ b → 0 < length (filter (is_unknown s.infs) (instances s inf))
    → ((path : List ℕ) → is_in same_path (filter (is_unknown s.infs) (instances s inf)) path ≡ true → is_known (s.infs ++ more) path ≡ true)
    → cond b (1025 - length (filter (is_known (s.infs ++ more)) (instances (with_more s more) inf))) 0 < 1025 - length (filter (is_known s.infs) (instances s inf))
left-falls s more inf b few also wants all =
    let u = first-in (filter (is_unknown s.infs) (instances s inf)) wants in
    let k = kept same_path path_same (is_unknown s.infs) (instances s inf) u.0 u.1 in
    let grows = one-more same_path path_same (is_known s.infs) (is_known (s.infs ++ more)) (instances s inf) (instances (with_more s more) inf) u.0
    (distinct-instances s inf) (instances-more s more inf) (known-more s.infs more) k.there (unknown-is s.infs u.0 k.passes) (all u.0 u.1) in
    let many : length (instances s inf) ≤ 1024 = leb-true (length (instances s inf)) 1024 few in
    let below = filter-few (is_known s.infs) (instances s inf) in
    falls-by b (length (filter (is_known (s.infs ++ more)) (instances (with_more s more) inf))) (length (filter (is_known s.infs) (instances s inf))) grows (omega (arith, below, many))

falls-known : (user : Module) (platform : PlatformDoc) (infs more : List InfDoc) (inf : InfDoc) (lib few : Bool) → is_library inf ≡ lib → are_few (setting_of user platform infs inf) inf ≡ few
    → 0 < length (cond lib [] (cond few (filter (is_unknown infs) (instances (setting_of user platform infs inf) inf)) []))
    → ((path : List ℕ) → is_in same_path (cond lib [] (cond few (filter (is_unknown infs) (instances (setting_of user platform infs inf) inf)) [])) path ≡ true → is_known (infs ++ more) path ≡ true)
    → cond lib 0 (unknown_left (setting_of user platform (infs ++ more) inf) inf) < cond lib 0 (unknown_left (setting_of user platform infs inf) inf)
unfolding setting_of unknown_left
falls-known user platform infs more inf true few l f wants all = absurd (omega (arith, wants))
falls-known user platform infs more inf false false l f wants all = absurd (omega (arith, wants))
falls-known user platform infs more inf false true l f wants all =
    let s = setting_of user platform infs inf in
    subst (λ v. cond (are_few (with_more (setting_of user platform infs inf) more) inf) (1025 - length (filter (is_known (infs ++ more)) (instances (with_more (setting_of user platform infs inf) more) inf))) 0
    < cond v (1025 - length (filter (is_known infs) (instances (setting_of user platform infs inf) inf))) 0) (sym f)
    (left-falls (setting_of user platform infs inf) more inf (are_few (with_more (setting_of user platform infs inf) more) inf) f refl wants all)

falls-by-known : (user : Module) (platform : PlatformDoc) (infs more : List InfDoc) (o : Option InfDoc) → known infs user.inf ≡ o
    → 0 < length (wanted_for user platform infs o)
    → ((path : List ℕ) → is_in same_path (wanted_for user platform infs o) path ≡ true → is_known (infs ++ more) path ≡ true)
    → left_for user platform (infs ++ more) (known (infs ++ more) user.inf) < left_for user platform infs o
unfolding wanted_by setting_of
falls-by-known user platform infs more None e wants all = absurd (omega (arith, wants))
falls-by-known user platform infs more (Some inf) e wants all =
    subst (λ o. left_for user platform (infs ++ more) o < left_for user platform infs (Some inf)) (sym (known-stays infs more user.inf inf e))
    (falls-known user platform infs more inf (is_library inf) (are_few (setting_of user platform infs inf) inf) refl refl wants all)

pub falls : (user : Module) (platform : PlatformDoc) (infs : List InfDoc) → Falls user platform infs
unfolding wanted rounds_left
falls user platform infs more wants all = falls-by-known user platform infs more (known infs user.inf) refl wants all
