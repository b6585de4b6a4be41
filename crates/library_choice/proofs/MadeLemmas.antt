-- What is made of what is found.
use Rattle.std.proofs.Common.{◌≡◌, ◌∙◌, ◌||◌, ◌&&◌, ℕ, ◌+◌, ◌≤◌, nat_eq, Bool, true, false, not, cond, List, [], ◌∷◌, ◌++◌, length, map, take, drop, Option, Some, None, Result, Err, refl, sym, ap, subst, arith}
use Rattle.std.specs.Prelude.{filter, find, nat_le, codes, is_none, is_some}
use Rattle.std.specs.Cmp.Lexicographic.{pointwise}
use Rattle.std.specs.List.{All, filter_map}
use Rattle.std.proofs.lemmas.Bool.{le-leb, lt-leb, leb-true, leb-false}
use Rattle.std.proofs.lemmas.List.{length-map}
use Rattle.std.proofs.lemmas.List.Filters.{length-filter_both}
use Rattle.build_base.specs.Answer.{Refused, Finds as Faulty}
use Rattle.build_base.specs.declared.refusal.Refusal.{Refusal}
use Rattle.build_base.specs.declared.refusal.Refusal.TheVariants.{Bad, WantOfMemory}
use Rattle.build_base.specs.First.{or_fault}
use Rattle.build_base.specs.FaultText.{fault_of}
use Rattle.build_base.specs.declared.fault.Fault.{Fault}
use Rattle.doc_types.specs.declared.choice.Choice.{Choice}
use Rattle.doc_types.specs.declared.choice.Module.{Module}
use Rattle.doc_types.specs.declared.module.InfDoc.{InfDoc}
use Rattle.library_choice.specs.Choices.{classes_fault, choice_of, choice_of_found}
use Rattle.library_choice.specs.Closure.{same_path, known, is_known, instance_of, next, nulls, instances, are_few, is_unknown, wanted_by}
use Rattle.library_choice.specs.Found.{is_in, add}
use Rattle.library_choice.specs.Fronts.{IsFrontOf, LeadsClasses, LeadsNulls, FindsFor, Ends, BothEnd, is_apart}
use Rattle.library_choice.specs.Lines.{Setting}
use Rattle.library_choice.specs.Search.{Prefix, Passed}
use Rattle.library_choice.proofs.BothLemmas.{ended-distinct, both-few, both-many, filter-add, filter-same-by}
use Rattle.library_choice.proofs.CountLemmas.{Distinct, distinct-add, no-more}
use Rattle.library_choice.proofs.FallLemmas.{kept, distinct-filter}
use Rattle.library_choice.proofs.FrontLemmas.{front-within, rest-few, rest-many-nulls, wanted-behind}
use Rattle.library_choice.proofs.InsideLemmas.{all-by}
use Rattle.library_choice.proofs.PathLemmas.{path_same}
use Rattle.library_choice.proofs.ReachLemmas.{or-left, or-right}
use Rattle.build_base.specs.FaultCodes.{TOO_MANY_INSTANCES}

-- all in front of a place is known
record IsFrontAt (s : Setting) (found : List (List ℕ)) (at : ℕ) : Type 0 where
  known : All (λ path. is_known s.infs path ≡ true) (take at found)
  within : at ≤ length found

found-is : (s : Setting) (inf : InfDoc) (found : List (List ℕ)) → FindsFor s inf (Some found) → found ≡ instances s inf
unfolding instances
found-is s inf found f = f.0

few-is : (s : Setting) (inf : InfDoc) (found : List (List ℕ)) → FindsFor s inf (Some found) → are_few s inf ≡ true
few-is s inf found f = le-leb (length (instances s inf)) 1024 (subst (λ l. length l ≤ 1024) (found-is s inf found f) f.1)

many-is : (s : Setting) (inf : InfDoc) → FindsFor s inf None → are_few s inf ≡ false
unfolding instances
many-is s inf f =
    let h : 1025 ≤ length (instances s inf) = f in
    lt-leb (length (instances s inf)) 1024 (omega (arith, h))

pub wanted_some : (s : Setting) (inf : InfDoc) (found : List (List ℕ)) → FindsFor s inf (Some found) → wanted_by s inf ≡ filter (is_unknown s.infs) found
unfolding wanted_by
wanted_some s inf found f =
    ap (λ b. cond b (filter (is_unknown s.infs) (instances s inf)) []) (few-is s inf found f) ∙ ap (filter (is_unknown s.infs)) (sym (found-is s inf found f))

pub wanted_none : (s : Setting) (inf : InfDoc) → FindsFor s inf None → wanted_by s inf ≡ []
unfolding wanted_by
wanted_none s inf f = ap (λ b. cond b (filter (is_unknown s.infs) (instances s inf)) []) (many-is s inf f)

known-found : (infs : List InfDoc) (path : List ℕ) → is_known infs path ≡ true → is_unknown infs path ≡ false
unfolding is_known is_unknown
known-found infs path e = some-there (known infs path) e
  where
    some-there : (o : Option InfDoc) → is_some o ≡ true → is_none o ≡ false
    some-there None e = absurd (cc)
    some-there (Some inf) e = refl

-- what of a queue behind its front is wanted is all of it that is wanted
behind_front : (s : Setting) (u : List ℕ → Bool) (found new : List (List ℕ)) (at : ℕ) → ((path : List ℕ) → is_known s.infs path ≡ true → u path ≡ false) → Prefix found new
    → IsFrontAt s found at → filter u (drop at new) ≡ filter u new
behind_front s u found new at f p h = sym (wanted-behind (is_known s.infs) u found new at f p h.within h.known)

apart_known : (s : Setting) (first : List (List ℕ)) (path : List ℕ) → is_known s.infs path ≡ true → is_apart s first path ≡ false
unfolding is_apart
apart_known s first path e = ap (λ v. v && not (is_in same_path first path)) (known-found s.infs path e)

apart_filter : (s : Setting) (first second : List (List ℕ)) → Distinct same_path second → filter (is_unknown s.infs) (add same_path first second) ≡ filter (is_unknown s.infs) first ++ filter (is_apart s first) second
unfolding is_apart
apart_filter s first second d = filter-add same_path path_same (is_unknown s.infs) first second d

-- what both queues want behind their fronts is what is wanted of both together
wanted_together : (s : Setting) (first first_new second second_new : List (List ℕ)) (first_at second_at : ℕ) → Prefix first first_new → Prefix second second_new → IsFrontAt s first first_at → IsFrontAt s second second_at
    → Distinct same_path second_new
    → filter (is_unknown s.infs) (drop first_at first_new) ++ filter (is_apart s first_new) (drop second_at second_new) ≡ filter (is_unknown s.infs) (add same_path first_new second_new)
wanted_together s first first_new second second_new first_at second_at p q f g d =
    ap (λ (l : List (List ℕ)). l ++ filter (is_apart s first_new) (drop second_at second_new)) (behind_front s (is_unknown s.infs) first first_new first_at (known-found s.infs) p f)
    ∙ ap (λ (l : List (List ℕ)). filter (is_unknown s.infs) first_new ++ l) (behind_front s (is_apart s first_new) second second_new second_at (apart_known s first_new) q g)
    ∙ sym (apart_filter s first_new second_new d)

and-true : (v : Bool) → v && true ≡ v
and-true true = refl
and-true false = refl

apart-one : (s : Setting) (path : List ℕ) → is_apart s [] path ≡ is_unknown s.infs path
unfolding is_apart
apart-one s path = and-true (is_unknown s.infs path)

-- all that is unknown is apart from nothing
pub apart_none : (s : Setting) (paths : List (List ℕ)) → filter (is_apart s []) paths ≡ filter (is_unknown s.infs) paths
apart_none s [] = refl
apart_none s (x ∷ xs) = filter-same-by x (filter (is_apart s []) xs) (filter (is_unknown s.infs) xs) (is_apart s [] x) (is_unknown s.infs x) (apart-one s x) (apart_none s xs)

other_is : (o : Option InfDoc) → is_none o ≡ not (is_some o)
other_is None = refl
other_is (Some inf) = refl

not_known : (infs : List InfDoc) (path : List ℕ) → is_unknown infs path ≡ not (is_known infs path)
unfolding is_known is_unknown
not_known infs path = other_is (known infs path)

abbrev path_of : InfDoc → List ℕ
path_of inf = inf.at.path

listed_by : (inf : InfDoc) (infs : List InfDoc) (path : List ℕ) (v : Bool) → pointwise nat_eq inf.at.path path ≡ v → is_some (cond v (Some inf) (find (λ (x : InfDoc). pointwise nat_eq x.at.path path) infs)) ≡ true
    → (is_some (find (λ (x : InfDoc). pointwise nat_eq x.at.path path) infs) ≡ true → is_in same_path (map path_of infs) path ≡ true) → same_path inf.at.path path || is_in same_path (map path_of infs) path ≡ true
listed_by inf infs path true e h ih =
    or-left (same_path inf.at.path path) (is_in same_path (map path_of infs) path)
    (subst (λ (p : List ℕ). same_path inf.at.path p ≡ true) (sym (path_same.same path inf.at.path e)) (path_same.itself inf.at.path))
listed_by inf infs path false e h ih = or-right (same_path inf.at.path path) (is_in same_path (map path_of infs) path) (ih h)

listed : (infs : List InfDoc) (path : List ℕ) → is_some (find (λ (x : InfDoc). pointwise nat_eq x.at.path path) infs) ≡ true → is_in same_path (map path_of infs) path ≡ true
listed [] path h = absurd (cc)
listed (inf ∷ infs) path h = listed_by inf infs path (pointwise nat_eq inf.at.path path) refl h (listed infs path)

known_listed : (infs : List InfDoc) (path : List ℕ) → is_known infs path ≡ true → is_in same_path (map path_of infs) path ≡ true
unfolding is_known known
known_listed infs path h = listed infs path h

-- all that is found is unknown, or the file of it is among those that are known
few_known : (infs : List InfDoc) (xs : List (List ℕ)) → Distinct same_path xs → length xs ≤ length (filter (is_unknown infs) xs) + length infs
few_known infs xs d =
    omega (
      arith,
      length-filter_both (is_known infs) (is_unknown infs) (not_known infs) xs,
      length-map infs path_of,
      no-more same_path path_same (map path_of infs) (filter (is_known infs) xs) (distinct-filter same_path path_same (is_known infs) xs d)
          (all-by same_path path_same (map path_of infs) (filter (is_known infs) xs) (λ x h. known_listed infs x (kept same_path path_same (is_known infs) xs x h).passes)),
    )

-- what is wanted where both queues have ended
pub record Wants (s : Setting) (inf : InfDoc) (first second wanted : List (List ℕ)) : Type 0 where
  pub bound : length (add same_path first second) ≤ length wanted + length s.infs
  pub is : (few : Bool) → few ≡ nat_le (length (add same_path first second)) 1024 → cond few wanted [] ≡ wanted_by s inf

together_by : (s : Setting) (inf : InfDoc) (first second : List (List ℕ)) (few : Bool) → Ends s (filter_map (instance_of s) inf.classes) first → Ends s (nulls s) second
    → few ≡ nat_le (length (add same_path first second)) 1024 → cond few (filter (is_unknown s.infs) (add same_path first second)) [] ≡ wanted_by s inf
together_by s inf first second true a b e =
    sym (wanted_some s inf (add same_path first second) (both-few same_path path_same (next s) (filter_map (instance_of s) inf.classes) (nulls s) first second a b (leb-true (length (add same_path first second)) 1024 (sym e))))
together_by s inf first second false a b e =
    sym (wanted_none s inf (both-many same_path path_same (next s) (filter_map (instance_of s) inf.classes) (nulls s) first second a b
    (omega (arith, leb-false (length (add same_path first second)) 1024 (sym e)))))

pub wants_both : (s : Setting) (inf : InfDoc) (first first_new second second_new wanted : List (List ℕ)) (first_at second_at : ℕ)
    → LeadsClasses s inf (record { found = first; at = first_at }) → LeadsNulls s (record { found = second; at = second_at }) → Prefix first first_new → Prefix second second_new
    → BothEnd s inf first_new second_new true → wanted ≡ filter (is_unknown s.infs) (drop first_at first_new) ++ filter (is_apart s first_new) (drop second_at second_new) → Wants s inf first_new second_new wanted
wants_both s inf first first_new second second_new wanted first_at second_at f g p q ends e = record {
  bound = subst (λ (l : List (List ℕ)). length (add same_path first_new second_new) ≤ length l + length s.infs) (sym is)
      (few_known s.infs (add same_path first_new second_new) (distinct-add same_path path_same first_new second_new (ended-distinct same_path path_same (next s) (filter_map (instance_of s) inf.classes) first_new ends.0)));
  is = λ few h. ap (λ (l : List (List ℕ)). cond few l []) is ∙ together_by s inf first_new second_new few ends.0 ends.1 h;
}
  where
    stood : (starts found : List (List ℕ)) (at : ℕ) → IsFrontOf s starts (record { found = found; at = at }) → IsFrontAt s found at
    stood starts found at h = record { known = h.known; within = front-within same_path (is_known s.infs) (next s) starts found at h.stands }

    is : wanted ≡ filter (is_unknown s.infs) (add same_path first_new second_new)
    is = e ∙ wanted_together s first first_new second second_new first_at second_at p q (stood (filter_map (instance_of s) inf.classes) first first_at f) (stood (nulls s) second second_at g)
        (ended-distinct same_path path_same (next s) (nulls s) second_new ends.1)

-- the second queue comes to its end, or to too many
pub both_end : (s : Setting) (inf : InfDoc) (first second new : List (List ℕ)) (at : ℕ) (few : Bool) → Ends s (filter_map (instance_of s) inf.classes) first → Passed same_path (next s) second at new few
    → LeadsNulls s (record { found = second; at = at }) → BothEnd s inf first new few
both_end s inf first second new at true a p h = (a, rest-few same_path path_same (is_known s.infs) (next s) (nulls s) second new at true p refl h.stands)
both_end s inf first second new at false a p h = rest-many-nulls same_path path_same (is_known s.infs) (next s) (filter_map (instance_of s) inf.classes) (nulls s) second new at false p refl h.stands

pub none_wanted : (s : Setting) (inf : InfDoc) (first second : List (List ℕ)) (few : Bool) → BothEnd s inf first second few → few ≡ false → [] ≡ wanted_by s inf
none_wanted s inf first second true ends f = absurd (cc)
none_wanted s inf first second false ends f = sym (wanted_none s inf ends)

pub all_ended : (s : Setting) (inf : InfDoc) (first second : List (List ℕ)) (few : Bool) → BothEnd s inf first second few → few ≡ true → BothEnd s inf first second true
all_ended s inf first second true ends t = ends
all_ended s inf first second false ends t = absurd (cc)

pub not_ended : (s : Setting) (inf : InfDoc) (first second : List (List ℕ)) (few : Bool) → BothEnd s inf first second few → few ≡ false → FindsFor s inf None
not_ended s inf first second true ends f = absurd (cc)
not_ended s inf first second false ends f = ends

pub found_both : (s : Setting) (inf : InfDoc) (first second : List (List ℕ)) → BothEnd s inf first second true → length (add same_path first second) ≤ 1024 → FindsFor s inf (Some (add same_path first second))
found_both s inf first second ends few = both-few same_path path_same (next s) (filter_map (instance_of s) inf.classes) (nulls s) first second ends.0 ends.1 few

pub found_many : (s : Setting) (inf : InfDoc) (first second : List (List ℕ)) → BothEnd s inf first second true → 1025 ≤ length (add same_path first second) → FindsFor s inf None
found_many s inf first second ends many = both-many same_path path_same (next s) (filter_map (instance_of s) inf.classes) (nulls s) first second ends.0 ends.1 many

pub made_some : (user : Module) (s : Setting) (inf : InfDoc) (found : List (List ℕ)) → FindsFor s inf (Some found) → choice_of_found user s inf ≡ or_fault (classes_fault s inf found) (choice_of s found)
unfolding choice_of_found
made_some user s inf found f =
    ap (λ (b : Bool). cond {A = Result Choice Fault} b (or_fault (classes_fault s inf (instances s inf)) (choice_of s (instances s inf))) (Err (fault_of TOO_MANY_INSTANCES (record { path = user.inf; line = 0 }) (codes "1025")))) (few-is s inf found f)
    ∙ ap (λ (l : List (List ℕ)). or_fault (classes_fault s inf l) (choice_of s l)) (sym (found-is s inf found f))

pub made_none : (user : Module) (s : Setting) (inf : InfDoc) → FindsFor s inf None → choice_of_found user s inf ≡ Err (fault_of TOO_MANY_INSTANCES (record { path = user.inf; line = 0 }) (codes "1025"))
unfolding choice_of_found
made_none user s inf f =
    ap (λ (b : Bool). cond {A = Result Choice Fault} b (or_fault (classes_fault s inf (instances s inf)) (choice_of s (instances s inf))) (Err (fault_of TOO_MANY_INSTANCES (record { path = user.inf; line = 0 }) (codes "1025")))) (many-is s inf f)

-- a refusal of a fault is that of an outcome which has it
pub refused_is : {T : Type 0} (e : Refusal) (fault : Fault) (r : Result T Fault) → r ≡ Err fault → Faulty e (Some fault) → Refused e r
refused_is (Bad found) fault r is f = is ∙ ap (λ (x : Fault). Err x) (some-is fault found f)
  where
    some-is : (x y : Fault) → Some x ≡ Some y → x ≡ y
    some-is x y e = cc
refused_is WantOfMemory fault r is f = tt
