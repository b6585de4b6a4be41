-- With more INF files known.
use Rattle.std.proofs.Common.{◌≡◌, ◌∙◌, ℕ, nat_eq, Bool, true, false, cond, List, [], ◌∷◌, ◌++◌, Option, Some, None, refl, sym, ap, subst, take}
use Rattle.std.specs.Prelude.{find, is_some}
use Rattle.std.specs.Option.{option_or}
use Rattle.std.specs.List.{filter_map, cons_option}
use Rattle.std.specs.Cmp.Lexicographic.{pointwise}
use Rattle.std.proofs.lemmas.List.Elements.{All-weaker}
use Rattle.std.proofs.lemmas.List.Folds.{find-append}
use Rattle.doc_types.specs.declared.choice.Module.{Module}
use Rattle.doc_types.specs.declared.module.InfDoc.{InfDoc}
use Rattle.doc_types.specs.declared.module.Named.{Named}
use Rattle.doc_types.specs.declared.platform.PlatformDoc.{PlatformDoc}
use Rattle.library_choice.specs.declared.front.Front.{Front}
use Rattle.library_choice.specs.declared.front.Fronts.{Fronts}
use Rattle.library_choice.specs.Closure.{same_path, known, is_known, instance_of, classes_of, next, nulls, setting_of, is_library, wanted, wanted_by, wanted_for}
use Rattle.library_choice.specs.Fronts.{IsFrontOf, AreFronts}
use Rattle.library_choice.specs.Lines.{Setting, chosen_line}
use Rattle.library_choice.specs.Searches.{IsSearch}
use Rattle.library_choice.proofs.FrontLemmas.{stands-more}

-- what is known stays known
pub known-stays : (infs more : List InfDoc) (path : List ℕ) (inf : InfDoc) → known infs path ≡ Some inf → known (infs ++ more) path ≡ Some inf
unfolding known
known-stays infs more path inf e =
    find-append (λ (x : InfDoc). pointwise nat_eq x.at.path path) infs more
    ∙ ap (λ (o : Option InfDoc). option_or o (find (λ (x : InfDoc). pointwise nat_eq x.at.path path) more)) e

abbrev pub with_more : Setting → List InfDoc → Setting
with_more s more = record s { infs = s.infs ++ more }

same-instance : (s : Setting) (more : List InfDoc) (n : Named) → instance_of (with_more s more) n ≡ instance_of s n
unfolding instance_of chosen_line
same-instance s more n = refl

pub same-instances : (s : Setting) (more : List InfDoc) (ns : List Named) → filter_map (instance_of (with_more s more)) ns ≡ filter_map (instance_of s) ns
same-instances s more [] = refl
same-instances s more (n ∷ ns) =
    ap (λ o. cons_option o (filter_map (instance_of (with_more s more)) ns)) (same-instance s more n) ∙ ap (cons_option (instance_of s n)) (same-instances s more ns)

known-more-by : (infs more : List InfDoc) (path : List ℕ) (o : Option InfDoc) → known infs path ≡ o → is_some o ≡ true → is_some (known (infs ++ more) path) ≡ true
known-more-by infs more path None e h = absurd (cc)
known-more-by infs more path (Some inf) e h = ap is_some (known-stays infs more path inf e)

pub known-more : (infs more : List InfDoc) (path : List ℕ) → is_known infs path ≡ true → is_known (infs ++ more) path ≡ true
unfolding is_known
known-more infs more path h = known-more-by infs more path (known infs path) refl h

next-known-by : (s : Setting) (more : List InfDoc) (x : List ℕ) (o : Option InfDoc) → known s.infs x ≡ o → is_some o ≡ true → next (with_more s more) x ≡ next s x
unfolding next
next-known-by s more x None e h = absurd (cc)
next-known-by s more x (Some inf) e h =
    ap (λ o. filter_map (instance_of (with_more s more)) (classes_of o)) (known-stays s.infs more x inf e) ∙ same-instances s more inf.classes
    ∙ ap (λ o. filter_map (instance_of s) (classes_of o)) (sym e)

-- a file that is known leads to the same
pub next-known : (s : Setting) (more : List InfDoc) (x : List ℕ) → is_known s.infs x ≡ true → next (with_more s more) x ≡ next s x
unfolding is_known
next-known s more x h = next-known-by s more x (known s.infs x) refl h

next-unknown-by : (s : Setting) (o : Option InfDoc) → is_some o ≡ false → filter_map (instance_of s) (classes_of o) ≡ []
next-unknown-by s None e = refl
next-unknown-by s (Some inf) e = absurd (cc)

-- a file that isn't known leads to nothing
pub next-unknown : (s : Setting) (x : List ℕ) → is_known s.infs x ≡ false → next s x ≡ []
unfolding next is_known
next-unknown s x h = next-unknown-by s (known s.infs x) h

front-of-more : (s : Setting) (more : List InfDoc) (starts : List (List ℕ)) (f : Front) → IsFrontOf s starts f → IsFrontOf (with_more s more) starts f
front-of-more s more starts f h = record {
  known = All-weaker (λ path. is_known s.infs path ≡ true) (λ path. is_known (s.infs ++ more) path ≡ true) (known-more s.infs more) (take f.at f.found) h.known;
  stands = stands-more same_path (is_known s.infs) (is_known (s.infs ++ more)) (next s) (next (with_more s more)) starts f.found f.at (known-more s.infs more) (next-known s more) h.stands;
}

fronts-more : (s : Setting) (more : List InfDoc) (inf : InfDoc) (f : Fronts) → AreFronts s inf f → AreFronts (with_more s more) inf f
fronts-more s more inf f h = record {
  classes = subst (λ (l : List (List ℕ)). IsFrontOf (with_more s more) l f.classes) (sym (same-instances s more inf.classes)) (front-of-more s more (filter_map (instance_of s) inf.classes) f.classes h.classes);
  nulls = front-of-more s more (nulls s) f.nulls h.nulls;
}

same-setting : (user : Module) (platform : PlatformDoc) (inf : InfDoc) (s : Setting) (more : List InfDoc) → s ≡ setting_of user platform s.infs inf → with_more s more ≡ setting_of user platform (s.infs ++ more) inf
unfolding setting_of
same-setting user platform inf s more e = ap (λ (t : Setting). record t { infs = s.infs ++ more }) e

pub search-more : (user : Module) (platform : PlatformDoc) (inf : InfDoc) (s : Setting) (more : List InfDoc) (f : Fronts) → IsSearch user platform inf s f → IsSearch user platform inf (with_more s more) f
search-more user platform inf s more f h = record {
  own = known-stays s.infs more user.inf inf h.own;
  setting = same-setting user platform inf s more h.setting;
  fronts = fronts-more s more inf f h.fronts;
}

pub setting-infs : (user : Module) (platform : PlatformDoc) (inf : InfDoc) (infs : List InfDoc) (s : Setting) → s ≡ setting_of user platform infs inf → s.infs ≡ infs
unfolding setting_of
setting-infs user platform inf infs s e = ap (λ (t : Setting). t.infs) e

pub search-begins : (user : Module) (platform : PlatformDoc) (inf : InfDoc) (infs : List InfDoc) (s : Setting) (f : Fronts) → known infs user.inf ≡ Some inf → s ≡ setting_of user platform infs inf → AreFronts s inf f → IsSearch user platform inf s f
search-begins user platform inf infs s f own e h =
    let same : s.infs ≡ infs = setting-infs user platform inf infs s e in
    record {
      own = ap (λ (l : List InfDoc). known l user.inf) same ∙ own;
      setting = e ∙ ap (λ (l : List InfDoc). setting_of user platform l inf) (sym same);
      fronts = h;
    }

-- what is wanted of a module that isn't a library
pub wanted_of_module : (user : Module) (platform : PlatformDoc) (infs : List InfDoc) (inf : InfDoc) → known infs user.inf ≡ Some inf → is_library inf ≡ false → wanted user platform infs ≡ wanted_by (setting_of user platform infs inf) inf
unfolding wanted
wanted_of_module user platform infs inf own other =
    ap (wanted_for user platform infs) own ∙ ap (λ (b : Bool). cond b [] (wanted_by (setting_of user platform infs inf) inf)) other
