-- The libraries of a module in a world.
use Rattle.std.specs.Prelude.{nat_eq, ◌||◌, filter}
use Rattle.std.specs.Cmp.Lexicographic.{pointwise, same_text}
use Rattle.std.proofs.Common.{◌≡◌, ℕ, zero, suc, ◌<◌, ◌≤◌, ◌-◌, arith, Bool, true, false, List, [], ◌∷◌, ◌++◌, length, map, Option, Some, None, Result, Ok, Err, refl, sym, ap, ◌∙◌, subst, cond}
use Rattle.std.proofs.lemmas.Cmp.{nat_list_eq_equiv}
use Rattle.build_base.specs.First.{and_then, or_fault, with_front, all_ok}
use Rattle.build_base.specs.World.{World}
use Rattle.build_base.specs.declared.fault.Fault.{Fault}
use Rattle.step_engine.specs.Meaning.{right, IsWorld}
use Rattle.build_stages.specs.Bounds.{run_bind}
use Rattle.build_stages.specs.Stages.{outcome_of, meaning_of}
use Rattle.build_stages.specs.StagesLaws.{value_is}
use Rattle.doc_types.specs.declared.choice.Module.{Module}
use Rattle.doc_types.specs.declared.module.InfDoc.{InfDoc}
use Rattle.doc_types.specs.declared.platform.PlatformDoc.{PlatformDoc}
use Rattle.library_choice.specs.Closure.{same_path, known, is_known, instances, are_few, is_library, setting_of, wanted}
use Rattle.library_choice.specs.Found.{is_in}
use Rattle.library_choice.specs.Lines.{Setting}
use Rattle.library_choice.specs.Rounds.{unknown_left, left_for, rounds_left}
use Rattle.library_choice.proofs.RoundLemmas.{falls}
use Rattle.step_pack.specs.Keys.{key_cmp}
use Rattle.step_pack.specs.declared.key.Key.TheVariants as key
use Rattle.step_pack.specs.declared.out.Out.TheVariants as out
use Rattle.library_steps.specs.Asks.{inf_asks}
use Rattle.library_steps.specs.Choices.{alone, own_inf, behind, with_more}
use Rattle.step_answers.specs.Readers.{inf_of_out, inf_in, given_as, platform_in}
use Rattle.library_steps.specs.Parts.{infs_from}
use Rattle.library_steps.proofs.KnownLemmas.{first_known, still_known, known_behind}
use Rattle.step_answers.specs.Fits.{fits}
use Rattle.library_steps.specs.ModuleTrees.{round_stages, choice_round, choice_after, most_rounds, module_first, choice_given, choice_stages}
use Rattle.build_laws.specs.ModuleValues.{infs_value, chosen_by, chosen_after, choice_value}
use Rattle.build_rules.specs.Rules.{edk, value_in}
use Rattle.build_rules.specs.RulesBounds.{edk_is_bounded}
use Rattle.build_rules.specs.Values.{inf_value, platform_value}
use Rattle.build_rules.proofs.Asked.{given_in, fault_asked, step_told}
use Rattle.build_laws.proofs.DescriptionLemmas.{described_path}
use Rattle.build_laws.proofs.ToldLemmas.{comes, infs_read, then_reads, reads_run, named_path, platform_told, asked_run, read_run, stops_first, fields_stop}
use Rattle.build_rules.proofs.ValueLemmas.{inf_is, platform_is}

-- a round makes its descriptions known
round_run : (w : World) (infs : List InfDoc) (paths : List (List ℕ)) → comes w (round_stages infs paths) ≡ and_then (infs_value w paths) (behind infs)
round_run w infs paths =
    reads_run w inf_asks (with_more infs) (λ paths. and_then (infs_value w paths) (behind infs))
    (then_reads w inf_asks infs_from (infs_value w) (λ paths. paths) (λ paths. behind infs) (λ paths more. infs ++ more) (λ paths more. refl) (infs_read w)) paths

-- each of some paths is known once their descriptions are there
known_of : (w : World) (paths : List (List ℕ)) (more : List InfDoc) → infs_value w paths ≡ Ok more → (path : List ℕ) → is_in same_path paths path ≡ true → is_known more path ≡ true
unfolding is_known known
known_of w [] more e path h = absurd cc
known_of w (p ∷ paths) more e path h =
    (elim (inf_value w p) as (λ r. inf_value w p ≡ r → and_then r (λ x. with_front (x ∷ []) (all_ok (map (inf_value w) paths))) ≡ Ok more → is_known more path ≡ true) [
      | Err fault ↦ λ i e. absurd cc
      | Ok inf ↦ λ i e. (elim (infs_value w paths) as (λ r. infs_value w paths ≡ r → with_front (inf ∷ []) r ≡ Ok more → is_known more path ≡ true) [
        | Err fault ↦ λ r e. absurd cc
        | Ok rest ↦ λ r e.
            let is : inf ∷ rest ≡ more = cc in
            subst (λ (l : List InfDoc). is_known l path ≡ true) is
            ((elim (same_path p path) as (λ b. same_path p path ≡ b → (b || is_in same_path paths path) ≡ true → is_known (inf ∷ rest) path ≡ true) [
              | true ↦ λ s h.
                  let same : path ≡ p = same_text path p (sym s) in
                  still_known (inf ∷ []) rest path (first_known inf path (ap (λ p. pointwise nat_eq p path) (described_path w p inf i ∙ sym same) ∙ nat_list_eq_equiv.refl path))
              | false ↦ λ s h. known_behind (inf ∷ []) rest path (known_of w paths rest r path h)
            ]) refl h)
      ]) refl e
    ]) refl e

left_by : (s : Setting) (inf : InfDoc) (few : Bool) → cond few (1025 - length (filter (is_known s.infs) (instances s inf))) 0 ≤ 1025
left_by s inf true = omega arith
left_by s inf false = omega arith

left_of : (m : Module) (platform : PlatformDoc) (infs : List InfDoc) (inf : InfDoc) (lib : Bool) → cond lib 0 (unknown_left (setting_of m platform infs inf) inf) ≤ 1025
unfolding unknown_left
left_of m platform infs inf true = omega arith
left_of m platform infs inf false = left_by (setting_of m platform infs inf) inf (are_few (setting_of m platform infs inf) inf)

left_known : (m : Module) (platform : PlatformDoc) (infs : List InfDoc) (o : Option InfDoc) → left_for m platform infs o ≤ 1025
left_known m platform infs None = omega arith
left_known m platform infs (Some inf) = left_of m platform infs inf (is_library inf)

few_left : (m : Module) (platform : PlatformDoc) (infs : List InfDoc) → rounds_left m platform infs ≤ 1025
unfolding rounds_left
few_left m platform infs = left_known m platform infs (known infs m.inf)

-- what a round leaves is less
round_falls : (w : World) (m : Module) (platform : PlatformDoc) (infs more : List InfDoc) (path : List ℕ) (paths : List (List ℕ)) → wanted m platform infs ≡ path ∷ paths
    → infs_value w (path ∷ paths) ≡ Ok more → rounds_left m platform (infs ++ more) < rounds_left m platform infs
round_falls w m platform infs more path paths e r =
    falls m platform infs more (let some : 0 < length (path ∷ paths) = omega arith in subst (λ (l : List (List ℕ)). 0 < length l) (sym e) some)
    (λ p h. known_behind infs more p (known_of w (path ∷ paths) more r p (subst (λ (l : List (List ℕ)). is_in same_path l p ≡ true) e h)))

wanted_run : (w : World) (n : ℕ) (m : Module) (platform : PlatformDoc) (infs : List InfDoc) (paths : List (List ℕ)) → wanted m platform infs ≡ paths
    → ((more : List InfDoc) → rounds_left m platform more < rounds_left m platform infs → comes w (choice_after n m platform more) ≡ given_as out.Choice (chosen_after w n m platform more))
    → comes w (choice_round m platform infs paths (choice_after n m platform)) ≡ given_as out.Choice (chosen_by w m platform infs paths (chosen_after w n m platform))
wanted_run w n m platform infs [] e h = refl
wanted_run w n m platform infs (path ∷ paths) e h =
    run_bind fits (right (meaning_of key_cmp edk) w) (round_stages infs (path ∷ paths)) (choice_after n m platform)
    ∙ ap (λ (r : Result (List InfDoc) Fault). and_then r (λ more. comes w (choice_after n m platform more))) (round_run w infs (path ∷ paths))
    ∙ (elim (infs_value w (path ∷ paths)) as (λ r. infs_value w (path ∷ paths) ≡ r → and_then (and_then r (behind infs)) (λ more. comes w (choice_after n m platform more)) ≡ given_as out.Choice (and_then (and_then r (behind infs)) (chosen_after w n m platform))) [
      | Err fault ↦ λ r. refl
      | Ok more ↦ λ r. h (infs ++ more) (round_falls w m platform infs more path paths e r)
    ]) refl

-- by rounds, of which there are enough
choice_run : (w : World) (n : ℕ) (m : Module) (platform : PlatformDoc) (infs : List InfDoc) → rounds_left m platform infs < n
    → comes w (choice_after n m platform infs) ≡ given_as out.Choice (chosen_after w n m platform infs)
unfolding choice_after chosen_after
choice_run w zero m platform infs l = absurd (omega (arith, l))
choice_run w (suc n) m platform infs l =
    wanted_run w n m platform infs (wanted m platform infs) refl (λ more less. choice_run w n m platform more (omega (arith, l, less)))

enough : (m : Module) (platform : PlatformDoc) (infs : List InfDoc) → rounds_left m platform infs < most_rounds
unfolding most_rounds
enough m platform infs = let few = few_left m platform infs in omega (arith, few)

-- the fault of the module's own description
alone_then : {B : Type 0} (r : Result InfDoc Fault) (f : List InfDoc → Result B Fault) → and_then (and_then r alone) f ≡ and_then r (λ inf. f (inf ∷ []))
alone_then (Ok inf) f = refl
alone_then (Err fault) f = refl

alone_stops : {B : Type 0} (w : World) (path : List ℕ) (f : List InfDoc → Result B Fault)
    → or_fault (fault_asked w (inf_asks (path ∷ []))) (and_then (and_then (inf_value w path) alone) f) ≡ and_then (and_then (inf_value w path) alone) f
alone_stops {B} w path f =
    ap (λ (t : Result B Fault). or_fault (fault_asked w (inf_asks (path ∷ []))) t) (alone_then (inf_value w path) f)
    ∙ stops_first w (key.Inf path) out.Inf (inf_value w path) [] (λ inf. f (inf ∷ [])) (inf_is w path) (λ inf. fields_stop w [] (f (inf ∷ [])))
    ∙ sym (alone_then (inf_value w path) f)

own_told : (w : World) (m : Module) → fault_asked w (module_first m) ≡ None → inf_in (given_in w (module_first m)) m.inf ≡ inf_value w m.inf
unfolding inf_in
own_told w m none =
    step_told w (module_first m) (key.Inf m.inf) out.Inf (inf_value w m.inf) (inf_of_out m.inf) none (1, omega arith, refl) (inf_is w m.inf)
    (λ inf i. named_path m.inf inf (described_path w m.inf inf i))

stages_run : (w : World) (m : Module) → IsWorld (meaning_of key_cmp edk) w → comes w (choice_stages m) ≡ given_as out.Choice (choice_value w m)
unfolding choice_value
stages_run w m e =
    asked_run w out.Choice (module_first m) (choice_given m) (choice_value w m) (λ none.
    read_run w out.Choice (platform_in (given_in w (module_first m))) (platform_value w) _ (λ platform. and_then (and_then (inf_value w m.inf) alone) (λ infs. chosen_after w most_rounds m platform infs))
    (platform_told w (module_first m) e none (0, omega arith, refl)) (λ platform is.
    read_run w out.Choice (own_inf (given_in w (module_first m)) m.inf) (and_then (inf_value w m.inf) alone) _ (λ infs. chosen_after w most_rounds m platform infs)
    (ap (λ (r : Result InfDoc Fault). and_then r alone) (own_told w m none)) (λ infs is. choice_run w most_rounds m platform infs (enough m platform infs))))
    (stops_first w key.Platform out.Platform (platform_value w) (inf_asks (m.inf ∷ [])) _ (platform_is w e) (λ platform. alone_stops w m.inf (λ infs. chosen_after w most_rounds m platform infs)))

pub choice_is : (w : World) (m : Module) → IsWorld (meaning_of key_cmp edk) w → value_in w (key.Choice m) ≡ outcome_of (given_as out.Choice (choice_value w m))
choice_is w m e = value_is key_cmp edk edk_is_bounded w (key.Choice m) ∙ ap outcome_of (stages_run w m e)
