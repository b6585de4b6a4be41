-- The rounds in which the libraries of a module are found.
use Rattle.std.proofs.Common.{arith, ◌≡◌, ◌<◌, ◌-◌, ◌∙◌, ℕ, zero, suc, List, [], ◌∷◌, length, Result, Ok, Err, refl, sym, ap, subst}
use Rattle.build_base.specs.First.{and_then}
use Rattle.build_base.specs.declared.fault.Fault.{Fault}
use Rattle.build_stages.specs.Asks.{same_ask}
use Rattle.build_stages.specs.Bounds.{advance_bind}
use Rattle.build_stages.specs.Gives.{Stops, GivesIn}
use Rattle.build_stages.specs.Known.{Table, known_at, advance_at}
use Rattle.build_stages.specs.Stages.{Halt, end, ended, impossible_answer}
use Rattle.build_stages.specs.declared.stop.Stop.{Stop}
use Rattle.build_stages.specs.declared.stop.Stop.TheVariants as stop
use Rattle.doc_types.specs.declared.choice.Module.{Module}
use Rattle.doc_types.specs.declared.module.InfDoc.{InfDoc}
use Rattle.doc_types.specs.declared.platform.PlatformDoc.{PlatformDoc}
use Rattle.library_choice.specs.Choices.{choice}
use Rattle.library_choice.specs.Closure.{wanted}
use Rattle.step_pack.specs.Keys.{key_cmp}
use Rattle.step_pack.specs.declared.key.Key.{Key}
use Rattle.step_pack.specs.declared.out.Out.{Out}
use Rattle.step_pack.specs.declared.out.Out.TheVariants as out
use Rattle.step_answers.specs.Fits.{fits}
use Rattle.library_steps.specs.ModuleTrees.{round_stages, choice_round, choice_after}
use Rattle.step_answers.specs.Readers.{AdvancesTo, EdkStages, given_as}

round_is : (t : Table Key Out) (m : Module) (platform : PlatformDoc) (infs : List InfDoc) (w : List (List ℕ)) (next : List InfDoc → EdkStages) → 0 < length w
    → advance_at key_cmp fits t (choice_round m platform infs w next) ≡ and_then (advance_at key_cmp fits t (round_stages infs w)) (λ more. advance_at key_cmp fits t (next more))
round_is t m platform infs [] next h = absurd (omega (arith, h))
round_is t m platform infs (path ∷ paths) next h = advance_bind (same_ask key_cmp) fits (known_at key_cmp t) (round_stages infs (path ∷ paths)) next

choice_step : (t : Table Key Out) (m : Module) (platform : PlatformDoc) (infs : List InfDoc) (w : List (List ℕ)) (n : ℕ) → 0 < n → w ≡ wanted m platform infs → 0 < length w
    → advance_at key_cmp fits t (choice_after n m platform infs) ≡ and_then (advance_at key_cmp fits t (round_stages infs w)) (λ more. advance_at key_cmp fits t (choice_after (n - 1) m platform more))
unfolding choice_after
choice_step t m platform infs w zero h e l = absurd (omega (arith, h))
choice_step t m platform infs w (suc n) h e l =
    let same : n ≡ suc n - 1 = omega arith in
    ap (λ v. advance_at key_cmp fits t (choice_round m platform infs v (choice_after n m platform))) (sym e)
    ∙ round_is t m platform infs w (choice_after n m platform) l
    ∙ ap (λ k. and_then (advance_at key_cmp fits t (round_stages infs w)) (λ more. advance_at key_cmp fits t (choice_after k m platform more))) same

-- what stops what is first stops the whole
stopped : {A B : Type 0} (s : Stop Key) (r : Result A (Halt Key)) (f : A → Result B (Halt Key)) → Stops s r → Stops s (and_then r f)
stopped (stop.Wants asks permit) r f h = ap (λ z. and_then z f) h
stopped (stop.Fails fault) r f h = ap (λ z. and_then z f) h
stopped stop.ImpossibleAnswer r f h = ap (λ z. and_then z f) h
stopped stop.WantOfMemory r f h = tt

-- a round that stops
pub choice_stops : (t : Table Key Out) (m : Module) (platform : PlatformDoc) (infs : List InfDoc) (w : List (List ℕ)) (n : ℕ) (s : Stop Key)
    → 0 < n → w ≡ wanted m platform infs → 0 < length w → Stops s (advance_at key_cmp fits t (round_stages infs w))
    → Stops s (advance_at key_cmp fits t (choice_after n m platform infs))
choice_stops t m platform infs w n s h e l r =
    subst (Stops s) (sym (choice_step t m platform infs w n h e l))
    (stopped s (advance_at key_cmp fits t (round_stages infs w)) (λ more. advance_at key_cmp fits t (choice_after (n - 1) m platform more)) r)

-- a round that makes more known
pub choice_goes : (t : Table Key Out) (m : Module) (platform : PlatformDoc) (infs more : List InfDoc) (w : List (List ℕ)) (n : ℕ)
    → 0 < n → w ≡ wanted m platform infs → 0 < length w → advance_at key_cmp fits t (round_stages infs w) ≡ Ok more
    → advance_at key_cmp fits t (choice_after (n - 1) m platform more) ≡ advance_at key_cmp fits t (choice_after n m platform infs)
choice_goes t m platform infs more w n h e l r =
    sym (choice_step t m platform infs w n h e l
    ∙ ap (λ z. and_then z (λ known. advance_at key_cmp fits t (choice_after (n - 1) m platform known))) r)

choice_last : (m : Module) (platform : PlatformDoc) (infs : List InfDoc) (n : ℕ) → 0 < n → wanted m platform infs ≡ []
    → choice_after n m platform infs ≡ end (given_as out.Choice (choice m platform infs))
unfolding choice_after
choice_last m platform infs zero h e = absurd (omega (arith, h))
choice_last m platform infs (suc n) h e = ap (λ v. choice_round m platform infs v (choice_after n m platform)) e

-- the end comes to what is given there
at_end : (t : Table Key Out) (g : Result Out Fault) (r : Result Out (Stop Key)) → GivesIn (λ out. out) r g → AdvancesTo t (end g) r
at_end t g (Ok x) h = ap ended h
at_end t g (Err (stop.Wants asks permit)) h = absurd h
at_end t g (Err (stop.Fails fault)) h = ap ended h
at_end t g (Err stop.ImpossibleAnswer) h = ap ended h
at_end t g (Err stop.WantOfMemory) h = tt

-- nothing is wanted
pub choice_ends : (t : Table Key Out) (m : Module) (platform : PlatformDoc) (infs : List InfDoc) (n : ℕ) (r : Result Out (Stop Key))
    → 0 < n → wanted m platform infs ≡ [] → GivesIn (λ out. out) r (given_as out.Choice (choice m platform infs))
    → AdvancesTo t (choice_after n m platform infs) r
choice_ends t m platform infs n r h e g =
    subst (λ z. AdvancesTo t z r) (sym (choice_last m platform infs n h e)) (at_end t (given_as out.Choice (choice m platform infs)) r g)

pub choice_none : (m : Module) (platform : PlatformDoc) (infs : List InfDoc) (n : ℕ) → (0 < n → ⊥) → choice_after n m platform infs ≡ end (Err impossible_answer)
unfolding choice_after
choice_none m platform infs zero h = refl
choice_none m platform infs (suc n) h = absurd (h (omega arith))
