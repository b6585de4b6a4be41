-- A round ends the step, stops it, or leaves it to come to the same.
use Rattle.std.proofs.Common.{rules, arith, ◌≡◌, ◌<◌, ◌∙◌, ℕ, false, List, [], ◌∷◌, length, Result, Ok, sym, ap, subst}
use Rattle.std.specs.Prelude.{◌==◌}
use Rattle.build_base.specs.declared.fault.Fault.{Fault}
use Rattle.build_stages.specs.Gives.{Gives, GivesIn, Stops}
use Rattle.build_stages.specs.Known.{advance_at}
use Rattle.doc_types.specs.declared.choice.Choice.{Choice}
use Rattle.doc_types.specs.declared.choice.Module.{Module}
use Rattle.doc_types.specs.declared.module.InfDoc.{InfDoc}
use Rattle.doc_types.specs.declared.platform.PlatformDoc.{PlatformDoc}
use Rattle.library_choice.specs.Choices.{choice}
use Rattle.library_choice.specs.Closure.{wanted}
use Rattle.library_choice.specs.Searches.{Search}
use Rattle.step_pack.specs.Keys.{key_cmp}
use Rattle.step_pack.specs.declared.out.Out.TheVariants as out
use Rattle.step_answers.specs.Fits.{fits}
use Rattle.library_steps.specs.ModuleTrees.{round_stages}
use Rattle.step_answers.specs.Readers.{given_as}
use Rattle.library_steps.proofs.ChoiceLemmas.{choice_ends, choice_goes, choice_stops}
use Rattle.library_steps.proofs.modules.rounds.Goals as goal

none_at : {v : List (List ℕ)} (w : List (List ℕ)) → w ≡ v → length w ≡ 0 → v ≡ []
none_at [] e l = sym e
none_at (x ∷ w) e l = absurd (omega (arith, l))

some_at : (v w : List (List ℕ)) → v ≡ w → false ≡ (length v == 0) → 0 < length w
some_at [] w e h = absurd cc
some_at (x ∷ v) w e h = omega (arith, ap length e)

-- what a search wants for a module and a platform
wants : (s : Search) (m : Module) (platform : PlatformDoc) (w : List (List ℕ)) → w ≡ wanted s.user s.platform s.infs → s.user ≡ m → s.platform ≡ platform → w ≡ wanted m platform s.infs
wants s m platform w e u p = e ∙ ap (λ (x : Module). wanted x s.platform s.infs) u ∙ ap (λ (x : PlatformDoc). wanted m x s.infs) p

chooses : (s t : Search) (m : Module) (platform : PlatformDoc) → t ≡ s → s.user ≡ m → s.platform ≡ platform → choice t.user t.platform t.infs ≡ choice m platform s.infs
chooses s t m platform e u p =
    ap (λ (x : Search). choice x.user x.platform x.infs) e ∙ ap (λ (x : Module). choice x s.platform s.infs) u ∙ ap (λ (x : PlatformDoc). choice m x s.infs) p

pub returns-then-is_empty : goal.returns-then-is_empty
returns-then-is_empty c =
    let s = c.loop-left.search in
    let m = c.args.«module».now in
    let p = c.args.platform.now in
    let some : 0 < c.loop-left.left = search rules in
    let same : c.items.result.now ≡ wanted c.args.«module».now c.args.platform.now c.loop-left.search.infs =
    c.items.ensures ∙ wants s m p c.in_ok-wanted.wanted c.in_ok-wanted.ensures.wanted c.loop-left.invariant.user c.loop-left.invariant.platform in
    let empty : length c.items.result.now ≡ 0 = search rules in
    let none : wanted c.args.«module».now c.args.platform.now c.loop-left.search.infs ≡ [] = none_at c.items.result.now same empty in
    let gives = subst (λ (r : Result Choice Fault). GivesIn (λ out. out) c.chosen_libraries.result (given_as out.Choice r))
    (chooses s c.in_ok-wanted.behind m p c.in_ok-wanted.ensures.search c.loop-left.invariant.user c.loop-left.invariant.platform) c.chosen_libraries.ensures in
    subst (λ z. Gives (λ out. out) c.chosen_libraries.result z) c.loop-left.invariant.rest
    (choice_ends c.args.known.now m p s.infs c.loop-left.left c.chosen_libraries.result some none gives)

pub returns-in-Err : goal.returns-in-Err
returns-in-Err c =
    let s = c.loop-left.search in
    let m = c.args.«module».now in
    let p = c.args.platform.now in
    let paths = c.items-in-loop-left.result.now in
    let some : 0 < c.loop-left.left = search rules in
    let same : c.items-in-loop-left.result.now ≡ wanted c.args.«module».now c.args.platform.now c.loop-left.search.infs =
    c.items-in-loop-left.ensures ∙ wants s m p c.in_ok-wanted.wanted c.in_ok-wanted.ensures.wanted c.loop-left.invariant.user c.loop-left.invariant.platform in
    let any = some_at c.items.result.now c.items-in-loop-left.result.now (c.items.ensures ∙ sym c.items-in-loop-left.ensures) c.if-is_empty.ensures in
    let stops = subst (λ (l : List InfDoc). Stops c.in-Err.stop (advance_at key_cmp fits c.args.known.now (round_stages l c.items-in-loop-left.result.now)))
    (ap (λ (x : Search). x.infs) c.in_ok-wanted.ensures.search) c.in-Err.ensures.value in
    subst (Stops c.in-Err.stop) c.loop-left.invariant.rest
    (choice_stops c.args.known.now m p s.infs paths c.loop-left.left c.in-Err.stop some same any stops)

pub loop-left-preserved : goal.loop-left-preserved
loop-left-preserved c =
    let s = c.loop-left.search in
    let m = c.args.«module».now in
    let p = c.args.platform.now in
    let paths = c.items-in-loop-left.result.now in
    let some : 0 < c.loop-left.left = search rules in
    let same : c.items-in-loop-left.result.now ≡ wanted c.args.«module».now c.args.platform.now c.loop-left.search.infs =
    c.items-in-loop-left.ensures ∙ wants s m p c.in_ok-wanted.wanted c.in_ok-wanted.ensures.wanted c.loop-left.invariant.user c.loop-left.invariant.platform in
    let any = some_at c.items.result.now c.items-in-loop-left.result.now (c.items.ensures ∙ sym c.items-in-loop-left.ensures) c.if-is_empty.ensures in
    let goes : advance_at key_cmp fits c.args.known.now (round_stages c.loop-left.search.infs c.items-in-loop-left.result.now) ≡ Ok c.in-Ok.more.infs =
    ap (λ (x : Search). advance_at key_cmp fits c.args.known.now (round_stages x.infs c.items-in-loop-left.result.now)) (sym c.in_ok-wanted.ensures.search) ∙ c.in-Ok.ensures.value in
    record {
      rest = choice_goes c.args.known.now m p s.infs c.in-Ok.more.infs paths c.loop-left.left some same any goes ∙ c.loop-left.invariant.rest;
      user = c.in-Ok.ensures.user ∙ ap (λ (x : Search). x.user) c.in_ok-wanted.ensures.search ∙ c.loop-left.invariant.user;
      platform = c.in-Ok.ensures.platform ∙ ap (λ (x : Search). x.platform) c.in_ok-wanted.ensures.search ∙ c.loop-left.invariant.platform;
    }
