-- What stages come to in a world, and the value of the flash description.
use Rattle.std.specs.Prelude.{◌==◌, if◌then◌else◌}
use Rattle.std.specs.Option.{is_some, option_map}
use Rattle.std.specs.Result.{result_err}
use Rattle.std.proofs.Common.{◌≡◌, ℕ, Bool, true, false, List, [], ◌∷◌, length, Contains, refl, ap, ◌∙◌, Result, Ok, Err, Option, Some, None}
use Rattle.build_base.specs.First.{and_then, or_else, or_fault}
use Rattle.build_base.specs.Path.{path_field}
use Rattle.build_base.specs.World.{World, field}
use Rattle.build_base.specs.declared.fault.Fault.{Fault}
use Rattle.step_engine.specs.Meaning.{right, IsWorld}
use Rattle.step_engine.specs.declared.talk.Ask.{Ask}
use Rattle.step_engine.specs.declared.talk.Ask.TheVariants as ask
use Rattle.step_engine.specs.declared.talk.Answer.TheVariants as answer
use Rattle.step_engine.specs.declared.talk.Outcome.{Outcome}
use Rattle.step_engine.specs.declared.talk.Pair.{Pair}
use Rattle.build_stages.specs.Bounds.{both_hold}
use Rattle.build_stages.specs.Stages.{end, stage, run, fault_in, outcome_of, meaning_of}
use Rattle.build_stages.specs.StagesLaws.{value_is}
use Rattle.build_stages.specs.Writing.{attempt, when, given_part}
use Rattle.doc_types.specs.declared.flash.FlashDoc.{FlashDoc}
use Rattle.doc_types.specs.declared.platform.PlatformDoc.{PlatformDoc}
use Rattle.flash_document.specs.Flash.{flash_of}
use Rattle.flash_document.specs.Shape.{HasShape}
use Rattle.step_pack.specs.Keys.{key_cmp}
use Rattle.step_pack.specs.declared.key.Key.{Key}
use Rattle.step_pack.specs.declared.key.Key.TheVariants as key
use Rattle.step_pack.specs.declared.out.Out.{Out}
use Rattle.step_pack.specs.declared.out.Out.TheVariants as out
use Rattle.step_answers.specs.Fits.{fits}
use Rattle.step_answers.specs.Readers.{platform_of_out, flash_of_out, flash_in, or_impossible, EdkStages, given_as}
use Rattle.document_steps.specs.Trees.{named_or, flash_named, flash_asks, flash_from, flash_given, flash_stages}
use Rattle.job_fields.specs.Readings.{file_in, name_in}
use Rattle.build_rules.specs.Rules.{edk, value_in}
use Rattle.build_rules.specs.RulesBounds.{edk_is_bounded}
use Rattle.build_rules.specs.Values.{job_macros, platform_value, flash_file, flash_of_file, flash_value}
use Rattle.build_rules.proofs.Asked.{given_in, fault_asked, by_answers, in_here, step_told, step_fault, or_value, else_none}
use Rattle.build_laws.proofs.FlashShape.{flash_shape}
use Rattle.build_rules.proofs.KindLemmas.{stage_run}
use Rattle.build_rules.proofs.ValueLemmas.{document_run, path_some, platform_is}

-- what stages give in a world
abbrev pub gives : World → EdkStages → Result Out Fault
gives w s = run fits (right (meaning_of key_cmp edk) w) s

pub then_same : {A B : Type 0} (r : Result A Fault) (f g : A → Result B Fault) → ((x : A) → f x ≡ g x) → and_then r f ≡ and_then r g
then_same (Ok x) f g h = h x
then_same (Err fault) f g h = refl

then_found : {A B : Type 0} (r : Result A Fault) (f g : A → Result B Fault) → ((x : A) → r ≡ Ok x → f x ≡ g x) → and_then r f ≡ and_then r g
then_found (Ok x) f g h = h x refl
then_found (Err fault) f g h = refl

attempt_run : {A : Type 0} (w : World) (r : Result A Fault) (next : A → EdkStages) → gives w (attempt r next) ≡ and_then r (λ x. gives w (next x))
attempt_run w (Ok x) next = refl
attempt_run w (Err fault) next = refl

pub given_then : {A B : Type 0} (variant : B → Out) (r : Result A Fault) (f : A → Result B Fault) → and_then r (λ x. given_as variant (f x)) ≡ given_as variant (and_then r f)
given_then variant (Ok x) f = refl
given_then variant (Err fault) f = refl

pub given_or : {A : Type 0} (variant : A → Out) (q : Option Fault) (r : Result A Fault) → or_fault q (given_as variant r) ≡ given_as variant (or_fault q r)
given_or variant (Some fault) r = refl
given_or variant None r = refl

-- what a test keeps back, where it holds
pub passed_run : (w : World) (b : Bool) (s : EdkStages) → b ≡ true → gives w (when b s) ≡ gives w s
passed_run w true s e = refl
passed_run w false s e = absurd cc

-- a last stage
pub last_run : {A : Type 0} (w : World) (variant : A → Out) (asks : List (Ask Key)) (f : List (Pair Key Out) → Result A Fault)
    → gives w (stage asks (λ given. end (given_as variant (f given)))) ≡ given_as variant (by_answers w asks f)
last_run w variant asks f =
    stage_run w asks (λ given. end (given_as variant (f given))) ∙ given_or variant (fault_asked w asks) (f (given_in w asks))

-- two steps that are tried one after the other, and so on
pub step_run : {A B : Type 0} (w : World) (variant : B → Out) (r : Result A Fault) (next : A → EdkStages) (f : A → Result B Fault)
    → ((x : A) → gives w (next x) ≡ given_as variant (f x)) → gives w (attempt r next) ≡ given_as variant (and_then r f)
step_run w variant r next f h =
    attempt_run w r next ∙ then_same r (λ x. gives w (next x)) (λ x. given_as variant (f x)) h ∙ given_then variant r f

-- the same by what the first of two gave
pub found_run : {A B : Type 0} (w : World) (variant : B → Out) (r : Result A Fault) (next : A → EdkStages) (f : A → Result B Fault)
    → ((x : A) → r ≡ Ok x → gives w (next x) ≡ given_as variant (f x)) → gives w (attempt r next) ≡ given_as variant (and_then r f)
found_run w variant (Ok x) next f h = h x refl
found_run w variant (Err fault) next f h = refl

-- a step that is asked

-- its fault is that of its value
pub part_fault : {X : Type 0} (w : World) (k : Key) (variant : X → Out) (r : Result X Fault) → value_in w k ≡ outcome_of (given_as variant r) → or_else (fault_in (answer.Part (value_in w k))) None ≡ result_err r
part_fault w k variant r v =
    else_none (fault_in (answer.Part (value_in w k))) ∙ ap (λ (x : Outcome Out). fault_in (answer.Part x)) v ∙ step_fault variant r

-- what follows its value, where no other step has a fault
after_value : {X : Type 0} (w : World) (asks : List (Ask Key)) (k : Key) (variant : X → Out) (r : Result X Fault) (unwrap : Out → Result X Fault) (next : X → EdkStages)
    → fault_asked w asks ≡ result_err r → Contains asks (ask.Part k) → value_in w k ≡ outcome_of (given_as variant r) → ((x : X) → r ≡ Ok x → unwrap (variant x) ≡ Ok x)
    → or_fault (fault_asked w asks) (gives w (attempt (and_then (given_part key_cmp (given_in w asks) k) unwrap) next)) ≡ and_then r (λ x. gives w (next x))
after_value {X} w asks k variant r unwrap next q c v h =
    let told : Result X Fault = and_then (given_part key_cmp (given_in w asks) k) unwrap in
    ap (λ (f : Option Fault). or_fault f (gives w (attempt told next))) q
    ∙ or_value r (gives w (attempt told next)) (λ x. gives w (next x)) (λ x found.
    ap (λ (t : Result X Fault). gives w (attempt t next)) (step_told w asks k variant r unwrap (q ∙ ap result_err found) c v h ∙ found))

-- the flash description

some_named : (path : Option (List ℕ)) (text : List ℕ) → or_impossible path ≡ Ok text → or_impossible (option_map Some path) ≡ Ok (Some text)
some_named (Some path) text e = let same : path ≡ text = cc in ap (λ p. Ok (Some p)) same
some_named None text e = absurd cc

some_kept : (path : Option (List ℕ)) → is_some (option_map Some path) ≡ true → is_some path ≡ true
some_kept (Some path) e = refl
some_kept None e = absurd cc

-- a file that a field names, where it has a reading
pub file_named : (text : List ℕ) → is_some (file_in text) ≡ true → or_impossible (file_in text) ≡ Ok (name_in text)
file_named text e =
    (elim (length text == 0) as (λ b. is_some (if b then Some None else option_map Some (path_field text)) ≡ true
    → or_impossible (if b then Some None else option_map Some (path_field text)) ≡ Ok (if b then None else Some text)) [
      | true ↦ λ h. refl
      | false ↦ λ h. some_named (path_field text) text (path_some _ text (some_kept (path_field text) h))
    ]) e

file_or_stated : (text : List ℕ) → is_some (file_in text) ≡ true → (stated : Option (List ℕ)) → flash_named stated text ≡ Ok (flash_file stated text)
unfolding flash_named
file_or_stated text e stated =
    ap (λ (r : Result (Option (List ℕ)) Fault). and_then r (λ named. Ok (named_or stated named))) (file_named text e)

root_run : (w : World) (platform : PlatformDoc) (root : Option (List ℕ)) → gives w (flash_from platform (job_macros w) root) ≡ given_as out.Flash (flash_of_file w platform root)
root_run w platform None = refl
root_run w platform (Some path) = document_run w out.Flash flash_of platform.macros (job_macros w) path

flash_run : (w : World) → IsWorld (meaning_of key_cmp edk) w → is_some (file_in (field w 7)) ≡ true → gives w flash_stages ≡ given_as out.Flash (flash_value w)
unfolding flash_value fault_asked
flash_run w is_world e =
    stage_run w flash_asks flash_given
    ∙ after_value w flash_asks key.Platform out.Platform (platform_value w) platform_of_out _
    (part_fault w key.Platform out.Platform (platform_value w) (platform_is w is_world)) (in_here (ask.Part key.Platform) (ask.Field 2 ∷ ask.Field 3 ∷ ask.Field 5 ∷ ask.Field 7 ∷ [])) (platform_is w is_world) (λ platform found. refl)
    ∙ then_same (platform_value w) _ (λ platform. given_as out.Flash (flash_of_file w platform (flash_file platform.flash (field w 7)))) (λ platform.
    ap (λ (r : Result (Option (List ℕ)) Fault). gives w (attempt r (λ root. flash_from platform (job_macros w) root))) (file_or_stated (field w 7) e platform.flash)
    ∙ root_run w platform (flash_file platform.flash (field w 7)))
    ∙ given_then out.Flash (platform_value w) (λ platform. flash_of_file w platform (flash_file platform.flash (field w 7)))

field_7 : (w : World) → IsWorld (meaning_of key_cmp edk) w → is_some (file_in (field w 7)) ≡ true
field_7 w e =
    (both_hold (is_some (file_in (field w 7))) (is_some (file_in (field w 9))) (both_hold (is_some (path_field (field w 0))) _ e).1).0

pub flash_is : (w : World) → IsWorld (meaning_of key_cmp edk) w → value_in w key.Flash ≡ outcome_of (given_as out.Flash (flash_value w))
flash_is w e = value_is key_cmp edk edk_is_bounded w key.Flash ∙ ap outcome_of (flash_run w e (field_7 w e))

-- the flash description, and what follows it

pub after_flash : {A : Type 0} (w : World) → IsWorld (meaning_of key_cmp edk) w → (variant : A → Out) (next : FlashDoc → EdkStages) (f : FlashDoc → Result A Fault)
    → ((flash : FlashDoc) → HasShape flash → gives w (next flash) ≡ given_as variant (f flash))
    → gives w (stage (ask.Part key.Flash ∷ []) (λ given. attempt (flash_in given) next)) ≡ given_as variant (and_then (flash_value w) f)
unfolding fault_asked
after_flash w e variant next f h =
    let asks : List (Ask Key) = ask.Part key.Flash ∷ [] in
    stage_run w asks (λ given. attempt (flash_in given) next)
    ∙ after_value w asks key.Flash out.Flash (flash_value w) flash_of_out next
    (part_fault w key.Flash out.Flash (flash_value w) (flash_is w e)) (in_here (ask.Part key.Flash) []) (flash_is w e) (λ flash found. refl)
    ∙ then_found (flash_value w) (λ flash. gives w (next flash)) (λ flash. given_as variant (f flash)) (λ flash found. h flash (flash_shape w flash found))
    ∙ given_then variant (flash_value w) f

-- a stage, whose answers give what the next one begins with
pub or_then : {A B : Type 0} (variant : B → Out) (q : Option Fault) (r : Result A Fault) (f : A → Result B Fault) → or_fault q (given_as variant (and_then r f)) ≡ given_as variant (and_then (or_fault q r) f)
or_then variant (Some fault) r f = refl
or_then variant None r f = refl

-- two values, one after the other
pub both_found : {A P Q : Type 0} (variant : A → Out) (p : Result P Fault) (r : Result Q Fault) (f : P → Q → Result Out Fault) (g : P → Q → Result A Fault)
    → ((x : P) (y : Q) → p ≡ Ok x → r ≡ Ok y → f x y ≡ given_as variant (g x y))
    → and_then p (λ x. and_then r (λ y. f x y)) ≡ given_as variant (and_then p (λ x. and_then r (λ y. g x y)))
both_found variant (Ok x) (Ok y) f g h = h x y refl refl
both_found variant (Ok x) (Err fault) f g h = refl
both_found variant (Err fault) r f g h = refl
