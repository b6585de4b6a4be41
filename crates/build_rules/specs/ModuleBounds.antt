-- The bounds of the steps of libraries and PCDs: what they ask is of lower rank, and how many
-- batches they ask.
use Rattle.std.proofs.Common.{◌≡◌, ℕ, zero, suc, ◌+◌, ◌-◌, ◌<◌, arith, List, [], ◌∷◌, All, map, subst}
use Rattle.std.proofs.lemmas.List.Elements.{All-nil, All-cons, All-append}
use Rattle.step_engine.specs.declared.talk.Ask.TheVariants as ask
use Rattle.build_stages.specs.Stages.{IsLower, AreLower, IsWithin}
use Rattle.build_stages.specs.Bounds.{all_two, attempt_lower, attempt_within, when_lower, when_within, bind_lower, bind_within}
use Rattle.doc_types.specs.declared.choice.Choice.{Choice}
use Rattle.doc_types.specs.declared.choice.Module.{Module}
use Rattle.doc_types.specs.declared.flash.FlashDoc.{FlashDoc}
use Rattle.doc_types.specs.declared.module.InfDoc.{InfDoc}
use Rattle.doc_types.specs.declared.platform.PlatformDoc.{PlatformDoc}
use Rattle.library_choice.specs.Closure.{wanted}
use Rattle.step_pack.specs.declared.key.Key.{Key}
use Rattle.step_pack.specs.declared.key.Key.TheVariants as key
use Rattle.library_steps.specs.declared.parts.Described.{Described}
use Rattle.library_steps.specs.declared.parts.Linked.{Linked}
use Rattle.step_answers.specs.declared.settings.Setting.{Setting}
use Rattle.library_steps.specs.Asks.{linked_asks, package_asks}
use Rattle.library_steps.specs.Choices.{own_inf}
use Rattle.step_answers.specs.Readers.{choice_in, values_in, EdkStages, platform_in, flash_in}
use Rattle.library_steps.specs.Parts.{linked_module}
use Rattle.library_steps.specs.Skus.{skus_end}
use Rattle.library_steps.specs.ModuleTrees.{round_stages, choice_round, choice_after, most_rounds, choice_given, choice_stages, linked_stages, described_stages, modules_parts, setting_in, pcds_from, pcds_stages, one_described, module_parts, commands_in, values_stages}
use Rattle.build_rules.specs.Rules.{rank_of}

-- a step for each of some things
pub parts_lower : {A : Type 0} (bound : ℕ) (step : A → Key) → ((x : A) → rank_of (step x) < bound)
    → (xs : List A) → All (IsLower rank_of bound) (map (λ x. ask.Part (step x)) xs)
parts_lower bound step h [] = All-nil (IsLower rank_of bound)
parts_lower bound step h (x ∷ xs) =
    All-cons (IsLower rank_of bound) (ask.Part (step x)) (map (λ x. ask.Part (step x)) xs) (h x)
    (parts_lower bound step h xs)

linked_lower : (bound : ℕ) → 1 < bound → (modules : List Linked)
    → All (IsLower rank_of bound) (linked_asks modules)
linked_lower bound h [] = All-nil (IsLower rank_of bound)
linked_lower bound h (held ∷ modules) =
    All-append (IsLower rank_of bound) (map (λ path. ask.Part (key.Inf path)) held.paths)
    (linked_asks modules)
    (parts_lower bound key.Inf (λ path. h) held.paths) (linked_lower bound h modules)

packages_lower : (bound : ℕ) → 1 < bound → (modules : List Described)
    → All (IsLower rank_of bound) (package_asks modules)
packages_lower bound h [] = All-nil (IsLower rank_of bound)
packages_lower bound h (held ∷ modules) =
    All-append (IsLower rank_of bound) (map (λ path. ask.Part (key.Dec path)) held.packages)
    (package_asks modules)
    (parts_lower bound key.Dec (λ path. h) held.packages) (packages_lower bound h modules)

-- the libraries of a module

round_lower : (m : Module) (platform : PlatformDoc) (infs : List InfDoc) (w : List (List ℕ))
    (next : List InfDoc → EdkStages) → ((more : List InfDoc) → AreLower rank_of 4 (next more))
    → AreLower rank_of 4 (choice_round m platform infs w next)
round_lower m platform infs [] next h = tt
round_lower m platform infs (path ∷ paths) next h =
    bind_lower rank_of 4 (round_stages infs (path ∷ paths)) next
    (parts_lower 4 key.Inf (λ p. omega arith) (path ∷ paths), λ given. tt) h

after_lower : (n : ℕ) (m : Module) (platform : PlatformDoc) (infs : List InfDoc)
    → AreLower rank_of 4 (choice_after n m platform infs)
unfolding choice_after
after_lower zero m platform infs = tt
after_lower (suc n) m platform infs =
    round_lower m platform infs (wanted m platform infs) (choice_after n m platform)
    (λ more. after_lower n m platform more)

pub choice_lower : (m : Module) → AreLower rank_of 4 (choice_stages m)
choice_lower m = (
  all_two (IsLower rank_of 4) (ask.Part key.Platform) (ask.Part (key.Inf m.inf)) (omega arith)
      (omega arith),
  λ given. attempt_lower rank_of 4 (platform_in given) _
      (λ platform. attempt_lower rank_of 4 (own_inf given m.inf) _ (λ infs.
      after_lower most_rounds m platform infs)),
)

round_within : (n : ℕ) (m : Module) (platform : PlatformDoc) (infs : List InfDoc)
    (w : List (List ℕ)) (next : List InfDoc → EdkStages)
    → ((more : List InfDoc) → IsWithin n (next more))
    → IsWithin (1 + n) (choice_round m platform infs w next)
round_within n m platform infs [] next h = tt
round_within n m platform infs (path ∷ paths) next h =
    bind_within 1 n (round_stages infs (path ∷ paths)) next (omega arith, λ given. tt) h

after_within : (n : ℕ) (m : Module) (platform : PlatformDoc) (infs : List InfDoc)
    → IsWithin n (choice_after n m platform infs)
unfolding choice_after
after_within zero m platform infs = tt
after_within (suc n) m platform infs =
    subst
    (λ k. IsWithin k
    (choice_round m platform infs (wanted m platform infs) (choice_after n m platform)))
    (let same : 1 + n ≡ suc n = omega arith in same)
    (round_within n m platform infs (wanted m platform infs) (choice_after n m platform)
    (λ more. after_within n m platform more))

-- a first batch, and then the rounds
rounds_left : most_rounds ≡ (1 + most_rounds) - 1
rounds_left = omega arith

pub choice_within : (m : Module) → IsWithin (1 + most_rounds) (choice_stages m)
choice_within m = (
  omega arith,
  λ given. subst (λ k. IsWithin k (choice_given m given)) rounds_left
      (attempt_within most_rounds (platform_in given) _
      (λ platform. attempt_within most_rounds (own_inf given m.inf) _ (λ infs.
      after_within most_rounds m platform infs))),
)

-- the rows of dynamic PCDs

modules_lower : (modules : List Module) → AreLower rank_of 5 (modules_parts modules)
modules_lower modules =
    bind_lower rank_of 5 (linked_stages modules) _
    (parts_lower 5 key.Choice (λ m. omega arith) modules, λ given. tt) (λ linked.
    bind_lower rank_of 5 (described_stages linked) _
    (linked_lower 5 (omega arith) linked, λ given. tt) (λ described.
    (packages_lower 5 (omega arith) described, λ given. tt)))

modules_within : (modules : List Module) → IsWithin 3 (modules_parts modules)
modules_within modules =
    bind_within 1 2 (linked_stages modules) _ (omega arith, λ given. tt) (λ linked.
    bind_within 1 1 (described_stages linked) _ (omega arith, λ given. tt)
    (λ described. (omega arith, λ given. tt)))

from_lower : (platform : PlatformDoc) (flash : FlashDoc) (setting : Setting)
    → AreLower rank_of 5 (pcds_from platform flash setting)
from_lower platform flash setting =
    bind_lower rank_of 5 (modules_parts setting.modules) _ (modules_lower setting.modules)
    (λ modules. tt)

from_within : (platform : PlatformDoc) (flash : FlashDoc) (setting : Setting)
    → IsWithin 3 (pcds_from platform flash setting)
from_within platform flash setting =
    bind_within 3 0 (modules_parts setting.modules) _ (modules_within setting.modules)
    (λ modules. tt)

pub pcds_lower : AreLower rank_of 5 pcds_stages
pcds_lower = (
  All-cons (IsLower rank_of 5) (ask.Part key.Platform)
      (ask.Part key.Flash ∷ ask.Field 1 ∷ ask.Field 4 ∷ ask.Field 6 ∷ []) (omega arith)
      (All-cons (IsLower rank_of 5) (ask.Part key.Flash)
      (ask.Field 1 ∷ ask.Field 4 ∷ ask.Field 6 ∷ []) (omega arith)
      (All-cons (IsLower rank_of 5) (ask.Field 1) (ask.Field 4 ∷ ask.Field 6 ∷ []) tt
      (all_two (IsLower rank_of 5) (ask.Field 4) (ask.Field 6) tt tt))),
  λ given. attempt_lower rank_of 5 (platform_in given) _
      (λ platform. when_lower rank_of 5 (skus_end platform.skus) _ (λ e.
      attempt_lower rank_of 5 (flash_in given) _
      (λ flash. attempt_lower rank_of 5 (setting_in platform given) _
      (λ setting. from_lower platform flash setting)))),
)

pub pcds_within : IsWithin 4 pcds_stages
pcds_within = (
  omega arith,
  λ given. attempt_within 3 (platform_in given) _
      (λ platform. when_within 3 (skus_end platform.skus) _
      (attempt_within 3 (flash_in given) _
      (λ flash. attempt_within 3 (setting_in platform given) _
      (λ setting. from_within platform flash setting)))),
)

-- the values of a module

pub module_lower : (bound : ℕ) → 1 < bound → (m : Module) (choice : Choice)
    → AreLower rank_of bound (module_parts m choice)
module_lower bound h m choice =
    bind_lower rank_of bound (one_described (linked_module m choice)) _
    (parts_lower bound key.Inf (λ path. h) (linked_module m choice).paths, λ given. tt)
    (λ described.
    (parts_lower bound key.Dec (λ path. h) described.packages, λ given. tt))

pub module_within : (m : Module) (choice : Choice) → IsWithin 2 (module_parts m choice)
module_within m choice =
    bind_within 1 1 (one_described (linked_module m choice)) _ (omega arith, λ given. tt)
    (λ described. (omega arith, λ given. tt))

pub values_lower : (m : Module) → AreLower rank_of 6 (values_stages m)
values_lower m = (
  All-cons (IsLower rank_of 6) (ask.Part key.Platform)
      (ask.Part key.Flash ∷ ask.Part key.PlatformPcds ∷ ask.Part (key.Choice m) ∷ ask.Field 6 ∷ [])
      (omega arith)
      (All-cons (IsLower rank_of 6) (ask.Part key.Flash)
      (ask.Part key.PlatformPcds ∷ ask.Part (key.Choice m) ∷ ask.Field 6 ∷ []) (omega arith)
      (All-cons (IsLower rank_of 6) (ask.Part key.PlatformPcds)
      (ask.Part (key.Choice m) ∷ ask.Field 6 ∷ []) (omega arith)
      (all_two (IsLower rank_of 6) (ask.Part (key.Choice m)) (ask.Field 6) (omega arith) tt))),
  λ given. attempt_lower rank_of 6 (platform_in given) _
      (λ platform. attempt_lower rank_of 6 (flash_in given) _ (λ flash.
      attempt_lower rank_of 6 (values_in given key.PlatformPcds) _
      (λ dynamic. attempt_lower rank_of 6 (choice_in given m) _ (λ choice.
      attempt_lower rank_of 6 (commands_in platform given) _ (λ commands.
      bind_lower rank_of 6 (module_parts m choice) _ (module_lower 6 (omega arith) m choice)
      (λ parts. tt)))))),
)

pub values_within : (m : Module) → IsWithin 3 (values_stages m)
values_within m = (
  omega arith,
  λ given. attempt_within 2 (platform_in given) _
      (λ platform. attempt_within 2 (flash_in given) _ (λ flash.
      attempt_within 2 (values_in given key.PlatformPcds) _
      (λ dynamic. attempt_within 2 (choice_in given m) _ (λ choice.
      attempt_within 2 (commands_in platform given) _ (λ commands.
      bind_within 2 0 (module_parts m choice) _ (module_within m choice) (λ parts. tt)))))),
)
