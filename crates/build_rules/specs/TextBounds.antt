-- The bounds of the steps of texts, dependency expressions and the report: what they ask is of
-- lower rank, and how many batches they ask.
use Rattle.std.proofs.Common.{ℕ, ◌<◌, arith, List, [], ◌∷◌, All}
use Rattle.std.specs.List.{flat_map}
use Rattle.std.proofs.lemmas.List.Elements.{All-nil, All-cons, All-append}
use Rattle.step_engine.specs.declared.talk.Ask.TheVariants as ask
use Rattle.build_stages.specs.Stages.{IsLower, AreLower, IsWithin}
use Rattle.build_stages.specs.Bounds.{all_one, all_two, attempt_lower, attempt_within, bind_lower, bind_within}
use Rattle.doc_types.specs.declared.choice.Module.{Module}
use Rattle.step_pack.specs.declared.key.Key.TheVariants as key
use Rattle.step_answers.specs.Readers.{choice_in, values_in, platform_in}
use Rattle.text_steps.specs.Asks.{told_asks}
use Rattle.library_steps.specs.ModuleTrees.{module_parts}
use Rattle.build_rules.specs.ModuleBounds.{module_lower, module_within}
use Rattle.text_steps.specs.TextTrees.{code_stages, depex_stages, told_modules_in, heading_in, report_stages}
use Rattle.build_rules.specs.Rules.{rank_of}

pub code_lower : (m : Module) → AreLower rank_of 7 (code_stages m)
code_lower m = (
  All-cons (IsLower rank_of 7) (ask.Part key.Platform)
      (ask.Part (key.Choice m) ∷ ask.Part (key.Values m) ∷ []) (omega arith)
      (all_two (IsLower rank_of 7) (ask.Part (key.Choice m)) (ask.Part (key.Values m)) (omega arith)
      (omega arith)),
  λ given. attempt_lower rank_of 7 (platform_in given) _
      (λ platform. attempt_lower rank_of 7 (choice_in given m) _ (λ choice.
      attempt_lower rank_of 7 (values_in given (key.Values m)) _ (λ values.
      bind_lower rank_of 7 (module_parts m choice) _ (module_lower 7 (omega arith) m choice)
      (λ parts. tt)))),
)

pub code_within : (m : Module) → IsWithin 3 (code_stages m)
code_within m = (
  omega arith,
  λ given. attempt_within 2 (platform_in given) _
      (λ platform. attempt_within 2 (choice_in given m) _ (λ choice.
      attempt_within 2 (values_in given (key.Values m)) _ (λ values.
      bind_within 2 0 (module_parts m choice) _ (module_within m choice) (λ parts. tt)))),
)

pub depex_lower : (m : Module) → AreLower rank_of 7 (depex_stages m)
depex_lower m = (
  all_one (IsLower rank_of 7) (ask.Part (key.Choice m)) (omega arith),
  λ given. attempt_lower rank_of 7 (choice_in given m) _ (λ choice.
      bind_lower rank_of 7 (module_parts m choice) _ (module_lower 7 (omega arith) m choice)
      (λ parts. tt)),
)

pub depex_within : (m : Module) → IsWithin 3 (depex_stages m)
depex_within m = (
  omega arith,
  λ given. attempt_within 2 (choice_in given m) _ (λ choice.
      bind_within 2 0 (module_parts m choice) _ (module_within m choice) (λ parts. tt)),
)

told_lower : (bound : ℕ) → 6 < bound → (modules : List Module)
    → All (IsLower rank_of bound) (flat_map told_asks modules)
told_lower bound h [] = All-nil (IsLower rank_of bound)
told_lower bound h (m ∷ modules) =
    All-append (IsLower rank_of bound) (told_asks m) (flat_map told_asks modules)
    (all_two (IsLower rank_of bound) (ask.Part (key.Choice m)) (ask.Part (key.Values m))
    (omega (arith, h)) (omega (arith, h)))
    (told_lower bound h modules)

pub report_lower : (bound : ℕ) → 6 < bound → AreLower rank_of bound report_stages
report_lower bound h = (
  All-cons (IsLower rank_of bound) (ask.Part key.Platform)
      (ask.Field 1 ∷ ask.Field 2 ∷ ask.Field 3 ∷ ask.Field 4 ∷ []) (omega (arith, h))
      (All-cons (IsLower rank_of bound) (ask.Field 1) (ask.Field 2 ∷ ask.Field 3 ∷ ask.Field 4 ∷ [])
      tt
      (All-cons (IsLower rank_of bound) (ask.Field 2) (ask.Field 3 ∷ ask.Field 4 ∷ []) tt
      (all_two (IsLower rank_of bound) (ask.Field 3) (ask.Field 4) tt tt))),
  λ given. attempt_lower rank_of bound (platform_in given) _
      (λ platform. attempt_lower rank_of bound (told_modules_in platform given) _ (λ modules.
      attempt_lower rank_of bound (heading_in platform given) _ (λ heading. (
        All-cons (IsLower rank_of bound) (ask.Part key.PlatformPcds) (flat_map told_asks modules)
            (omega (arith, h)) (told_lower bound h modules),
        λ told. tt,
      )))),
)

pub report_within : IsWithin 2 report_stages
report_within = (
  omega arith,
  λ given. attempt_within 1 (platform_in given) _
      (λ platform. attempt_within 1 (told_modules_in platform given) _ (λ modules.
      attempt_within 1 (heading_in platform given) _
      (λ heading. (omega arith, λ told. tt)))),
)
