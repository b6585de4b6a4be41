use Rattle.std.proofs.Common.{◌∙◌, [], ap}
use Rattle.std.specs.Prelude.{unwrap_or}
use Rattle.std.specs.List.{flat_map, list_any}
use Rattle.dsc_platform.specs.Repeats.{archs_overlap, arch_at}
use Rattle.dsc_platform.proofs.RepeatLemmas.{any_at}
use Rattle.dsc_platform.proofs.repeats.is_repeated.Goals as goal

pub returns-in-Some : goal.returns-in-Some
returns-in-Some c = λ above is h.
    c.any_meets.ensures
    ∙ ap (list_any (λ a. archs_overlap a c.args.component.now.arch))
    (c.items.ensures ∙ ap (λ o. unwrap_or o []) c.in-Some.ensures.value ∙ h c.args.key.now ∙ ap (λ inf. flat_map (arch_at inf) above) is)
    ∙ any_at c.args.component.now above

pub returns-in-None : goal.returns-in-None
returns-in-None c = λ above is h.
    ap (λ o. list_any (λ a. archs_overlap a c.args.component.now.arch) (unwrap_or o [])) c.in-None.ensures.value
    ∙ ap (list_any (λ a. archs_overlap a c.args.component.now.arch)) (h c.args.key.now ∙ ap (λ inf. flat_map (arch_at inf) above) is)
    ∙ any_at c.args.component.now above
