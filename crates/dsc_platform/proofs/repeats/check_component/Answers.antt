use Rattle.std.proofs.Common.{◌≡◌, ◌∙◌, true, false, refl, sym}
use Rattle.std.specs.List.{list_any}
use Rattle.dsc_platform.specs.Repeats.{repeats}
use Rattle.dsc_platform.proofs.repeats.check_component.Goals as goal

pub returns-then-is_repeated-clause-fault : goal.returns-then-is_repeated-clause-fault
returns-then-is_repeated-clause-fault c = λ above h.
    let told : list_any (λ old. repeats old c.args.component.now) above ≡ true = sym (c.is_repeated.ensures above c.in_ok-key.ensures h) ∙ c.if-is_repeated.true in
    rw (told, ← c.bytes.ensures.text) c.refuse.ensures

pub returns-clause-fault : goal.returns-clause-fault
returns-clause-fault c = λ above h.
    let told : list_any (λ old. repeats old c.args.component.now) above ≡ false = sym (c.is_repeated.ensures above c.in_ok-key.ensures h) ∙ c.if-is_repeated.false in
    rw told refl
