use Rattle.std.proofs.Common.{◌≡◌, List, ℕ, Option, None, Some, ◌∙◌, refl, length}
use Rattle.uuid.specs.Text.{parsed, parsed_hyphenated}
use Rattle.build_base.specs.Guid.{guid_of, guid_from}
use Rattle.build_base.proofs.guid.Guid.of_text.Goals as goal

nothing : (o : Option (List ℕ)) → ((x : List ℕ) × (o ≡ Some x) → ⊥) → None ≡ guid_from o
nothing None h = refl
nothing (Some x) h = absurd (h (x, refl))

at_36 : (s : List ℕ) → length s ≡ 36 → parsed s ≡ parsed_hyphenated s
at_36 s h = rw h refl

pub returns-in-Err : goal.returns-in-Err
unfolding guid_of
returns-in-Err c =
    nothing (parsed_hyphenated c.args.text.now) (λ p. cc (c.in-Err.ensures.ok.1 (p.0, at_36 c.args.text.now c.if-text-ne36.false ∙ p.1)))
