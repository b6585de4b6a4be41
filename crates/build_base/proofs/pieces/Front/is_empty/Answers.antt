use Rattle.std.proofs.Common.{◌≡◌, [], ◌∙◌}
use Rattle.build_base.proofs.RunLemmas.{front_none}
use Rattle.build_base.proofs.pieces.Front.is_empty.Goals as goal

pub returns-then-not-is_empty : goal.returns-then-not-is_empty
returns-then-not-is_empty c = (
  λ f. absurd cc,
  λ h.
      let e : c.self.inside.bytes.now ≡ [] = front_none _ _ (c.self.view_is ∙ h) in
      let d = rw e at c.is_empty.ensures in cc,
)
