use Rattle.std.proofs.Common.{List, ℕ, Bor, subst}
use Rattle.build_base.specs.declared.image.Image.{Image}
use Rattle.build_stages.specs.Gives.{GivesIn}
use Rattle.step_answers.specs.Contents.{volume_content}
use Rattle.step_pack.specs.declared.key.Key.{Key}
use Rattle.step_answers.proofs.contents.nested_volume.Goals as goal

pub returns : goal.returns
returns c =
    subst (λ (k : Key). GivesIn {A = Bor Image} {B = List ℕ} (λ image. image.now) c.volume_content.result (volume_content c.args.given.now k))
    c.volume_step.ensures c.volume_content.ensures
