use Rattle.std.proofs.Common.{◌≡◌, length, map}
use Rattle.build_base.specs.First.{all_ok, with_front}
use Rattle.volume_steps.specs.Asks.{file_order}
use Rattle.volume_steps.specs.Volumes.{image_of}
use Rattle.volume_steps.proofs.volumes.images_of.Given as goal

abbrev pub invariant-loop-left : goal.invariant-loop-left
invariant-loop-left l = with_front l.images (all_ok (map (image_of l.given l.volume) l.left)) ≡ all_ok (map (image_of l.given l.volume) (file_order l.items))

abbrev pub decreases-loop-left : goal.decreases-loop-left
decreases-loop-left l = length l.left
