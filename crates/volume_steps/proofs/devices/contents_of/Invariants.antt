use Rattle.std.proofs.Common.{◌≡◌, ◌+◌, length, map}
use Rattle.build_base.specs.First.{all_ok, with_front}
use Rattle.volume_steps.specs.Devices.{region_content}
use Rattle.volume_steps.proofs.devices.contents_of.Given as goal

abbrev pub invariant-loop-left : goal.invariant-loop-left
invariant-loop-left l = record {
  rest : with_front l.parts (all_ok (map (λ region. region_content l.vpd l.volumes l.given region.kind) l.left)) ≡ all_ok (map (λ region. region_content l.vpd l.volumes l.given region.kind) l.regions);
  count : length l.parts + length l.left ≡ length l.regions;
}

abbrev pub decreases-loop-left : goal.decreases-loop-left
decreases-loop-left l = length l.left
