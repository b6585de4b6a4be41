use Rattle.std.proofs.Common.{◌≤◌, ◌+◌, drop, length}
use Rattle.std.specs.List.{sum_by}
use Rattle.fd_regions.specs.Device.{device_image}
use Rattle.fd_regions.proofs.DeviceLemmas.{Left}
use Rattle.fd_regions.proofs.compose.image.Given as goal

abbrev pub invariant-loop-i : goal.invariant-loop-i
invariant-loop-i g l = record {
  left : Left (device_image l.plan (g.C.Contents.contents l.parts)) l.out.bytes l.out.free l.plan.size l.at (drop l.i l.regions) (drop l.i (g.C.Contents.contents l.parts));
  kept : l.out.kept + sum_by length (drop l.i (g.C.Contents.contents l.parts)) ≤ sum_by length (g.C.Contents.contents l.parts);
}
