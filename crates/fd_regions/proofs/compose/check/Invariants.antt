use Rattle.std.proofs.Common.{◌≡◌, drop}
use Rattle.fd_regions.specs.Device.{device_fault}
use Rattle.fd_regions.proofs.compose.check.Given as goal

abbrev pub invariant-loop-i : goal.invariant-loop-i
invariant-loop-i g l =
    device_fault l.size 0 l.regions (g.C.Contents.contents l.parts) ≡ device_fault l.size l.at (drop l.i l.regions) (drop l.i (g.C.Contents.contents l.parts))
