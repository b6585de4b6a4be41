use Rattle.std.proofs.Common.{◌≡◌, ◌++◌, drop}
use Rattle.std.specs.List.{flat_map}
use Rattle.dsc_platform.specs.Cutting.{pcd_for}
use Rattle.dsc_platform.proofs.components.pcds_for.Given as goal

abbrev pub invariant-loop-part : goal.invariant-loop-part
invariant-loop-part l = l.pcds ++ flat_map (pcd_for l.arch) (drop l.part-index l.rest) ≡ flat_map (pcd_for l.arch) l.rest
