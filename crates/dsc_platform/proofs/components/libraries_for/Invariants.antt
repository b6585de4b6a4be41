use Rattle.std.proofs.Common.{◌≡◌, ◌++◌, drop}
use Rattle.std.specs.List.{flat_map}
use Rattle.dsc_platform.specs.Cutting.{library_for}
use Rattle.dsc_platform.proofs.components.libraries_for.Given as goal

abbrev pub invariant-loop-part : goal.invariant-loop-part
invariant-loop-part l = l.libraries ++ flat_map (library_for l.arch) (drop l.part-index l.rest) ≡ flat_map (library_for l.arch) l.rest
