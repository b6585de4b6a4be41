use Rattle.std.proofs.Common.{◌≡◌, map, drop}
use Rattle.build_base.specs.First.{first_of}
use Rattle.build_texts.specs.Named.{guid_from}
use Rattle.build_texts.specs.Views.{declared_view}
use Rattle.build_texts.proofs.packages.first_guid.Given as goal

abbrev pub invariant-loop-path : goal.invariant-loop-path
invariant-loop-path l =
    first_of (map (guid_from l.arch (map declared_view l.lines)) (map (λ p. p.now) (drop l.path-index l.paths)))
    ≡ first_of (map (guid_from l.arch (map declared_view l.lines)) (map (λ p. p.now) l.paths))
