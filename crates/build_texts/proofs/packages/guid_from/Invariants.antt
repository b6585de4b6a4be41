use Rattle.std.proofs.Common.{◌≡◌, map, drop}
use Rattle.build_texts.specs.Named.{guid_from}
use Rattle.build_texts.specs.Views.{declared_view}
use Rattle.build_texts.proofs.packages.guid_from.Given as goal

abbrev pub invariant-loop-declared : goal.invariant-loop-declared
invariant-loop-declared l =
    guid_from l.arch (map declared_view (drop l.declared-index l.lines)) l.path ≡ guid_from l.arch (map declared_view l.lines) l.path
