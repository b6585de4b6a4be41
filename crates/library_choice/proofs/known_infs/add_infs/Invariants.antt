use Rattle.std.proofs.Common.{◌≡◌, ◌++◌, take}
use Rattle.library_choice.specs.Tables.{Infs}
use Rattle.library_choice.proofs.known_infs.add_infs.Given as goal

abbrev pub invariant-loop-inf : goal.invariant-loop-inf
invariant-loop-inf l = record {
  list : l.list ≡ l.fn.list ++ take l.inf-index l.infs;
  table : Infs l.fn.list l.fn.by_path → Infs l.list l.by_path;
}
