use Rattle.std.proofs.Common.{None}
use Rattle.macro_conditions.specs.Sources.{answer}
use Rattle.macro_conditions.specs.Expansion.{expansion}
use Rattle.macro_conditions.specs.OpenFiles.{files_of, within}
use Rattle.macro_conditions.proofs.OpenFileLemmas.{comes, left_halts}
use Rattle.macro_conditions.proofs.expansion.go_on.Goals as goal

pub returns-in-Err : goal.returns-in-Err
returns-in-Err c =
    let known = answer c.args.given.known.now in
    let root = c.args.root.now in
    let macros = c.args.macros.now in
    let fixed = c.args.given.fixed.now in
    comes known root macros fixed c.make_turned.result None c.with_left-in-Err.result c.with_left-in-Err.ensures
    (c.make_turned.ensures (expansion known root macros fixed) (left_halts known root macros fixed (files_of c.args.left) (within c.args.left) c.requires c.in-Err.stopped c.in-Err.ensures))
    tt
