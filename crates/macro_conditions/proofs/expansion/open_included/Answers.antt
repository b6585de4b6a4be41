use Rattle.macro_conditions.specs.Sources.{answer}
use Rattle.macro_conditions.specs.Work.{source_view, env_of}
use Rattle.macro_conditions.proofs.IncludeLemmas.{path_halts, file_halts}
use Rattle.macro_conditions.proofs.OpeningLemmas.{opens_file}
use Rattle.macro_conditions.proofs.expansion.open_included.Goals as goal

pub returns-in-Err : goal.returns-in-Err
returns-in-Err c =
    path_halts (answer c.args.given.known.now) c.args.given.fixed.now c.args.levels (source_view c.args.line) (env_of c.args.work.now) c.in-Err.stopped c.in-Err.ensures

pub returns : goal.returns
returns c =
    file_halts (answer c.args.given.known.now) c.args.given.fixed.now c.args.levels (source_view c.args.line) (env_of c.args.work.now) c.in-Err-included_file.stopped c.in-Ok.path c.in-Ok.ensures c.in-Err-included_file.ensures

pub returns-in-Ok-included_file : goal.returns-in-Ok-included_file
returns-in-Ok-included_file c =
    opens_file (answer c.args.given.known.now) c.args.given.fixed.now c.args.levels (source_view c.args.line) (env_of c.args.work.now) c.in-Ok.path c.in-Ok-included_file.place c.in-Ok-included_file.text.now c.in-Ok.ensures c.in-Ok-included_file.ensures c.open_found.result c.open_found.ensures
