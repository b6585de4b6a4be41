use Rattle.std.proofs.Common.{◌≡◌, length, arith}
use Rattle.std.proofs.lemmas.Grind.{common_steps}
use Rattle.macro_conditions.specs.Sources.{answer}
use Rattle.macro_conditions.specs.Work.{env_of}
use Rattle.macro_conditions.specs.OpenFiles.{files_of, within, stack_of}
use Rattle.macro_conditions.proofs.OpenFileLemmas.{more_wants, more_halts, none_left}
use Rattle.macro_conditions.proofs.expansion.all_files.Goals as goal

pub returns-in-Ok-Some : goal.returns-in-Ok-Some
returns-in-Ok-Some c =
    more_wants (answer c.args.given.known.now) c.args.given.fixed.now (files_of c.args.left) (within c.args.left) c.loop-file.files.items c.pop.new.self.items (stack_of c.turn_top.new.files.items) c.in-Some.file (env_of c.loop-file.work) (env_of c.turn_top.new.work) c.in-Ok-Some.field-0 c.in-Ok-Some.path
    c.in-Ok-Some.field-0-is c.in-Some.ensures.items c.loop-file.invariant c.in-Ok-Some.ensures

pub returns-in-Err : goal.returns-in-Err
returns-in-Err c =
    more_halts (answer c.args.given.known.now) c.args.given.fixed.now (files_of c.args.left) (within c.args.left) c.loop-file.files.items c.pop.new.self.items c.in-Some.file (env_of c.loop-file.work) c.in-Err.stopped
    c.in-Some.ensures.items c.loop-file.invariant c.in-Err.ensures

pub returns : goal.returns
returns c =
    let none : length c.loop-file.files.items ≡ 0 = grind (arith, common_steps) in
    none_left (answer c.args.given.known.now) c.args.given.fixed.now (files_of c.args.left) (within c.args.left) c.loop-file.files.items (env_of c.loop-file.work) none c.loop-file.invariant
