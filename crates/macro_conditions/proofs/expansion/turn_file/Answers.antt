use Rattle.std.proofs.Common.{◌<◌, length, sym, subst, rules, tests}
use Rattle.macro_conditions.specs.declared.work.LinePlace.{LinePlace}
use Rattle.std.specs.Prelude.{List}
use Rattle.macro_conditions.specs.Sources.{answer}
use Rattle.macro_conditions.specs.Work.{env_of}
use Rattle.macro_conditions.proofs.OpenFileLemmas.{turns_from, plain_stops, include_at}
use Rattle.macro_conditions.proofs.expansion.turn_file.Goals as goal

pub returns-then-ended : goal.returns-then-ended
returns-then-ended c =
    turns_from (answer c.args.given.known.now) c.args.given.fixed.now c.args.levels c.args.file c.bytes.result.now c.as_slice.result.now c.bytes.ensures c.as_slice.ensures.value c.plain_lines.new.frames.items c.in-Ok.at (env_of c.args.work.now) (env_of c.plain_lines.new.work) (env_of c.at_end.new.work) c.at_end.result
    c.in-Ok.ensures.goes c.in-Ok.ensures.open_files c.in-Ok.ensures.further c.at_end.ensures

pub returns-else-ended : goal.returns-else-ended
returns-else-ended c =
    turns_from (answer c.args.given.known.now) c.args.given.fixed.now c.args.levels c.args.file c.bytes.result.now c.as_slice.result.now c.bytes.ensures c.as_slice.ensures.value c.plain_lines.new.frames.items c.in-Ok.at (env_of c.args.work.now) (env_of c.plain_lines.new.work) (env_of c.at_include.new.work) c.at_include.result
    c.in-Ok.ensures.goes c.in-Ok.ensures.open_files c.in-Ok.ensures.further c.at_include.ensures

pub returns-in-Err : goal.returns-in-Err
returns-in-Err c =
    plain_stops (answer c.args.given.known.now) c.args.given.fixed.now c.args.levels c.args.file c.bytes.result.now c.as_slice.result.now c.bytes.ensures c.as_slice.ensures.value c.in-Err.stopped (env_of c.args.work.now) (env_of c.args.work.now) c.in-Err.ensures.goes

pub at_include-requires : goal.at_include-requires
at_include-requires c =
    let lt : c.in-Ok.at < length c.args.file.lines.items = search (rules, tests) in
    let here : c.in-Ok.at < length c.as_slice.result.now = subst (λ (ls : List LinePlace). c.in-Ok.at < length ls) (sym c.as_slice.ensures.value) lt in
    (lt, λ d. include_at c.args.file.path c.bytes.result.now c.args.file.text c.as_slice.result.now c.args.file.lines.items c.plain_lines.new.frames.items c.in-Ok.at d c.bytes.ensures c.as_slice.ensures.value (c.in-Ok.ensures.include d here))
