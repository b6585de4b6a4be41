use Rattle.std.proofs.Common.{refl, ◌+◌}
use Rattle.edk_build.proofs.ReplayLemmas.{stop_as, stopped_early, was_halted, was_built}
use Rattle.edk_build.proofs.ReadLemmas.{build_reads}
use Rattle.edk_build.specs.Script.{script_line}
use Rattle.edk_build.specs.Stops.{stop_status}
use Rattle.edk_build.specs.declared.script.ScriptCommand.TheVariants as order
use Rattle.edk_build.specs.declared.status.Status.TheVariants as answer
use Rattle.edk_build.proofs.replay.build_next.Goals as goal

pub returns-in_err-label-clause-stopped : goal.returns-in_err-label-clause-stopped
returns-in_err-label-clause-stopped g c = λ at number.
    stop_as c.from_residual.result (g.T.Tree.held c.args.tree.now) at (script_line number (order.Build c.args.job.now)) answer.WantOfMemory c.args.stand c.args.book.now c.args.book.now
    (g.S.Sink.written c.args.sink.now) (g.S.Sink.written c.args.sink.now) c.from_residual.ensures.1 (stopped_early _ _ _ _ _ _ _ refl)

pub returns-in_err-fields-clause-stopped : goal.returns-in_err-fields-clause-stopped
returns-in_err-fields-clause-stopped g c = λ at number.
    stop_as c.from_residual-in_err-fields.result (g.T.Tree.held c.args.tree.now) at (script_line number (order.Build c.args.job.now)) answer.WantOfMemory c.args.stand c.args.book.now c.args.book.now
    (g.S.Sink.written c.args.sink.now) (g.S.Sink.written c.args.sink.now) c.from_residual-in_err-fields.ensures.1 (stopped_early _ _ _ _ _ _ _ refl)

pub returns-in_err-built-clause-stopped : goal.returns-in_err-built-clause-stopped
returns-in_err-built-clause-stopped g c = λ at number.
    stop_as c.from_residual-in_err-built.result (g.T.Tree.held c.args.tree.now) at (script_line number (order.Build c.args.job.now)) (stop_status c.in_err-built.field-0.0) c.args.stand c.args.book.now c.build.new.book
    (g.S.Sink.written c.args.sink.now) (g.S.Sink.written c.build.new.sink) c.from_residual-in_err-built.ensures.1
    (was_halted (g.T.Tree.held c.args.tree.now) at number c.args.job.now c.args.stand c.in_ok-fields.fields c.in_ok-label.label c.in_err-built.field-0.0 c.args.book.now c.build.new.book
    (g.S.Sink.written c.args.sink.now) (g.S.Sink.written c.build.new.sink) c.requires.job c.in_ok-fields.ensures c.in_ok-label.ensures c.requires.sound
    (record { cut = c.in_err-built.ensures.cut; unwritten = c.in_err-built.ensures.unwritten; ran = c.in_err-built.ensures.ran }))

pub returns-clause-done : goal.returns-clause-done
returns-clause-done g c =
    was_built (g.T.Tree.held c.args.tree.now) c.args.job.now c.args.stand c.in_ok-fields.fields c.in_ok-label.label c.in_ok-built.built.status c.in_ok-built.built.cache
    (record { edits = c.args.stand.edits; cache = c.in_ok-built.built.cache; builds = c.args.stand.builds + 1 }) c.args.book.now c.build.new.book
    (g.S.Sink.written c.args.sink.now) (g.S.Sink.written c.build.new.sink) c.requires.job c.in_ok-fields.ensures c.in_ok-label.ensures c.requires.sound
    refl
    (record { built = c.in_ok-built.ensures.built; left = c.in_ok-built.ensures.left; ran = c.in_ok-built.ensures.ran; all = c.in_ok-built.ensures.all; sound = c.in_ok-built.ensures.sound })

pub returns-in_err-built-clause-read : goal.returns-in_err-built-clause-read
returns-in_err-built-clause-read g c = build_reads _ _ c.args.job.now c.args.stand.edits _ _ c.in_err-built.ensures.read c.in_err-built.ensures.unedited

pub returns-clause-read : goal.returns-clause-read
returns-clause-read g c = build_reads _ _ c.args.job.now c.args.stand.edits _ _ c.in_ok-built.ensures.read c.in_ok-built.ensures.unedited
