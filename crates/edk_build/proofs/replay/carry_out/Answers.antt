use Rattle.std.proofs.Common.{refl}
use Rattle.edk_build.proofs.ReplayLemmas.{stop_as, stopped_early, line_stopped, line_dropped}
use Rattle.edk_build.specs.declared.script.ScriptCommand.TheVariants as order
use Rattle.edk_build.specs.declared.status.Status.TheVariants as answer
use Rattle.edk_build.proofs.replay.carry_out.Goals as goal

pub returns-in_err-drop_file-in-Drop-clause-stopped : goal.returns-in_err-drop_file-in-Drop-clause-stopped
returns-in_err-drop_file-in-Drop-clause-stopped g c =
    stop_as c.from_residual.result (g.T.Tree.held c.args.tree.now) c.args.script.now c.args.line.now answer.WantOfMemory c.args.stand c.args.book.now c.args.book.now
    (g.S.Sink.written c.args.sink.now) (g.S.Sink.written c.args.sink.now) c.from_residual.ensures.1 (stopped_early _ _ _ _ _ _ _ refl)

pub returns-in-Put-clause-stopped : goal.returns-in-Put-clause-stopped
returns-in-Put-clause-stopped g c =
    line_stopped c.put.result (g.T.Tree.held c.args.tree.now) c.args.script.now c.args.line.now (order.Put c.in-Put.path c.in-Put.from) c.args.stand c.args.book.now c.args.book.now
    (g.S.Sink.written c.args.sink.now) (g.S.Sink.written c.put.new.sink) c.in-Put.is (c.put.ensures.stopped c.args.book.now)

pub returns-in_ok-drop_file-in-Drop-clause-done : goal.returns-in_ok-drop_file-in-Drop-clause-done
returns-in_ok-drop_file-in-Drop-clause-done g c =
    line_dropped (g.T.Tree.held c.args.tree.now) c.args.line.now.order c.in-Drop.path c.args.stand c.in_ok-drop_file-in-Drop.field-0 c.args.book.now (g.S.Sink.written c.args.sink.now)
    c.in-Drop.is c.in_ok-drop_file-in-Drop.ensures

pub returns-in-Build-clause-stopped : goal.returns-in-Build-clause-stopped
returns-in-Build-clause-stopped g c =
    line_stopped c.build_next.result (g.T.Tree.held c.args.tree.now) c.args.script.now c.args.line.now (order.Build c.in-Build.job) c.args.stand c.args.book.now c.build_next.new.book
    (g.S.Sink.written c.args.sink.now) (g.S.Sink.written c.build_next.new.sink) c.in-Build.is (c.build_next.ensures.stopped c.args.script.now c.args.line.now.number)
