use Rattle.std.proofs.Common.{ap, refl}
use Rattle.edk_build.proofs.ReplayLemmas.{stop_as, stopped_early, put_told}
use Rattle.edk_build.specs.History.{from_fault, from_absent, too_long}
use Rattle.edk_build.specs.Script.{script_line}
use Rattle.edk_build.specs.declared.script.ScriptCommand.TheVariants as order
use Rattle.edk_build.specs.declared.status.Status.TheVariants as answer
use Rattle.edk_build.proofs.replay.put.Goals as goal

pub returns-in_err-put_bytes-in-Ok-File-clause-stopped : goal.returns-in_err-put_bytes-in-Ok-File-clause-stopped
returns-in_err-put_bytes-in-Ok-File-clause-stopped g c = λ a.
    stop_as c.from_residual.result (g.T.Tree.held c.args.tree.now) c.args.script.now (script_line c.args.number (order.Put c.args.path.now c.args.from.now)) answer.WantOfMemory c.args.stand a a
    (g.S.Sink.written c.args.sink.now) (g.S.Sink.written c.args.sink.now) c.from_residual.ensures.1 (stopped_early _ _ _ _ _ _ _ refl)

pub returns-in-Ok-Absent-clause-stopped : goal.returns-in-Ok-Absent-clause-stopped
returns-in-Ok-Absent-clause-stopped g c = λ a.
    put_told (g.T.Tree.held c.args.tree.now) c.args.script.now c.args.number c.args.path.now c.args.from.now c.args.stand c.tell_fault.result a c.in-Ok-Absent.field-0
    (from_absent c.args.script.now c.args.number c.args.from.now) (g.S.Sink.written c.args.sink.now) (g.S.Sink.written c.tell_fault.new.sink) c.in-Ok-Absent.ensures.got
    (ap (from_fault c.args.script.now c.args.number c.args.from.now) c.in-Ok-Absent.field-0-is) c.tell_fault.ensures.told

pub returns-in-Ok-TooLong-clause-stopped : goal.returns-in-Ok-TooLong-clause-stopped
returns-in-Ok-TooLong-clause-stopped g c = λ a.
    put_told (g.T.Tree.held c.args.tree.now) c.args.script.now c.args.number c.args.path.now c.args.from.now c.args.stand c.tell_fault-in-Ok-TooLong.result a c.in-Ok-TooLong.field-0
    (too_long c.args.from.now) (g.S.Sink.written c.args.sink.now) (g.S.Sink.written c.tell_fault-in-Ok-TooLong.new.sink) c.in-Ok-TooLong.ensures.got
    (ap (from_fault c.args.script.now c.args.number c.args.from.now) c.in-Ok-TooLong.field-0-is) c.tell_fault-in-Ok-TooLong.ensures.told
