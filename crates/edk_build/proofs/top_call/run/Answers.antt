use Rattle.std.proofs.Common.{map, refl}
use Rattle.std.specs.Prelude.{string_bytes}
use Rattle.std.specs.Option.{IfSome}
use Rattle.build_base.specs.Outside.{HasFailed}
use Rattle.edk_build.proofs.CompleteLemmas.{replay_complete, of_replay}
use Rattle.edk_build.proofs.SelftestLemmas.{tested_early}
use Rattle.edk_build.proofs.WordLemmas.{is_command_job}
use Rattle.edk_build.specs.Commands.{command_of}
use Rattle.edk_build.specs.History.{IsReplayComplete}
use Rattle.edk_build.proofs.top_call.run.Goals as goal

pub build_kept-requires-clause-job : goal.build_kept-requires-clause-job
build_kept-requires-clause-job g c κs within =
    is_command_job (map string_bytes c.args.words.now) c.in-Ok-Some-Build.job (cc (c.in-Ok-Some-Build.ensures, c.in-Ok-Some-Build.field-0-is))

pub returns-in-Err-clause-selftest : goal.returns-in-Err-clause-selftest
returns-in-Err-clause-selftest g c =
    tested_early (command_of (map string_bytes c.args.words.now)) c.args.book.now (g.S.Sink.written c.args.sink.now) (g.S.Sink.faults c.args.sink.now) _ refl

pub returns-in-Ok-Some-Replay-clause-replay_complete : goal.returns-in-Ok-Some-Replay-clause-replay_complete
returns-in-Ok-Some-Replay-clause-replay_complete g c =
    of_replay (command_of (map string_bytes c.args.words.now)) c.in-Ok-Some-Replay.script
    (λ at. IfSome (g.T.Tree.held c.args.tree.now) (λ files.
    IsReplayComplete files at (HasFailed (g.T.Tree.faults c.args.tree.now) (g.T.Tree.faults c.replay.new.tree)) (HasFailed (g.S.Sink.faults c.args.sink.now) (g.S.Sink.faults c.replay.new.sink)) c.replay.result))
    (cc (c.in-Ok-Some-Replay.ensures, c.in-Ok-Some-Replay.field-0-is, c.in-Ok-Some-Replay.field-0-0-is, c.in-Ok-Some-Replay.script-is))
    (replay_complete (g.T.Tree.held c.args.tree.now) c.in-Ok-Some-Replay.script c.replay.result c.args.book.now c.replay.new.book (g.S.Sink.written c.args.sink.now) (g.S.Sink.written c.replay.new.sink)
    (g.T.Tree.faults c.args.tree.now) (g.T.Tree.faults c.replay.new.tree) (g.S.Sink.faults c.args.sink.now) (g.S.Sink.faults c.replay.new.sink) c.replay.ensures.replayed c.replay.ensures.causes)
