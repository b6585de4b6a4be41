use Rattle.std.proofs.Common.{sym, take, drop, rules}
use Rattle.std.proofs.lemmas.List.{take-append-drop}
use Rattle.build_base.proofs.memory_sink.MemorySinkSink.emit.Goals as goal

pub returns-in-Some-clause-written : goal.returns-in-Some-clause-written
returns-in-Some-clause-written c =
    let end = c.min-end.result in
    (take end c.args.bytes.now, drop end c.args.bytes.now, sym (take-append-drop end c.args.bytes.now), search rules)
