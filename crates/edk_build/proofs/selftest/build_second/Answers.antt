use Rattle.std.proofs.Common.{◌∙◌, [], ◌∷◌}
use Rattle.selftest_tree.specs.Tree.{workspace}
use Rattle.edk_build.proofs.SelftestLemmas.{series_stopped, series_more}
use Rattle.edk_build.specs.Selftest.{second_turn, third_turn}
use Rattle.edk_build.proofs.LabelLemmas.{second_is_path}
use Rattle.edk_build.proofs.selftest.build_second.Goals as goal

pub returns-in-Ok-clause-built : goal.returns-in-Ok-clause-built
returns-in-Ok-clause-built g c = λ n h s.
    let d = c.in-Ok.ensures.done (workspace n) h s in
    series_more (second_turn n) (third_turn n ∷ []) c.build_third.result c.args.cache c.args.book.now c.in-Ok.next c.build_named.new.book c.build_third.new.book
    (g.S.Sink.written c.args.sink.now) (g.S.Sink.written c.build_named.new.sink) (g.S.Sink.written c.build_third.new.sink) d
    (c.build_third.ensures.built n (c.in-Ok.ensures.held ∙ h) d.done.sound)

pub returns-in-Err-clause-built : goal.returns-in-Err-clause-built
returns-in-Err-clause-built g c = λ n h s.
    series_stopped (second_turn n) (third_turn n ∷ []) c.in-Err.status c.args.cache c.args.book.now c.build_named.new.book (g.S.Sink.written c.args.sink.now)
    (g.S.Sink.written c.build_named.new.sink) (c.in-Err.ensures.stopped (workspace n) h s)

pub build_named-requires-clause-name : goal.build_named-requires-clause-name
build_named-requires-clause-name g c κs within = second_is_path
