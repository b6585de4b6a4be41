use Rattle.std.proofs.Common.{sym, subst, [], ◌∷◌}
use Rattle.selftest_tree.specs.Tree.{edited_workspace}
use Rattle.edk_build.proofs.SelftestLemmas.{stopped_early, series_stopped, series_more, series_ended}
use Rattle.edk_build.specs.Selftest.{third_turn, WereBuilt}
use Rattle.edk_build.specs.declared.status.Status.TheVariants as answer
use Rattle.edk_build.proofs.LabelLemmas.{third_is_path}
use Rattle.edk_build.proofs.selftest.build_third.Goals as goal

pub returns-in_default-clause-built : goal.returns-in_default-clause-built
returns-in_default-clause-built g c = λ n h s.
    series_stopped (third_turn n) [] answer.WantOfMemory c.args.cache c.args.book.now c.args.book.now (g.S.Sink.written c.args.sink.now) (g.S.Sink.written c.args.sink.now)
    (stopped_early (third_turn n) c.args.cache c.args.book.now (g.S.Sink.written c.args.sink.now))

pub returns-in-Ok-build_named-clause-built : goal.returns-in-Ok-build_named-clause-built
returns-in-Ok-build_named-clause-built g c = λ n h s.
    subst (λ z. WereBuilt (third_turn n ∷ []) z c.args.cache c.args.book.now c.build_named.new.book (g.S.Sink.written c.args.sink.now) (g.S.Sink.written c.build_named.new.sink)) (sym c.end.ensures)
    (series_more (third_turn n) [] answer.Done c.args.cache c.args.book.now c.in-Ok-build_named.last c.build_named.new.book c.build_named.new.book (g.S.Sink.written c.args.sink.now)
    (g.S.Sink.written c.build_named.new.sink) (g.S.Sink.written c.build_named.new.sink) (c.in-Ok-build_named.ensures.done (edited_workspace n) (c.in-Ok.ensures n h) s)
    (series_ended c.in-Ok-build_named.last c.build_named.new.book (g.S.Sink.written c.build_named.new.sink)))

pub returns-in-Err-clause-built : goal.returns-in-Err-clause-built
returns-in-Err-clause-built g c = λ n h s.
    series_stopped (third_turn n) [] c.in-Err.status c.args.cache c.args.book.now c.build_named.new.book (g.S.Sink.written c.args.sink.now) (g.S.Sink.written c.build_named.new.sink)
    (c.in-Err.ensures.stopped (edited_workspace n) (c.in-Ok.ensures n h) s)

pub build_named-requires-clause-name : goal.build_named-requires-clause-name
build_named-requires-clause-name g c κs within = third_is_path
