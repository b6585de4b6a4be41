use Rattle.std.proofs.Common.{ap, subst, ◌∙◌, Some, [], ◌∷◌}
use Rattle.build_base.specs.MemoryTree.{file_at}
use Rattle.selftest_tree.specs.Tree.{workspace}
use Rattle.edk_build.proofs.ReplayLemmas.{none_sound}
use Rattle.edk_build.proofs.SelftestLemmas.{stopped_early, series_stopped, series_more, series_status, status_usage, status_complete}
use Rattle.edk_build.specs.Selftest.{first_turn, second_turn, third_turn, WereBuilt}
use Rattle.edk_build.specs.declared.status.Status.TheVariants as answer
use Rattle.edk_build.proofs.LabelLemmas.{first_is_path}
use Rattle.edk_build.proofs.selftest.selftest.Goals as goal

pub returns-in_default-clause-built : goal.returns-in_default-clause-built
returns-in_default-clause-built g c =
    series_stopped (first_turn c.args.n) (second_turn c.args.n ∷ third_turn c.args.n ∷ []) answer.WantOfMemory [] c.args.book.now c.args.book.now
    (g.S.Sink.written c.args.sink.now) (g.S.Sink.written c.args.sink.now) (stopped_early (first_turn c.args.n) [] c.args.book.now (g.S.Sink.written c.args.sink.now))

pub returns-in_default-selftest_files-clause-built : goal.returns-in_default-selftest_files-clause-built
returns-in_default-selftest_files-clause-built g c =
    series_stopped (first_turn c.args.n) (second_turn c.args.n ∷ third_turn c.args.n ∷ []) answer.WantOfMemory [] c.args.book.now c.args.book.now
    (g.S.Sink.written c.args.sink.now) (g.S.Sink.written c.args.sink.now) (stopped_early (first_turn c.args.n) [] c.args.book.now (g.S.Sink.written c.args.sink.now))

pub returns-in-Ok-build_named-clause-built : goal.returns-in-Ok-build_named-clause-built
returns-in-Ok-build_named-clause-built g c =
    let h = c.new-tree.ensures.held ∙ ap (λ z. Some (file_at z)) c.in-Ok-selftest_files.ensures in
    let d = c.in-Ok-build_named.ensures.done (workspace c.args.n) h (none_sound c.new-none.result c.new-none.ensures) in
    subst (λ z. WereBuilt (first_turn c.args.n ∷ second_turn c.args.n ∷ third_turn c.args.n ∷ []) c.build_second.result z c.args.book.now c.build_second.new.book
    (g.S.Sink.written c.args.sink.now) (g.S.Sink.written c.build_second.new.sink)) c.new-none.ensures
    (series_more (first_turn c.args.n) (second_turn c.args.n ∷ third_turn c.args.n ∷ []) c.build_second.result c.new-none.result c.args.book.now c.in-Ok-build_named.next c.build_named.new.book
    c.build_second.new.book (g.S.Sink.written c.args.sink.now) (g.S.Sink.written c.build_named.new.sink) (g.S.Sink.written c.build_second.new.sink) d
    (c.build_second.ensures.built c.args.n (c.in-Ok-build_named.ensures.held ∙ h) d.done.sound))

pub returns-in-Ok-build_named-clause-status : goal.returns-in-Ok-build_named-clause-status
returns-in-Ok-build_named-clause-status g c =
    series_status (first_turn c.args.n ∷ second_turn c.args.n ∷ third_turn c.args.n ∷ []) c.build_second.result [] c.args.book.now c.build_second.new.book
    (g.S.Sink.written c.args.sink.now) (g.S.Sink.written c.build_second.new.sink) (returns-in-Ok-build_named-clause-built g c)

pub returns-in-Ok-build_named-clause-complete : goal.returns-in-Ok-build_named-clause-complete
returns-in-Ok-build_named-clause-complete g c =
    status_complete c.build_second.result (g.S.Sink.faults c.args.sink.now) (g.S.Sink.faults c.build_second.new.sink) (returns-in-Ok-build_named-clause-status g c)
    (rw c.in-Ok-build_named.ensures.counts.ended.1 at c.build_second.ensures.causes.write_fault)

pub returns-in-Ok-build_named-clause-no_usage : goal.returns-in-Ok-build_named-clause-no_usage
returns-in-Ok-build_named-clause-no_usage g c = status_usage c.build_second.result (returns-in-Ok-build_named-clause-status g c)

pub returns-clause-built : goal.returns-clause-built
returns-clause-built g c =
    let h = c.new-tree.ensures.held ∙ ap (λ z. Some (file_at z)) c.in-Ok-selftest_files.ensures in
    subst (λ z. WereBuilt (first_turn c.args.n ∷ second_turn c.args.n ∷ third_turn c.args.n ∷ []) c.in-Err.status z c.args.book.now c.build_named.new.book
    (g.S.Sink.written c.args.sink.now) (g.S.Sink.written c.build_named.new.sink)) c.new-none.ensures
    (series_stopped (first_turn c.args.n) (second_turn c.args.n ∷ third_turn c.args.n ∷ []) c.in-Err.status c.new-none.result c.args.book.now c.build_named.new.book
    (g.S.Sink.written c.args.sink.now) (g.S.Sink.written c.build_named.new.sink)
    (c.in-Err.ensures.stopped (workspace c.args.n) h (none_sound c.new-none.result c.new-none.ensures)))

pub returns-clause-status : goal.returns-clause-status
returns-clause-status g c =
    series_status (first_turn c.args.n ∷ second_turn c.args.n ∷ third_turn c.args.n ∷ []) c.in-Err.status [] c.args.book.now c.build_named.new.book
    (g.S.Sink.written c.args.sink.now) (g.S.Sink.written c.build_named.new.sink) (returns-clause-built g c)

pub returns-clause-complete : goal.returns-clause-complete
returns-clause-complete g c =
    status_complete c.in-Err.status (g.S.Sink.faults c.args.sink.now) (g.S.Sink.faults c.build_named.new.sink) (returns-clause-status g c) c.in-Err.ensures.causes.write_fault

pub returns-clause-no_usage : goal.returns-clause-no_usage
returns-clause-no_usage g c = status_usage c.in-Err.status (returns-clause-status g c)

pub build_named-requires-clause-name : goal.build_named-requires-clause-name
build_named-requires-clause-name g c κs within = first_is_path
