use Rattle.std.proofs.Common.{ap, ◌∙◌, sym, subst}
use Rattle.job_fields.specs.Readings.{is_job}
use Rattle.edk_build.proofs.SelftestLemmas.{selftest_is_job, was_done, has_stopped}
use Rattle.edk_build.specs.Selftest.{TurnStopped}
use Rattle.edk_build.proofs.selftest.build_named.Goals as goal

pub build-requires-clause-job : goal.build-requires-clause-job
build-requires-clause-job g c κs within = ap is_job c.requires.fields ∙ selftest_is_job

pub returns-in-Ok-build-clause-done : goal.returns-in-Ok-build-clause-done
returns-in-Ok-build-clause-done g c = λ files h s.
    was_done (record { name = c.args.name.now; files = files }) _ c.new-edits.result c.args.fields.now c.args.cache c.in-Ok.label c.in-Ok-build.built.status c.in-Ok-build.built.cache
    c.args.book.now c.build.new.book (g.S.Sink.written c.args.sink.now) (g.S.Sink.written c.build.new.sink) h c.new-edits.ensures c.requires.fields c.in-Ok.ensures s
    (record {
      built = c.in-Ok-build.ensures.built;
      left = c.in-Ok-build.ensures.left;
      ran = c.in-Ok-build.ensures.ran;
      all = c.in-Ok-build.ensures.all;
      sound = c.in-Ok-build.ensures.sound;
    })

pub returns-clause-stopped : goal.returns-clause-stopped
returns-clause-stopped g c = λ files h s.
    subst (λ z. TurnStopped (record { name = c.args.name.now; files = files }) z c.args.cache c.args.book.now c.build.new.book (g.S.Sink.written c.args.sink.now) (g.S.Sink.written c.build.new.sink)) (sym c.status.ensures)
    (has_stopped (record { name = c.args.name.now; files = files }) _ c.new-edits.result c.args.fields.now c.args.cache c.in-Ok.label c.in-Err.stop c.args.book.now c.build.new.book
    (g.S.Sink.written c.args.sink.now) (g.S.Sink.written c.build.new.sink) h c.new-edits.ensures c.requires.fields c.in-Ok.ensures s
    (record {
      cut = c.in-Err.ensures.cut;
      unwritten = c.in-Err.ensures.unwritten;
      read_fault = c.in-Err.ensures.read_fault;
      ran = c.in-Err.ensures.ran;
    }))
