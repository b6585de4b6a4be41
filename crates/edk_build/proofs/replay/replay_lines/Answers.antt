use Rattle.std.proofs.Common.{◌∙◌, refl}
use Rattle.edk_build.proofs.ReplayLemmas.{so_far_begun, so_far_next, so_far_halted, so_far_ended, none_built, few_builds}
use Rattle.edk_build.proofs.ReadLemmas.{first_read, more_read, last_read, none_read}
use Rattle.edk_build.specs.ReplayReads.{edited_paths}
use Rattle.edk_build.proofs.replay.replay_lines.Goals as goal

pub loop-left-init : goal.loop-left-init
loop-left-init g c = record {
  so_far =
      so_far_begun (g.T.Tree.held c.args.tree.now) c.args.lines.now c.new-stand.result c.args.book.now (g.S.Sink.written c.args.sink.now) c.new-stand.ensures c.requires.jobs;
  few = none_built c.new-stand.result c.args.lines.now c.new-stand.ensures c.requires.few;
  read = λ b r. first_read c.new-stand.result c.args.lines.now (g.T.Tree.reads c.args.tree.now) b c.new-stand.ensures r;
  held = refl;
  tree_count = refl;
  sink_count = refl;
}

pub loop-left-preserved : goal.loop-left-preserved
loop-left-preserved g c =
    let i = c.loop-left.invariant in
    record {
      so_far =
          so_far_next (g.T.Tree.held c.args.tree.now) (g.T.Tree.held c.loop-left.tree) c.args.lines.now c.loop-left.left.now c.line-item.result _ c.loop-left.stand c.args.book.now c.loop-left.book
          c.in-Ok.next c.carry_out.new.book (g.S.Sink.written c.args.sink.now) (g.S.Sink.written c.loop-left.sink) (g.S.Sink.written c.carry_out.new.sink) c.in-len1-up.len_at_least c.line-item.is
          i.held i.so_far c.in-Ok.ensures.done c.in-Ok.ensures.sound;
      few =
          few_builds (g.T.Tree.held c.loop-left.tree) c.line-item.result.order c.loop-left.left.now c.loop-left.stand c.loop-left.book c.in-Ok.next c.carry_out.new.book
          (g.S.Sink.written c.loop-left.sink) (g.S.Sink.written c.carry_out.new.sink) c.in-len1-up.len_at_least i.few c.in-Ok.ensures.done;
      read =
          λ b r.
          i.read b
          (more_read (g.T.Tree.held c.loop-left.tree) c.loop-left.left.now c.line-item.result _ c.loop-left.stand c.loop-left.book c.in-Ok.next c.carry_out.new.book
          (g.S.Sink.written c.loop-left.sink) (g.S.Sink.written c.carry_out.new.sink) (g.T.Tree.reads c.loop-left.tree) (g.T.Tree.reads c.carry_out.new.tree) b c.in-len1-up.len_at_least
          c.line-item.is c.in-Ok.ensures.done c.in-Ok.ensures.read r);
      held = c.in-Ok.ensures.held ∙ i.held;
      tree_count = c.in-Ok.ensures.counts.ended.0 ∙ i.tree_count;
      sink_count = c.in-Ok.ensures.counts.ended.1 ∙ i.sink_count;
    }

pub returns-in-Err-clause-follows : goal.returns-in-Err-clause-follows
returns-in-Err-clause-follows g c =
    let i = c.loop-left.invariant in
    so_far_halted (g.T.Tree.held c.args.tree.now) (g.T.Tree.held c.loop-left.tree) c.args.script.now c.args.lines.now c.loop-left.left.now c.line-item.result _ c.loop-left.stand c.args.book.now c.loop-left.book
    c.in-Err.status c.carry_out.new.book (g.S.Sink.written c.args.sink.now) (g.S.Sink.written c.loop-left.sink) (g.S.Sink.written c.carry_out.new.sink) c.in-len1-up.len_at_least c.line-item.is
    i.held i.so_far c.in-Err.ensures.stopped

pub returns-clause-follows : goal.returns-clause-follows
returns-clause-follows g c =
    so_far_ended (g.T.Tree.held c.args.tree.now) c.args.script.now c.args.lines.now c.loop-left.left.now c.loop-left.stand c.args.book.now c.loop-left.book (g.S.Sink.written c.args.sink.now)
    (g.S.Sink.written c.loop-left.sink) c.in_default.len_below c.loop-left.invariant.so_far

pub returns-in-Err-clause-read : goal.returns-in-Err-clause-read
returns-in-Err-clause-read g c =
    c.loop-left.invariant.read (g.T.Tree.reads c.carry_out.new.tree)
    (last_read (edited_paths c.loop-left.stand) c.loop-left.left.now c.line-item.result _ (g.T.Tree.reads c.loop-left.tree) (g.T.Tree.reads c.carry_out.new.tree) c.in-len1-up.len_at_least c.line-item.is c.in-Err.ensures.read)

pub returns-clause-read : goal.returns-clause-read
returns-clause-read g c =
    c.loop-left.invariant.read (g.T.Tree.reads c.loop-left.tree) (none_read (edited_paths c.loop-left.stand) c.loop-left.left.now (g.T.Tree.reads c.loop-left.tree) c.in_default.len_below)
