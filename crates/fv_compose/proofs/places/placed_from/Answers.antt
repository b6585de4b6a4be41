use Rattle.std.proofs.Common.{◌∙◌, ◌++◌, arith, sym, ap, append_assoc, append-nil}
use Rattle.fv_compose.proofs.FileLemmas.{end_more}
use Rattle.fv_compose.proofs.LayoutLemmas.{start_here, start_below, placed_more, placed_all}
use Rattle.fv_compose.proofs.places.placed_from.Goals as goal

pub bounds-starts-i : goal.bounds-starts-i
bounds-starts-i c =
    let here = start_here c.args.starts.now c.loop-i.at c.args.files.now c.loop-i.i c.index-files-i.result (omega arith) c.index-files-i.is c.loop-i.invariant.starts in
    here.inside

pub overflow_cast-start : goal.overflow_cast-start
overflow_cast-start c =
    let here = start_here c.args.starts.now c.loop-i.at c.args.files.now c.loop-i.i c.index-files-i.result (omega arith) c.index-files-i.is c.loop-i.invariant.starts in
    omega (arith, here.start 0, start_below c.loop-i.at c.args.files.now c.loop-i.i c.index-files-i.result c.requires.aligned (omega arith) c.index-files-i.is, c.loop-i.invariant.short)

pub next_end-at-requires : goal.next_end-at-requires
next_end-at-requires c =
    let here = start_here c.args.starts.now c.loop-i.at c.args.files.now c.loop-i.i c.index-files-i.result (omega arith) c.index-files-i.is c.loop-i.invariant.starts in
    omega (arith, here.start 0, start_below c.loop-i.at c.args.files.now c.loop-i.i c.index-files-i.result c.requires.aligned (omega arith) c.index-files-i.is, c.loop-i.invariant.short)

pub loop-i-preserved : goal.loop-i-preserved
loop-i-preserved c =
    let here = start_here c.args.starts.now c.loop-i.at c.args.files.now c.loop-i.i c.index-files-i.result (omega arith) c.index-files-i.is c.loop-i.invariant.starts in
    let end = c.next_end-at.ensures.value c.loop-i.at (here.start 0) in
    rw end record {
      placed =
          c.loop-i.invariant.placed ∙ ap (λ z. c.loop-i.places ++ z) (placed_more c.args.size c.loop-i.at c.args.files.now c.loop-i.i c.index-files-i.result (omega arith) c.index-files-i.is)
          ∙ rw (c.in_ok-push.ensures.ok, c.placed_at.ensures c.loop-i.at (here.start 0)) (sym (append_assoc c.loop-i.places _ _));
      starts = here.rest;
      short = omega (arith, end_more c.loop-i.at c.args.files.now c.loop-i.i c.index-files-i.result (omega arith) c.index-files-i.is, c.loop-i.invariant.short);
    }

pub returns : goal.returns
returns c = sym (c.loop-i.invariant.placed ∙ rw (placed_all c.args.size c.loop-i.at c.args.files.now c.loop-i.i (omega arith)) (append-nil c.loop-i.places))
